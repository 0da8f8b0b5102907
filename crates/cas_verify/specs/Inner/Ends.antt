-- How a step of a check ends (own).
use Rattle.std.specs.Prelude.{◌≡◌, ℕ, Result, Ok, Err}
use Rattle.cas_codec.specs.declared.fault.ReadFault.{ReadFault}
use Rattle.cas_codec.specs.declared.fault.ReadFault.TheVariants.{Short, Bad, Mem}
use Rattle.cas_sstread.specs.Loading.{IsBadAt}
use Rattle.cas_sstread.specs.declared.fault.TableFault.{TableFault}
use Rattle.cas_sstread.specs.declared.fault.TableFault.TheVariants as table_fault

-- such a fault tells where the first field stands that isn't as it must be, in the file of that number; or the file failed, or memory ran out
abbrev pub IsFault : {Y : Type 0} → ℕ → TableFault → Result Y ReadFault → Type 0
IsFault number table_fault.ReadFault read = Unit {0}
IsFault number (table_fault.BadBlock n at) read = (n ≡ number) × IsBadAt read at
IsFault number table_fault.Mem read = Unit {0}

-- what was seen of what is read, or such a fault
abbrev pub Ends : {X Y : Type 0} → (X → Y → Type 0) → ℕ → Result X TableFault → Result Y ReadFault → Type 0
Ends {X} {Y} Seen number (Ok x) read = (y : Y) × (read ≡ Ok y) × Seen x y
Ends Seen number (Err fault) read = IsFault number fault read

-- what is answered of such a fault in the file of that number
abbrev pub fault_in : ℕ → ReadFault → TableFault
fault_in number (Short at) = table_fault.BadBlock number at
fault_in number (Bad at) = table_fault.BadBlock number at
fault_in number Mem = table_fault.Mem

-- how a comparison in memory ends: as the reading does, unless memory ran out
abbrev pub Settles : Result (Unit {0}) ReadFault → Result (Unit {0}) ReadFault → Type 0
Settles (Ok u) read = read ≡ Ok u
Settles (Err (Short at)) read = read ≡ Err (Short at)
Settles (Err (Bad at)) read = read ≡ Err (Bad at)
Settles (Err Mem) read = Unit {0}
