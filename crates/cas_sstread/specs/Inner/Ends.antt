-- How a part of a file that is read from memory ends.
use Rattle.std.specs.Prelude.{◌≡◌, ℕ, Result, Ok, Err}
use Rattle.cas_codec.specs.declared.fault.ReadFault.{ReadFault}
use Rattle.cas_codec.specs.declared.fault.ReadFault.TheVariants.{Short, Bad, Mem}
use Rattle.cas_sstread.specs.declared.fault.TableFault.{TableFault}
use Rattle.cas_sstread.specs.declared.fault.TableFault.TheVariants as table_fault

-- as the reading does, its value seen by view, unless memory ran out
abbrev pub Ends : {X Y : Type 0} → (X → Y) → Result X ReadFault → Result Y ReadFault → Type 0
Ends view (Ok x) read = read ≡ Ok (view x)
Ends view (Err (Short at)) read = read ≡ Err (Short at)
Ends view (Err (Bad at)) read = read ≡ Err (Bad at)
Ends view (Err Mem) read = Unit {0}

-- what is answered of such a fault in the file of that number
abbrev pub told_fault : ℕ → ReadFault → TableFault
told_fault number (Short at) = table_fault.BadBlock number at
told_fault number (Bad at) = table_fault.BadBlock number at
told_fault number Mem = table_fault.Mem
