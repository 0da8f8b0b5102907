-- How a table file is loaded.
-- Own.
use Rattle.std.specs.Prelude.{◌≡◌, ◌⊎◌, ℕ, List, Option, Result, Ok, Err}
use Rattle.cas_types.specs.declared.schema.Column.{Column}
use Rattle.cas_codec.specs.declared.fault.ReadFault.{ReadFault}
use Rattle.cas_codec.specs.declared.fault.ReadFault.TheVariants.{Short, Bad}
use Rattle.cas_info.specs.declared.info.TableInfo.{TableInfo}
use Rattle.cas_sstread.specs.Reading.{Loaded}
use Rattle.cas_sstread.specs.declared.fault.TableFault.{TableFault}
use Rattle.cas_sstread.specs.declared.fault.TableFault.TheVariants.{BadBlock}
use Rattle.cas_sstread.specs.declared.fault.TableFault.TheVariants as table_fault

-- the first field that isn't as it must be stands there
abbrev pub IsBadAt : {Y : Type 0} → Result Y ReadFault → ℕ → Type 0
IsBadAt read at = (read ≡ Err (Short at)) ⊎ (read ≡ Err (Bad at))

-- What is answered of the file of that number, the value seen by view: what is read of it, or where it isn't as it must be; or it failed, or memory ran out.
abbrev pub Answers : {X Y : Type 0} → (X → Y) → ℕ → Result X TableFault → Result Y ReadFault → Type 0
Answers view number (Ok x) read = read ≡ Ok (view x)
Answers view number (Err (BadBlock n at)) read = (n ≡ number) × IsBadAt read at
Answers view number (Err _) read = Unit {0}

-- nothing was read that isn't as it must be
abbrev pub IsNoBlock : TableFault → Type 0
IsNoBlock table_fault.ReadFault = Unit {0}
IsNoBlock (table_fault.BadBlock number at) = ⊥
IsNoBlock table_fault.Mem = Unit {0}

-- A table that is loaded: the bytes of its file, where the file tells them; the columns of the table, what is listed of the file, and what is kept of it.
pub record Held : Type 0 where
  pub contents : Option (List ℕ)
  pub columns : List Column
  pub info : TableInfo
  pub kept : Loaded
