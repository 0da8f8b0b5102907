-- The files of tables in a room's folder: what their numbers are, and how one is begun. Storage engine: SSTable generations; own.
use Rattle.std.specs.Prelude.{◌≡◌, ◌⊎◌, ℕ, ◌≤◌, List, [], ◌∷◌, ◌++◌, Result, Ok, Err}
use Rattle.cas_io.specs.Causes.{Rose}
use Rattle.cas_disk.specs.declared.fault.FolderFault.{FolderFault}
use Rattle.cas_disk.specs.declared.fault.FolderFault.TheVariants as folder_fault
use Rattle.cas_info.specs.declared.info.TheConstants.{FILE_NUMBER_LIMIT}
use Rattle.cas_history.specs.declared.item.Item.{Item}
use Rattle.cas_history.specs.declared.item.Item.TheVariants.{Drew}
use Rattle.cas_room.specs.declared.event.Event.{Event}
use Rattle.cas_room.specs.declared.fault.FreshFault.{FreshFault}
use Rattle.cas_room.specs.declared.fault.FreshFault.TheVariants.{Full, Failed, Mem}
use Rattle.cas_room.specs.declared.table_files.TheConstants.{LIVE_LIMIT}

-- no table's file may be begun: as many are live as may be, or the last number was drawn
abbrev pub IsFull : ℕ → ℕ → Type 0
IsFull live last = (LIVE_LIMIT ≤ live) ⊎ (FILE_NUMBER_LIMIT ≤ last)

-- How the beginning of a table's file ends: how many files are live, the last number that was drawn, the folder's count of faults before and now. It is
-- refused exactly where none may be begun, and then the folder is left alone; it fails only where the count rose.
abbrev pub Begins : {T : Type 0} → ℕ → ℕ → ℕ → ℕ → Result T FreshFault → Type 0
Begins live last before now (Ok x) = IsFull live last → ⊥
Begins live last before now (Err (Full files)) = IsFull live last × (files ≡ live) × (now ≡ before)
Begins live last before now (Err Failed) = (IsFull live last → ⊥) × Rose before now
Begins live last before now (Err Mem) = IsFull live last → ⊥

-- this seat drew the number: the list got that behind its entries
abbrev pub Draws : ℕ → ℕ → List (Item Event) → List (Item Event) → Type 0
Draws number seat before after = after ≡ before ++ Drew seat number ∷ []

-- what a fault of the folder is to the room
abbrev pub of_folder : FolderFault → FreshFault
of_folder folder_fault.Failed = Failed
of_folder folder_fault.Mem = Mem
