-- Which files of a table may be read in a slice, and why a partition isn't read.
-- Own.
use Rattle.std.specs.Prelude.{◌≡◌, ◌⊎◌, ℕ, true, List}
use Rattle.std.specs.List.{AllByRecursion}
use Rattle.cas_types.specs.Limits.{IsNarrow}
use Rattle.cas_bounds.specs.ClusteringOrder.{clustering_order}
use Rattle.cas_bounds.specs.declared.cuts.Slice.{Slice}
use Rattle.cas_laws.specs.Given.{Has}
use Rattle.cas_index.specs.Searches.{IsSliceOf}
use Rattle.cas_index.specs.declared.entries.PartitionEntry.{PartitionEntry}
use Rattle.cas_blocks.specs.declared.fault.TableFault.{TableFault}
use Rattle.cas_blocks.specs.declared.fault.TableFault.TheVariants as table_fault
use Rattle.cas_sstread.specs.Loading.{Held}
use Rattle.cas_reading.specs.Slices.{IsTold, IsBadHead, IsBadBlock}
use Rattle.cas_view.specs.Views.{File, may_hold}

-- a slice of the file can be read: it is of a table with at most 256 columns, and orders its rows as the slice does
pub record IsReadIn (s : Slice) (f : File Held) : Type 0 where
  pub narrow : IsNarrow f.table.columns
  pub slice : IsSliceOf (clustering_order f.table.columns) s

-- of each of the files
abbrev pub AreReadIn : Slice → List (File Held) → Type 0
AreReadIn s fs = AllByRecursion (IsReadIn s) fs

-- at that place of the file of that number no head of the key's partition stands, though its index tells of it there
pub record IsBadIn (key : List ℕ) (n at : ℕ) (f : File Held) : Type 0 where
  pub entry : PartitionEntry
  pub range : may_hold f.info key ≡ true
  pub told : IsTold f.table.kept key entry
  pub bad : IsBadHead f.table key entry n at

-- why the sources of a partition aren't given: the disk failed, a file is bad, or memory ran out
abbrev pub IsWhyNot : List (File Held) → List ℕ → TableFault → Type 0
IsWhyNot fs key table_fault.Read = Unit {0}
IsWhyNot fs key (table_fault.BadBlock n at) = (f : File Held) × Has fs f × IsBadIn key n at f
IsWhyNot fs key table_fault.Mem = Unit {0}

-- of the key's partition, which the file's range, filter and index have, that place of the file of that number is bad for a slice in which the file can be
-- read: no head stands there, or behind the head no block that may
pub record IsBadFor (key : List ℕ) (s : Slice) (n at : ℕ) (f : File Held) : Type 0 where
  pub reads : IsReadIn s f
  pub entry : PartitionEntry
  pub range : may_hold f.info key ≡ true
  pub told : IsTold f.table.kept key entry
  pub bad : IsBadHead f.table key entry n at ⊎ IsBadBlock f.table s entry n at

-- it is, of one of the files
abbrev pub IsBadFile : List (File Held) → List ℕ → Slice → ℕ → ℕ → Type 0
IsBadFile fs key s n at = (f : File Held) × Has fs f × IsBadFor key s n at f

-- a fault of the disk, of memory, or of a bad place
abbrev pub IsFaultOf : (ℕ → ℕ → Type 0) → TableFault → Type 0
IsFaultOf bad table_fault.Read = Unit {0}
IsFaultOf bad (table_fault.BadBlock n at) = bad n at
IsFaultOf bad table_fault.Mem = Unit {0}

-- why a slice of a key's partition isn't shown: the disk failed, that place of one of the files is bad, whichever file it is, or memory ran out
abbrev pub IsWhyNotShown : List (File Held) → List ℕ → Slice → TableFault → Type 0
IsWhyNotShown fs key s fault = IsFaultOf (λ n at. ∥ IsBadFile fs key s n at ∥₁) fault
