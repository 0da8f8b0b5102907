-- What is read of the file of contents that a table may have: the partition that has the key, as it is in these.
-- CQL documentation, "Data manipulation: SELECT; WHERE"; own.
use Rattle.std.specs.Prelude.{◌≡◌, List, ℕ, Option, None, Some, Result, Ok, Err}
use Rattle.std.specs.List.{Contains}
use Rattle.cas_cell.specs.declared.deletion.Deletion.{Deletion}
use Rattle.cas_bounds.specs.declared.cuts.Slice.{Slice}
use Rattle.cas_streams.specs.Slices.{cut_to}
use Rattle.cas_streams.specs.declared.fragment.Fragment.{Fragment}
use Rattle.cas_facts.specs.declared.facts.Facts.{Facts}
use Rattle.cas_tables.specs.Contents.{Partition, Contents}
use Rattle.cas_tables.specs.Files.{table_bytes}
use Rattle.cas_tables.specs.Fitting.{FitsContents}
use Rattle.cas_blocks.specs.declared.fault.TableFault.{TableFault}
use Rattle.cas_blocks.specs.declared.fault.TableFault.TheVariants as table_fault
use Rattle.cas_sstread.specs.Loading.{Held}
use Rattle.cas_sstread.specs.Laws.{kept_for}

-- the table is the file of these contents, loaded
pub record IsOf (t : Held) (c : Contents) (f : Facts) : Type 0 where
  pub fits : FitsContents t.columns c
  pub contents : t.contents ≡ Some (table_bytes c f)
  pub kept : t.kept ≡ kept_for c

-- the contents have no partition of that key
abbrev pub HasNone : Contents → List ℕ → Type 0
HasNone c key = (p : Partition) → Contains c.partitions p → p.key ≡ key → ⊥

-- the contents' partition of that key, cut to the slice
pub record IsCut (c : Contents) (key : List ℕ) (s : Slice) (top : Option Deletion) (to_come : Option (List Fragment)) : Type 0 where
  pub partition : Partition
  pub there : Contains c.partitions partition
  pub key_is : partition.key ≡ key
  pub top_is : top ≡ partition.stream.top
  pub comes : to_come ≡ Some (cut_to s partition.stream.fragments)

-- what is answered, a source being seen by its top and by what is to come of it; no block is bad
abbrev pub AnswersOf : {X : Type 0} → Contents → List ℕ → Slice → (X → Option Deletion) → (X → Option (List Fragment)) → Result (Option X) TableFault → Type 0
AnswersOf c key s top to_come (Ok None) = HasNone c key
AnswersOf c key s top to_come (Ok (Some x)) = IsCut c key s (top x) (to_come x)
AnswersOf c key s top to_come (Err table_fault.Read) = Unit {0}
AnswersOf c key s top to_come (Err (table_fault.BadBlock n at)) = ⊥
AnswersOf c key s top to_come (Err table_fault.Mem) = Unit {0}
