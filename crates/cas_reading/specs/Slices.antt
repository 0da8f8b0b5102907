-- What is read of a key's partition in a table file that is loaded.
-- CQL documentation, "Data manipulation: SELECT; WHERE"; own.
use Rattle.std.specs.Prelude.{◌≡◌, ℕ, List, slice_get, Option, None, Some, Result, Ok, Err}
use Rattle.cas_types.specs.declared.schema.Column.{Column}
use Rattle.cas_cell.specs.declared.deletion.Deletion.{Deletion}
use Rattle.cas_bounds.specs.ClusteringOrder.{clustering_order}
use Rattle.cas_bounds.specs.declared.cuts.Slice.{Slice}
use Rattle.cas_atoms.specs.declared.row.RowColumn.{RowColumn}
use Rattle.cas_codec.specs.Reading.{Left}
use Rattle.cas_streams.specs.declared.fragment.Fragment.{Fragment}
use Rattle.cas_fragments.specs.Reading.{head_at}
use Rattle.cas_fragments.specs.declared.heads.Version.{Version}
use Rattle.cas_index.specs.Searches.{IsBlockFor}
use Rattle.cas_index.specs.declared.entries.BlockAt.{BlockAt}
use Rattle.cas_index.specs.declared.entries.PartitionEntry.{PartitionEntry}
use Rattle.cas_blocks.specs.Reading.{left_at, slice_of, IsBadBehind}
use Rattle.cas_blocks.specs.declared.fault.TableFault.{TableFault}
use Rattle.cas_blocks.specs.declared.fault.TableFault.TheVariants as table_fault
use Rattle.cas_sstread.specs.Reading.{Loaded}
use Rattle.cas_sstread.specs.Loading.{Held}
use Rattle.cas_sstread.specs.Searches.{IsFound}

-- the filter doesn't deny the key, and this is what the index tells of the partition that has it
pub record IsTold (k : Loaded) (key : List ℕ) (e : PartitionEntry) : Type 0 where
  pub number : ℕ
  pub found : IsFound k key (Some number)
  pub there : slice_get k.partitions number ≡ Some e
  pub key_is : e.key ≡ key

-- there stands, in a file of this version, the head of a partition that has the key: the deletion of the whole and the static columns
pub record IsHead (version : Version) (columns : List Column) (left : Left) (key : List ℕ) (top : Option Deletion) (statics : List RowColumn) : Type 0 where
  pub rest : Left
  pub read : head_at version columns left ≡ Ok ((key, top, statics), rest)

-- there stands none
abbrev pub HasNoHead : Version → List Column → Left → List ℕ → Type 0
HasNoHead version columns left key = (top : Option Deletion) (statics : List RowColumn) → IsHead version columns left key top statics → ⊥

-- A slice of the partition of which the index tells this, by the deletion of the whole and by what is to come: the head is as the file has it, where the file
-- tells its bytes, and behind the static row comes what is read from the block on that the index finds.
pub record IsSlice (t : Held) (key : List ℕ) (s : Slice) (e : PartitionEntry) (top : Option Deletion) (to_come : Option (List Fragment)) : Type 0 where
  pub statics : List RowColumn
  pub head : (file : List ℕ) → t.contents ≡ Some file → IsHead t.kept.version t.columns (left_at file t.kept.end e.place) key top statics
  pub block : Option BlockAt
  pub first : IsBlockFor s e.blocks block
  pub comes : to_come ≡ slice_of (clustering_order t.columns) t.columns t.contents t.kept.end statics s block

-- at the partition's place, which this is, the file of that number has no head of a partition that has the key, where it tells its bytes
abbrev pub IsBadHead : Held → List ℕ → PartitionEntry → ℕ → ℕ → Type 0
IsBadHead t key e n at =
    (file : List ℕ) → t.contents ≡ Some file → (n ≡ t.info.number) × (at ≡ e.place) × HasNoHead t.kept.version t.columns (left_at file t.kept.end e.place) key

-- behind the head, the blocks from the one on that the index finds for the slice lead to that place, where none stands that may, if the file tells its bytes
pub record IsBadBlock (t : Held) (s : Slice) (e : PartitionEntry) (n at : ℕ) : Type 0 where
  pub block : Option BlockAt
  pub first : IsBlockFor s e.blocks block
  pub bad : IsBadBehind (clustering_order t.columns) t.columns t.info.number t.kept.end t.contents block n at

-- What is answered, a source being seen by its top and by what is to come of it: none where filter or index have no such key; else the slice, or that its
-- head is bad; or the file failed, or memory ran out.
abbrev pub Answers : {X : Type 0} → Held → List ℕ → Slice → (X → Option Deletion) → (X → Option (List Fragment)) → Result (Option X) TableFault → Type 0
Answers t key s top to_come (Ok None) = IsFound t.kept key None
Answers t key s top to_come (Ok (Some x)) = (e : PartitionEntry) × IsTold t.kept key e × IsSlice t key s e (top x) (to_come x)
Answers t key s top to_come (Err table_fault.Read) = Unit {0}
Answers t key s top to_come (Err (table_fault.BadBlock n at)) = (e : PartitionEntry) × IsTold t.kept key e × IsBadHead t key e n at
Answers t key s top to_come (Err table_fault.Mem) = Unit {0}
