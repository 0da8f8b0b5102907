-- What holds of slices that are read from the middle of a partition (own).
use Rattle.std.specs.Prelude.{◌≡◌, ℕ, true, Option, None, Some, List, ◌++◌, filter, slice_get, Ok}
use Rattle.cas_types.specs.Limits.{IsNarrow}
use Rattle.cas_types.specs.declared.schema.Column.{Column}
use Rattle.cas_bounds.specs.ClusteringOrder.{clustering_order}
use Rattle.cas_bounds.specs.declared.order.Ordered.{Ordered}
use Rattle.cas_bounds.specs.declared.cuts.Slice.{Slice}
use Rattle.cas_codec.specs.Reading.{Left}
use Rattle.cas_streams.specs.Streams.{IsOrdered}
use Rattle.cas_streams.specs.Slices.{IsSliceOf, stands_before, is_static, cut_to}
use Rattle.cas_streams.specs.declared.fragment.Fragment.{Fragment}
use Rattle.cas_facts.specs.declared.facts.Facts.{Facts}
use Rattle.cas_fragments.specs.Blocks.{statics_in}
use Rattle.cas_fragments.specs.Reading.{head_at}
use Rattle.cas_fragments.specs.declared.heads.Version.{Version}
use Rattle.cas_index.specs.Searches.{IsBlockFor}
use Rattle.cas_index.specs.declared.entries.BlockAt.{BlockAt}
use Rattle.cas_index.specs.declared.entries.PartitionEntry.{PartitionEntry}
use Rattle.cas_tables.specs.Contents.{Partition, Contents}
use Rattle.cas_tables.specs.Files.{index_of, index_place, table_bytes}
use Rattle.cas_tables.specs.Fitting.{FitsContents}
use Rattle.cas_blocks.specs.Cutting.{cut_from}
use Rattle.cas_blocks.specs.Reading.{left_at, slice_of}

-- cut from the beginning of an ordered stream on, its fragments are the stream cut to the slice, but for the static row
abbrev pub CutsAreOne : Type 0
CutsAreOne = (order : List Ordered) (s : Slice) (fs : List Fragment) → IsSliceOf order s → stands_before s.lo s.hi ≡ true → IsOrdered order fs
    → cut_to s fs ≡ filter is_static fs ++ cut_from order s None fs

-- ---- tables

-- the partition of that number, and what the index tells of it
pub record IsEntry (c : Contents) (i : ℕ) (p : Partition) (e : PartitionEntry) : Type 0 where
  pub partition : slice_get c.partitions i ≡ Some p
  pub entry : slice_get (index_of c) i ≡ Some e

-- the head of a partition stands where the index tells
pub record HeadStands (version : Version) (columns : List Column) (file : List ℕ) (end : ℕ) (p : Partition) (e : PartitionEntry) : Type 0 where
  pub key : e.key ≡ p.key
  pub left : Left
  pub read : head_at version columns (left_at file end e.place) ≡ Ok ((p.key, p.stream.top, statics_in p.stream.fragments), left)

-- in the file of contents that a table may have, each partition's head is read where its entry tells, and each slice of it, which is the partition's
-- stream cut to the slice, from the block on that the index finds
pub record TablesAreRead : Type 0 where
  pub head : (columns : List Column) → IsNarrow columns → (c : Contents) (f : Facts) → FitsContents columns c
      → (i : ℕ) (p : Partition) (e : PartitionEntry) → IsEntry c i p e → HeadStands c.header.version columns (table_bytes c f) (index_place c) p e
  pub slice : (columns : List Column) → IsNarrow columns → (c : Contents) (f : Facts) → FitsContents columns c
      → (i : ℕ) (p : Partition) (e : PartitionEntry) → IsEntry c i p e → (s : Slice) → IsSliceOf (clustering_order columns) s
      → (answer : Option BlockAt) → IsBlockFor s e.blocks answer
      → slice_of (clustering_order columns) columns (Some (table_bytes c f)) (index_place c) (statics_in p.stream.fragments) s answer
      ≡ Some (cut_to s p.stream.fragments)
