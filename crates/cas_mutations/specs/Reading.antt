-- Reading atoms and the records of the commit log. That these readings take the spellings and nothing else is a law.
-- Own. The place of a refusal is that of the refused field's first byte.
use Rattle.std.specs.Prelude.{ℕ, ℤ, pos, Bool, true, false, ◌==◌, nat_lt, List, slice_get, Option, None, Some, if◌then◌else◌, Ok, Err}
use Rattle.std.specs.Int.{is_in_range}
use Rattle.std.specs.Ordering.{is_lt}
use Rattle.cas_types.specs.declared.limits.TheConstants.{LAST_DRAWN, LAST_SECOND, MUTATION_LIMIT}
use Rattle.cas_types.specs.declared.schema.Column.{Column}
use Rattle.cas_types.specs.declared.schema.TableSchema.{TableSchema}
use Rattle.cas_bounds.specs.ClusteringOrder.{clustering_order}
use Rattle.cas_bounds.specs.Cuts.{cut_cmp}
use Rattle.cas_bounds.specs.declared.order.Ordered.{Ordered}
use Rattle.cas_bounds.specs.declared.cuts.Cut.{Cut}
use Rattle.cas_codec.specs.declared.fault.ReadFault.TheVariants.{Bad}
use Rattle.cas_codec.specs.Reading.{Left, Read, ◌>>=◌, checked, is_within, u8_at, u16_at, u32_at, u64_at, i64_at, flag_at, times_at, enclosed_at}
use Rattle.cas_records.specs.declared.columns.Wanted.TheVariants.{Regular, Static, RegularCollection, StaticCollection}
use Rattle.cas_records.specs.Reading.{timestamp_at, key_at, deletion_at, live_at, may_hold, cell_at, clustering_at, cut_at}
use Rattle.cas_records.specs.Columns.{column_at, path_at}
use Rattle.cas_atoms.specs.declared.atom.Atom.{Atom}
use Rattle.cas_atoms.specs.declared.atom.Atom.TheVariants.{PartitionDeletion, RangeDeletion, RowDeletion, CollectionDeletion}
use Rattle.cas_atoms.specs.declared.atom.Atom.TheVariants.{Live, Write, StaticWrite, StaticCollectionDeletion}
use Rattle.cas_atoms.specs.declared.atom.Mutation.{Mutation}

-- ---- atoms

-- what is left of a DELETE of a partition
unfoldable pub partition_deletion_at : Left → Read Atom
partition_deletion_at left = do
  d ← deletion_at left
  Ok (PartitionDeletion d.0, d.1)

-- a cut that stands above another one; one that doesn't isn't allowed there
unfoldable pub above_at : List Ordered → Cut → Left → Read Cut
above_at order lo left = checked (λ hi. is_lt (cut_cmp lo hi)) (cut_at order) left

-- what is left of a DELETE of the rows between two cuts, of which the second is the one refused where they don't ascend
unfoldable pub range_deletion_at : List Ordered → Left → Read Atom
range_deletion_at order left = do
  lo ← cut_at order left
  hi ← above_at order lo.0 lo.1
  d ← deletion_at hi.1
  Ok (RangeDeletion lo.0 hi.0 d.0, d.1)

-- what is left of a DELETE of a row
unfoldable pub row_deletion_at : List Ordered → Left → Read Atom
row_deletion_at order left = do
  row ← clustering_at order left
  d ← deletion_at row.1
  Ok (RowDeletion row.0 d.0, d.1)

-- all of a collection of a row, deleted
unfoldable pub collection_deletion_at : List Ordered → List Column → Left → Read Atom
collection_deletion_at order columns left = do
  row ← clustering_at order left
  column ← column_at RegularCollection columns row.1
  d ← deletion_at column.1
  Ok (CollectionDeletion row.0 column.0.0 d.0, d.1)

-- what an INSERT leaves of a row
unfoldable pub live_atom_at : List Ordered → Left → Read Atom
live_atom_at order left = do
  row ← clustering_at order left
  live ← live_at row.1
  Ok (Live row.0 live.0, live.1)

-- a cell of a row, in one of its regular columns
unfoldable pub write_at : List Ordered → List Column → Left → Read Atom
write_at order columns left = do
  row ← clustering_at order left
  column ← column_at Regular columns row.1
  path ← path_at column.0.1 column.1
  cell ← cell_at (may_hold column.0.1) path.1
  Ok (Write row.0 column.0.0 path.0 cell.0, cell.1)

-- a cell of the static row
unfoldable pub static_write_at : List Column → Left → Read Atom
static_write_at columns left = do
  column ← column_at Static columns left
  path ← path_at column.0.1 column.1
  cell ← cell_at (may_hold column.0.1) path.1
  Ok (StaticWrite column.0.0 path.0 cell.0, cell.1)

-- all of a collection of the static row, deleted
unfoldable pub static_collection_deletion_at : List Column → Left → Read Atom
static_collection_deletion_at columns left = do
  column ← column_at StaticCollection columns left
  d ← deletion_at column.1
  Ok (StaticCollectionDeletion column.0.0 d.0, d.1)

-- what follows the tag
abbrev pub tagged_at : List Ordered → List Column → ℕ → Left → Read Atom
tagged_at order columns tag left =
    if tag == 1 then partition_deletion_at left
    else if tag == 2 then range_deletion_at order left
    else if tag == 3 then row_deletion_at order left
    else if tag == 4 then collection_deletion_at order columns left
    else if tag == 5 then live_atom_at order left
    else if tag == 6 then write_at order columns left
    else if tag == 7 then static_write_at columns left
    else static_collection_deletion_at columns left

-- an atom of a table with these columns, which orders its rows so
unfoldable pub atom_at : List Ordered → List Column → Left → Read Atom
atom_at order columns left = do
  tag ← checked (is_in_range 1 8) u8_at left
  tagged_at order columns tag.0 tag.1

-- ---- mutations

-- the table that has the number, where there is one
abbrev pub numbered_at : ℕ → ℕ → Left → Option TableSchema → Read TableSchema
numbered_at place n left None = Err (Bad place)
numbered_at place n left (Some table) = if table.number == n then Ok (table, left) else Err (Bad place)

-- the number of a table, in two bytes; tables stand in the order of their numbers
unfoldable pub table_at : List TableSchema → Left → Read TableSchema
table_at tables left = do
  number ← u16_at left
  numbered_at left.at number.0 number.1 (slice_get tables number.0)

-- which mutation it is, in a store with so many shards
unfoldable pub place_at : List TableSchema → ℕ → Left → Read (TableSchema × ℕ × ℕ)
place_at tables shards left = do
  table ← table_at tables left
  shard ← checked (λ s. nat_lt s shards) u8_at table.1
  number ← checked (is_in_range 1 MUTATION_LIMIT) u64_at shard.1
  Ok ((table.0, shard.0, number.0), number.1)

-- a timestamp: one that was drawn, or that of USING TIMESTAMP
abbrev pub stamp_at : Bool → Left → Read ℤ
stamp_at true left = checked (is_within (pos 0) LAST_DRAWN) i64_at left
stamp_at false left = timestamp_at left

-- when it was made
unfoldable pub times_of_at : Left → Read (Bool × ℤ × ℤ)
times_of_at left = do
  drawn ← flag_at left
  at ← stamp_at drawn.0 drawn.1
  moment ← checked (is_within (pos 0) LAST_SECOND) i64_at at.1
  Ok ((drawn.0, at.0, moment.0), moment.1)

-- the number of the atoms, and so many of them
unfoldable pub atoms_at : List Column → Left → Read (List Atom)
atoms_at columns left = do
  count ← u32_at left
  times_at count.0 (atom_at (clustering_order columns) columns) count.1

-- the mutation of these parts
abbrev pub made_mutation : TableSchema × ℕ × ℕ → Bool × ℤ × ℤ → List ℕ → List Atom → Mutation
made_mutation place times key atoms = record {
  table = place.0.number;
  shard = place.1;
  number = place.2;
  drawn = times.0;
  at = times.1;
  moment = times.2;
  key = key;
  atoms = atoms;
}

-- a mutation of one of these tables, in a store with so many shards
unfoldable pub mutation_at : List TableSchema → ℕ → Left → Read Mutation
mutation_at tables shards left = do
  place ← place_at tables shards left
  times ← times_of_at place.1
  key ← key_at times.1
  atoms ← atoms_at place.0.0.columns key.1
  Ok (made_mutation place.0 times.0 key.0 atoms.0, atoms.1)

-- a record of the commit log, which a mutation fills
unfoldable pub record_at : List TableSchema → ℕ → Left → Read Mutation
record_at tables shards left = enclosed_at (mutation_at tables shards) left
