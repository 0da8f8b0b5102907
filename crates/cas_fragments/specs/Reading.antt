-- Reading what a table file holds of a partition. That these readings take the spellings and nothing else is a law.
-- Own. The place of a refusal is that of the refused field's first byte.
use Rattle.std.specs.Prelude.{ℕ, zero, suc, ◌+◌, ◌-◌, ◌==◌, nat_lt, nat_le, Bool, true, ◌&&◌, ◌||◌, not, List, [], ◌∷◌, length}
use Rattle.std.specs.Prelude.{Option, None, Some, is_some, is_none, if◌then◌else◌, Ok, Err}
use Rattle.std.specs.Int.{is_in_range}
use Rattle.std.specs.Ordering.{is_lt, nat_cmp}
use Rattle.std.specs.declared.cmp.Ordering.{Ordering}
use Rattle.cas_types.specs.Schemas.{is_plain, path_type}
use Rattle.cas_types.specs.declared.schema.Column.{Column}
use Rattle.cas_cell.specs.declared.deletion.Deletion.{Deletion}
use Rattle.cas_cell.specs.declared.liveness.Liveness.{Liveness}
use Rattle.cas_bounds.specs.declared.order.Ordered.{Ordered}
use Rattle.cas_codec.specs.declared.fault.ReadFault.TheVariants.{Short, Bad}
use Rattle.cas_codec.specs.Reading.{Left, Read, ◌>>=◌, checked, u8_at, u16_at, u32_at, bytes32_at, flag_at, maybe_at}
use Rattle.cas_records.specs.declared.columns.Wanted.{Wanted}
use Rattle.cas_records.specs.declared.columns.Wanted.TheVariants.{Regular, Static}
use Rattle.cas_records.specs.Reading.{key_at, deletion_at, live_at, may_hold, cell_at, clustering_at, cut_at}
use Rattle.cas_records.specs.Columns.{column_at, path_at}
use Rattle.cas_atoms.specs.RowsAndPaths.{path_cmp}
use Rattle.cas_atoms.specs.declared.atom.ColumnRef.{ColumnRef}
use Rattle.cas_atoms.specs.declared.row.PathCell.{PathCell}
use Rattle.cas_atoms.specs.declared.row.RowColumn.{RowColumn}
use Rattle.cas_atoms.specs.declared.row.Row.{Row}
use Rattle.cas_streams.specs.declared.fragment.Fragment.{Fragment}
use Rattle.cas_streams.specs.declared.fragment.Fragment.TheVariants as fragment
use Rattle.cas_fragments.specs.Blocks.{Reached, nowhere, past, past_all, may_follow, is_full, says_head}
use Rattle.cas_fragments.specs.declared.blocks.TheConstants.{BLOCK_LEAST}
use Rattle.cas_fragments.specs.declared.heads.Version.{Version}
use Rattle.cas_fragments.specs.declared.heads.Version.TheVariants.{First, Second}

-- ---- what ascends

-- a key above the one before it, where there is one
abbrev pub is_above : {K : Type 0} → (K → K → Ordering) → Option K → K → Bool
is_above cmp None k = true
is_above cmp (Some before) k = is_lt (cmp before k)

-- so many items one after another, each read by the key of the one before it
unfoldable pub chain_at : {A K : Type 0} → (A → K) → (Option K → Left → Read A) → ℕ → Option K → Left → Read (List A)
chain_at key reading zero before left = Ok ([], left)
chain_at key reading (suc n) before left = do
  first ← reading before left
  others ← chain_at key reading n (Some (key first.0)) first.1
  Ok (first.0 ∷ others.0, others.1)

-- ---- columns

-- the path of a cell of the column; one that isn't above the path before it isn't allowed there
unfoldable pub next_path_at : Column → Option (List ℕ) → Left → Read (List ℕ)
next_path_at column before left = checked (is_above (path_cmp (path_type column.shape column.tag)) before) (path_at column) left

-- a cell of the column after its path
unfoldable pub path_cell_at : Column → Option (List ℕ) → Left → Read PathCell
path_cell_at column before left = do
  path ← next_path_at column before left
  cell ← cell_at (may_hold column) path.1
  Ok (record { path = path.0; cell = cell.0 }, cell.1)

-- how many cells a column may have: none only where all of it was deleted, and a plain one at most one
abbrev pub is_count : Column → Option Deletion → ℕ → Bool
is_count column d n = (is_some d || nat_lt 0 n) && (not (is_plain column.shape) || nat_le n 1)

-- the number of the column's cells, and each; a number that it may not have isn't allowed there
unfoldable pub cells_at : Column → Option Deletion → Left → Read (List PathCell)
cells_at column d left = do
  count ← checked (is_count column d) u32_at left
  chain_at (λ c. c.path) (path_cell_at column) count.0 None count.1

-- no deletion; a yes isn't allowed there
unfoldable pub none_at : Left → Read (Option Deletion)
none_at left = do
  there ← checked not flag_at left
  Ok (None, there.1)

-- the deletion of all of a column, if there is one; a plain column has none
unfoldable pub emptied_at : Column → Left → Read (Option Deletion)
emptied_at column left = if is_plain column.shape then none_at left else maybe_at deletion_at left

-- the number of a column that is wanted; one that isn't above the number before it isn't allowed there
unfoldable pub next_column_at : Wanted → List Column → Option ℕ → Left → Read (ColumnRef × Column)
next_column_at wanted columns before left = checked (λ p. is_above nat_cmp before p.0.number) (column_at wanted columns) left

-- what there is of a column
unfoldable pub row_column_at : Wanted → List Column → Option ℕ → Left → Read RowColumn
row_column_at wanted columns before left = do
  named ← next_column_at wanted columns before left
  deletion ← emptied_at named.0.1 named.1
  cells ← cells_at named.0.1 deletion.0 deletion.1
  Ok (record { column = named.0.0; deletion = deletion.0; cells = cells.0 }, cells.1)

-- the number of columns, at least so many, and each; fewer aren't allowed there
unfoldable pub columns_at : Wanted → ℕ → List Column → Left → Read (List RowColumn)
columns_at wanted least columns left = do
  count ← checked (nat_le least) u16_at left
  chain_at (λ c. c.column.number) (row_column_at wanted columns) count.0 None count.1

-- ---- fragments

-- a row of which nothing else is said has a column
abbrev pub least_columns : Option Deletion → Option Liveness → ℕ
least_columns None None = 1
least_columns None (Some live) = 0
least_columns (Some d) live = 0

-- a row
unfoldable pub row_at : List Ordered → List Column → Left → Read Row
row_at order columns left = do
  place ← clustering_at order left
  deletion ← maybe_at deletion_at place.1
  live ← maybe_at live_at deletion.1
  said ← columns_at Regular (least_columns deletion.0 live.0) columns live.1
  Ok (record { clustering = place.0; deletion = deletion.0; live = live.0; columns = said.0 }, said.1)

-- a row as a fragment
unfoldable pub row_fragment_at : List Ordered → List Column → Left → Read Fragment
row_fragment_at order columns left = do
  row ← row_at order columns left
  Ok (fragment.Row row.0, row.1)

-- a marker
unfoldable pub marker_at : List Ordered → Left → Read Fragment
marker_at order left = do
  cut ← cut_at order left
  deletion ← maybe_at deletion_at cut.1
  Ok (fragment.Marker cut.0 deletion.0, deletion.1)

-- what follows the tag
abbrev pub tagged_at : List Ordered → List Column → ℕ → Left → Read Fragment
tagged_at order columns tag left = if tag == 1 then row_fragment_at order columns left else marker_at order left

-- a fragment of a table with these columns, which orders its rows so
unfoldable pub fragment_at : List Ordered → List Column → Left → Read Fragment
fragment_at order columns left = do
  tag ← checked (is_in_range 1 2) u8_at left
  tagged_at order columns tag.0 tag.1

-- ---- blocks

-- a fragment that may stand there; one that may not isn't allowed where it begins
unfoldable pub next_fragment_at : List Ordered → List Column → Reached → Left → Read Fragment
next_fragment_at order columns r left = checked (may_follow order r) (fragment_at order columns) left

-- a fragment of a block of so many bytes; one that begins where the block is full isn't allowed there
unfoldable pub early_fragment_at : List Ordered → List Column → ℕ → Reached → Left → Read Fragment
early_fragment_at order columns long r left =
    if nat_le BLOCK_LEAST (long - length left.bytes) then Err (Bad left.at) else next_fragment_at order columns r left

-- fragments up to the end of a block of so many bytes, at most so many of them
unfoldable pub fragments_at : List Ordered → List Column → ℕ → ℕ → Reached → Left → Read (List Fragment)
fragments_at order columns long zero r left = Err (Short left.at)
fragments_at order columns long (suc n) r left = do
  first ← early_fragment_at order columns long r left
  if length first.1.bytes == 0 then Ok (first.0 ∷ [], first.1) else
      (fragments_at order columns long n (past r first.0) first.1 >>= λ others. Ok (first.0 ∷ others.0, others.1))

-- the fragments that fill all that is left, which is a block's; there are no more of them than bytes
unfoldable pub body_at : List Ordered → List Column → Reached → Left → Read (List Fragment)
body_at order columns r left = fragments_at order columns (length left.bytes) (length left.bytes) r left

-- ---- partitions

-- the static columns of a head; in the format's first version there are none, and nothing is read
unfoldable pub statics_at : Version → List Column → Left → Read (List RowColumn)
statics_at First columns left = Ok ([], left)
statics_at Second columns left = columns_at Static 0 columns left

-- the head of a partition
unfoldable pub head_at : Version → List Column → Left → Read (List ℕ × Option Deletion × List RowColumn)
head_at version columns left = do
  key ← key_at left
  top ← maybe_at deletion_at key.1
  statics ← statics_at version columns top.1
  Ok ((key.0, top.0, statics.0), statics.1)

-- what follows is read by what was found, if anything was, and else is this
abbrev pub either_way : {A B : Type 0} → Option A → (A → B) → B → B
either_way None f y = y
either_way (Some x) f y = f x

-- the next block of a partition, or none at a length of 0; where the partition may not end, or not go on, that length isn't allowed
unfoldable pub next_block_at : List Ordered → List Column → Bool → Bool → Reached → Left → Read (Option (List Fragment))
next_block_at order columns ends goes_on r left = do
  body ← bytes32_at left
  if length body.0 == 0 then (if ends then Ok (None, body.1) else Err (Bad left.at)) else
      if goes_on then (body_at order columns r (record { bytes = body.0; at = left.at + 4 }) >>= λ block. Ok (Some block.0, body.1))
      else Err (Bad left.at)

-- The blocks of a partition up to its end, fewer than so many. It may end where no range deletion is in force, and go on behind a full block.
unfoldable pub blocks_at : List Ordered → List Column → ℕ → Bool → Bool → Reached → Left → Read (List (List Fragment))
blocks_at order columns zero ends goes_on r left = Err (Short left.at)
blocks_at order columns (suc n) ends goes_on r left = do
  next ← next_block_at order columns ends goes_on r left
  either_way next.0
      (λ b. blocks_at order columns n (is_none (past_all r b).force) (is_full b) (past_all r b) next.1 >>= λ others. Ok (b ∷ others.0, others.1))
      (Ok ([], next.1))

-- a partition: its head and its blocks, of which there are fewer than bytes; one of which its head says nothing has a block
unfoldable pub partition_at : Version → List Ordered → List Column → Left → Read ((List ℕ × Option Deletion × List RowColumn) × List (List Fragment))
partition_at version order columns left = do
  head ← head_at version columns left
  blocks ← blocks_at order columns (length head.1.bytes) (says_head head.0) true nowhere head.1
  Ok ((head.0, blocks.0), blocks.1)
