-- How what a table file holds of a partition is spelled as bytes: columns, rows, markers, and fragments one after another. Each has one spelling.
-- Own format.
use Rattle.std.specs.Prelude.{ℕ, List, [], ◌++◌, length, Option}
use Rattle.std.specs.List.{flat_map}
use Rattle.cas_codec.specs.Fields.{u8, u16, u32, bytes16, bytes32, maybe}
use Rattle.cas_cell.specs.declared.deletion.Deletion.{Deletion}
use Rattle.cas_bounds.specs.declared.cuts.Cut.{Cut}
use Rattle.cas_records.specs.Spelling.{deletion_bytes, live_bytes, cell_bytes, clustering_bytes, cut_bytes}
use Rattle.cas_atoms.specs.declared.row.PathCell.{PathCell}
use Rattle.cas_atoms.specs.declared.row.RowColumn.{RowColumn}
use Rattle.cas_atoms.specs.declared.row.Row.{Row}
use Rattle.cas_streams.specs.declared.fragment.Fragment.{Fragment}
use Rattle.cas_streams.specs.declared.fragment.Fragment.TheVariants as fragment

-- a cell after its path: an element of a set, the place in a list, a key of a map; of a plain column the path is empty
abbrev pub path_cell_bytes : PathCell → List ℕ
path_cell_bytes c = bytes16 c.path ++ cell_bytes c.cell

-- cells: their number in four bytes, and each
abbrev pub cells_bytes : List PathCell → List ℕ
cells_bytes cells = u32 (length cells) ++ flat_map path_cell_bytes cells

-- what there is of a column: its number in two bytes, perhaps the deletion of all of it, and its cells
abbrev pub column_bytes : RowColumn → List ℕ
column_bytes c = u16 c.column.number ++ (maybe deletion_bytes c.deletion ++ cells_bytes c.cells)

-- columns: their number in two bytes, and each
abbrev pub columns_bytes : List RowColumn → List ℕ
columns_bytes columns = u16 (length columns) ++ flat_map column_bytes columns

-- a row: its place, perhaps a DELETE of it, perhaps what an INSERT left of it, and its columns
abbrev pub row_bytes : Row → List ℕ
row_bytes r = clustering_bytes r.clustering ++ (maybe deletion_bytes r.deletion ++ (maybe live_bytes r.live ++ columns_bytes r.columns))

-- a marker: a cut, and the range deletion that is in force from there on, or none
abbrev pub marker_bytes : Cut → Option Deletion → List ℕ
marker_bytes cut d = cut_bytes cut ++ maybe deletion_bytes d

-- a fragment: 01 and a row, or 02 and a marker; static columns are none, they stand at their partition's head
abbrev pub fragment_bytes : Fragment → List ℕ
fragment_bytes (fragment.Static columns) = []
fragment_bytes (fragment.Row r) = u8 1 ++ row_bytes r
fragment_bytes (fragment.Marker cut d) = u8 2 ++ marker_bytes cut d

-- what stands in a block: fragments, one after another
abbrev pub body_bytes : List Fragment → List ℕ
body_bytes fs = flat_map fragment_bytes fs

-- a block: its length in four bytes, and its fragments
abbrev pub block_bytes : List Fragment → List ℕ
block_bytes fs = bytes32 (body_bytes fs)
