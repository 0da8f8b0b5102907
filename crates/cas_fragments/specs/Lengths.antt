-- How many bytes fragments take in a table file (own).
use Rattle.std.specs.Prelude.{ℕ, ◌+◌, List, Option, None, Some}
use Rattle.std.specs.List.{sum_by}
use Rattle.cas_cell.specs.declared.deletion.Deletion.{Deletion}
use Rattle.cas_cell.specs.declared.liveness.Liveness.{Liveness}
use Rattle.cas_atoms.specs.LogLength.{short_length, values_length, cut_length, deletion_length, cell_length, live_length}
use Rattle.cas_atoms.specs.declared.row.PathCell.{PathCell}
use Rattle.cas_atoms.specs.declared.row.RowColumn.{RowColumn}
use Rattle.cas_atoms.specs.declared.row.Row.{Row}
use Rattle.cas_streams.specs.declared.fragment.Fragment.{Fragment}
use Rattle.cas_streams.specs.declared.fragment.Fragment.TheVariants as fragment

-- the path with its length in two bytes, and the cell
abbrev pub path_cell_length : PathCell → ℕ
path_cell_length c = short_length c.path + cell_length c.cell

-- whether it is there in one byte, and the deletion
abbrev pub maybe_deletion_length : Option Deletion → ℕ
maybe_deletion_length None = 1
maybe_deletion_length (Some d) = 1 + deletion_length

-- the same of what an INSERT left
abbrev pub maybe_live_length : Option Liveness → ℕ
maybe_live_length None = 1
maybe_live_length (Some live) = 1 + live_length live

-- the column's number in two bytes, its deletion, the number of its cells in four, and the cells
abbrev pub column_length : RowColumn → ℕ
column_length c = 2 + (maybe_deletion_length c.deletion + (4 + sum_by path_cell_length c.cells))

-- the number of columns in two bytes, and the columns
abbrev pub columns_length : List RowColumn → ℕ
columns_length cs = 2 + sum_by column_length cs

-- the clustering's values, its deletion, its liveness, and the columns
abbrev pub row_length : Row → ℕ
row_length r = values_length r.clustering.values + (maybe_deletion_length r.deletion + (maybe_live_length r.live + columns_length r.columns))

-- the tag in one byte, and the row or the marker
abbrev pub fragment_length : Fragment → ℕ
fragment_length (fragment.Static cs) = 0
fragment_length (fragment.Row r) = 1 + row_length r
fragment_length (fragment.Marker cut d) = 1 + (cut_length cut + maybe_deletion_length d)

-- the head of a partition: the key with its length in two bytes, the deletion of all of it, and the static columns
abbrev pub head_length : List ℕ → Option Deletion → List RowColumn → ℕ
head_length key top cs = short_length key + (maybe_deletion_length top + columns_length cs)
