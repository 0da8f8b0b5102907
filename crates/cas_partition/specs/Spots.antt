-- What is said of the rows of a partition, spot by spot: of a row itself, of a column of it, and of each cell.
-- CQL documentation, "Data definition: the primary key; static columns" and "Data types: collections"; the word "spot" is own.
use Rattle.std.specs.Prelude.{ℕ, Option, None, Some, List, [], ◌∷◌}
use Rattle.std.specs.Option.{option_cmp}
use Rattle.std.specs.Ordering.{ordering_then, nat_cmp}
use Rattle.std.specs.declared.cmp.Ordering.{Ordering}
use Rattle.cas_types.specs.Values.{bytes_cmp}
use Rattle.cas_types.specs.declared.tag.TypeTag.{TypeTag}
use Rattle.cas_cell.specs.Deletions.{deletion_cmp}
use Rattle.cas_cell.specs.Lives.{live_cmp}
use Rattle.cas_cell.specs.Cells.{cell_cmp}
use Rattle.cas_cell.specs.declared.cell.Cell.{Cell}
use Rattle.cas_bounds.specs.Keys.{key_cmp}
use Rattle.cas_bounds.specs.declared.cuts.Clustering.{Clustering}
use Rattle.cas_bounds.specs.declared.map_key.MapKey.{MapKey}
use Rattle.cas_atoms.specs.Greatest.{greater}
use Rattle.cas_atoms.specs.declared.row.Row.{Row}
use Rattle.cas_atoms.specs.declared.row.RowColumn.{RowColumn}
use Rattle.cas_atoms.specs.declared.row.PathCell.{PathCell}
use Rattle.cas_streams.specs.declared.fragment.Fragment.{Fragment}
use Rattle.cas_streams.specs.declared.fragment.Fragment.TheVariants as fragment
use Rattle.cas_partition.specs.declared.spot.Place.{Place}
use Rattle.cas_partition.specs.declared.spot.Spot.{Spot}
use Rattle.cas_partition.specs.declared.spot.Content.{Content}

-- rows in order, the static row first
abbrev pub row_cmp : Option MapKey → Option MapKey → Ordering
row_cmp r s = option_cmp key_cmp r s

-- places within a row by the columns' numbers, and in a column by the bytes of the paths
abbrev pub place_cmp : Place → Place → Ordering
place_cmp p q = ordering_then (option_cmp nat_cmp p.column q.column) (option_cmp bytes_cmp p.path q.path)

-- spots of one row by the columns' numbers, and in a column by the bytes of the paths
abbrev pub within : Spot → Spot → Ordering
within s t = ordering_then (option_cmp nat_cmp s.column t.column) (option_cmp bytes_cmp s.path t.path)

-- spots row by row, the static row first, and then so
abbrev pub spot_cmp : Spot → Spot → Ordering
spot_cmp s t = ordering_then (option_cmp key_cmp s.row t.row) (within s t)

-- nothing said
abbrev pub blank : Option TypeTag → Content
blank tag = record { tag = tag; deletion = None; live = None; cell = None }

-- two things said at one spot: the greater of each
abbrev pub joined_content : Content → Content → Content
joined_content a b = record {
  tag = a.tag;
  deletion = greater deletion_cmp a.deletion b.deletion;
  live = greater live_cmp a.live b.live;
  cell = greater cell_cmp a.cell b.cell;
}

-- ---- as a piece of a stream

-- the clustering of a row's key in the map
abbrev pub clustering_of : MapKey → Clustering
clustering_of k = record { values = k.values; order = k.order }

-- the cell, where there is one and a path
abbrev pub cells_at : Option (List ℕ) → Option Cell → List PathCell
cells_at None c = []
cells_at (Some p) None = []
cells_at (Some p) (Some c) = record { path = p; cell = c } ∷ []

-- what is said of a column, or of a cell of it
abbrev pub column_at : ℕ → Option (List ℕ) → Content → RowColumn
column_at n path c = record { column = record { number = n; path = c.tag }; deletion = c.deletion; cells = cells_at path c.cell }

-- the column, where there is one
abbrev pub columns_at : Option ℕ → Option (List ℕ) → Content → List RowColumn
columns_at None path c = []
columns_at (Some n) path c = column_at n path c ∷ []

-- what is said of the row itself, where no column is meant
abbrev pub of_row : {X : Type 0} → Option ℕ → Option X → Option X
of_row None x = x
of_row (Some n) x = None

-- what is said there of the row that stands there
abbrev pub row_piece : Clustering → Option ℕ → Option (List ℕ) → Content → Row
row_piece at column path c = record {
  clustering = at;
  deletion = of_row column c.deletion;
  live = of_row column c.live;
  columns = columns_at column path c;
}

-- what is said there, as a piece of the row that has nothing else
abbrev pub piece : Option MapKey → Option ℕ → Option (List ℕ) → Content → Fragment
piece None column path c = fragment.Static (columns_at column path c)
piece (Some k) column path c = fragment.Row (row_piece (clustering_of k) column path c)

-- what is said at a spot, as a fragment
abbrev pub said : Spot → Content → Fragment
said s c = piece s.row s.column s.path c
