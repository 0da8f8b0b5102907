-- What a row shows of a column: its value, the timestamp of its write, and the seconds that it has left.
-- CQL documentation, "Data manipulation: SELECT; WRITETIME and TTL" and "Data types: collections". A collection with no alive element reads null.
use Rattle.std.specs.Prelude.{ℕ, ℤ, ◌-ℤ◌, Option, None, Some, List, [], ◌∷◌, map, take, slice_get}
use Rattle.std.specs.Bool.{then_some}
use Rattle.std.specs.List.{count_by}
use Rattle.std.specs.Option.{option_map}
use Rattle.cas_types.specs.Schemas.{is_partition, is_clustering, type_or_blob}
use Rattle.cas_types.specs.declared.tag.TypeTag.{TypeTag}
use Rattle.cas_types.specs.declared.schema.Column.{Column}
use Rattle.cas_types.specs.declared.schema.Kind.{Kind}
use Rattle.cas_types.specs.declared.schema.Kind.TheVariants.{Partition, Ascending, Descending, Static, Regular}
use Rattle.cas_types.specs.declared.schema.Shape.{Shape}
use Rattle.cas_types.specs.declared.schema.Shape.TheVariants as shape
use Rattle.cas_cell.specs.Cells.{cell_at, cell_value, cell_lives}
use Rattle.cas_cell.specs.declared.cell.Cell.{Cell}
use Rattle.cas_cell.specs.declared.cell.Cell.TheVariants.{Expiring}
use Rattle.cas_atoms.specs.Coordinates.{RowKey, clustered, static_row, path}
use Rattle.cas_atoms.specs.Winners.{cell_winner}
use Rattle.cas_atoms.specs.RowsAndPaths.{alive_paths}
use Rattle.cas_atoms.specs.PartitionKeys.{key_values}
use Rattle.cas_atoms.specs.declared.atom.Atom.{Atom}
use Rattle.cas_atoms.specs.declared.query.Query.{Query}
use Rattle.cas_atoms.specs.declared.query.Pick.{Pick}
use Rattle.cas_atoms.specs.declared.query.Pick.TheVariants.{Value, WriteTime, Ttl}
use Rattle.cas_atoms.specs.declared.query.Datum.{Datum}
use Rattle.cas_atoms.specs.declared.query.Datum.TheVariants as datum

-- a value that is there, or null
abbrev pub one_or_null : TypeTag → Option (List ℕ) → Datum
one_or_null tag None = datum.Null
one_or_null tag (Some v) = datum.One tag v

-- a number that is there, or null
abbrev pub number_or_null : Option ℤ → Datum
number_or_null None = datum.Null
number_or_null (Some n) = datum.Number n

-- a set, or null where nothing is in it
abbrev pub set_or_null : TypeTag → List (List ℕ) → Datum
set_or_null tag [] = datum.Null
set_or_null tag (v ∷ vs) = datum.Set tag (v ∷ vs)

-- a list, or null where nothing is in it
abbrev pub list_or_null : TypeTag → List (List ℕ) → Datum
list_or_null tag [] = datum.Null
list_or_null tag (v ∷ vs) = datum.List tag (v ∷ vs)

-- a map, or null where nothing is in it
abbrev pub map_or_null : TypeTag → TypeTag → List (List ℕ × List ℕ) → Datum
map_or_null keys values [] = datum.Null
map_or_null keys values (e ∷ es) = datum.Map keys values (e ∷ es)

-- the cell, where it is alive at the moment
abbrev pub living : ℤ → Option Cell → Option Cell
living now None = None
living now (Some c) = then_some (cell_lives now c) c

-- the alive cell at a path of a column of the row
abbrev pub alive_cell : List Atom → ℤ → RowKey → ℕ → List ℕ → Option Cell
alive_cell atoms now r n p = living now (cell_winner atoms (path r n p))

-- the alive cell of a plain column of the row
abbrev pub plain_cell : List Atom → ℤ → RowKey → ℕ → Option Cell
plain_cell atoms now r n = alive_cell atoms now r n []

-- the bytes of a cell, and no bytes where there is no cell
abbrev pub cell_bytes : Option Cell → List ℕ
cell_bytes None = []
cell_bytes (Some c) = cell_value c

-- the value of an element of a list, or of a key of a map
abbrev pub shown_element : List Atom → ℤ → RowKey → ℕ → List ℕ → List ℕ
shown_element atoms now r n p = cell_bytes (alive_cell atoms now r n p)

-- what the row shows of a column that isn't of the primary key: a value, a set's elements, a list's values, a map's keys with their values
abbrev pub shown_by_shape : Shape → List Atom → ℤ → RowKey → ℕ → Column → Datum
shown_by_shape shape.One atoms now r n c = one_or_null c.tag (option_map cell_value (plain_cell atoms now r n))
shown_by_shape shape.Set atoms now r n c = set_or_null c.tag (alive_paths atoms now r n c)
shown_by_shape shape.List atoms now r n c = list_or_null c.tag (map (shown_element atoms now r n) (alive_paths atoms now r n c))
shown_by_shape shape.Map atoms now r n c =
    map_or_null c.tag (type_or_blob c.second) (map (λ p. (p, shown_element atoms now r n p)) (alive_paths atoms now r n c))

-- what the row shows of the column of that number, by the column's shape
abbrev pub shown_value : List Atom → ℤ → RowKey → ℕ → Column → Datum
shown_value atoms now r n c = shown_by_shape c.shape atoms now r n c

-- the value of the partition key's column of that number
abbrev pub partition_value : Query → ℕ → TypeTag → Datum
partition_value q n tag = one_or_null tag (slice_get (key_values (count_by (λ c. is_partition c.kind) q.columns) q.key) n)

-- the value of the clustering column of that number, of which the static row has none
abbrev pub clustering_value : Query → RowKey → ℕ → TypeTag → Datum
clustering_value q static_row n tag = datum.Null
clustering_value q (clustered c) n tag = one_or_null tag (slice_get c (count_by (λ c. is_clustering c.kind) (take n q.columns)))

-- a regular column's value, of which the static row has none
abbrev pub regular_value : List Atom → ℤ → RowKey → ℕ → Column → Datum
regular_value atoms now static_row n c = datum.Null
regular_value atoms now (clustered r) n c = shown_value atoms now (clustered r) n c

-- what the row shows of a column, by what the column is in its table; all rows of a partition show the static row's value of a static column
abbrev pub value_by_kind : Kind → Query → List Atom → ℤ → RowKey → ℕ → Column → Datum
value_by_kind Partition q atoms now r n c = partition_value q n c.tag
value_by_kind Ascending q atoms now r n c = clustering_value q r n c.tag
value_by_kind Descending q atoms now r n c = clustering_value q r n c.tag
value_by_kind Static q atoms now r n c = shown_value atoms now static_row n c
value_by_kind Regular q atoms now r n c = regular_value atoms now r n c

-- what the row shows of a column, and null where there is no such column
abbrev pub column_value : Query → List Atom → ℤ → RowKey → ℕ → Option Column → Datum
column_value q atoms now r n None = datum.Null
column_value q atoms now r n (Some c) = value_by_kind c.kind q atoms now r n c

-- the alive cell that WRITETIME and TTL speak of: a static column's in the static row, a regular column's in a row
abbrev pub cell_by_kind : Kind → List Atom → ℤ → RowKey → ℕ → Option Cell
cell_by_kind Static atoms now r n = plain_cell atoms now static_row n
cell_by_kind Regular atoms now (clustered c) n = plain_cell atoms now (clustered c) n
cell_by_kind _ atoms now r n = None

-- that cell, and none where there is no such column
abbrev pub picked_cell : Query → List Atom → ℤ → RowKey → ℕ → Option Column → Option Cell
picked_cell q atoms now r n None = None
picked_cell q atoms now r n (Some c) = cell_by_kind c.kind atoms now r n

-- the seconds until the cell expires, of which one with no TTL has none
abbrev pub seconds_left : ℤ → Cell → Option ℤ
seconds_left now (Expiring at expiry ttl value) = Some (expiry -ℤ now)
seconds_left now _ = None

-- the seconds that a cell has left, where there is one
abbrev pub left_of : ℤ → Option Cell → Option ℤ
left_of now None = None
left_of now (Some c) = seconds_left now c

-- what the row shows for a pick
unfoldable pub picked : Query → List Atom → ℤ → RowKey → Pick → Datum
picked q atoms now r (Value n) = column_value q atoms now r n (slice_get q.columns n)
picked q atoms now r (WriteTime n) = number_or_null (option_map cell_at (picked_cell q atoms now r n (slice_get q.columns n)))
picked q atoms now r (Ttl n) = number_or_null (left_of now (picked_cell q atoms now r n (slice_get q.columns n)))
