-- The rows that a list of atoms writes in, and the paths that it writes in a column of a row, each once and in order.
-- CQL documentation, "Data definition: clustering order" and "Data types: collections"; the order of a list's paths is own.
use Rattle.std.specs.Prelude.{ℕ, ◌==◌, ℤ, Bool, false, ◌&&◌, Option, None, Some, List, [], ◌∷◌, filter, fold}
use Rattle.std.specs.Bool.{then_some}
use Rattle.std.specs.declared.cmp.Ordering.{Ordering}
use Rattle.std.specs.FinMap.Entries.{by_order}
use Rattle.cas_types.specs.Values.{bytes_cmp, value_cmp}
use Rattle.cas_types.specs.Schemas.{path_type}
use Rattle.cas_types.specs.declared.tag.TypeTag.{TypeTag}
use Rattle.cas_types.specs.declared.schema.Column.{Column}
use Rattle.cas_cell.specs.Cells.{cell_lives}
use Rattle.cas_cell.specs.declared.cell.Cell.{Cell}
use Rattle.cas_bounds.specs.Orders.{values_cmp}
use Rattle.cas_bounds.specs.declared.order.Ordered.{Ordered}
use Rattle.cas_atoms.specs.Coordinates.{RowKey, clustered, static_row, path, same_row}
use Rattle.cas_atoms.specs.Winners.{cell_winner}
use Rattle.cas_atoms.specs.declared.atom.Atom.{Atom}
use Rattle.cas_atoms.specs.declared.atom.Atom.TheVariants.{Live, Write, StaticWrite}

-- a list in order, with one more key put in its place if it isn't there yet
abbrev pub put : {K : Type 0} → (K → K → Ordering) → K → List K → List K
put cmp k [] = k ∷ []
put cmp k (x ∷ xs) = by_order (cmp k x) (k ∷ x ∷ xs) (x ∷ xs) (x ∷ put cmp k xs)

-- one more key, where there is one
abbrev pub put_some : {K : Type 0} → (K → K → Ordering) → List K → Option K → List K
put_some cmp ks None = ks
put_some cmp ks (Some k) = put cmp k ks

-- the keys that the elements of a list give, in order and each once
unfoldable pub ordered : {X K : Type 0} → (K → K → Ordering) → (X → Option K) → List X → List K
ordered cmp given xs = fold (λ ks x. put_some cmp ks (given x)) [] xs

-- the row that the atom writes in
abbrev pub written_row : Atom → Option (List (List ℕ))
written_row (Live c l) = Some c.values
written_row (Write c column p v) = Some c.values
written_row _ = None

-- the rows that the atoms write in, in the table's order
abbrev pub rows_of : List Ordered → List Atom → List (List (List ℕ))
rows_of order atoms = ordered (values_cmp order) written_row atoms

-- the path that the atom writes in that column of that row
abbrev pub written_path : RowKey → ℕ → Atom → Option (List ℕ)
written_path r n (Write c column p v) = then_some (same_row (clustered c.values) r && (column.number == n)) p
written_path r n (StaticWrite column p v) = then_some (same_row static_row r && (column.number == n)) p
written_path r n _ = None

-- the order of the paths of a column, which has a type of paths or none: a set's elements and a map's keys go by that type, a list's paths,
-- which are numbers of one length, by their bytes
abbrev pub path_cmp : Option TypeTag → List ℕ → List ℕ → Ordering
path_cmp None = bytes_cmp
path_cmp (Some tag) = value_cmp tag

-- a cell is alive where there is one that shows its value at the moment
abbrev pub is_alive : ℤ → Option Cell → Bool
is_alive now None = false
is_alive now (Some c) = cell_lives now c

-- the paths of a column of a row at which an alive cell wins, in order
abbrev pub alive_paths : List Atom → ℤ → RowKey → ℕ → Column → List (List ℕ)
alive_paths atoms now r n column =
    filter (λ p. is_alive now (cell_winner atoms (path r n p))) (ordered (path_cmp (path_type column.shape column.tag)) (written_path r n) atoms)
