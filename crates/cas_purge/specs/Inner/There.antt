-- Whether something is there (own).
use Rattle.std.specs.Prelude.{Bool, true, false, ◌||◌, is_some, List, [], ◌∷◌}
use Rattle.cas_atoms.specs.declared.row.Row.{Row}
use Rattle.cas_atoms.specs.declared.row.RowColumn.{RowColumn}

-- an element of a list
abbrev pub is_there : {X : Type 0} → List X → Bool
is_there [] = false
is_there (x ∷ xs) = true

-- a deletion or a cell of a column
abbrev pub column_there : RowColumn → Bool
column_there c = is_some c.deletion || is_there c.cells

-- a deletion of a row, what an INSERT left of it, or a column
abbrev pub row_there : Row → Bool
row_there r = is_some r.deletion || (is_some r.live || is_there r.columns)
