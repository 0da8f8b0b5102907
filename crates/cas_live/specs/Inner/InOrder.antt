-- Rows whose columns and paths stand in order, each once, beside what all rows share (own).
use Rattle.std.specs.Prelude.{ℕ, Bool, true, false, ◌&&◌, nat_lt, Option, None, Some, List, [], ◌∷◌, slice_get}
use Rattle.std.specs.Ordering.{is_lt}
use Rattle.cas_types.specs.Schemas.{path_type}
use Rattle.cas_types.specs.declared.schema.Column.{Column}
use Rattle.cas_types.specs.declared.tag.TypeTag.{TypeTag}
use Rattle.cas_atoms.specs.RowsAndPaths.{path_cmp}
use Rattle.cas_atoms.specs.declared.atom.Atom.{Atom}
use Rattle.cas_atoms.specs.declared.atom.Atom.TheVariants.{PartitionDeletion, StaticWrite, StaticCollectionDeletion}
use Rattle.cas_atoms.specs.declared.row.PathCell.{PathCell}
use Rattle.cas_atoms.specs.declared.row.RowColumn.{RowColumn}

-- the atom is of the whole partition or of the static row
abbrev pub is_of_all : Atom → Bool
is_of_all (PartitionDeletion d) = true
is_of_all (StaticWrite column p v) = true
is_of_all (StaticCollectionDeletion column d) = true
is_of_all _ = false

-- each of the atoms is
abbrev pub are_of_all : List Atom → Bool
are_of_all [] = true
are_of_all (a ∷ others) = is_of_all a && are_of_all others

-- the path stands before those of the cells, of which the first tells
abbrev pub is_before : Option TypeTag → List ℕ → List PathCell → Bool
is_before tag p [] = true
is_before tag p (c ∷ cs) = is_lt (path_cmp tag p c.path)

-- the paths ascend in the order of that type of paths, or of their bytes
abbrev pub ascend : Option TypeTag → List PathCell → Bool
ascend tag [] = true
ascend tag (c ∷ cs) = is_before tag c.path cs && ascend tag cs

-- the paths ascend as the column has it; a column that isn't there has no order
abbrev pub ascend_in : Option Column → List PathCell → Bool
ascend_in None cells = false
ascend_in (Some column) cells = ascend (path_type column.shape column.tag) cells

-- the number is below those of the columns, of which the first tells
abbrev pub is_below : ℕ → List RowColumn → Bool
is_below n [] = true
is_below n (c ∷ cs) = nat_lt n c.column.number

-- columns of the table by ascending number, of which the paths ascend
abbrev pub are_in_order : List Column → List RowColumn → Bool
are_in_order columns [] = true
are_in_order columns (c ∷ cs) =
    (is_below c.column.number cs && ascend_in (slice_get columns c.column.number) c.cells) && are_in_order columns cs
