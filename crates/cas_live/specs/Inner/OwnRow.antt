-- What a row in order shows, read from itself (own).
use Rattle.std.specs.Prelude.{ℕ, ◌+◌, ◌==◌, ℤ, Bool, true, false, not, ◌&&◌, ◌||◌, nat_lt, Option, None, Some, List, [], ◌∷◌, map, filter, slice_get, cond}
use Rattle.std.specs.Bool.{then_some}
use Rattle.std.specs.Option.{option_map}
use Rattle.cas_types.specs.Schemas.{is_partition, is_regular, type_or_blob}
use Rattle.cas_types.specs.declared.schema.Column.{Column}
use Rattle.cas_types.specs.declared.tag.TypeTag.{TypeTag}
use Rattle.cas_types.specs.declared.schema.Shape.{Shape}
use Rattle.cas_types.specs.declared.schema.Shape.TheVariants as shape
use Rattle.cas_cell.specs.Cells.{cell_at, cell_value}
use Rattle.cas_cell.specs.Deletions.{deletion_cmp}
use Rattle.cas_cell.specs.Lives.{live_at}
use Rattle.cas_cell.specs.declared.cell.Cell.{Cell}
use Rattle.cas_cell.specs.declared.deletion.Deletion.{Deletion}
use Rattle.cas_bounds.specs.Cuts.{is_inside}
use Rattle.cas_atoms.specs.Coordinates.{clustered, same_bytes}
use Rattle.cas_atoms.specs.Greatest.{greater, greatest}
use Rattle.cas_atoms.specs.Winners.{standing}
use Rattle.cas_atoms.specs.RowsAndPaths.{is_alive}
use Rattle.cas_atoms.specs.Picks.{one_or_null, set_or_null, list_or_null, map_or_null, number_or_null, living, left_of, picked}
use Rattle.cas_atoms.specs.Answers.{is_living}
use Rattle.cas_atoms.specs.declared.atom.Atom.{Atom}
use Rattle.cas_atoms.specs.declared.atom.Atom.TheVariants.{PartitionDeletion}
use Rattle.cas_atoms.specs.declared.query.Datum.{Datum}
use Rattle.cas_atoms.specs.declared.query.LiveRow.{LiveRow}
use Rattle.cas_atoms.specs.declared.query.Pick.{Pick}
use Rattle.cas_atoms.specs.declared.query.Pick.TheVariants.{Value, WriteTime, Ttl}
use Rattle.cas_atoms.specs.declared.query.Query.{Query}
use Rattle.cas_atoms.specs.declared.row.PathCell.{PathCell}
use Rattle.cas_atoms.specs.declared.row.Row.{Row}
use Rattle.cas_atoms.specs.declared.row.RowColumn.{RowColumn}

-- ---- what deletes of the row

-- the deletion, where the atom is one of the whole partition
abbrev pub of_whole : Atom → Option Deletion
of_whole (PartitionDeletion d) = Some d
of_whole _ = None

-- the greatest deletion of the whole partition
abbrev pub top_of : List Atom → Option Deletion
top_of all = greatest deletion_cmp of_whole all

-- the greatest deletion of the whole row: the partition's, that of a range, and its own
abbrev pub row_cover : List Atom → Option Deletion → Row → Option Deletion
row_cover all force r = greater deletion_cmp (top_of all) (greater deletion_cmp force r.deletion)

-- ---- one of its columns

-- the columns from that number on
abbrev pub columns_from : ℕ → List RowColumn → List RowColumn
columns_from n [] = []
columns_from n (c ∷ cs) = cond (nat_lt c.column.number n) (columns_from n cs) (c ∷ cs)

-- the column in front, where it has that number
abbrev pub front_of : ℕ → List RowColumn → Option RowColumn
front_of n [] = None
front_of n (c ∷ cs) = then_some (c.column.number == n) c

-- the greatest deletion of what is in the column
abbrev pub cover_in : Option Deletion → Option RowColumn → Option Deletion
cover_in over None = over
cover_in over (Some c) = greater deletion_cmp over c.deletion

-- the cells of the column, where there is one
abbrev pub cells_in : Option RowColumn → List PathCell
cells_in None = []
cells_in (Some c) = c.cells

-- the first cell at that path
abbrev pub cell_of : List ℕ → List PathCell → Option Cell
cell_of p [] = None
cell_of p (c ∷ cs) = cond (same_bytes c.path p) (Some c.cell) (cell_of p cs)

-- the cell is alive at the moment where that deletion is the greatest
abbrev pub shows : ℤ → Option Deletion → PathCell → Bool
shows now over c = is_alive now (standing cell_at over (Some c.cell))

-- some cell is
abbrev pub some_shows : ℤ → Option Deletion → List PathCell → Bool
some_shows now over [] = false
some_shows now over (c ∷ cs) = shows now over c || some_shows now over cs

-- the cells that are
abbrev pub shown_cells : ℤ → Option Deletion → List PathCell → List PathCell
shown_cells now over cells = filter (shows now over) cells

-- the cell of a plain column, where it is alive
abbrev pub plain_shown : ℤ → Option Deletion → List PathCell → Option Cell
plain_shown now over cells = living now (standing cell_at over (cell_of [] cells))

-- what the column shows: a value, a set's elements, a list's values, a map's keys with their values
abbrev pub own_value : Shape → ℤ → Option Deletion → List PathCell → Column → Datum
own_value shape.One now over cells c = one_or_null c.tag (option_map cell_value (plain_shown now over cells))
own_value shape.Set now over cells c = set_or_null c.tag (map (λ e. e.path) (shown_cells now over cells))
own_value shape.List now over cells c = list_or_null c.tag (map (λ e. cell_value e.cell) (shown_cells now over cells))
own_value shape.Map now over cells c =
    map_or_null c.tag (type_or_blob c.second) (map (λ e. (e.path, cell_value e.cell)) (shown_cells now over cells))

-- what it shows for a pick
abbrev pub own_pick : Pick → ℤ → Option Deletion → List PathCell → Column → Datum
own_pick (Value n) now over cells c = own_value c.shape now over cells c
own_pick (WriteTime n) now over cells c = number_or_null (option_map cell_at (plain_shown now over cells))
own_pick (Ttl n) now over cells c = number_or_null (left_of now (plain_shown now over cells))

-- ---- the partition key

-- the column isn't one of the partition key
abbrev pub is_beside_key : Column → Bool
is_beside_key c = not (is_partition c.kind)

-- none of the columns is
abbrev pub none_of_key : List Column → Bool
none_of_key [] = true
none_of_key (c ∷ cs) = is_beside_key c && none_of_key cs

-- the type of the partition key, where the first column alone makes it
abbrev pub key_type : List Column → Option TypeTag
key_type [] = None
key_type (c ∷ cs) = then_some (is_partition c.kind && none_of_key cs) c.tag

-- ---- the row

-- some regular column of those from that number on has an alive cell among the row's
abbrev pub own_has_cell : ℤ → Option Deletion → ℕ → List Column → List RowColumn → Bool
own_has_cell now over n [] mine = false
own_has_cell now over n (c ∷ cs) mine =
    let here = columns_from n mine in
    (is_regular c.kind && some_shows now (cover_in over (front_of n here)) (cells_in (front_of n here))) || own_has_cell now over (n + 1) cs here

-- it lives by its INSERT or has an alive cell
abbrev pub own_is_shown : ℤ → Option Deletion → List Column → Row → Bool
own_is_shown now over columns r = is_living now (standing live_at over r.live) || own_has_cell now over 0 columns r.columns

-- the column that a pick names
abbrev pub number_of : Pick → ℕ
number_of (Value n) = n
number_of (WriteTime n) = n
number_of (Ttl n) = n

-- the column, where it is a regular one
abbrev pub if_regular : Option Column → Option Column
if_regular None = None
if_regular (Some c) = then_some (is_regular c.kind) c

-- what the row shows for a pick of that column of its own, or of one that isn't regular, which all rows share or the key tells
abbrev pub own_or_shared : Option Column → Query → List Atom → ℤ → Option Deletion → List (List ℕ) → Option RowColumn → Pick → Datum
own_or_shared None q all now over values mine pick = picked q all now (clustered values) pick
own_or_shared (Some c) q all now over values mine pick = own_pick pick now (cover_in over mine) (cells_in mine) c

-- what the row shows for a pick
abbrev pub own_picked : Query → List Atom → ℤ → Option Deletion → Row → Pick → Datum
own_picked q all now over r pick =
    own_or_shared (if_regular (slice_get q.columns (number_of pick))) q all now over r.clustering.values
    (front_of (number_of pick) (columns_from (number_of pick) r.columns)) pick

-- what it shows, a value for each pick
abbrev pub own_row : Query → List Atom → ℤ → Option Deletion → Row → LiveRow
own_row q all now over r = record { values = map (own_picked q all now over r) q.picks }

-- what it shows, where it is in the slice and shown
abbrev pub own_answer : Query → List Atom → ℤ → Option Deletion → Row → Option LiveRow
own_answer q all now over r =
    then_some (is_inside q.slice.lo q.slice.hi r.clustering.values && own_is_shown now over q.columns r) (own_row q all now over r)
