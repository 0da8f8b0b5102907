-- What holds of lists of atoms: joined end to end, the same, and of what they answer (own).
use Rattle.std.specs.Prelude.{◌≡◌, ◌↔◌, ℕ, ℤ, ◌≤ℤ◌, Bool, true, false, Option, None, Some, List, ◌++◌, filter}
use Rattle.std.specs.List.Sorted.{IsStrictlySortedBy}
use Rattle.std.specs.Ordering.{is_lt}
use Rattle.std.specs.declared.cmp.Ordering.{Ordering}
use Rattle.cas_types.specs.Schemas.{path_type}
use Rattle.cas_types.specs.declared.schema.Column.{Column}
use Rattle.cas_cell.specs.Deletions.{deletion_cmp}
use Rattle.cas_cell.specs.Lives.{live_at, live_cmp}
use Rattle.cas_cell.specs.Cells.{cell_at, cell_cmp}
use Rattle.cas_bounds.specs.Orders.{values_cmp}
use Rattle.cas_bounds.specs.ClusteringOrder.{clustering_order}
use Rattle.cas_bounds.specs.declared.cuts.Slice.{Slice}
use Rattle.cas_bounds.specs.declared.order.Ordered.{Ordered}
use Rattle.cas_atoms.specs.Greatest.{greater, greatest}
use Rattle.cas_atoms.specs.Coordinates.{Coordinate, RowKey, row, path}
use Rattle.cas_atoms.specs.Winners.{cover, standing, live_winner, cell_winner, Same}
use Rattle.cas_atoms.specs.RowsAndPaths.{rows_of, written_row, path_cmp, is_alive, alive_paths}
use Rattle.cas_atoms.specs.Answers.{is_answered, answered, answer}
use Rattle.cas_atoms.specs.declared.atom.Atom.{Atom}
use Rattle.cas_atoms.specs.declared.query.Query.{Query}
use Rattle.cas_laws.specs.Given.{Gives, GiveAlike, Has}
use Rattle.cas_laws.specs.Inside.{SameWhere, SameIn, AliveWhere, is_in, is_read}
use Rattle.cas_laws.specs.Above.{AllAbove, SameAbove, later, later_mark}

-- ---- the greatest

-- the greatest is told by which values are given: it is given, and none that is given is above it
pub record GreatestLaws {Y : Type 0} (cmp : Y → Y → Ordering) : Type 0 where
  pub is : (given : Atom → Option Y) (atoms : List Atom) (y : Y) →
      (greatest cmp given atoms ≡ Some y) ↔ (Gives given atoms y × ((z : Y) → Gives given atoms z → is_lt (cmp y z) ≡ false))
  pub alike : (f g : Atom → Option Y) (A B : List Atom) → GiveAlike f A g B → greatest cmp f A ≡ greatest cmp g B

-- ---- joins

-- neither the order in which atoms come, nor their repeats, nor their grouping matters, and what is the same stays so whatever is added
pub record JoinLaws : Type 0 where
  pub swapped : (A B : List Atom) → Same (A ++ B) (B ++ A)
  pub repeated : (A : List Atom) → Same (A ++ A) A
  pub regrouped : (A B C : List Atom) → Same ((A ++ B) ++ C) (A ++ (B ++ C))
  pub kept : (A B C : List Atom) → Same A B → Same (A ++ C) (B ++ C)

-- what covers a coordinate in two lists joined is the greater of what covers it in each, and what wins there is the greater of the two winners, of
-- each where the other list doesn't cover it
pub record Joined : Type 0 where
  pub covers : (A B : List Atom) (x : Coordinate) → cover (A ++ B) x ≡ greater deletion_cmp (cover A x) (cover B x)
  pub lives : (A B : List Atom) (r : List (List ℕ)) →
      live_winner (A ++ B) r ≡ greater live_cmp (standing live_at (cover B (row r)) (live_winner A r)) (standing live_at (cover A (row r)) (live_winner B r))
  pub cells : (A B : List Atom) (x : Coordinate) →
      cell_winner (A ++ B) x ≡ greater cell_cmp (standing cell_at (cover B x) (cell_winner A x)) (standing cell_at (cover A x) (cell_winner B x))

-- lists that are the same in some rows stay so when they are joined with lists that are
abbrev pub SameWhereJoins : Type 0
SameWhereJoins = (inside : RowKey → Bool) (A B C D : List Atom) → SameWhere inside A B → SameWhere inside C D → SameWhere inside (A ++ C) (B ++ D)

-- ---- rows and paths

-- the rows that atoms write in are these, in the table's order and each once
abbrev pub RowsAre : Type 0
RowsAre = (order : List Ordered) (atoms : List Atom) (rows : List (List (List ℕ))) →
    (rows ≡ rows_of order atoms) ↔ (IsStrictlySortedBy (values_cmp order) rows × ((c : List (List ℕ)) → Has rows c ↔ Gives written_row atoms c))

-- the paths of a column of a row that are alive are those at which an alive cell wins, in the column's order and each once
abbrev pub PathsAre : Type 0
PathsAre = (atoms : List Atom) (now : ℤ) (r : RowKey) (n : ℕ) (column : Column) (paths : List (List ℕ)) →
    (paths ≡ alive_paths atoms now r n column) ↔ (IsStrictlySortedBy (path_cmp (path_type column.shape column.tag)) paths ×
    ((p : List ℕ) → Has paths p ↔ (is_alive now (cell_winner atoms (path r n p)) ≡ true)))

-- the rows that answer are exactly those that are in the slice and shown, in the table's order and each once
abbrev pub RowsAnswer : Type 0
RowsAnswer = (q : Query) (atoms : List Atom) (now : ℤ) (rows : List (List (List ℕ))) →
    (rows ≡ answered q atoms now) ↔ (IsStrictlySortedBy (values_cmp (clustering_order q.columns)) rows ×
    ((c : List (List ℕ)) → Has rows c ↔ (is_answered q atoms now c ≡ true)))

-- ---- answers

-- lists that are the same answer alike
abbrev pub SameAnswers : Type 0
SameAnswers = (A B : List Atom) → Same A B → (q : Query) (now : ℤ) → answer q A now ≡ answer q B now

-- so do lists that are the same in the query's slice and in the static row
abbrev pub SameInAnswers : Type 0
SameInAnswers = (A B : List Atom) (q : Query) → SameIn q.slice A B → (now : ℤ) → answer q A now ≡ answer q B now

-- and lists that at the moment show the same there
abbrev pub AliveAnswers : Type 0
AliveAnswers = (A B : List Atom) (q : Query) (now : ℤ) → AliveWhere (is_in q.slice) now A B → answer q A now ≡ answer q B now

-- without the atoms of single rows outside a slice a list is the same in the slice, and answers a query there as it did
pub record SliceReads : Type 0 where
  pub same : (s : Slice) (A : List Atom) → SameIn s (filter (is_read s) A) A
  pub answers : (A : List Atom) (q : Query) (now : ℤ) → answer q (filter (is_read q.slice) A) now ≡ answer q A now

-- ---- above a mark

-- with no mark it is the same; it stays whatever later than the mark is added to both; it chains, with the later mark and the later floor; and from
-- the floor on both lists answer alike
pub record SameAboveLaws : Type 0 where
  pub none : (floor : ℤ) (A B : List Atom) → SameAbove None floor A B ↔ Same A B
  pub kept : (mark : Option ℤ) (floor : ℤ) (A B C : List Atom) → AllAbove mark C → SameAbove mark floor A B → SameAbove mark floor (A ++ C) (B ++ C)
  pub chained : (mark next : Option ℤ) (floor above : ℤ) (A B C : List Atom) → SameAbove mark floor A B → SameAbove next above B C →
      SameAbove (later_mark mark next) (later floor above) A C
  pub answers : (mark : Option ℤ) (floor : ℤ) (A B : List Atom) → SameAbove mark floor A B → (q : Query) (now : ℤ) → floor ≤ℤ now →
      answer q A now ≡ answer q B now
