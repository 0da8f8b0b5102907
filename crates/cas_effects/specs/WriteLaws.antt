-- What the atoms of a write come to as a whole: a law over `mutation_of`, for every write, timestamp, moment and number.
-- CQL documentation, "Data manipulation: INSERT / UPDATE / DELETE; USING TIMESTAMP" and "Data types: collections".
use Rattle.std.specs.Prelude.{◌≡◌, ℕ, ℤ, pos, ◌-ℤ◌, ◌==◌, Bool, true, false, not, ◌&&◌, ⊤, List, [], ◌∷◌, filter, Option, None, Some, is_some, All}
use Rattle.std.specs.List.{list_any, list_all, flat_map, slice_get}
use Rattle.std.specs.Option.{option_map_or}
use Rattle.std.specs.Ordering.{is_lt, int_eq}
use Rattle.cas_bounds.specs.Cuts.{is_inside, cut_cmp}
use Rattle.cas_atoms.specs.Coordinates.{same_values, live_at_row, atom_at}
use Rattle.cas_atoms.specs.declared.atom.Atom.{Atom}
use Rattle.cas_atoms.specs.declared.atom.Atom.TheVariants as atom
use Rattle.cas_effects.specs.AtomsOf.{emptied_at, stamp_of, mutation_of}
use Rattle.cas_effects.specs.declared.effect.BoundWrite.{BoundWrite}
use Rattle.cas_effects.specs.declared.effect.Effect.{Effect}
use Rattle.cas_effects.specs.declared.effect.Effect.TheVariants as effect
use Rattle.cas_effects.specs.declared.effect.Elements.{Elements}
use Rattle.cas_effects.specs.declared.effect.Elements.TheVariants as elements
use Rattle.cas_effects.specs.declared.stamped.Stamp.{Stamp}

-- ---- what an atom is

-- the number of the column of which an atom writes or deletes something; those of rows and of the partition are of none
abbrev pub column_of : Atom → Option ℕ
column_of (atom.CollectionDeletion c column d) = Some column.number
column_of (atom.Write c column path cell) = Some column.number
column_of (atom.StaticWrite column path cell) = Some column.number
column_of (atom.StaticCollectionDeletion column d) = Some column.number
column_of _ = None

-- the atom is of the column of that number
abbrev pub is_of_column : ℕ → Atom → Bool
is_of_column n a = option_map_or (λ m. m == n) (column_of a) false

-- the atom deletes the row of these values: with its partition, in a range, or alone
abbrev pub deletes_row : List (List ℕ) → Atom → Bool
deletes_row r (atom.PartitionDeletion d) = true
deletes_row r (atom.RangeDeletion lo hi d) = is_inside lo hi r
deletes_row r (atom.RowDeletion c d) = same_values c.values r
deletes_row r _ = false

-- the atom isn't a range between a cut and the same cut, or one below
abbrev pub has_room : Atom → Bool
has_room (atom.RangeDeletion lo hi d) = is_lt (cut_cmp lo hi)
has_room _ = true

-- ---- what a write is to do

-- there is an element
abbrev pub has_elements : Elements → Bool
has_elements (elements.At es) = is_some (slice_get es 0)
has_elements (elements.Appended vs) = is_some (slice_get vs 0)
has_elements (elements.Prepended vs) = is_some (slice_get vs 0)

-- the effect is of the column of that number, and isn't one that gives a collection nothing, as `c = c + {}`
abbrev pub changes_column : ℕ → Effect → Bool
changes_column n (effect.Plain row column v) = column.number == n
changes_column n (effect.Whole row column es) = column.number == n
changes_column n (effect.Parts row column es) = (column.number == n) && has_elements es
changes_column n (effect.Emptied row column) = column.number == n
changes_column n _ = false

-- an INSERT of the row of these values
abbrev pub inserts_row : List (List ℕ) → Effect → Bool
inserts_row r (effect.Live c) = same_values c.values r
inserts_row r _ = false

-- a DELETE of the row of these values: of its partition, of rows among which it is, or of itself
abbrev pub removes_row : List (List ℕ) → Effect → Bool
removes_row r (effect.Row c) = same_values c.values r
removes_row r (effect.Range lo hi) = is_inside lo hi r
removes_row r effect.Partition = true
removes_row r _ = false

-- what becomes of the elements that a collection held, where it is given others: they are deleted just before the timestamp
abbrev pub replaced : Stamp → Effect → List Atom
replaced s (effect.Whole row column es) = emptied_at row column (record { at = s.at -ℤ pos 1; second = s.moment }) ∷ []
replaced s _ = []

-- the two cuts of a range are cuts of one table
abbrev pub HasOneOrder : Effect → Type 0
HasOneOrder (effect.Range lo hi) = lo.order ≡ hi.order
HasOneOrder _ = ⊤

-- ---- the law

-- a write, at the drawn timestamp, the moment and the number that its shard gives it
pub record WriteLaws (w : BoundWrite) (drawn moment : ℤ) (number : ℕ) : Type 0 where
  -- exactly the columns that the write names are written or deleted
  pub columns : (n : ℕ) → list_any (is_of_column n) (mutation_of w drawn moment number).atoms ≡ list_any (changes_column n) w.effects
  -- exactly the rows that are inserted get a mark that they live
  pub lives : (r : List (List ℕ)) → list_any (λ a. is_some (live_at_row r a)) (mutation_of w drawn moment number).atoms ≡ list_any (inserts_row r) w.effects
  -- exactly the rows that the write deletes are deleted, though a range without room has no atom
  pub rows : All HasOneOrder w.effects → (r : List (List ℕ))
      → list_any (deletes_row r) (mutation_of w drawn moment number).atoms ≡ list_any (removes_row r) w.effects
  pub ranges : list_all has_room (mutation_of w drawn moment number).atoms ≡ true
  -- each atom is at the write's timestamp, but for the deletions of what collections held that are given other elements
  pub times : filter (λ a. not (int_eq (atom_at a) (mutation_of w drawn moment number).at)) (mutation_of w drawn moment number).atoms
      ≡ flat_map (replaced (stamp_of w drawn moment number)) w.effects
