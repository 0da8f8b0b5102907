-- Lists of atoms that are the same, or show the same, in a part of the partition.
-- CQL documentation, "Data manipulation: SELECT; WHERE" and "Data definition: static columns"; own.
use Rattle.std.specs.Prelude.{◌≡◌, ℕ, ℤ, Bool, true, List}
use Rattle.cas_bounds.specs.Cuts.{is_inside}
use Rattle.cas_bounds.specs.declared.cuts.Slice.{Slice}
use Rattle.cas_atoms.specs.Coordinates.{Coordinate, RowKey, clustered, static_row, row_of}
use Rattle.cas_atoms.specs.Winners.{cover, live_winner, cell_winner}
use Rattle.cas_atoms.specs.Picks.{living}
use Rattle.cas_atoms.specs.Answers.{is_living}
use Rattle.cas_atoms.specs.declared.atom.Atom.{Atom}
use Rattle.cas_atoms.specs.declared.atom.Atom.TheVariants.{RowDeletion, CollectionDeletion, Live, Write}

-- the row is in the slice; the static row is in each
abbrev pub is_in : Slice → RowKey → Bool
is_in s (clustered c) = is_inside s.lo s.hi c
is_in s static_row = true

-- a query in the slice reads the atom: any but one of a single row outside the slice
abbrev pub is_read : Slice → Atom → Bool
is_read s (RowDeletion c d) = is_inside s.lo s.hi c.values
is_read s (CollectionDeletion c column d) = is_inside s.lo s.hi c.values
is_read s (Live c l) = is_inside s.lo s.hi c.values
is_read s (Write c column p v) = is_inside s.lo s.hi c.values
is_read s _ = true

-- two lists are the same in those rows where what covers and what wins agree at each coordinate of these
pub record SameWhere (inside : RowKey → Bool) (A B : List Atom) : Type 0 where
  pub covers : (x : Coordinate) → inside (row_of x) ≡ true → cover A x ≡ cover B x
  pub lives : (r : List (List ℕ)) → inside (clustered r) ≡ true → live_winner A r ≡ live_winner B r
  pub cells : (x : Coordinate) → inside (row_of x) ≡ true → cell_winner A x ≡ cell_winner B x

-- the same in a slice, and in the static row
abbrev pub SameIn : Slice → List Atom → List Atom → Type 0
SameIn s = SameWhere (is_in s)

-- two lists show the same in those rows at a moment where the same rows live by their INSERT, and at each coordinate the same alive cell wins,
-- or in both none; what isn't alive may differ, and so may what covers
pub record AliveWhere (inside : RowKey → Bool) (now : ℤ) (A B : List Atom) : Type 0 where
  pub lives : (r : List (List ℕ)) → inside (clustered r) ≡ true → is_living now (live_winner A r) ≡ is_living now (live_winner B r)
  pub cells : (x : Coordinate) → inside (row_of x) ≡ true → living now (cell_winner A x) ≡ living now (cell_winner B x)
