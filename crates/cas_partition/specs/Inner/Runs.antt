-- Atoms of one row one after another, for which place is made in the row and which are joined there (own).
use Rattle.std.specs.Prelude.{◌≡◌, ◌⊎◌, Option, None, Some, List, [], ◌∷◌, ◌++◌, if◌then◌else◌}
use Rattle.std.specs.BTreeMap.{insert_entry}
use Rattle.std.specs.List.{AllByRecursion}
use Rattle.std.specs.Ordering.{is_eq}
use Rattle.cas_types.specs.declared.tag.TypeTag.{TypeTag}
use Rattle.cas_bounds.specs.declared.map_key.MapKey.{MapKey}
use Rattle.cas_atoms.specs.declared.atom.Atom.{Atom}
use Rattle.cas_partition.specs.Spots.{row_cmp, spot_cmp, joined_content}
use Rattle.cas_partition.specs.Placed.{wanted, given}
use Rattle.cas_partition.specs.Partitions.{with_spot}
use Rattle.cas_partition.specs.Inner.Rows.{Said, RowsOf, place_of, body_of, with_place, joined_place}
use Rattle.cas_partition.specs.declared.spot.Place.{Place}
use Rattle.cas_partition.specs.declared.spot.Spot.{Spot}
use Rattle.cas_partition.specs.declared.spot.Content.{Content}
use Rattle.cas_partition.specs.declared.spot.Room.{Room}
use Rattle.cas_partition.specs.declared.spot.Room.TheVariants.{Whole, Cuts, At}
use Rattle.cas_partition.specs.declared.spot.Addition.{Addition}
use Rattle.cas_partition.specs.declared.spot.Addition.TheVariants as gives

-- ---- what is kept in a row

-- the row, or the static row
abbrev pub room_row : Room → Option (Option MapKey)
room_row Whole = None
room_row (Cuts lo hi) = None
room_row (At s tag) = Some s.row

-- the place within the row
abbrev pub room_place : Room → Place
room_place Whole = record { column = None; path = None }
room_place (Cuts lo hi) = record { column = None; path = None }
room_place (At s tag) = place_of s

-- the type that orders the column's paths
abbrev pub room_tag : Room → Option TypeTag
room_tag Whole = None
room_tag (Cuts lo hi) = None
room_tag (At s tag) = tag

-- the atom is of the row, or of the static row
abbrev pub IsInRow : Option MapKey → Atom → Type 0
IsInRow row a = room_row (wanted a) ≡ Some row

-- ---- place is made

-- in a row for each of these atoms
abbrev pub with_places : List Atom → Said → Said
with_places [] es = es
with_places (a ∷ atoms) es = with_places atoms (with_place (room_place (wanted a)) (room_tag (wanted a)) es)

-- among the entries of all rows
abbrev pub with_room : Room → List (Spot × Content) → List (Spot × Content)
with_room Whole es = es
with_room (Cuts lo hi) es = es
with_room (At s tag) es = with_spot s tag es

-- for each of these atoms
abbrev pub with_rooms : List Atom → List (Spot × Content) → List (Spot × Content)
with_rooms [] es = es
with_rooms (a ∷ atoms) es = with_rooms atoms (with_room (wanted a) es)

-- something holds of some first ones of these atoms
pub record IsPart (atoms : List Atom) (P : List Atom → Type 0) : Type 0 where
  pub first : List Atom
  pub later : List Atom
  pub are : atoms ≡ first ++ later
  pub is : P first

-- nothing was made, or what came first and then place for some first ones of these atoms
abbrev pub PartlyMade : {X : Type 0} → (List Atom → X → X) → List Atom → X → X → X → Type 0
PartlyMade step atoms old made new = (new ≡ old) ⊎ IsPart atoms (λ first. new ≡ step first made)

-- the same of what is said of a row
abbrev pub RowPartlyMade : List Atom → Spot → Option TypeTag → RowsOf → RowsOf → Type 0
RowPartlyMade atoms s tag old new = (new ≡ old) ⊎ ((es : Said) × (new ≡ insert_entry row_cmp old s.row es)
    × PartlyMade with_places atoms (body_of s.row old) (with_place (place_of s) tag (body_of s.row old)) es)

-- nothing was made, or the row has place for some first ones of these atoms
abbrev pub RowHasSome : List Atom → Option MapKey → RowsOf → RowsOf → Type 0
RowHasSome atoms row old new = (new ≡ old) ⊎ IsPart atoms (λ first. new ≡ insert_entry row_cmp old row (with_places first (body_of row old)))

-- ---- atoms are joined

-- what is said in a row
abbrev pub joined_by : Addition → Said → Said
joined_by (gives.Whole d) es = es
joined_by (gives.Range lo hi d) es = es
joined_by (gives.At s c) es = joined_place (place_of s) c es

-- by each of these atoms
abbrev pub joined_places : List Atom → Said → Said
joined_places [] es = es
joined_places (a ∷ atoms) es = joined_places atoms (joined_by (given a) es)

-- with more said at a spot, if it is there
abbrev pub joined_spot : Spot → Content → List (Spot × Content) → List (Spot × Content)
joined_spot s c [] = []
joined_spot s c (e ∷ es) = if is_eq (spot_cmp s e.0) then (e.0, joined_content e.1 c) ∷ es else e ∷ joined_spot s c es

-- by what an atom adds
abbrev pub joined_at : Addition → List (Spot × Content) → List (Spot × Content)
joined_at (gives.Whole d) es = es
joined_at (gives.Range lo hi d) es = es
joined_at (gives.At s c) es = joined_spot s c es

-- by each of these atoms
abbrev pub joined_spots : List Atom → List (Spot × Content) → List (Spot × Content)
joined_spots [] es = es
joined_spots (a ∷ atoms) es = joined_spots atoms (joined_at (given a) es)

-- some first ones of the atoms that come were taken, and the others come later
pub record IsRun (atoms later : List Atom) (P : List Atom → Type 0) : Type 0 where
  pub run : List Atom
  pub are : atoms ≡ run ++ later
  pub is : P run

-- and they are of the row
abbrev pub JoinsRun : Option MapKey → List Atom → List Atom → (List Atom → Type 0) → Type 0
JoinsRun row atoms later P = IsRun atoms later (λ run. AllByRecursion (IsInRow row) run × P run)
