-- How what is said at spots is kept: row by row, and of each row place by place (own).
use Rattle.std.specs.Prelude.{Bool, true, false, Option, List, [], ◌∷◌, ◌++◌, map, is_some, if◌then◌else◌}
use Rattle.std.specs.BTreeMap.{insert_entry, is_at}
use Rattle.std.specs.List.{AllByRecursion}
use Rattle.std.specs.List.Sorted.{IsStrictlySortedBy}
use Rattle.std.specs.Map.{keys_of, lookup}
use Rattle.std.specs.Option.{unwrap_or}
use Rattle.std.specs.Ordering.{is_eq}
use Rattle.cas_types.specs.declared.tag.TypeTag.{TypeTag}
use Rattle.cas_bounds.specs.declared.map_key.MapKey.{MapKey}
use Rattle.cas_partition.specs.Spots.{row_cmp, place_cmp, blank, joined_content}
use Rattle.cas_partition.specs.declared.spot.Place.{Place}
use Rattle.cas_partition.specs.declared.spot.Spot.{Spot}
use Rattle.cas_partition.specs.declared.spot.Content.{Content}

-- what is said of one row, place by place
abbrev pub Said : Type 0
Said = List (Place × Content)

-- rows, and what is said of each
abbrev pub RowsOf : Type 0
RowsOf = List (Option MapKey × Said)

-- the spot of a place in a row
abbrev pub spot_in : Option MapKey → Place → Spot
spot_in row p = record { row = row; column = p.column; path = p.path }

-- an entry of a row, with its spot
abbrev pub entry_in : Option MapKey → Place × Content → Spot × Content
entry_in row e = (spot_in row e.0, e.1)

-- the entries of all rows, one after another
abbrev pub flat : RowsOf → List (Spot × Content)
flat [] = []
flat (r ∷ rows) = map (entry_in r.0) r.1 ++ flat rows

-- places in order
abbrev pub AreInOrder : Said → Type 0
AreInOrder es = IsStrictlySortedBy place_cmp (keys_of es)

-- rows in order, and of each row its places
pub record AreRows (rows : RowsOf) : Type 0 where
  pub sorted : IsStrictlySortedBy row_cmp (keys_of rows)
  pub places : AllByRecursion (λ r. AreInOrder r.1) rows

-- the place of a spot within its row
abbrev pub place_of : Spot → Place
place_of s = record { column = s.column; path = s.path }

-- what is said of the row, which is nothing if it isn't there
abbrev pub body_of : Option MapKey → RowsOf → Said
body_of row rows = unwrap_or (lookup (is_at (row_cmp row)) rows) []

-- no place is there
abbrev pub has_none : Said → Bool
has_none [] = true
has_none (e ∷ es) = false

-- with one more place, where nothing is said, if it isn't there
abbrev pub with_place : Place → Option TypeTag → Said → Said
with_place p tag es = if is_some (lookup (is_at (place_cmp p)) es) then es else insert_entry place_cmp es p (blank tag)

-- with more said at a place, if it is there
abbrev pub joined_place : Place → Content → Said → Said
joined_place p c [] = []
joined_place p c (e ∷ es) = if is_eq (place_cmp p e.0) then (e.0, joined_content e.1 c) ∷ es else e ∷ joined_place p c es
