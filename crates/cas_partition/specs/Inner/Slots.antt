-- How changes are kept: a map from their cuts to the slots of a list, each slot with what is in force from there on (own).
use Rattle.std.specs.Prelude.{◌≡◌, ℕ, ◌<◌, Bool, true, false, not, ◌&&◌, Option, None, Some, List, [], ◌∷◌, length, map, filter, get_or, if◌then◌else◌}
use Rattle.std.specs.List.{AllByRecursion, slice_set}
use Rattle.std.specs.List.Sorted.{IsStrictlySortedBy}
use Rattle.std.specs.Map.{keys_of}
use Rattle.std.specs.Ordering.{is_le, is_lt}
use Rattle.cas_cell.specs.Deletions.{deletion_cmp}
use Rattle.cas_cell.specs.declared.deletion.Deletion.{Deletion}
use Rattle.cas_bounds.specs.Keys.{key_cmp}
use Rattle.cas_bounds.specs.declared.cuts.Cut.{Cut}
use Rattle.cas_bounds.specs.declared.map_key.End.{End}
use Rattle.cas_bounds.specs.declared.map_key.End.TheVariants.{Before, Row, After}
use Rattle.cas_bounds.specs.declared.map_key.MapKey.{MapKey}
use Rattle.cas_atoms.specs.Greatest.{greater}
use Rattle.cas_streams.specs.Flat.{Change}
use Rattle.cas_partition.specs.Ranges.{key_of}

-- the side on which a cut of that end stands
abbrev pub is_after : End → Bool
is_after Before = false
is_after Row = false
is_after After = true

-- the cut of a key
abbrev pub cut_of : MapKey → Cut
cut_of k = record { prefix = k.values; after = is_after k.end; order = k.order }

-- the change that an entry is
abbrev pub change_of : List (Option Deletion) → MapKey × ℕ → Change
change_of forces e = record { at = cut_of e.0; to = get_or forces e.1 None }

abbrev pub changes_of : List (MapKey × ℕ) → List (Option Deletion) → List Change
changes_of entries forces = map (change_of forces) entries

-- no two entries have one slot
abbrev pub Apart : List (MapKey × ℕ) → Type 0
Apart [] = Unit {0}
Apart (e ∷ es) = AllByRecursion (λ f. e.1 ≡ f.1 → ⊥) es × Apart es

-- keys of cuts in order, each with a slot of its own
pub record IsWhole (entries : List (MapKey × ℕ)) (forces : List (Option Deletion)) : Type 0 where
  pub sorted : IsStrictlySortedBy key_cmp (keys_of entries)
  pub cuts : AllByRecursion (λ e. key_of (cut_of e.0) ≡ e.0) entries
  pub slots : AllByRecursion (λ e. e.1 < length forces) entries
  pub apart : Apart entries

-- the entries between two keys, the first one among them
abbrev pub between : MapKey → MapKey → List (MapKey × ℕ) → List (MapKey × ℕ)
between from to entries = filter (λ e. is_le (key_cmp from e.0) && not (is_le (key_cmp to e.0))) entries

-- the entries between two keys, at neither of them
abbrev pub amid : MapKey → MapKey → List (MapKey × ℕ) → List (MapKey × ℕ)
amid from to entries = filter (λ e. is_lt (key_cmp from e.0) && not (is_le (key_cmp to e.0))) entries

-- what is in force from the last of these entries on
abbrev pub last_force : Option Deletion → List (MapKey × ℕ) → List (Option Deletion) → Option Deletion
last_force now [] forces = now
last_force now (e ∷ es) forces = last_force (get_or forces e.1 None) es forces

-- what is in force from the last entry on whose key passes a test
abbrev pub force_by : (MapKey → Bool) → Option Deletion → List (MapKey × ℕ) → List (Option Deletion) → Option Deletion
force_by passes now [] forces = now
force_by passes now (e ∷ es) forces = force_by passes (if passes e.0 then get_or forces e.1 None else now) es forces

-- what is in force right before a key, and right behind it
abbrev pub force_below : MapKey → Option Deletion → List (MapKey × ℕ) → List (Option Deletion) → Option Deletion
force_below key now entries forces = force_by (λ k. not (is_le (key_cmp key k))) now entries forces

abbrev pub force_behind : MapKey → Option Deletion → List (MapKey × ℕ) → List (Option Deletion) → Option Deletion
force_behind key now entries forces = force_by (λ k. not (is_lt (key_cmp key k))) now entries forces

-- the slots of these entries raised
abbrev pub raised_at : Deletion → List (MapKey × ℕ) → List (Option Deletion) → List (Option Deletion)
raised_at d [] forces = forces
raised_at d (e ∷ es) forces = raised_at d es (slice_set forces e.1 (greater deletion_cmp (get_or forces e.1 None) (Some d)))
