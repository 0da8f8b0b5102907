-- The table under the passes: what its words and the hands of its seats have to do with one log.
use Rattle.std.specs.Prelude.{◌≡◌, ℕ, ◌%◌, ◌^◌, ◌<◌, ◌≤◌, List, [], ◌∷◌, ◌++◌, map, length, slice_index, None}
use mathlib.Core.Option.{some}
use lib.ListN.{get_elem?}
use Rattle.atomic_table.specs.Seated.{TableId}
use Rattle.cas_history.specs.declared.hand.Hand.{Hand}
use Rattle.cas_history.specs.Log.{Rules, Each, Legal, counted}
use Rattle.cas_history.specs.Hands.{total, stakes, sees, either_right, Knows, Apart}

module _ {E : Type 0} where
  -- a pass that holds nothing
  abbrev pub nobody : Hand E
  nobody = record { saw = []; lists = []; from = None }

  abbrev pub hand_of : List (Hand E) → Hand E
  hand_of [] = nobody
  hand_of (h ∷ hs) = h

  abbrev pub others : List (Hand E) → List (Hand E)
  others [] = []
  others (h ∷ hs) = hs

  -- what stays with a pass that lends its hand
  abbrev pub lent : Hand E → Hand E
  lent h = record { saw = h.saw; lists = []; from = None }

  -- one hand in the place of these
  abbrev pub merged : List E → List (Hand E) → List (Hand E)
  merged log [] = []
  merged log (h ∷ []) = sees log h ∷ []
  merged log (h ∷ k ∷ hs) = record { saw = log; lists = h.lists ++ k.lists; from = either_right h.from k.from } ∷ hs

  module _ (R : Rules E) where
    -- each of the 34 words counts its entries
    abbrev pub Counts : List ℕ → List E → Type 0
    Counts words log = (length words ≡ 34) × ((w : ℕ) → w < 34 → slice_index words w ≡ counted R w log % 2 ^ 64)

    -- there is a legal log, of which each seat knows; and no list has two owners
    abbrev pub Stands : List ℕ → List (List (Hand E)) → Type 0
    Stands words views =
        (log : List E) × Legal R log × Counts words log
        × ((seat : ℕ) (v : List (Hand E)) → get_elem? views seat ≡ some v → Each (Knows R log) v)
        × ((r : ℕ) → total (stakes r) views ≤ 1)

    -- the log got these entries, and the hands saw it then. n entries of this word were there
    abbrev pub Grew : List E → ℕ → List (Hand E) → ℕ → List (Hand E) → Type 0
    Grew es w v n after =
        (before : List E) × (after ≡ map (sees (before ++ es)) v) × Legal R (before ++ es) × (n ≡ counted R w before % 2 ^ 64)
        × Each (Knows R before) v × Apart v

    -- the log is this, and the hands became what `shown` says
    abbrev pub Looked : (List E → List (Hand E) → List (Hand E)) → ℕ → List (Hand E) → ℕ → List (Hand E) → Type 0
    Looked shown w v n after =
        (log : List E) × (after ≡ shown log v) × Legal R log × (n ≡ counted R w log % 2 ^ 64)
        × Each (Knows R log) v × Apart v

-- the name of no table
abbrev pub no_table : TableId
no_table = record { words = 0; slots = 0; views_name = 0; atom = 0; block = 0; offset = 0; slot_names = [] }
