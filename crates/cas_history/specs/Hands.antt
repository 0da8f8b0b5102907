-- What passes hold of the log, and what two that meet are shown.
use Rattle.std.specs.Prelude.{◌≡◌, ℕ, zero, suc, ◌+◌, ◌%◌, ◌^◌, ◌<◌, ◌≤◌, List, [], ◌∷◌, ◌++◌, cond, nat_le, ◌==◌, Option, None, Some}
use mathlib.Core.List.{IsPrefix}
use Rattle.cas_history.specs.declared.hand.Hand.{Hand}
use Rattle.cas_history.specs.Log.{Rules, Each, Any, Has, part, counted}

-- n numbers from m on (own)
abbrev pub numbers : ℕ → ℕ → List ℕ
numbers m zero = []
numbers m (suc n) = m ∷ numbers (suc m) n

-- how often the number stands in the list (own)
abbrev pub times : ℕ → List ℕ → ℕ
times r [] = 0
times r (x ∷ xs) = cond (x == r) 1 0 + times r xs

-- whether the right to make lists from there on is a right to this one (own)
abbrev pub beyond : Option ℕ → ℕ → ℕ
beyond None r = 0
beyond (Some k) r = cond (nat_le k r) 1 0

-- the first n lists of a right to make (own)
abbrev pub dealt : Option ℕ → ℕ → List ℕ
dealt None n = []
dealt (Some k) n = numbers k n

-- that right, n lists further (own)
abbrev pub further : ℕ → Option ℕ → Option ℕ
further n None = None
further n (Some k) = Some (k + n)

-- the right that there is of two (own)
abbrev pub either_right : Option ℕ → Option ℕ → Option ℕ
either_right None q = q
either_right (Some k) q = Some k

-- the numbers of a list, added up (own)
abbrev pub total : {A : Type 0} → (A → ℕ) → List A → ℕ
total f [] = 0
total f (x ∷ xs) = f x + total f xs

module _ {E : Type 0} where
  -- how often a hand owns a list (own)
  abbrev pub shares : ℕ → Hand E → ℕ
  shares r h = times r h.lists + beyond h.from r

  -- how often these hands own a list (own)
  abbrev pub stakes : ℕ → List (Hand E) → ℕ
  stakes r hands = total (shares r) hands

  -- no list has two owners among them (own)
  abbrev pub Apart : List (Hand E) → Type 0
  Apart hands = (r : ℕ) → stakes r hands ≤ 1

  -- the hand owns the list (own)
  abbrev pub Owns : Hand E → ℕ → Type 0
  Owns h r = 0 < times r h.lists

  -- the hand, once it has seen the log so far (own)
  abbrev pub sees : List E → Hand E → Hand E
  sees log h = record { saw = log; lists = h.lists; from = h.from }

  -- a new hand with the next n lists, which has seen as much (own)
  abbrev pub given : ℕ → Hand E → Hand E
  given n h = record { saw = h.saw; lists = dealt h.from n; from = None }

  -- the hand that gave them (own)
  abbrev pub gave : ℕ → Hand E → Hand E
  gave n h = record { saw = h.saw; lists = h.lists; from = further n h.from }

  -- the first hand: it owns each list, and nothing is in the log (own)
  abbrev pub founder : Hand E
  founder = record { saw = []; lists = []; from = Some 0 }

  -- one hand with all that two own, once they have seen the log so far (own)
  abbrev pub both : List E → Hand E → Hand E → Hand E
  both log h k = record { saw = log; lists = h.lists ++ k.lists; from = either_right h.from k.from }

  module _ (R : Rules E) where
    -- what the hand saw begins the log, and the lists that it owns are as it saw them (own)
    abbrev pub Knows : List E → Hand E → Type 0
    Knows log h = IsPrefix h.saw log × ((r : ℕ) → 0 < shares r h → part R r h.saw ≡ part R r log)

    -- each list of the entry is owned by one of these hands, which lets it follow there, and what it rests on was seen by one (own)
    abbrev pub Ready : List (Hand E) → E → Type 0
    Ready hands e =
        Each (λ r. Any (λ h. Owns h r × R.may r (part R r h.saw) e) hands) (R.lists e)
        × Each (λ x. Any (λ h. Has h.saw x) hands) (R.cites e)

    -- the log is what there was, which the hands knew, and then the entry. So many entries of its word were there (own)
    abbrev pub Entered : List (Hand E) → E → List E → ℕ → Type 0
    Entered hands e log n =
        (before : List E) × (log ≡ before ++ e ∷ []) × (n ≡ counted R (R.word e) before % 2 ^ 64) × Each (Knows before) hands
