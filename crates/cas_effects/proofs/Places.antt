-- The places of a list's values, by their bytes.
use Rattle.std.proofs.Common.{◌≡◌, ◌⊎◌, inl, inr, ℕ, zero, suc, ◌+◌, ◌-◌, ◌/◌, ◌%◌, ◌^◌, ◌<◌, ◌≤◌, List, [], ◌∷◌, ◌++◌, length, map, Option, refl, sym, ap, ◌∙◌, arith}
use Rattle.std.specs.List.{All, AllPairs, AllByRecursion, enumerate_from}
use Rattle.std.specs.Int.{w64, byte_at, bytes_high_first, to_be_bytes}
use Rattle.std.specs.Ordering.{nat_cmp, ordering_then}
use Rattle.std.specs.Cmp.{nat_cmp_is}
use Rattle.std.specs.declared.cmp.Ordering.{Ordering}
use Rattle.std.specs.declared.cmp.Ordering.TheVariants.{Less, Equal}
use Rattle.std.proofs.Math.Nat.{eq-or-lt_of_le, div-div-eq-div-mul, pow-succ'}
use Rattle.std.proofs.lemmas.List.Elements.{All-from_recursion}
use Rattle.std.proofs.lemmas.List.Kept.{AllPairs-cons}
use Rattle.cas_types.specs.Values.{bytes_cmp}
use Rattle.cas_effects.specs.AtomsOf.{list_path, placed_at}
use Rattle.cas_effects.specs.ListPlaces.{StandsBefore, AllStandBefore, ListPlaces}
use Rattle.cas_effects.specs.declared.atoms.TheConstants.{LIST_MIDDLE}

-- ---- numbers as bytes, the highest first

digit : (k n : ℕ) → byte_at k n ≡ n / 256 ^ k % 256
digit zero n = omega arith
digit (suc k) n = refl

shifted : (k n : ℕ) → n / 256 ^ suc k ≡ n / 256 ^ k / 256
shifted k n = ap (λ m. n / m) (pow-succ' 256 k ∙ omega arith) ∙ sym (div-div-eq-div-mul n (256 ^ k) 256)

decided : (x y : ℕ) (rest : Ordering) → (x ≡ y → rest ≡ Less) → (x ≡ y) ⊎ (x < y) → ordering_then (nat_cmp x y) rest ≡ Less
decided x y rest same (inl e) = rw (← nat_cmp_is x y Equal e) (same e)
decided x y rest same (inr l) = rw (← nat_cmp_is x y Less l) refl

mono : (k a b : ℕ) → a ≤ b → a / 256 ^ k ≤ b / 256 ^ k
mono zero a b below = omega arith
mono (suc k) a b below = let less : a / 256 ^ k ≤ b / 256 ^ k = mono k a b below in omega (arith, shifted k a, shifted k b)

module _ (p q : List ℕ) where
  -- numbers that agree above a place, and differ below it, are ordered as their bytes from that place on
  high_first : (k a b : ℕ) → a / 256 ^ k ≡ b / 256 ^ k → a < b → bytes_cmp (bytes_high_first k a ++ p) (bytes_high_first k b ++ q) ≡ Less
  high_first zero a b same below = absurd (omega arith)
  high_first (suc k) a b same below =
      let less : a / 256 ^ k ≤ b / 256 ^ k = mono k a b (omega arith) in
      let above : a / 256 ^ k / 256 ≡ b / 256 ^ k / 256 = sym (shifted k a) ∙ same ∙ shifted k b in
      let within : byte_at k a ≤ byte_at k b = omega (arith, digit k a, digit k b) in
      decided (byte_at k a) (byte_at k b) _
      (λ e. let here : a / 256 ^ k ≡ b / 256 ^ k = omega (arith, digit k a, digit k b) in high_first k a b here below)
      (eq-or-lt_of_le within)

  low_first : (k a : ℕ) → bytes_cmp p q ≡ Less → bytes_cmp (bytes_high_first k a ++ p) (bytes_high_first k a ++ q) ≡ Less
  low_first zero a less = less
  low_first (suc k) a less = decided (byte_at k a) (byte_at k a) _ (λ e. low_first k a less) (inl refl)

pub by_order : (a b : ℕ) (p q : List ℕ) → a < b → b < 2 ^ 64 → bytes_cmp (to_be_bytes w64 a ++ p) (to_be_bytes w64 b ++ q) ≡ Less
by_order a b p q below small = high_first p q 8 a b (omega arith) below

plain : (a b : ℕ) → a < b → b < 2 ^ 64 → bytes_cmp (to_be_bytes w64 a) (to_be_bytes w64 b) ≡ Less
plain a b below small = by_order a b [] [] below small

by_index : (order i j : ℕ) → i < j → j < 2 ^ 64 → bytes_cmp (list_path order i) (list_path order j) ≡ Less
by_index order i j below small = low_first (to_be_bytes w64 i) (to_be_bytes w64 j) 8 order (plain i j below small)

-- ---- the values of a literal

module _ (P : List ℕ × Option (List ℕ) → Type 0) (order : ℕ) (holds : (i : ℕ) (v : List ℕ) → P (placed_at order (i, v))) where
  each : (i : ℕ) (vs : List (List ℕ)) → AllByRecursion P (map (placed_at order) (enumerate_from i vs))
  each i [] = tt
  each i (v ∷ vs) = (holds i v, each (i + 1) vs)

  pub each_placed : (vs : List (List ℕ)) → All P (map (placed_at order) (enumerate_from 0 vs))
  each_placed vs = All-from_recursion P _ (each 0 vs)

-- each value before the later ones of its literal
module _ (order : ℕ) where
  after : (i j : ℕ) (v : List ℕ) (vs : List (List ℕ)) → i < j → j + length vs ≤ 2 ^ 64
      → AllByRecursion (StandsBefore (placed_at order (i, v))) (map (placed_at order) (enumerate_from j vs))
  after i j v [] below few = tt
  after i j v (w ∷ ws) below few = (by_index order i j below (omega arith), after i (j + 1) v ws (omega arith) (omega arith))

  in_order : (i : ℕ) (vs : List (List ℕ)) → i + length vs ≤ 2 ^ 64 → AllPairs StandsBefore (map (placed_at order) (enumerate_from i vs))
  in_order i [] few = λ j k d below within. absurd (omega arith)
  in_order i (v ∷ vs) few =
      AllPairs-cons StandsBefore _ _ (All-from_recursion (StandsBefore (placed_at order (i, v))) _ (after i (i + 1) v vs (omega arith) (omega arith)))
      (in_order (i + 1) vs (omega arith))

-- two orders, of which the one is below the other
apart : (a b : ℕ) (vs ws : List (List ℕ)) → a < b → b < 2 ^ 64
    → AllStandBefore (map (placed_at a) (enumerate_from 0 vs)) (map (placed_at b) (enumerate_from 0 ws))
apart a b vs ws below small =
    each_placed (λ p. All (StandsBefore p) (map (placed_at b) (enumerate_from 0 ws))) a
    (λ i v. each_placed (StandsBefore (placed_at a (i, v))) b (λ j w. by_order a b (to_be_bytes w64 i) (to_be_bytes w64 j) below small) ws) vs

pub list_places : ListPlaces
list_places = record {
  appended_in_order = λ n vs few counted. in_order (LIST_MIDDLE + n) 0 vs (omega arith);
  prepended_in_order = λ n vs few counted. in_order (LIST_MIDDLE - n) 0 vs (omega arith);
  appended_later = λ m n vs ws below few _ _. apart (LIST_MIDDLE + m) (LIST_MIDDLE + n) vs ws (omega arith) (omega arith);
  prepended_later = λ m n vs ws below few _ _. apart (LIST_MIDDLE - n) (LIST_MIDDLE - m) ws vs (omega arith) (omega arith);
  prepended_first = λ m n vs ws some few_m few_n _ _. apart (LIST_MIDDLE - m) (LIST_MIDDLE + n) vs ws (omega arith) (omega arith);
}
