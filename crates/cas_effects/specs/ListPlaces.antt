-- In which order the values of a list stand: a law over `placed`, for all mutations of a shard.
-- CQL documentation, "Data types: lists" ("+" appends or prepends).
use Rattle.std.specs.Prelude.{◌≡◌, ℕ, ◌<◌, ◌≤◌, ◌^◌, List, Option, length, All, AllPairs}
use Rattle.std.specs.declared.cmp.Ordering.TheVariants.{Less}
use Rattle.cas_types.specs.Values.{bytes_cmp}
use Rattle.cas_effects.specs.AtomsOf.{placed}
use Rattle.cas_effects.specs.declared.effect.Elements.TheVariants as elements
use Rattle.cas_effects.specs.declared.stamped.TheConstants.{NUMBER_LIMIT}

-- an element stands before another one: a list is read in the order of its paths' bytes
abbrev pub StandsBefore : List ℕ × Option (List ℕ) → List ℕ × Option (List ℕ) → Type 0
StandsBefore p q = bytes_cmp p.0 q.0 ≡ Less

-- each of these stands before each of those
abbrev pub AllStandBefore : List (List ℕ × Option (List ℕ)) → List (List ℕ × Option (List ℕ)) → Type 0
AllStandBefore ps qs = All (λ p. All (StandsBefore p) qs) ps

-- as many values as a literal can have
abbrev pub AreCounted : List (List ℕ) → Type 0
AreCounted vs = length vs ≤ 2 ^ 64

-- the values of a list, of which two mutations of numbers m and n write some
pub record ListPlaces : Type 0 where
  -- those of one literal stand in its order, also where it is prepended: `[1, 2] + l` begins with 1, 2
  pub appended_in_order : (n : ℕ) (vs : List (List ℕ)) → n ≤ NUMBER_LIMIT → AreCounted vs → AllPairs StandsBefore (placed n (elements.Appended vs))
  pub prepended_in_order : (n : ℕ) (vs : List (List ℕ)) → n ≤ NUMBER_LIMIT → AreCounted vs → AllPairs StandsBefore (placed n (elements.Prepended vs))
  -- what is appended later stands after
  pub appended_later : (m n : ℕ) (vs ws : List (List ℕ)) → m < n → n ≤ NUMBER_LIMIT → AreCounted vs → AreCounted ws
      → AllStandBefore (placed m (elements.Appended vs)) (placed n (elements.Appended ws))
  -- what is prepended later stands before
  pub prepended_later : (m n : ℕ) (vs ws : List (List ℕ)) → m < n → n ≤ NUMBER_LIMIT → AreCounted vs → AreCounted ws
      → AllStandBefore (placed n (elements.Prepended ws)) (placed m (elements.Prepended vs))
  -- what is prepended, by a mutation of whatever number from 1 on, stands before all that is appended
  pub prepended_first : (m n : ℕ) (vs ws : List (List ℕ)) → 1 ≤ m → m ≤ NUMBER_LIMIT → n ≤ NUMBER_LIMIT → AreCounted vs → AreCounted ws
      → AllStandBefore (placed m (elements.Prepended vs)) (placed n (elements.Appended ws))
