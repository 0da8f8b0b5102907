-- What has different keys comes to no more than all that answers to them.
use Rattle.std.proofs.Common.{◌≡◌, inl, inr, ℕ, ◌+◌, ◌≤◌, List, [], ◌∷◌, sym, ap, ◌∙◌, arith}
use Rattle.std.proofs.lemmas.List.Sums.{sum_by-cons}
use Rattle.std.specs.List.{AllByRecursion, sum_by}
use Rattle.cas_laws.specs.Given.{Has}

-- ---- a list without one of its elements

abbrev pub without : {Y : Type 0} (ys : List Y) (y : Y) → Has ys y → List Y
without [] y has = []
without (z ∷ ys) y (inl e) = ys
without (z ∷ ys) y (inr has) = z ∷ without ys y has

lighter : {Y : Type 0} (weight : Y → ℕ) (ys : List Y) (y : Y) (has : Has ys y) → sum_by weight ys ≡ weight y + sum_by weight (without ys y has)
lighter weight [] y has = absurd has
lighter weight (z ∷ ys) y (inl e) = sum_by-cons weight z ys ∙ ap (λ x. weight x + sum_by weight ys) e
lighter weight (z ∷ ys) y (inr has) =
    omega (arith, sum_by-cons weight z ys, sum_by-cons weight z (without ys y has), lighter weight ys y has)

others_kept : {Y : Type 0} (ys : List Y) (y z : Y) (has : Has ys y) → (y ≡ z → ⊥) → Has ys z → Has (without ys y has) z
others_kept [] y z has other there = absurd has
others_kept (x ∷ ys) y z (inl e) other (inl f) = absurd (other (sym e ∙ f))
others_kept (x ∷ ys) y z (inl e) other (inr there) = there
others_kept (x ∷ ys) y z (inr has) other (inl f) = inl f
others_kept (x ∷ ys) y z (inr has) other (inr there) = inr (others_kept ys y z has other there)

-- ---- keys

-- an element of the list has that key, and weighs no less
pub record Answered {Y K : Type 0} (key : Y → K) (weight : Y → ℕ) (ys : List Y) (k : K) (n : ℕ) : Type 0 where
  pub one : Y
  pub has : Has ys one
  pub same : key one ≡ k
  pub heavy : n ≤ weight one

-- no two have one key
abbrev pub Apart : {X K : Type 0} → (X → K) → List X → Type 0
Apart key [] = Unit {0}
Apart key (x ∷ xs) = AllByRecursion (λ z. key x ≡ key z → ⊥) xs × Apart key xs

module _ {X Y K : Type 0} (key : X → K) (weight : X → ℕ) (by : Y → K) (heavy : Y → ℕ) where
  abbrev Each : List Y → List X → Type 0
  Each ys xs = AllByRecursion (λ x. Answered by heavy ys (key x) (weight x)) xs

  still : (x : X) (xs : List X) (ys : List Y) (a : Answered by heavy ys (key x) (weight x)) → AllByRecursion (λ z. key x ≡ key z → ⊥) xs → Each ys xs
      → Each (without ys a.one a.has) xs
  still x [] ys a other all = tt
  still x (z ∷ xs) ys a other all = (
    record {
      one = all.0.one;
      has = others_kept ys a.one all.0.one a.has (λ e. other.0 (sym a.same ∙ (ap by e ∙ all.0.same))) all.0.has;
      same = all.0.same;
      heavy = all.0.heavy;
    },
    still x xs ys a other.1 all.1,
  )

  pub counted : (xs : List X) (ys : List Y) → Apart key xs → Each ys xs → sum_by weight xs ≤ sum_by heavy ys
  counted [] ys apart all = omega arith
  counted (x ∷ xs) ys apart all =
      omega (
        arith,
        sum_by-cons weight x xs,
        lighter heavy ys all.0.one all.0.has,
        all.0.heavy,
        counted xs (without ys all.0.one all.0.has) apart.1 (still x xs ys all.0 apart.0 all.1),
      )
