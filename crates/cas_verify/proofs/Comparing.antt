-- Fields that are compared one by one.
use Rattle.std.proofs.Common.{◌≡◌, ℕ, ◌+◌, ◌<◌, ◌≤◌, List, [], ◌∷◌, ◌++◌, length, drop, get_or, Result, Ok, Err, refl, ap, ◌∙◌}
use Rattle.std.specs.List.{flat_map}
use Rattle.std.proofs.lemmas.List.{drop_more, drop_all}
use Rattle.cas_codec.specs.Reading.{Left, Read, ◌>>=◌, Gives}
use Rattle.cas_codec.specs.declared.fault.ReadFault.{ReadFault}
use Rattle.cas_codec.specs.declared.fault.ReadFault.TheVariants.{Short, Bad, Mem}
use Rattle.cas_verify.specs.Fields.{field_at, fields_at}

regroup : {A : Type 0} (r : Read A) (f : A × Left → Read (Unit {0})) (g : Unit {0} × Left → Read (Unit {0})) → (r >>= λ p. (f p >>= g)) ≡ ((r >>= f) >>= g)
regroup (Ok p) f g = refl
regroup (Err e) f g = refl

-- some fields, and those behind them
pub fields_both : (xs ys : List (List ℕ)) (left : Left) → fields_at (xs ++ ys) left ≡ (fields_at xs left >>= λ p. fields_at ys p.1)
unfolding fields_at
fields_both [] ys left = refl
fields_both (x ∷ xs) ys left =
    (λ i. field_at x left >>= λ p. fields_both xs ys p.1 i) ∙ regroup (field_at x left) (λ p. fields_at xs p.1) (λ p. fields_at ys p.1)

module _ {X : Type 0} (fields : X → List (List ℕ)) (xs : List X) where
  -- what is left to be compared comes to the same
  abbrev pub IsOn : ℕ → Left → Left → Type 0
  IsOn i start now = fields_at (flat_map fields xs) start ≡ fields_at (flat_map fields (drop i xs)) now

  next : (i : ℕ) (x : X) (start now : Left) → i < length xs → get_or xs i x ≡ x → IsOn i start now
      → fields_at (flat_map fields xs) start ≡ (fields_at (fields x) now >>= λ p. fields_at (flat_map fields (drop (i + 1) xs)) p.1)
  next i x start now more is on =
      on ∙ ap (λ ys. fields_at (flat_map fields ys) now) (drop_more xs i x more ∙ ap (λ y. y ∷ drop (i + 1) xs) is)
      ∙ fields_both (fields x) (flat_map fields (drop (i + 1) xs)) now

  pub on_more : (i : ℕ) (x : X) (start now new : Left) → i < length xs → get_or xs i x ≡ x → fields_at (fields x) now ≡ Ok (tt, new) → IsOn i start now → IsOn (i + 1) start new
  on_more i x start now new more is e on =
      next i x start now more is on ∙ ap (λ r. r >>= λ p. fields_at (flat_map fields (drop (i + 1) xs)) p.1) e

  pub on_fault : (i : ℕ) (x : X) (start now new after : Left) (f : ReadFault) → i < length xs → get_or xs i x ≡ x
      → Gives (λ (u : Unit {0}). u) (Err f) new (fields_at (fields x) now) → IsOn i start now → Gives (λ (u : Unit {0}). u) (Err f) after (fields_at (flat_map fields xs) start)
  on_fault i x start now new after (Short at) more is e on =
      next i x start now more is on ∙ ap (λ r. r >>= λ p. fields_at (flat_map fields (drop (i + 1) xs)) p.1) e
  on_fault i x start now new after (Bad at) more is e on =
      next i x start now more is on ∙ ap (λ r. r >>= λ p. fields_at (flat_map fields (drop (i + 1) xs)) p.1) e
  on_fault i x start now new after Mem more is e on = tt

  pub on_all : (i : ℕ) (start now : Left) → length xs ≤ i → IsOn i start now → fields_at (flat_map fields xs) start ≡ Ok (tt, now)
  unfolding fields_at
  on_all i start now through on = on ∙ ap (λ ys. fields_at (flat_map fields ys) now) (drop_all i xs through)

-- some fields, and then others
pub then_gives : (xs ys : List (List ℕ)) (start now new : Left) (r : Result (Unit {0}) ReadFault) → fields_at xs start ≡ Ok (tt, now)
    → Gives (λ (u : Unit {0}). u) r new (fields_at ys now) → Gives (λ (u : Unit {0}). u) r new (fields_at (xs ++ ys) start)
then_gives xs ys start now new (Ok u) e is = fields_both xs ys start ∙ ap (λ r. r >>= λ p. fields_at ys p.1) e ∙ is
then_gives xs ys start now new (Err (Short at)) e is = fields_both xs ys start ∙ ap (λ r. r >>= λ p. fields_at ys p.1) e ∙ is
then_gives xs ys start now new (Err (Bad at)) e is = fields_both xs ys start ∙ ap (λ r. r >>= λ p. fields_at ys p.1) e ∙ is
then_gives xs ys start now new (Err Mem) e is = tt

pub then_fault : (xs ys : List (List ℕ)) (start new after : Left) (f : ReadFault) → Gives (λ (u : Unit {0}). u) (Err f) new (fields_at xs start)
    → Gives (λ (u : Unit {0}). u) (Err f) after (fields_at (xs ++ ys) start)
then_fault xs ys start new after (Short at) e = fields_both xs ys start ∙ ap (λ r. r >>= λ p. fields_at ys p.1) e
then_fault xs ys start new after (Bad at) e = fields_both xs ys start ∙ ap (λ r. r >>= λ p. fields_at ys p.1) e
then_fault xs ys start new after Mem e = tt
