-- Where keys ascend, what is given at one key is given by the one element that has it.
use Rattle.std.proofs.Common.{◌≡◌, Option, None, List, [], ◌∷◌, ◌++◌, map, ◌⊎◌, inl, inr, refl, sym, ap, ◌∙◌, subst}
use Rattle.std.specs.List.{AllByRecursion, flat_map}
use Rattle.std.specs.declared.cmp.Ordering.{Ordering}
use Rattle.std.specs.declared.cmp.Ordering.TheVariants.{Less}
use Rattle.cas_types.specs.Orders.{Orders}
use Rattle.cas_atoms.specs.Greatest.{greater, greatest}
use Rattle.cas_atoms.proofs.GreatestLemmas.{greater_none}
use Rattle.cas_laws.specs.Given.{Has}
use Rattle.cas_streams.proofs.Weaves.{Ascend}

module _ {X K Y : Type 0} (R : K → K → Ordering) (key : X → K) {cmp : Y → Y → Ordering} (o : Orders cmp) (v : X → Option Y) (x : X)
    (before : (y : X) → R (key y) (key x) ≡ Less → v y ≡ None) (behind : (y : X) → R (key x) (key y) ≡ Less → v y ≡ None) where
  nothing_behind : (xs : List X) → AllByRecursion (λ y. R (key x) (key y) ≡ Less) xs → greatest cmp v xs ≡ None
  nothing_behind [] a = refl
  nothing_behind (y ∷ ys) a = λ i. greater cmp (behind y a.0 i) (nothing_behind ys a.1 i)

  reached : (y : X) (ys : List X) → AllByRecursion (λ z. R (key y) (key z) ≡ Less) ys → Has ys x → R (key y) (key x) ≡ Less
  reached y [] a none = absurd none
  reached y (z ∷ zs) a (inl e) = ap (λ w. R (key y) (key w)) (sym e) ∙ a.0
  reached y (z ∷ zs) a (inr has) = reached y zs a.1 has

  pub single : (xs : List X) → Ascend R key xs → Has xs x → greatest cmp v xs ≡ v x
  single [] a none = absurd none
  single (y ∷ ys) a (inl e) =
      (λ i. greater cmp (v (e i)) (nothing_behind ys (subst (λ z. AllByRecursion (λ w. R (key z) (key w) ≡ Less) ys) e a.0) i)) ∙ greater_none o (v x)
  single (y ∷ ys) a (inr has) = (λ i. greater cmp (before y (reached y ys a.0 has) i) (single ys a.1 has i))

-- ---- what stands in lists that are made of others

pub has_either : {X : Type 0} (A B : List X) (a : X) → Has (A ++ B) a → Has A a ⊎ Has B a
has_either [] B a h = inr h
has_either (x ∷ A) B a (inl e) = inl (inl e)
has_either (x ∷ A) B a (inr h) = elim (has_either A B a h) [ inl i ↦ inl (inr i) | inr j ↦ inr j ]

pub has_of : {X Z : Type 0} (f : X → List Z) (xs : List X) (z : Z) → Has (flat_map f xs) z → (x : X) × Has xs x × Has (f x) z
has_of f [] z none = absurd none
has_of f (x ∷ xs) z h =
    elim (has_either (f x) (flat_map f xs) z h) [
      | inl here ↦ (x, inl refl, here)
      | inr later ↦ let (y, there, says) = has_of f xs z later in (y, inr there, says)
    ]

pub has_made : {X Z : Type 0} (f : X → Z) (xs : List X) (z : Z) → Has (map f xs) z → (x : X) × Has xs x × (f x ≡ z)
has_made f [] z none = absurd none
has_made f (x ∷ xs) z (inl e) = (x, inl refl, e)
has_made f (x ∷ xs) z (inr h) = let (y, there, e) = has_made f xs z h in (y, inr there, e)
