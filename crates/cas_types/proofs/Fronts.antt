-- An equal front decides nothing of the order of two byte strings.
use Rattle.std.proofs.Common.{◌≡◌, ℕ, zero, suc, Bool, true, false, not, List, [], ◌∷◌, take, drop, refl, sym, ◌∙◌, subst}
use Rattle.std.specs.declared.cmp.Ordering.TheVariants.{Equal}
use Rattle.std.specs.Ordering.{nat_cmp}
use Rattle.std.specs.Prelude.{nat_eq}
use Rattle.std.specs.Cmp.Lexicographic.{pointwise, bytes_decides}
use Rattle.std.proofs.lemmas.Cmp.{tied_itself, nat_cmp_total}
use Rattle.cas_types.specs.Values.{bytes_cmp}

pub after_front : (n : ℕ) (x y : List ℕ) → take n x ≡ take n y → bytes_cmp (drop n x) (drop n y) ≡ bytes_cmp x y
after_front zero x y e = refl
after_front (suc n) [] [] e = refl
after_front (suc n) [] (b ∷ y) e = cc
after_front (suc n) (a ∷ x) [] e = cc
after_front (suc n) (a ∷ x) (b ∷ y) e =
    let same : a ≡ b = cc in
    let rest : take n x ≡ take n y = cc in
    let tie : nat_cmp a b ≡ Equal = subst (λ z. nat_cmp a z ≡ Equal) same (tied_itself nat_cmp_total a) in
    after_front n x y rest ∙ sym (rw tie refl)

-- one turn: what was tested equal is passed over
pub passed_over : (n : ℕ) (a b x y u v p q : List ℕ) (t : Bool) → u ≡ take n x → v ≡ take n y → p ≡ drop n x → q ≡ drop n y → t ≡ false → t ≡ not (pointwise nat_eq u v) → bytes_cmp x y ≡ bytes_cmp a b → bytes_cmp p q ≡ bytes_cmp a b
passed_over n a b x y u v p q t hu hv hp hq ht hne h =
    let tested : pointwise nat_eq u v ≡ true = cond_true (pointwise nat_eq u v) (sym hne ∙ ht) in
    let same : u ≡ v = (bytes_decides u v).0 tested in
    (λ i. bytes_cmp (hp i) (hq i)) ∙ after_front n x y (sym hu ∙ same ∙ hv) ∙ h
  where
    cond_true : (b : Bool) → not b ≡ false → b ≡ true
    cond_true true e = refl
    cond_true false e = sym e
