-- Two files overlap exactly where a key may be in both.
use Rattle.std.proofs.Common.{◌≡◌, ℕ, Bool, true, false, not, List, refl, sym, ap, ◌∙◌}
use Rattle.std.specs.declared.cmp.Ordering.{Ordering}
use Rattle.std.specs.declared.cmp.Ordering.TheVariants.{Less, Equal, Greater}
use Rattle.std.specs.Ordering.{is_gt, ordering_reverse}
use Rattle.std.specs.Cmp.{IsTotalOrder}
use Rattle.std.proofs.lemmas.Bool.{and_parts, and_from}
use Rattle.std.proofs.lemmas.Cmp.{nat_list_cmp_total}
use Rattle.cas_types.specs.Values.{bytes_cmp}
use Rattle.cas_info.specs.declared.info.TableInfo.{TableInfo}
use Rattle.cas_info.specs.Overlaps.{reaches, overlaps, MayHold}

order : IsTotalOrder bytes_cmp
order = nat_list_cmp_total

below_tie : (x y z : List ℕ) → bytes_cmp y z ≡ Equal → bytes_cmp x z ≡ bytes_cmp x y
below_tie x y z tie =
    order.antisymm x z ∙ ap (λ (o : Ordering). ordering_reverse o) (sym (order.congr y z x tie)) ∙ sym (order.antisymm x y)

reaches_by : (x y z : List ℕ) (r s : Ordering) → bytes_cmp x y ≡ r → bytes_cmp y z ≡ s → not (is_gt r) ≡ true → not (is_gt s) ≡ true → not (is_gt (bytes_cmp x z)) ≡ true
reaches_by x y z Less Less e f a b = ap (λ (o : Ordering). not (is_gt o)) (order.trans x y z e f)
reaches_by x y z Less Equal e f a b = ap (λ (o : Ordering). not (is_gt o)) (below_tie x y z f ∙ e)
reaches_by x y z Less Greater e f a b = absurd cc
reaches_by x y z Equal s e f a b = ap (λ (o : Ordering). not (is_gt o)) (order.congr x y z e ∙ f) ∙ b
reaches_by x y z Greater s e f a b = absurd cc

-- what reaches a key that reaches another one reaches that
reaches_on : (x y z : List ℕ) → reaches x y ≡ true → reaches y z ≡ true → reaches x z ≡ true
reaches_on x y z a b = reaches_by x y z (bytes_cmp x y) (bytes_cmp y z) refl refl a b

reaches_self_by : (x : List ℕ) (r : Ordering) → bytes_cmp x x ≡ r → not (is_gt r) ≡ true
reaches_self_by x Less e = refl
reaches_self_by x Equal e = refl
reaches_self_by x Greater e =
    let other : bytes_cmp x x ≡ Less = order.antisymm x x ∙ ap (λ (o : Ordering). ordering_reverse o) e in
    absurd cc

reaches_self : (x : List ℕ) → reaches x x ≡ true
reaches_self x = reaches_self_by x (bytes_cmp x x) refl

-- of two keys one reaches the other
either_by : (x y : List ℕ) (r : Ordering) → bytes_cmp x y ≡ r → not (is_gt r) ≡ false → reaches y x ≡ true
either_by x y Less e f = absurd cc
either_by x y Equal e f = absurd cc
either_by x y Greater e f =
    ap (λ (o : Ordering). not (is_gt o)) (order.antisymm y x ∙ ap (λ (o : Ordering). ordering_reverse o) e)

-- the greater of the first keys is in both
shared_by : (a b : TableInfo) (r : Bool) → reaches a.first b.first ≡ r → reaches a.first a.last ≡ true → reaches b.first b.last ≡ true → overlaps a b ≡ true
    → (key : List ℕ) × MayHold a key × MayHold b key
shared_by a b true e fa fb o =
    let p = and_parts (reaches a.first b.last) (reaches b.first a.last) o in
    (b.first, (e, p.1), (reaches_self b.first, fb))
shared_by a b false e fa fb o =
    let p = and_parts (reaches a.first b.last) (reaches b.first a.last) o in
    (a.first, (reaches_self a.first, fa), (either_by a.first b.first (bytes_cmp a.first b.first) refl e, p.0))

pub shared : (a b : TableInfo) → reaches a.first a.last ≡ true → reaches b.first b.last ≡ true → overlaps a b ≡ true → (key : List ℕ) × MayHold a key × MayHold b key
shared a b fa fb o = shared_by a b (reaches a.first b.first) refl fa fb o

pub found : (a b : TableInfo) (key : List ℕ) → MayHold a key → MayHold b key → overlaps a b ≡ true
found a b key ha hb =
    and_from (reaches a.first b.last) (reaches b.first a.last) (reaches_on a.first key b.last ha.0 hb.1) (reaches_on b.first key a.last hb.0 ha.1)
