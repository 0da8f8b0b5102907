-- The order of the keys of a map of rows is total, and only equal keys tie.
use Rattle.std.proofs.Common.{◌≡◌, ℕ, ◌==◌, if◌then◌else◌, Bool, true, false, List, refl, sym, ap, ◌∙◌}
use Rattle.std.proofs.lemmas.Bool.{true≢false}
use Rattle.std.proofs.lemmas.Cmp.{tied_itself}
use Rattle.std.specs.declared.cmp.Ordering.{Ordering}
use Rattle.std.specs.declared.cmp.Ordering.TheVariants.{Less, Equal, Greater}
use Rattle.std.specs.Ordering.{is_lt, is_gt, ordering_then, ordering_reverse, bool_cmp}
use Rattle.std.specs.Cmp.{IsTotalOrder, then_total, on_total, nat_cmp_total, bool_cmp_total}
use Rattle.std.specs.Cmp.Lexicographic.{lists_total}
use Rattle.std.specs.FinMap.{nat_cmp-IsAntisymmetric, slice_cmp-IsAntisymmetric}
use Rattle.cas_types.specs.declared.tag.TypeTag.{TypeTag}
use Rattle.cas_types.specs.declared.tag.TypeTag.TheVariants as tag
use Rattle.cas_types.specs.Orders.{Orders}
use Rattle.cas_bounds.specs.Points.{point_cmp}
use Rattle.cas_bounds.specs.Keys.{tag_rank, ordered_cmp, orders_cmp, key_point, key_cmp, KeysArePoints}
use Rattle.cas_bounds.specs.declared.order.Ordered.{Ordered}
use Rattle.cas_bounds.specs.declared.map_key.MapKey.{MapKey}
use Rattle.cas_bounds.specs.Inner.PointLaws.{point_orders}

ranked : ℕ → TypeTag
ranked n =
    if n == 0 then tag.Ascii else if n == 1 then tag.BigInt else if n == 2 then tag.Blob else if n == 3 then tag.Boolean else
    if n == 4 then tag.Date else if n == 5 then tag.Int else if n == 6 then tag.SmallInt else if n == 7 then tag.Text else
    if n == 8 then tag.Time else if n == 9 then tag.Timestamp else if n == 10 then tag.TimeUuid else if n == 11 then tag.TinyInt else tag.Uuid

rank_back : (t : TypeTag) → ranked (tag_rank t) ≡ t
unfolding ranked
rank_back tag.Ascii = refl
rank_back tag.BigInt = refl
rank_back tag.Blob = refl
rank_back tag.Boolean = refl
rank_back tag.Date = refl
rank_back tag.Int = refl
rank_back tag.SmallInt = refl
rank_back tag.Text = refl
rank_back tag.Time = refl
rank_back tag.Timestamp = refl
rank_back tag.TimeUuid = refl
rank_back tag.TinyInt = refl
rank_back tag.Uuid = refl

bool_ties : (p q : Bool) → bool_cmp p q ≡ Equal → p ≡ q
bool_ties false false e = refl
bool_ties false true e = absurd (true≢false (ap is_lt e))
bool_ties true false e = absurd (true≢false (ap is_gt e))
bool_ties true true e = refl

both_equal : (r s : Ordering) → ordering_then r s ≡ Equal → (r ≡ Equal) × (s ≡ Equal)
both_equal Less s e = absurd (true≢false (ap is_lt e))
both_equal Equal s e = (refl, e)
both_equal Greater s e = absurd (true≢false (ap is_gt e))

ordered_ties : (a b : Ordered) → ordered_cmp a b ≡ Equal → a ≡ b
ordered_ties a b e =
    let (f, g) = both_equal _ _ e in
    let t : a.tag ≡ b.tag = sym (rank_back a.tag) ∙ ap ranked (nat_cmp-IsAntisymmetric (tag_rank a.tag) (tag_rank b.tag) f) ∙ rank_back b.tag in
    λ i. record { tag = t i; descending = bool_ties a.descending b.descending g i }

orders_total : IsTotalOrder orders_cmp
orders_total = lists_total (then_total (on_total (λ (o : Ordered). tag_rank o.tag) nat_cmp_total) (on_total (λ (o : Ordered). o.descending) bool_cmp_total))

orders_ties : (a b : List Ordered) → orders_cmp a b ≡ Equal → a ≡ b
orders_ties a b e = slice_cmp-IsAntisymmetric ordered_ties a b e

module _ {O V : Type 0} {R : O → O → Ordering} {S : O → V → V → Ordering} (ot : IsTotalOrder R) (tie : (a b : O) → R a b ≡ Equal → a ≡ b)
    (vo : (o : O) → Orders (S o)) where
  flip : (a b : O) (v w : V) → ordering_then (R a b) (S a v w) ≡ ordering_reverse (ordering_then (R b a) (S b w v))
  flip a b v w =
      elim (R b a) as (λ t. R b a ≡ t → ordering_then (R a b) (S a v w) ≡ ordering_reverse (ordering_then t (S b w v))) [
        | Less ↦ λ e. ap (λ r. ordering_then r (S a v w)) (ot.antisymm a b ∙ ap ordering_reverse e)
        | Equal ↦ λ e. ap (λ r. ordering_then r (S a v w)) (ot.antisymm a b ∙ ap ordering_reverse e)
            ∙ ap (λ o. S o v w) (sym (tie b a e)) ∙ (vo b).total.antisymm v w
        | Greater ↦ λ e. ap (λ r. ordering_then r (S a v w)) (ot.antisymm a b ∙ ap ordering_reverse e)
      ] refl

  chain : (a b c : O) (u v w : V) → ordering_then (R a b) (S a u v) ≡ Less → ordering_then (R b c) (S b v w) ≡ Less → ordering_then (R a c) (S a u w) ≡ Less
  chain a b c u v w h k =
      elim (R a b) as (λ t. R a b ≡ t → ordering_then t (S a u v) ≡ Less → ordering_then (R a c) (S a u w) ≡ Less) [
        | Less ↦ λ e _. elim (R b c) as (λ t. R b c ≡ t → ordering_then t (S b v w) ≡ Less → ordering_then (R a c) (S a u w) ≡ Less) [
          | Less ↦ λ f _. ap (λ r. ordering_then r (S a u w)) (ot.trans a b c e f)
          | Equal ↦ λ f _. ap (λ r. ordering_then r (S a u w)) (ap (R a) (sym (tie b c f)) ∙ e)
          | Greater ↦ λ f g. absurd (true≢false (sym (ap is_lt g)))
        ] refl k
        | Equal ↦ λ e g. elim (R a c) as (λ t. R a c ≡ t → ordering_then t (S a u w) ≡ Less) [
          | Less ↦ λ f. refl
          | Equal ↦ λ f. (vo a).total.trans u v w g (ap (λ o. S o v w) (tie a b e) ∙ ap (λ r. ordering_then r (S b v w)) (sym (sym (ot.congr a b c e) ∙ f)) ∙ k)
          | Greater ↦ λ f. absurd (true≢false ((ap is_lt (sym k) ∙ ap is_lt (ap (λ r. ordering_then r (S b v w)) (sym (ot.congr a b c e) ∙ f)))))
        ] refl
        | Greater ↦ λ e g. absurd (true≢false (sym (ap is_lt g)))
      ] refl h

pub key_ties : (x y : MapKey) → key_cmp x y ≡ Equal → x ≡ y
key_ties x y e =
    let (f, g) = both_equal _ _ e in
    let orders : x.order ≡ y.order = orders_ties x.order y.order f in
    let points : key_point x ≡ key_point y = (point_orders x.order).ties (key_point x) (key_point y) g in
    λ i. record { values = (points i).values; end = (points i).end; order = orders i }

pub key_total : IsTotalOrder key_cmp
key_total = record {
  antisymm = λ x y. flip orders_total orders_ties point_orders x.order y.order (key_point x) (key_point y);
  trans = λ x y z h k. chain orders_total orders_ties point_orders x.order y.order z.order (key_point x) (key_point y) (key_point z) h k;
  congr = λ x y z e. ap (λ c. key_cmp c z) (key_ties x y e);
}

pub keys_are_points : KeysArePoints
keys_are_points a b e =
    ap (λ r. ordering_then r (point_cmp a.order (key_point a) (key_point b))) (ap (λ o. orders_cmp a.order o) (sym e) ∙ tied_itself orders_total a.order)
