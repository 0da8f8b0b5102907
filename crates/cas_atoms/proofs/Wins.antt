-- Which of two is the greater, by the test whether the second wins.
use Rattle.std.proofs.Common.{◌≡◌, Bool, true, false, cond, Option, Some, refl, sym, ap, ◌∙◌}
use Rattle.std.specs.declared.cmp.Ordering.{Ordering}
use Rattle.std.specs.declared.cmp.Ordering.TheVariants.{Less, Equal, Greater}
use Rattle.std.specs.Ordering.{is_lt, is_gt, ordering_reverse}
use Rattle.cas_types.specs.Orders.{Orders}
use Rattle.cas_atoms.specs.Greatest.{greater}

turned_round : (r : Ordering) → is_lt (ordering_reverse r) ≡ is_gt r
turned_round Less = refl
turned_round Equal = refl
turned_round Greater = refl

module _ {Y : Type 0} {cmp : Y → Y → Ordering} (o : Orders cmp) (x y : Y) where
  pub below : (t : Bool) → is_gt (cmp y x) ≡ t → is_lt (cmp x y) ≡ t
  below t e = ap is_lt (o.total.antisymm x y) ∙ turned_round (cmp y x) ∙ e

  pub second_wins : (a b : Option Y) → a ≡ Some x → b ≡ Some y → is_gt (cmp y x) ≡ true → Some y ≡ greater cmp a b
  second_wins a b p q e = sym ((λ i. greater cmp (p i) (q i)) ∙ ap (λ t. Some (cond t y x)) (below true e))

  pub first_stays : (a b : Option Y) → a ≡ Some x → b ≡ Some y → is_gt (cmp y x) ≡ false → Some x ≡ greater cmp a b
  first_stays a b p q e = sym ((λ i. greater cmp (p i) (q i)) ∙ ap (λ t. Some (cond t y x)) (below false e))
