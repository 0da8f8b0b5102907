-- The order of points is total, and only the same points tie.
use Rattle.std.proofs.Common.{◌≡◌, ℕ, Bool, true, false, if◌then◌else◌, List, [], ◌∷◌, drop, refl, sym, ap, ◌∙◌, subst}
use Rattle.std.proofs.lemmas.Bool.{true≢false}
use Rattle.std.specs.declared.cmp.Ordering.{Ordering}
use Rattle.std.specs.declared.cmp.Ordering.TheVariants.{Less, Equal, Greater}
use Rattle.std.specs.Ordering.{is_eq, is_lt, is_gt, ordering_then, ordering_reverse, on, flip_args, nat_cmp}
use Rattle.std.specs.Cmp.{then_flip}
use Rattle.std.proofs.lemmas.Cmp.{on_total, back_total, nat_cmp_total, nat_list_cmp_total}
use Rattle.std.specs.FinMap.{nat_cmp-IsAntisymmetric, slice_cmp-IsAntisymmetric}
use Rattle.cas_types.specs.Orders.{Orders}
use Rattle.cas_types.specs.Values.{value_cmp}
use Rattle.cas_types.proofs.OrderLaws.{value_orders}
use Rattle.cas_bounds.specs.Orders.{first_cmp}
use Rattle.cas_bounds.specs.declared.map_key.End.{End}
use Rattle.cas_bounds.specs.declared.map_key.End.TheVariants.{Before, Row, After}
use Rattle.cas_bounds.specs.Points.{rank, beside, ends_cmp, Point, point_cmp}
use Rattle.cas_bounds.specs.declared.order.Ordered.{Ordered}

less_greater : {G : Type 0} → Less ≡ Greater → G
less_greater e = absurd (true≢false (ap is_lt e))

less_equal : {G : Type 0} → Less ≡ Equal → G
less_equal e = absurd (true≢false (ap is_lt e))

greater_less : {G : Type 0} → Greater ≡ Less → G
greater_less e = absurd (true≢false (ap is_gt e))

greater_equal : {G : Type 0} → Greater ≡ Equal → G
greater_equal e = absurd (true≢false (ap is_gt e))

equal_less : {G : Type 0} → Equal ≡ Less → G
equal_less e = absurd (true≢false (ap is_eq e))

both_equal : (r s : Ordering) → ordering_then r s ≡ Equal → (r ≡ Equal) × (s ≡ Equal)
both_equal Less s e = less_equal e
both_equal Equal s e = (refl, e)
both_equal Greater s e = greater_equal e

-- ---- the first column

flipped : (o : Ordered) (b : Bool) → Orders (if b then flip_args (value_cmp o.tag) else value_cmp o.tag)
flipped o true = record {
  total = back_total (value_orders o.tag).total;
  ties = λ x y e. sym ((value_orders o.tag).ties y x e);
}
flipped o false = value_orders o.tag

pub first_orders : (os : List Ordered) → Orders (first_cmp os)
first_orders [] = record { total = nat_list_cmp_total; ties = slice_cmp-IsAntisymmetric nat_cmp-IsAntisymmetric }
first_orders (o ∷ os) = flipped o o.descending

-- ---- rows and cuts

twice : (r : Ordering) → r ≡ ordering_reverse (ordering_reverse r)
twice Less = refl
twice Equal = refl
twice Greater = refl

flip_then : (r s t u : Ordering) → r ≡ ordering_reverse t → s ≡ ordering_reverse u → ordering_then r s ≡ ordering_reverse (ordering_then t u)
flip_then r s t u e f = (λ i. ordering_then (e i) (f i)) ∙ then_flip t u

ends_antisymm : (os : List Ordered) (m n : End) (xs ys : List (List ℕ)) → ends_cmp os m xs n ys ≡ ordering_reverse (ends_cmp os n ys m xs)
ends_antisymm os m n [] [] = nat_cmp_total.antisymm (rank m) (rank n)
ends_antisymm os m n [] (y ∷ ys) = twice (beside m)
ends_antisymm os m n (x ∷ xs) [] = refl
ends_antisymm os m n (x ∷ xs) (y ∷ ys) = flip_then _ _ _ _ ((first_orders os).total.antisymm x y) (ends_antisymm (drop 1 os) m n xs ys)

same_end : (m n : End) → rank m ≡ rank n → m ≡ n
same_end Before Before e = refl
same_end Before Row e = cc
same_end Before After e = cc
same_end Row Before e = cc
same_end Row Row e = refl
same_end Row After e = cc
same_end After Before e = cc
same_end After Row e = cc
same_end After After e = refl

beside_differs : {G : Type 0} (m : End) → beside m ≡ Equal → G
beside_differs Before e = less_equal e
beside_differs Row e = less_equal e
beside_differs After e = greater_equal e

beside_differs_back : {G : Type 0} (m : End) → ordering_reverse (beside m) ≡ Equal → G
beside_differs_back Before e = greater_equal e
beside_differs_back Row e = greater_equal e
beside_differs_back After e = less_equal e

ends_ties : (os : List Ordered) (m n : End) (xs ys : List (List ℕ)) → ends_cmp os m xs n ys ≡ Equal → (m ≡ n) × (xs ≡ ys)
ends_ties os m n [] [] e = (same_end m n (nat_cmp-IsAntisymmetric _ _ e), refl)
ends_ties os m n [] (y ∷ ys) e = beside_differs m e
ends_ties os m n (x ∷ xs) [] e = beside_differs_back n e
ends_ties os m n (x ∷ xs) (y ∷ ys) e =
    let (f, g) = both_equal _ _ e in
    let (end, rest) = ends_ties (drop 1 os) m n xs ys g in
    (end, λ i. (first_orders os).ties x y f i ∷ rest i)

lower_end : (m n : End) → nat_cmp (rank m) (rank n) ≡ Less → beside n ≡ Less → beside m ≡ Less
lower_end Before n e f = refl
lower_end Row n e f = refl
lower_end After Before e f = greater_less e
lower_end After Row e f = greater_less e
lower_end After After e f = greater_less f

around : (m k : End) → beside m ≡ Less → ordering_reverse (beside k) ≡ Less → nat_cmp (rank m) (rank k) ≡ Less
around m Before e f = greater_less f
around m Row e f = greater_less f
around Before After e f = refl
around Row After e f = refl
around After After e f = greater_less e

upper_end : (n k : End) → ordering_reverse (beside n) ≡ Less → nat_cmp (rank n) (rank k) ≡ Less → ordering_reverse (beside k) ≡ Less
upper_end Before k e f = greater_less e
upper_end Row k e f = greater_less e
upper_end After Before e f = greater_less f
upper_end After Row e f = greater_less f
upper_end After After e f = refl

no_end : {G : Type 0} (n : End) → ordering_reverse (beside n) ≡ Less → beside n ≡ Less → G
no_end Before e f = greater_less e
no_end Row e f = greater_less e
no_end After e f = greater_less f

-- the first difference of x and z comes from that of x and y or that of y and z
then_chain : {K : Type 0} {R : K → K → Ordering} (o : Orders R) (x y z : K) (s t u : Ordering) → (s ≡ Less → t ≡ Less → u ≡ Less)
    → ordering_then (R x y) s ≡ Less → ordering_then (R y z) t ≡ Less → ordering_then (R x z) u ≡ Less
then_chain {K} {R} o x y z s t u rest h k =
    elim (R x y) as (λ a. R x y ≡ a → ordering_then a s ≡ Less → ordering_then (R x z) u ≡ Less) [
      | Less ↦ λ e _. elim (R y z) as (λ b. R y z ≡ b → ordering_then b t ≡ Less → ordering_then (R x z) u ≡ Less) [
        | Less ↦ λ f _. rw (o.total.trans x y z e f) refl
        | Equal ↦ λ f _. subst (λ w. ordering_then (R x w) u ≡ Less) (o.ties y z f) (rw e refl)
        | Greater ↦ λ f g. greater_less g
      ] refl k
      | Equal ↦ λ e g. subst (λ w. ordering_then (R w z) t ≡ Less → ordering_then (R x z) u ≡ Less) (o.ties x y e)
          (elim (R x z) as (λ b. ordering_then b t ≡ Less → ordering_then b u ≡ Less) [
            | Less ↦ λ _. refl
            | Equal ↦ λ q. rest g q
            | Greater ↦ λ q. greater_less q
          ]) k
      | Greater ↦ λ e g. greater_less g
    ] refl h

ends_trans : (os : List Ordered) (m n k : End) (xs ys zs : List (List ℕ)) → ends_cmp os m xs n ys ≡ Less
    → ends_cmp os n ys k zs ≡ Less → ends_cmp os m xs k zs ≡ Less
ends_trans os m n k [] [] [] e f = nat_cmp_total.trans (rank m) (rank n) (rank k) e f
ends_trans os m n k [] [] (z ∷ zs) e f = lower_end m n e f
ends_trans os m n k [] (y ∷ ys) [] e f = around m k e f
ends_trans os m n k [] (y ∷ ys) (z ∷ zs) e f = e
ends_trans os m n k (x ∷ xs) [] [] e f = upper_end n k e f
ends_trans os m n k (x ∷ xs) [] (z ∷ zs) e f = no_end n e f
ends_trans os m n k (x ∷ xs) (y ∷ ys) [] e f = f
ends_trans os m n k (x ∷ xs) (y ∷ ys) (z ∷ zs) e f =
    then_chain (first_orders os) x y z _ _ _ (ends_trans (drop 1 os) m n k xs ys zs) e f

same_point : (os : List Ordered) (p q : Point) → point_cmp os p q ≡ Equal → p ≡ q
same_point os p q e =
    let (end, values) = ends_ties os p.end q.end p.values q.values e in
    λ i. record { end = end i; values = values i }

pub point_orders : (os : List Ordered) → Orders (point_cmp os)
point_orders os = record {
  total = record {
    antisymm = λ p q. ends_antisymm os p.end q.end p.values q.values;
    trans = λ p q r. ends_trans os p.end q.end r.end p.values q.values r.values;
    congr = λ p q r e. ap (λ s. point_cmp os s r) (same_point os p q e);
  };
  ties = same_point os;
}

-- what is told apart by its points is ordered by them
pub on_points : {K : Type 0} (f : K → Point) (os : List Ordered) → ((x y : K) → f x ≡ f y → x ≡ y) → Orders (on f (point_cmp os))
on_points f os told = record {
  total = on_total f (point_orders os).total;
  ties = λ x y e. told x y (same_point os (f x) (f y) e);
}
