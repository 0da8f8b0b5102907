-- The orders of rows and of cuts are parts of the order of points, and a row is past a cut where its point is above the cut's.
use Rattle.std.proofs.Common.{◌≡◌, ℕ, Bool, true, false, not, ◌&&◌, if◌then◌else◌, List, [], ◌∷◌, take, drop, length, refl, sym, ap, ◌∙◌, subst}
use Rattle.std.proofs.lemmas.Bool.{true≢false}
use Rattle.std.specs.declared.cmp.Ordering.{Ordering}
use Rattle.std.specs.declared.cmp.Ordering.TheVariants.{Less, Equal, Greater}
use Rattle.std.specs.Ordering.{is_lt, is_gt, ordering_then, ordering_reverse, bool_cmp}
use Rattle.std.proofs.lemmas.Cmp.{tied_itself}
use Rattle.cas_types.specs.Orders.{Orders}
use Rattle.cas_bounds.specs.Orders.{first_cmp, values_cmp}
use Rattle.cas_bounds.specs.Cuts.{prefixes_cmp}
use Rattle.cas_bounds.specs.Laws.{Place, RowOrders, CutOrders, CutsDivideRows, OwnPlaces, PointLaws}
use Rattle.cas_bounds.specs.declared.order.Ordered.{Ordered}
use Rattle.cas_bounds.specs.declared.map_key.End.TheVariants.{Row}
use Rattle.cas_bounds.specs.Points.{beside, rank, ends_cmp, Point, point_cmp, side}
use Rattle.cas_bounds.specs.Inner.PointLaws.{point_orders, on_points, first_orders}

-- ---- rows

rows_as_points : (os : List Ordered) (xs ys : List (List ℕ)) → values_cmp os xs ys ≡ ends_cmp os Row xs Row ys
rows_as_points os [] [] = refl
rows_as_points os [] (y ∷ ys) = refl
rows_as_points os (x ∷ xs) [] = refl
rows_as_points os (x ∷ xs) (y ∷ ys) = ap (ordering_then (first_cmp os x y)) (rows_as_points (drop 1 os) xs ys)

pub row_orders : RowOrders
row_orders os = subst Orders (λ i xs ys. sym (rows_as_points os xs ys) i) (on_points (λ (xs : List (List ℕ)). record { end = Row; values = xs }) os (λ xs ys e. ap (λ p. p.values) e))

-- ---- cuts

sides : (p q : Bool) → bool_cmp p q ≡ ends_cmp [] (side p) [] (side q) []
sides false false = refl
sides false true = refl
sides true false = refl
sides true true = refl

low : (p : Bool) → (if p then Greater else Less) ≡ beside (side p)
low false = refl
low true = refl

high : (p : Bool) → (if p then Less else Greater) ≡ ordering_reverse (beside (side p))
high false = refl
high true = refl

cuts_as_points : (os : List Ordered) (xs : List (List ℕ)) (p : Bool) (ys : List (List ℕ)) (q : Bool) → prefixes_cmp os xs p ys q ≡ ends_cmp os (side p) xs (side q) ys
cuts_as_points os [] p [] q = sides p q
cuts_as_points os [] p (y ∷ ys) q = low p
cuts_as_points os (x ∷ xs) p [] q = high q
cuts_as_points os (x ∷ xs) p (y ∷ ys) q = ap (ordering_then (first_cmp os x y)) (cuts_as_points (drop 1 os) xs p ys q)

same_side : (p q : Bool) → rank (side p) ≡ rank (side q) → p ≡ q
same_side false false e = refl
same_side false true e = cc
same_side true false e = cc
same_side true true e = refl

pub cut_orders : CutOrders
cut_orders os =
    subst Orders (λ i p q. sym (cuts_as_points os p.prefix p.after q.prefix q.after) i)
    (on_points (λ (p : Place). record { end = side p.after; values = p.prefix }) os
    (λ p q e. λ i. record { prefix = (e i).values; after = same_side p.after q.after (ap (λ r. rank r.end) e) i }))

-- ---- what is past a cut

abbrev judge : Bool → Ordering → Bool
judge p r = if p then is_gt r else not (is_lt r)

judge_then : (p : Bool) (r s t : Ordering) → judge p s ≡ is_lt t → judge p (ordering_then r s) ≡ is_lt (ordering_then (ordering_reverse r) t)
judge_then false Less s t e = refl
judge_then true Less s t e = refl
judge_then p Equal s t e = e
judge_then false Greater s t e = refl
judge_then true Greater s t e = refl

past_as_points : (os : List Ordered) (p : Bool) (q d : List (List ℕ)) → judge p (values_cmp os (take (length q) d) q) ≡ is_lt (ends_cmp os (side p) q Row d)
past_as_points os false [] [] = refl
past_as_points os true [] [] = refl
past_as_points os false [] (y ∷ ys) = refl
past_as_points os true [] (y ∷ ys) = refl
past_as_points os false (x ∷ xs) [] = refl
past_as_points os true (x ∷ xs) [] = refl
past_as_points os p (x ∷ xs) (y ∷ ys) =
    judge_then p (first_cmp os y x) _ _ (past_as_points (drop 1 os) p xs ys)
    ∙ ap (λ r. is_lt (ordering_then r (ends_cmp (drop 1 os) (side p) xs Row ys))) (sym ((first_orders os).total.antisymm x y))

is_less : (r : Ordering) → is_lt r ≡ true → r ≡ Less
is_less Less e = refl
is_less Equal e = absurd (true≢false (sym e))
is_less Greater e = absurd (true≢false (sym e))

below : (os : List Ordered) (p q r : Point) → is_gt (point_cmp os p q) ≡ false → is_lt (point_cmp os q r) ≡ true → is_lt (point_cmp os p r) ≡ true
below os p q r not_above past =
    elim (point_cmp os p q) as (λ a. point_cmp os p q ≡ a → is_gt a ≡ false → is_lt (point_cmp os p r) ≡ true) [
      | Less ↦ λ e _. ap is_lt ((point_orders os).total.trans p q r e (is_less _ past))
      | Equal ↦ λ e _. ap is_lt ((point_orders os).total.congr p q r e) ∙ past
      | Greater ↦ λ e g. absurd (true≢false g)
    ] refl not_above

pub cuts_divide_rows : CutsDivideRows
cuts_divide_rows a b d same not_above past =
    let lower : is_gt (ends_cmp a.order (side a.after) a.prefix (side b.after) b.prefix) ≡ false =
    ap is_gt (sym (cuts_as_points a.order a.prefix a.after b.prefix b.after)) ∙ not_above in
    let upper : is_lt (ends_cmp a.order (side b.after) b.prefix Row d) ≡ true =
    ap (λ os. is_lt (ends_cmp os (side b.after) b.prefix Row d)) same ∙ (sym (past_as_points b.order b.after b.prefix d) ∙ past) in
    past_as_points a.order a.after a.prefix d
    ∙ below a.order (record { end = side a.after; values = a.prefix }) (record { end = side b.after; values = b.prefix }) (record { end = Row; values = d }) lower upper

-- ---- the place of a prefix

between : (r : Ordering) → (not (is_lt r) && not (is_gt r)) ≡ true → r ≡ Equal
between Less e = absurd (true≢false (sym e))
between Equal e = refl
between Greater e = absurd (true≢false (sym e))

pub own_places : OwnPlaces
own_places order q d = (
  λ e. (row_orders order).ties (take (length q) d) q (between (values_cmp order (take (length q) d) q) e),
  λ e. ap (λ r. not (is_lt r) && not (is_gt r)) (ap (λ s. values_cmp order s q) e ∙ tied_itself (row_orders order).total q),
)

-- ---- rows and cuts are points

pub point_laws : PointLaws
point_laws = record {
  orders = point_orders;
  rows = rows_as_points;
  cuts = λ a b. cuts_as_points a.order a.prefix a.after b.prefix b.after;
  past = λ cut c. past_as_points cut.order cut.after cut.prefix c;
}
