-- What is in force in two streams joined: the greater of what is in force in each.
use Rattle.std.proofs.Common.{◌≡◌, Bool, true, false, cond, Option, List, [], ◌∷◌, refl, sym, ap, ◌∙◌, subst}
use Rattle.std.specs.List.{AllByRecursion}
use Rattle.std.specs.declared.cmp.Ordering.TheVariants.{Less, Equal}
use Rattle.std.specs.Ordering.{ordering_reverse}
use Rattle.std.specs.Cmp.{IsTotalOrder}
use Rattle.std.specs.Cmp.Lexicographic.{options_total}
use Rattle.cas_cell.specs.Deletions.{deletion_cmp}
use Rattle.cas_cell.specs.declared.deletion.Deletion.{Deletion}
use Rattle.cas_cell.proofs.OrderLaws.{deletion_laws}
use Rattle.cas_bounds.specs.declared.order.Ordered.{Ordered}
use Rattle.cas_bounds.specs.declared.cuts.Cut.{Cut}
use Rattle.cas_bounds.specs.Points.{point_cmp, cut_point}
use Rattle.cas_bounds.proofs.CutLaws.{point_laws}
use Rattle.cas_atoms.specs.Greatest.{greater}
use Rattle.cas_atoms.proofs.GreatestLemmas.{greater_comm}
use Rattle.cas_streams.specs.Places.{Place, place_cmp, place_of}
use Rattle.cas_streams.specs.Flat.{changes, after}
use Rattle.cas_streams.specs.Streams.{IsOf}
use Rattle.cas_streams.specs.Weaving.{rights, among, woven}
use Rattle.cas_streams.specs.Joined.{Forces, raised, opened, joined_fragment, fragment_cmp, by_place}
use Rattle.cas_streams.specs.declared.fragment.Fragment.{Fragment}
use Rattle.cas_streams.specs.declared.fragment.Fragment.TheVariants as fragment
use Rattle.cas_streams.proofs.Weaves.{Ascend, by_case, woven_all, all_so}
use Rattle.cas_streams.proofs.Twins.{Twins, twins}

abbrev pub forces : Option Deletion → Option Deletion → Forces
forces d e = record { left = d; right = e }

-- a test of cuts that stays false once it is
abbrev pub Falls : List Ordered → (Cut → Bool) → Type 0
Falls order t = (k l : Cut) → k.order ≡ order → l.order ≡ order → point_cmp order (cut_point k) (cut_point l) ≡ Less → t k ≡ false → t l ≡ false

-- ... and is one at one point
abbrev pub AtPoints : List Ordered → (Cut → Bool) → Type 0
AtPoints order t = (k l : Cut) → k.order ≡ order → l.order ≡ order → cut_point k ≡ cut_point l → t k ≡ t l

abbrev pub Stopped : (Cut → Bool) → Fragment → Type 0
Stopped t (fragment.Static cs) = Unit {0}
Stopped t (fragment.Row r) = Unit {0}
Stopped t (fragment.Marker k d) = t k ≡ false

-- the fragment is a marker at which the test is false
abbrev Stops : (Cut → Bool) → Fragment → Type 0
Stops t (fragment.Static cs) = ⊥
Stops t (fragment.Row r) = ⊥
Stops t (fragment.Marker k d) = t k ≡ false

module _ (t : Cut → Bool) where
  pub stopped : (now : Option Deletion) (fs : List Fragment) → AllByRecursion (Stopped t) fs → after t now (changes fs) ≡ now
  stopped now [] a = refl
  stopped now (fragment.Static cs ∷ fs) a = stopped now fs a.1
  stopped now (fragment.Row r ∷ fs) a = stopped now fs a.1
  stopped now (fragment.Marker k d ∷ fs) a = ap (λ b. after t (cond b d now) (changes fs)) a.0 ∙ stopped now fs a.1

  raised_stopped : (other : Option Deletion) (f : Fragment) → Stopped t f → Stopped t (raised other f)
  raised_stopped other (fragment.Static cs) a = tt
  raised_stopped other (fragment.Row r) a = tt
  raised_stopped other (fragment.Marker k d) a = a

  joined_stopped : (f g : Fragment) → Twins f g → Stopped t f → Stopped t (joined_fragment f g)
  joined_stopped (fragment.Static cs) (fragment.Static ds) e a = tt
  joined_stopped (fragment.Row r) (fragment.Row s) e a = tt
  joined_stopped (fragment.Marker k d) (fragment.Marker l f) e a = a
  joined_stopped f g e a = absurd e

  woven_stopped : (s : Forces) (xs ys : List Fragment) → AllByRecursion (Stopped t) xs → AllByRecursion (Stopped t) ys → AllByRecursion (Stopped t) (woven by_place s xs ys)
  woven_stopped s xs ys a b =
      woven_all by_place (Stopped t) (λ s f h. raised_stopped s.right f h) (λ s f h. raised_stopped s.left f h) (λ s f g e h k. joined_stopped f g (twins f g e) h) s xs ys a b

  -- ---- a step

  module _ (d e : Option Deletion) where
    step_left : (x : Fragment) (zs xs ys : List Fragment)
        → after t (greater deletion_cmp (opened d x) e) (changes zs) ≡ greater deletion_cmp (after t (opened d x) (changes xs)) (after t e (changes ys))
        → (Stops t x → AllByRecursion (Stopped t) xs × AllByRecursion (Stopped t) ys × AllByRecursion (Stopped t) zs)
        → after t (greater deletion_cmp d e) (changes (raised e x ∷ zs)) ≡ greater deletion_cmp (after t d (changes (x ∷ xs))) (after t e (changes ys))
    step_left (fragment.Static cs) zs xs ys h stop = h
    step_left (fragment.Row r) zs xs ys h stop = h
    step_left (fragment.Marker k f) zs xs ys h stop =
        elim (t k) as (λ b. t k ≡ b → after t (cond b (greater deletion_cmp f e) (greater deletion_cmp d e)) (changes zs) ≡ greater deletion_cmp (after t (cond b f d) (changes xs)) (after t e (changes ys))) [
          | true ↦ λ p. h
          | false ↦ λ p.
              let (a, b, c) = stop p in
              stopped (greater deletion_cmp d e) zs c ∙ (λ i. greater deletion_cmp (sym (stopped d xs a) i) (sym (stopped e ys b) i))
        ] refl

    step_right : (y : Fragment) (zs xs ys : List Fragment)
        → after t (greater deletion_cmp d (opened e y)) (changes zs) ≡ greater deletion_cmp (after t d (changes xs)) (after t (opened e y) (changes ys))
        → (Stops t y → AllByRecursion (Stopped t) xs × AllByRecursion (Stopped t) ys × AllByRecursion (Stopped t) zs)
        → after t (greater deletion_cmp d e) (changes (raised d y ∷ zs)) ≡ greater deletion_cmp (after t d (changes xs)) (after t e (changes (y ∷ ys)))
    step_right (fragment.Static cs) zs xs ys h stop = h
    step_right (fragment.Row r) zs xs ys h stop = h
    step_right (fragment.Marker k f) zs xs ys h stop =
        elim (t k) as (λ b. t k ≡ b → after t (cond b (greater deletion_cmp f d) (greater deletion_cmp d e)) (changes zs) ≡ greater deletion_cmp (after t d (changes xs)) (after t (cond b f e) (changes ys))) [
          | true ↦ λ p. ap (λ g. after t g (changes zs)) (greater_comm deletion_laws.orders f d) ∙ h
          | false ↦ λ p.
              let (a, b, c) = stop p in
              stopped (greater deletion_cmp d e) zs c ∙ (λ i. greater deletion_cmp (sym (stopped d xs a) i) (sym (stopped e ys b) i))
        ] refl

    step_both : (x y : Fragment) (zs xs ys : List Fragment) → Twins x y
        → ((k l : Cut) → (f g : Option Deletion) → x ≡ fragment.Marker k f → y ≡ fragment.Marker l g → t k ≡ t l)
        → after t (greater deletion_cmp (opened d x) (opened e y)) (changes zs) ≡ greater deletion_cmp (after t (opened d x) (changes xs)) (after t (opened e y) (changes ys))
        → (Stops t x → AllByRecursion (Stopped t) xs × AllByRecursion (Stopped t) ys × AllByRecursion (Stopped t) zs)
        → after t (greater deletion_cmp d e) (changes (joined_fragment x y ∷ zs)) ≡ greater deletion_cmp (after t d (changes (x ∷ xs))) (after t e (changes (y ∷ ys)))
    step_both (fragment.Static cs) (fragment.Static ds) zs xs ys twin same h stop = h
    step_both (fragment.Row r) (fragment.Row s) zs xs ys twin same h stop = h
    step_both (fragment.Marker k f) (fragment.Marker l g) zs xs ys twin same h stop =
        ap (λ b. after t (cond b (greater deletion_cmp f g) (greater deletion_cmp d e)) (changes zs)) refl
        ∙ elim (t k) as (λ b. t k ≡ b → after t (cond b (greater deletion_cmp f g) (greater deletion_cmp d e)) (changes zs) ≡ greater deletion_cmp (after t (cond b f d) (changes xs)) (after t (cond b g e) (changes ys))) [
          | true ↦ λ p. h
          | false ↦ λ p.
              let (a, b, c) = stop p in
              stopped (greater deletion_cmp d e) zs c ∙ (λ i. greater deletion_cmp (sym (stopped d xs a) i) (sym (stopped e ys b) i))
        ] refl
        ∙ ap (λ b. greater deletion_cmp (after t (cond (t k) f d) (changes xs)) (after t (cond b g e) (changes ys))) (same k l f g refl refl)
    step_both x y zs xs ys twin same h stop = absurd twin

-- ---- whole streams

pub as_places : (order : List Ordered) (f g : Fragment) → IsOf order f → fragment_cmp f g ≡ place_cmp order (place_of f) (place_of g)
as_places order (fragment.Static cs) (fragment.Static ds) of = refl
as_places order (fragment.Static cs) (fragment.Row s) of = refl
as_places order (fragment.Static cs) (fragment.Marker l d) of = refl
as_places order (fragment.Row r) g of = ap (λ o. place_cmp o (place_of (fragment.Row r)) (place_of g)) of
as_places order (fragment.Marker k d) g of = ap (λ o. place_cmp o (place_of (fragment.Marker k d)) (place_of g)) of

pub places_total : (order : List Ordered) → IsTotalOrder (place_cmp order)
places_total order = options_total (point_laws.orders order).total

-- the fragments stand after a place
abbrev pub Behind : List Ordered → Place → List Fragment → Type 0
Behind order p fs = AllByRecursion (λ f. place_cmp order p (place_of f) ≡ Less) fs

-- one after another, all in one order
pub record InOrder (order : List Ordered) (fs : List Fragment) : Type 0 where
  pub ascend : Ascend (place_cmp order) place_of fs
  pub of : AllByRecursion (IsOf order) fs

abbrev pub later : {order : List Ordered} {f : Fragment} {fs : List Fragment} → InOrder order (f ∷ fs) → InOrder order fs
later i = record { ascend = i.ascend.1; of = i.of.1 }

pub nothing_left : (order : List Ordered) → InOrder order []
nothing_left order = record { ascend = tt; of = tt }

module _ (order : List Ordered) (t : Cut → Bool) (falls : Falls order t) (points : AtPoints order t) where
  pub stop_behind : (x : Fragment) → IsOf order x → Stops t x → (zs : List Fragment) → AllByRecursion (IsOf order) zs → Behind order (place_of x) zs → AllByRecursion (Stopped t) zs
  stop_behind x of s [] ofs a = tt
  stop_behind (fragment.Static cs) of s (z ∷ zs) ofs a = absurd s
  stop_behind (fragment.Row r) of s (z ∷ zs) ofs a = absurd s
  stop_behind (fragment.Marker k d) of s (fragment.Static cs ∷ zs) ofs a = (tt, stop_behind (fragment.Marker k d) of s zs ofs.1 a.1)
  stop_behind (fragment.Marker k d) of s (fragment.Row r ∷ zs) ofs a = (tt, stop_behind (fragment.Marker k d) of s zs ofs.1 a.1)
  stop_behind (fragment.Marker k d) of s (fragment.Marker l e ∷ zs) ofs a = (falls k l of ofs.0 a.0 s, stop_behind (fragment.Marker k d) of s zs ofs.1 a.1)

  farther : (p q : Place) → place_cmp order p q ≡ Less → (zs : List Fragment) → Behind order q zs → Behind order p zs
  farther p q e zs a = all_so (λ f. place_cmp order q (place_of f) ≡ Less) (λ f. place_cmp order p (place_of f) ≡ Less) (λ f h. (places_total order).trans p q (place_of f) e h) zs a

  likewise : (p q : Place) → place_cmp order p q ≡ Equal → (zs : List Fragment) → Behind order q zs → Behind order p zs
  likewise p q e zs a = all_so (λ f. place_cmp order q (place_of f) ≡ Less) (λ f. place_cmp order p (place_of f) ≡ Less) (λ f h. (places_total order).congr p q (place_of f) e ∙ h) zs a

  -- all stops where a fragment does, in both streams and in what is woven of them
  all_stop : (x : Fragment) → IsOf order x → Stops t x → (s : Forces) (xs ys : List Fragment) → AllByRecursion (IsOf order) xs → AllByRecursion (IsOf order) ys
      → Behind order (place_of x) xs → Behind order (place_of x) ys → AllByRecursion (Stopped t) xs × AllByRecursion (Stopped t) ys × AllByRecursion (Stopped t) (woven by_place s xs ys)
  all_stop x of stop s xs ys f g a b =
      let p = stop_behind x of stop xs f a in
      let q = stop_behind x of stop ys g b in
      (p, q, woven_stopped t s xs ys p q)

  force_rights : (d e : Option Deletion) (ys : List Fragment) → InOrder order ys → after t (greater deletion_cmp d e) (changes (rights by_place (forces d e) ys)) ≡ greater deletion_cmp d (after t e (changes ys))
  force_rights d e [] i = refl
  force_rights d e (y ∷ ys) i =
      step_right t d e y (rights by_place (forces d (opened e y)) ys) [] ys (force_rights d (opened e y) ys (later i)) (λ s. all_stop y i.of.0 s (forces d (opened e y)) [] ys tt i.of.1 tt i.ascend.0)

  module _ (x : Fragment) (xs : List Fragment) (i : InOrder order (x ∷ xs))
      (h : (d e : Option Deletion) (zs : List Fragment) → InOrder order zs → after t (greater deletion_cmp d e) (changes (woven by_place (forces d e) xs zs)) ≡ greater deletion_cmp (after t d (changes xs)) (after t e (changes zs))) where
    force_among : (d e : Option Deletion) (ys : List Fragment) → InOrder order ys
        → after t (greater deletion_cmp d e) (changes (among by_place x (λ s zs. woven by_place s xs zs) (forces d e) ys)) ≡ greater deletion_cmp (after t d (changes (x ∷ xs))) (after t e (changes ys))
    force_among d e [] j =
        step_left t d e x (woven by_place (forces (opened d x) e) xs []) xs [] (h (opened d x) e [] (nothing_left order)) (λ s. all_stop x i.of.0 s (forces (opened d x) e) xs [] i.of.1 tt i.ascend.0 tt)
    force_among d e (y ∷ ys) j =
        let both : Forces = forces (opened d x) (opened e y) in
        by_case (λ zs. after t (greater deletion_cmp d e) (changes zs) ≡ greater deletion_cmp (after t d (changes (x ∷ xs))) (after t e (changes (y ∷ ys)))) (fragment_cmp x y)
        (raised e x ∷ woven by_place (forces (opened d x) e) xs (y ∷ ys)) (joined_fragment x y ∷ woven by_place both xs ys) (raised d y ∷ among by_place x (λ s zs. woven by_place s xs zs) (forces d (opened e y)) ys)
        (λ c.
        let below : place_cmp order (place_of x) (place_of y) ≡ Less = sym (as_places order x y i.of.0) ∙ c in
        step_left t d e x (woven by_place (forces (opened d x) e) xs (y ∷ ys)) xs (y ∷ ys) (h (opened d x) e (y ∷ ys) j)
        (λ s. all_stop x i.of.0 s (forces (opened d x) e) xs (y ∷ ys) i.of.1 j.of i.ascend.0 (below, farther (place_of x) (place_of y) below ys j.ascend.0)))
        (λ c.
        let level : place_cmp order (place_of x) (place_of y) ≡ Equal = sym (as_places order x y i.of.0) ∙ c in
        step_both t d e x y (woven by_place both xs ys) xs ys (twins x y c) (same_test x y i.of.0 j.of.0 (twins x y c)) (h (opened d x) (opened e y) ys (later j))
        (λ s. all_stop x i.of.0 s both xs ys i.of.1 j.of.1 i.ascend.0 (likewise (place_of x) (place_of y) level ys j.ascend.0)))
        (λ c.
        let above : place_cmp order (place_of y) (place_of x) ≡ Less = (places_total order).antisymm (place_of y) (place_of x) ∙ ap ordering_reverse (sym (as_places order x y i.of.0) ∙ c) in
        step_right t d e y (among by_place x (λ s zs. woven by_place s xs zs) (forces d (opened e y)) ys) (x ∷ xs) ys (force_among d (opened e y) ys (later j))
        (λ s. all_stop y j.of.0 s (forces d (opened e y)) (x ∷ xs) ys i.of j.of.1 (above, farther (place_of y) (place_of x) above xs i.ascend.0) j.ascend.0))
      where
        same_test : (f g : Fragment) → IsOf order f → IsOf order g → Twins f g → (k l : Cut) (a b : Option Deletion) → f ≡ fragment.Marker k a → g ≡ fragment.Marker l b → t k ≡ t l
        same_test f g of og twin k l a b e c = points k l (subst (IsOf order) e of) (subst (IsOf order) c og) (subst (λ z. Twins (fragment.Marker k a) z) c (subst (λ z. Twins z g) e twin))

  pub woven_after : (d e : Option Deletion) (xs ys : List Fragment) → InOrder order xs → InOrder order ys
      → after t (greater deletion_cmp d e) (changes (woven by_place (forces d e) xs ys)) ≡ greater deletion_cmp (after t d (changes xs)) (after t e (changes ys))
  woven_after d e [] ys i j = force_rights d e ys j
  woven_after d e (x ∷ xs) ys i j = force_among x xs i (λ a b zs k. woven_after a b xs zs (later i) k) d e ys j
