-- Where each write of a list wins, what stays of the list is the same but for what went.
use Rattle.std.proofs.Common.{◌≡◌, ℤ, ◌≤ℤ◌, Bool, true, false, cond, Option, None, Some, List, [], ◌∷◌, filter, ◌⊎◌, inl, inr, refl, sym, ap, ◌∙◌, arith}
use Rattle.std.specs.Prelude.{int_le, int_lt}
use Rattle.std.proofs.lemmas.Bool.{true≢false}
use Rattle.std.proofs.lemmas.Int.{ints}
use Rattle.std.specs.List.{AllByRecursion}
use Rattle.std.specs.Ordering.{is_lt}
use Rattle.std.specs.declared.cmp.Ordering.{Ordering}
use Rattle.cas_types.specs.Orders.{Orders}
use Rattle.cas_cell.specs.Deletions.{deletion_cmp, covered}
use Rattle.cas_cell.specs.Laws.{ByTime}
use Rattle.cas_cell.specs.declared.deletion.Deletion.{Deletion}
use Rattle.cas_cell.proofs.OrderLaws.{deletion_laws}
use Rattle.cas_atoms.specs.Greatest.{greater, greatest}
use Rattle.cas_atoms.specs.Coordinates.{Coordinate, deletion_at}
use Rattle.cas_atoms.specs.Winners.{cover, standing}
use Rattle.cas_atoms.specs.declared.atom.Atom.{Atom}
use Rattle.cas_laws.specs.Given.{Gives}
use Rattle.cas_laws.specs.Above.{only}
use Rattle.cas_laws.proofs.GreatestProofs.{no_none, Gives-greatest, none_above, greatest_is}
use Rattle.cas_laws.proofs.OrderedLists.{Gives-mono}
use Rattle.cas_laws.proofs.JoinProofs.{winner_is}

-- ---- what a test leaves gives less

module _ {X K : Type 0} (f : X → Option K) (t : X → Bool) where
  pub gives_less : (xs : List X) (k : K) → Gives f (filter t xs) k → Gives f xs k
  gives_less [] k none = none
  gives_less (x ∷ xs) k g = by_test (t x) (gives_less xs k) g
    where
      by_test : (b : Bool) → (Gives f (filter t xs) k → Gives f xs k) → Gives f (cond b (x ∷ filter t xs) (filter t xs)) k → Gives f (x ∷ xs) k
      by_test true h (inl e) = inl e
      by_test true h (inr later) = inr (h later)
      by_test false h later = inr (h later)

  -- what is given is given by what stays, or by something that goes
  pub stays_or_goes : (P : X → Type 0) (xs : List X) (k : K) → AllByRecursion P xs → Gives f xs k → Gives f (filter t xs) k ⊎ ((x : X) × P x × (t x ≡ false) × (f x ≡ Some k))
  stays_or_goes P [] k all none = absurd none
  stays_or_goes P (x ∷ xs) k all (inl e) = by_test (t x) refl
    where
      by_test : (b : Bool) → t x ≡ b → Gives f (cond b (x ∷ filter t xs) (filter t xs)) k ⊎ ((y : X) × P y × (t y ≡ false) × (f y ≡ Some k))
      by_test true i = inl (inl e)
      by_test false i = inr (x, all.0, i, e)
  stays_or_goes P (x ∷ xs) k all (inr later) =
      elim (stays_or_goes P xs k all.1 later) [
        | inl stays ↦ inl (by_test (t x) stays)
        | inr goes ↦ inr goes
      ]
    where
      by_test : (b : Bool) → Gives f (filter t xs) k → Gives f (cond b (x ∷ filter t xs) (filter t xs)) k
      by_test true g = inr g
      by_test false g = g

-- something that is given leaves a greatest
some_greatest : {X Y : Type 0} (cmp : Y → Y → Ordering) (f : X → Option Y) (xs : List X) (y : Y) → Gives f xs y → (z : Y) × (greatest cmp f xs ≡ Some z)
some_greatest cmp f [] y none = absurd none
some_greatest {Y = Y} cmp f (x ∷ xs) y (inl e) = let (z, is) = first (greatest cmp f xs) in (z, ap (λ w. greater cmp w (greatest cmp f xs)) e ∙ is)
  where
    first : (w : Option Y) → (z : Y) × (greater cmp (Some y) w ≡ Some z)
    first None = (y, refl)
    first (Some v) = (cond (is_lt (cmp y v)) v y, refl)
some_greatest {Y = Y} cmp f (x ∷ xs) y (inr later) =
    let (v, is) = some_greatest cmp f xs y later in
    let (z, too) = second (f x) v in
    (z, ap (greater cmp (f x)) is ∙ too)
  where
    second : (w : Option Y) (v : Y) → (z : Y) × (greater cmp w (Some v) ≡ Some z)
    second None v = (v, refl)
    second (Some u) v = (cond (is_lt (cmp u v)) v u, refl)

none_given : {X Y : Type 0} (cmp : Y → Y → Ordering) (f : X → Option Y) (xs : List X) (y : Y) {G : Type 0} → greatest cmp f xs ≡ None → Gives f xs y → G
none_given cmp f xs y e g = let (z, is) = some_greatest cmp f xs y g in no_none z (sym e ∙ is)

-- ---- what covers less

earlier_covers : (d e t : ℤ) → e ≤ℤ d → int_le t d ≡ false → int_le t e ≡ false
earlier_covers d e t h c = grind (arith, ints)

stands_given : {Y : Type 0} (at : Y → ℤ) (d : Option Deletion) (w : Option Y) (y : Y) → standing at d w ≡ Some y → w ≡ Some y
stands_given at None w y e = e
stands_given at (Some d) None y e = no_none y e
stands_given at (Some d) (Some x) y e = by_test (covered d (at x)) e
  where
    by_test : (b : Bool) → cond b None (Some x) ≡ Some y → Some x ≡ Some y
    by_test true f = no_none y f
    by_test false f = f

stands_free : {Y : Type 0} (at : Y → ℤ) (d : Deletion) (y : Y) → standing at (Some d) (Some y) ≡ Some y → covered d (at y) ≡ false
stands_free at d y e = by_test (covered d (at y)) e
  where
    by_test : (b : Bool) → cond b None (Some y) ≡ Some y → b ≡ false
    by_test true f = no_none y f
    by_test false f = refl

module _ (passes : Atom → Bool) (A : List Atom) (x : Coordinate) where
  -- what stands under all deletions stands under those that stay
  stands_on : {Y : Type 0} (at : Y → ℤ) (y : Y) → standing at (cover A x) (Some y) ≡ Some y → standing at (cover (filter passes A) x) (Some y) ≡ Some y
  stands_on at y stands = by_cover (cover (filter passes A) x) refl
    where
      under : (d e : Deletion) → cover (filter passes A) x ≡ Some d → cover A x ≡ Some e → covered d (at y) ≡ false
      under d e i j =
          let given : Gives (deletion_at x) A d = gives_less (deletion_at x) passes A d (Gives-greatest deletion_cmp (deletion_at x) (filter passes A) d i) in
          earlier_covers e.at d.at (at y) (deletion_laws.by_time.above e d (none_above deletion_laws.orders (deletion_at x) A e j d given))
          (stands_free at e y (ap (λ c. standing at c (Some y)) (sym j) ∙ stands))

      by_cover : (c : Option Deletion) → cover (filter passes A) x ≡ c → standing at c (Some y) ≡ Some y
      by_cover None i = refl
      by_cover (Some d) i =
          let given : Gives (deletion_at x) A d = gives_less (deletion_at x) passes A d (Gives-greatest deletion_cmp (deletion_at x) (filter passes A) d i) in
          let (e, j) = some_greatest deletion_cmp (deletion_at x) A d given in
          ap (λ b. cond b None (Some y)) (under d e i j)

-- ---- winners

module _ {Y : Type 0} {cmp : Y → Y → Ordering} {at : Y → ℤ} (o : Orders cmp) (t : ByTime cmp at) (f : Atom → Option Y) (x : Coordinate) (passes : Atom → Bool) (A : List Atom) where
  abbrev wins : List Atom → Option Y
  wins B = greatest cmp (λ a. standing at (cover B x) (f a)) B

  -- what wins and stays still wins
  pub still_wins : (y : Y) → wins A ≡ Some y → Gives f (filter passes A) y → wins (filter passes A) ≡ Some y
  still_wins y e g =
      let first : standing at (cover A x) (greatest cmp f A) ≡ Some y = sym (winner_is o t f x A) ∙ e in
      let top : greatest cmp f A ≡ Some y = stands_given at (cover A x) (greatest cmp f A) y first in
      let left : greatest cmp f (filter passes A) ≡ Some y =
      (greatest_is o f (filter passes A) y).1 (g, λ z i. none_above o f A y top z (gives_less f passes A z i)) in
      winner_is o t f x (filter passes A) ∙ ap (standing at (cover (filter passes A) x)) left
      ∙ stands_on passes A x at y (ap (standing at (cover A x)) (sym top) ∙ first)

  -- where all writes win, only those that go are missing
  pub same_lasting : (P : Atom → Type 0) (lasting : Y → Bool) → AllByRecursion P A → ((y : Y) → Gives f A y → wins A ≡ Some y)
      → ((a : Atom) (y : Y) → P a → passes a ≡ false → f a ≡ Some y → lasting y ≡ false) → only lasting (wins A) ≡ only lasting (wins (filter passes A))
  same_lasting P lasting all win gone = by_left (wins (filter passes A)) refl
    where
      missing : (w : Option Y) → wins A ≡ w → wins (filter passes A) ≡ None → only lasting w ≡ None
      missing None e none = refl
      missing (Some y) e none =
          elim (stays_or_goes f passes P A y all (Gives-mono (λ a. standing at (cover A x) (f a)) f y y (λ a i. stands_given at (cover A x) (f a) y i) A (Gives-greatest cmp (λ a. standing at (cover A x) (f a)) A y e))) [
            | inl stays ↦ no_none y (sym none ∙ still_wins y e stays)
            | inr goes ↦ let (a, p, i, j) = goes in ap (λ b. cond b (Some y) None) (gone a y p i j)
          ]

      by_left : (w : Option Y) → wins (filter passes A) ≡ w → only lasting (wins A) ≡ only lasting w
      by_left None e = missing (wins A) refl e
      by_left (Some y) e =
          let B : List Atom = filter passes A in
          ap (only lasting) (win y (gives_less f passes A y (Gives-mono (λ a. standing at (cover B x) (f a)) f y y (λ a i. stands_given at (cover B x) (f a) y i) B (Gives-greatest cmp (λ a. standing at (cover B x) (f a)) B y e))))

-- ---- what covers

later_stays : (m d e : ℤ) → e ≤ℤ d → int_lt m d ≡ false → int_lt m e ≡ false
later_stays m d e h c = grind (arith, ints)

module _ (f : Atom → Option Deletion) (passes : Atom → Bool) (mark : ℤ) (P : Atom → Type 0) (gone : (a : Atom) (d : Deletion) → P a → passes a ≡ false → f a ≡ Some d → int_lt mark d.at ≡ false) (A : List Atom) (all : AllByRecursion P A) where
  abbrev late : Deletion → Bool
  late d = int_lt mark d.at

  -- the greatest deletion stays, if it is late, and none that stays is later
  pub same_late : only late (greatest deletion_cmp f A) ≡ only late (greatest deletion_cmp f (filter passes A))
  same_late = by_all (greatest deletion_cmp f A) refl
    where
      early : (d : Deletion) → greatest deletion_cmp f A ≡ Some d → int_lt mark d.at ≡ false → (w : Option Deletion) → greatest deletion_cmp f (filter passes A) ≡ w → None ≡ only late w
      early d i e None j = refl
      early d i e (Some c) j =
          let given : Gives f A c = gives_less f passes A c (Gives-greatest deletion_cmp f (filter passes A) c j) in
          ap (λ b. cond b (Some c) None) (sym (later_stays mark d.at c.at (deletion_laws.by_time.above d c (none_above deletion_laws.orders f A d i c given)) e))

      stays : (d : Deletion) → greatest deletion_cmp f A ≡ Some d → int_lt mark d.at ≡ true → greatest deletion_cmp f (filter passes A) ≡ Some d
      stays d i e =
          elim (stays_or_goes f passes P A d all (Gives-greatest deletion_cmp f A d i)) [
            | inl there ↦ (greatest_is deletion_laws.orders f (filter passes A) d).1 (there, λ z g. none_above deletion_laws.orders f A d i z (gives_less f passes A z g))
            | inr goes ↦ let (a, p, j, k) = goes in absurd (true≢false (sym e ∙ gone a d p j k))
          ]

      by_late : (d : Deletion) (b : Bool) → greatest deletion_cmp f A ≡ Some d → int_lt mark d.at ≡ b → cond b (Some d) None ≡ only late (greatest deletion_cmp f (filter passes A))
      by_late d true i e = ap (λ b. cond b (Some d) None) (sym e) ∙ ap (only late) (sym (stays d i e))
      by_late d false i e = early d i e (greatest deletion_cmp f (filter passes A)) refl

      by_all : (w : Option Deletion) → greatest deletion_cmp f A ≡ w → only late w ≡ only late (greatest deletion_cmp f (filter passes A))
      by_all None i = none_left (greatest deletion_cmp f (filter passes A)) refl
        where
          none_left : (w : Option Deletion) → greatest deletion_cmp f (filter passes A) ≡ w → None ≡ only late w
          none_left None j = refl
          none_left (Some c) j = none_given deletion_cmp f A c i (gives_less f passes A c (Gives-greatest deletion_cmp f (filter passes A) c j))
      by_all (Some d) i = by_late d (int_lt mark d.at) i refl
