-- What is in force once changes are raised between two cuts, and once a cut is put among them.
use Rattle.std.proofs.Common.{◌≡◌, Bool, true, false, cond, not, ◌&&◌, ◌||◌, Option, None, Some, List, [], ◌∷◌, ◌⊎◌, inl, inr, refl, sym, ap, ◌∙◌, subst}
use Rattle.std.proofs.lemmas.Bool.{true≢false}
use Rattle.std.proofs.lemmas.Cmp.{tied_itself}
use Rattle.std.specs.Bool.{then_some}
use Rattle.std.specs.Cmp.{Equal-is, IsTotalOrder}
use Rattle.std.specs.List.{AllByRecursion}
use Rattle.std.specs.declared.cmp.Ordering.{Ordering}
use Rattle.std.specs.declared.cmp.Ordering.TheVariants.{Less, Equal, Greater}
use Rattle.std.specs.Ordering.{is_le, is_lt, is_eq, ordering_reverse}
use Rattle.cas_cell.specs.Deletions.{deletion_cmp}
use Rattle.cas_cell.specs.declared.deletion.Deletion.{Deletion}
use Rattle.cas_cell.proofs.OrderLaws.{deletion_laws}
use Rattle.cas_bounds.specs.Cuts.{is_past, is_inside, cut_cmp}
use Rattle.cas_bounds.specs.Points.{point_cmp, cut_point}
use Rattle.cas_bounds.specs.Keys.{key_cmp}
use Rattle.cas_bounds.specs.Inner.KeyLaws.{key_total, keys_are_points}
use Rattle.cas_bounds.specs.declared.order.Ordered.{Ordered}
use Rattle.cas_bounds.specs.declared.cuts.Cut.{Cut}
use Rattle.cas_bounds.proofs.CutLaws.{point_laws}
use Rattle.cas_atoms.specs.Greatest.{greater}
use Rattle.cas_atoms.specs.Coordinates.{Coordinate, RowKey, clustered, static_row, row_of, lies_between, deletion_at}
use Rattle.cas_atoms.specs.Winners.{cover}
use Rattle.cas_atoms.specs.declared.atom.Atom.TheVariants.{RangeDeletion}
use Rattle.cas_atoms.proofs.GreatestLemmas.{greater_none}
use Rattle.cas_streams.specs.Flat.{Change, after, at_end, reaching, ranges}
use Rattle.cas_streams.proofs.InOrder.{Rise}
use Rattle.cas_streams.proofs.Forces.{Falls, AtPoints}
use Rattle.cas_streams.proofs.Joining.{always_falls, past_falls, at_points}
use Rattle.cas_streams.proofs.Ranges.{ranges_cover, ranges_not_static}
use Rattle.cas_partition.specs.Ranges.{key_of, lies, raised, has_cut, inserted, with_cut}

-- ---- by the changes alone

-- whether the last change that passes lies in the range
last_in : (Cut → Bool) → (Cut → Bool) → Bool → List Change → Bool
last_in t q b [] = b
last_in t q b (m ∷ ms) = last_in t q (cond (t m.at) (q m.at) b) ms

abbrev more : Deletion → Bool → Option Deletion → Option Deletion
more d b now = cond b (greater deletion_cmp now (Some d)) now

raised_after : (t q : Cut → Bool) (d : Deletion) (b : Bool) (now : Option Deletion) (ms : List Change)
    → after t (more d b now) (raised q d ms) ≡ more d (last_in t q b ms) (after t now ms)
unfolding last_in
raised_after t q d b now [] = refl
raised_after t q d b now (m ∷ ms) =
    elim (t m.at) as (λ p. after t (cond p (more d (q m.at) m.to) (more d b now)) (raised q d ms) ≡ more d (last_in t q (cond p (q m.at) b) ms) (after t (cond p m.to now) ms)) [
      | true ↦ raised_after t q d (q m.at) m.to ms
      | false ↦ raised_after t q d b now ms
    ]

-- ---- places of cuts in one order

module _ (order : List Ordered) where
  abbrev pub at : Cut → Cut → Ordering
  at k l = point_cmp order (cut_point k) (cut_point l)

  -- one of the changes stands there
  unfoldable pub Stands : Cut → List Change → Type 0
  Stands k [] = ⊥
  Stands k (m ∷ ms) = (at k m.at ≡ Equal) ⊎ Stands k ms

  abbrev pub Over : Cut → List Change → Type 0
  Over k ms = AllByRecursion (λ m. at k m.at ≡ Less) ms

  pub as_points : (k l : Cut) → k.order ≡ order → l.order ≡ order → key_cmp (key_of k) (key_of l) ≡ at k l
  as_points k l e f = keys_are_points (key_of k) (key_of l) (e ∙ sym f) ∙ ap (λ o. point_cmp o (cut_point k) (cut_point l)) e

  pub total : IsTotalOrder (point_cmp order)
  total = (point_laws.orders order).total

  -- a low cut and a high one, as keys
  pub keys_below : (lo hi : Cut) → lo.order ≡ order → hi.order ≡ order → cut_cmp lo hi ≡ Less → key_cmp (key_of lo) (key_of hi) ≡ Less
  keys_below lo hi e f below = as_points lo hi e f ∙ sym (point_laws.cuts lo hi ∙ ap (λ o. point_cmp o (cut_point lo) (cut_point hi)) e) ∙ below

  pub turn : (k l : Cut) → at k l ≡ ordering_reverse (at l k)
  turn k l = total.antisymm (cut_point k) (cut_point l)

  pub chain : (k l m : Cut) → at k l ≡ Less → at l m ≡ Less → at k m ≡ Less
  chain k l m e f = total.trans (cut_point k) (cut_point l) (cut_point m) e f

  pub tie : (k l m : Cut) → at k l ≡ Equal → at k m ≡ at l m
  tie k l m e = total.congr (cut_point k) (cut_point l) (cut_point m) e

  pub ties : (k l : Cut) → at k l ≡ Equal → cut_point k ≡ cut_point l
  ties k l e = (point_laws.orders order).ties (cut_point k) (cut_point l) e

  -- nothing stands at a cut below all
  pub over_none : (k : Cut) (ms : List Change) → Over k ms → Stands k ms → ⊥
  unfolding Stands
  over_none k [] over none = none
  over_none k (m ∷ ms) over (inl e) = absurd (true≢false (ap is_lt (sym over.0 ∙ e)))
  over_none k (m ∷ ms) over (inr s) = over_none k ms over.1 s

  pub over_too : (k l : Cut) (ms : List Change) → at k l ≡ Less → Over l ms → Over k ms
  over_too k l [] e over = tt
  over_too k l (m ∷ ms) e over = (chain k l m.at e over.0, over_too k l ms e over.1)

  pub tied_over : (k l : Cut) (ms : List Change) → at k l ≡ Equal → Over l ms → Over k ms
  tied_over k l [] e over = tt
  tied_over k l (m ∷ ms) e over = (tie k l m.at e ∙ over.0, tied_over k l ms e over.1)

  module _ (t : Cut → Bool) (falls : Falls order t) (points : AtPoints order t) where
    abbrev Ends : List Change → Type 0
    Ends ms = AllByRecursion (λ m. t m.at ≡ false) ms

    ends : (k : Cut) (ms : List Change) → k.order ≡ order → t k ≡ false → Over k ms → Rise order ms → Ends ms
    ends k [] of e over rise = tt
    ends k (m ∷ ms) of e over rise = (falls k m.at of rise.0 over.0 e, ends k ms of e over.1 rise.2)

    ended : (now : Option Deletion) (ms : List Change) → Ends ms → after t now ms ≡ now
    ended now [] e = refl
    ended now (m ∷ ms) e = ap (λ b. after t (cond b m.to now) ms) e.0 ∙ ended now ms e.1

    last_ended : (q : Cut → Bool) (b : Bool) (ms : List Change) → Ends ms → last_in t q b ms ≡ b
    unfolding last_in
    last_ended q b [] e = refl
    last_ended q b (m ∷ ms) e = ap (λ p. last_in t q (cond p (q m.at) b) ms) e.0 ∙ last_ended q b ms e.1

    module _ (lo hi : Cut) (lo_of : lo.order ≡ order) (hi_of : hi.order ≡ order) (some : at lo hi ≡ Less) where
      in_range : (m : Cut) → m.order ≡ order → (r s : Ordering) → at lo m ≡ r → at hi m ≡ s → lies lo hi m ≡ (is_le r && not (is_le s))
      in_range m of r s e f = λ i. is_le ((as_points lo m lo_of of ∙ e) i) && not (is_le ((as_points hi m hi_of of ∙ f) i))

      no_and : (b : Bool) → (b && false) ≡ false
      no_and true = refl
      no_and false = refl

      both_ways : (p b : Bool) → cond p b b ≡ b
      both_ways true b = refl
      both_ways false b = refl

      -- behind the range
      behind : (ms : List Change) → Over hi ms → Rise order ms → last_in t (lies lo hi) false ms ≡ false
      unfolding last_in
      behind [] over rise = refl
      behind (m ∷ ms) over rise =
          ap (λ b. last_in t (lies lo hi) (cond (t m.at) b false) ms) (in_range m.at rise.0 (at lo m.at) Less refl over.0 ∙ no_and (is_le (at lo m.at)))
          ∙ ap (λ b. last_in t (lies lo hi) b ms) (both_ways (t m.at) false) ∙ behind ms over.1 rise.2

      -- in the range
      within : (ms : List Change) → Over lo ms → Stands hi ms → Rise order ms → last_in t (lies lo hi) true ms ≡ not (t hi)
      unfolding last_in Stands
      within [] over stands rise = absurd stands
      within (m ∷ ms) over stands rise =
          elim (at hi m.at) as (λ s. at hi m.at ≡ s → last_in t (lies lo hi) (cond (t m.at) (lies lo hi m.at) true) ms ≡ not (t hi)) [
            | Less ↦ λ s. absurd (over_none hi (m ∷ ms) (s, over_too hi m.at ms s rise.1) stands)
            | Equal ↦ λ s.
                let same : t hi ≡ t m.at = points hi m.at hi_of rise.0 (ties hi m.at s) in
                elim (t m.at) as (λ p. t m.at ≡ p → last_in t (lies lo hi) (cond p (lies lo hi m.at) true) ms ≡ not (t hi)) [
                  | true ↦ λ p.
                      ap (λ b. last_in t (lies lo hi) b ms) (in_range m.at rise.0 Less Equal over.0 s)
                      ∙ behind ms (tied_over hi m.at ms s rise.1) rise.2 ∙ sym (ap not (same ∙ p))
                  | false ↦ λ p. last_ended (lies lo hi) true ms (ends m.at ms rise.0 p rise.1 rise.2) ∙ sym (ap not (same ∙ p))
                ] refl
            | Greater ↦ λ s.
                let later : Stands hi ms = elim stands [ inl e ↦ absurd (true≢false (ap is_eq (sym e ∙ s))) | inr l ↦ l ] in
                elim (t m.at) as (λ p. t m.at ≡ p → last_in t (lies lo hi) (cond p (lies lo hi m.at) true) ms ≡ not (t hi)) [
                  | true ↦ λ p. ap (λ b. last_in t (lies lo hi) b ms) (in_range m.at rise.0 Less Greater over.0 s) ∙ within ms over.1 later rise.2
                  | false ↦ λ p.
                      last_ended (lies lo hi) true ms (ends m.at ms rise.0 p rise.1 rise.2)
                      ∙ sym (ap not (falls m.at hi rise.0 hi_of (turn m.at hi ∙ ap ordering_reverse s) p))
                ] refl
          ] refl

      -- up to the range
      reaches : (ms : List Change) → Stands lo ms → Stands hi ms → Rise order ms → last_in t (lies lo hi) false ms ≡ (t lo && not (t hi))
      unfolding last_in Stands
      reaches [] low high rise = absurd low
      reaches (m ∷ ms) low high rise =
          elim (at lo m.at) as (λ r. at lo m.at ≡ r → last_in t (lies lo hi) (cond (t m.at) (lies lo hi m.at) false) ms ≡ (t lo && not (t hi))) [
            | Less ↦ λ r. absurd (over_none lo (m ∷ ms) (r, over_too lo m.at ms r rise.1) low)
            | Equal ↦ λ r.
                let same : t lo ≡ t m.at = points lo m.at lo_of rise.0 (ties lo m.at r) in
                let above : at hi m.at ≡ Greater = turn hi m.at ∙ ap ordering_reverse (sym (tie lo m.at hi r) ∙ some) in
                let later : Stands hi ms = elim high [ inl e ↦ absurd (true≢false (ap is_eq (sym e ∙ above))) | inr l ↦ l ] in
                elim (t m.at) as (λ p. t m.at ≡ p → last_in t (lies lo hi) (cond p (lies lo hi m.at) false) ms ≡ (t lo && not (t hi))) [
                  | true ↦ λ p.
                      ap (λ b. last_in t (lies lo hi) b ms) (in_range m.at rise.0 Equal Greater r above)
                      ∙ within ms (tied_over lo m.at ms r rise.1) later rise.2 ∙ sym (ap (λ b. b && not (t hi)) (same ∙ p))
                  | false ↦ λ p. last_ended (lies lo hi) false ms (ends m.at ms rise.0 p rise.1 rise.2) ∙ sym (ap (λ b. b && not (t hi)) (same ∙ p))
                ] refl
            | Greater ↦ λ r.
                let under : at m.at lo ≡ Less = turn m.at lo ∙ ap ordering_reverse r in
                let lower : at hi m.at ≡ Greater = turn hi m.at ∙ ap ordering_reverse (chain m.at lo hi under some) in
                let low_later : Stands lo ms = elim low [ inl e ↦ absurd (true≢false (ap is_eq (sym e ∙ r))) | inr l ↦ l ] in
                let high_later : Stands hi ms = elim high [ inl e ↦ absurd (true≢false (ap is_eq (sym e ∙ lower))) | inr l ↦ l ] in
                elim (t m.at) as (λ p. t m.at ≡ p → last_in t (lies lo hi) (cond p (lies lo hi m.at) false) ms ≡ (t lo && not (t hi))) [
                  | true ↦ λ p. ap (λ b. last_in t (lies lo hi) b ms) (in_range m.at rise.0 Greater Greater r lower) ∙ reaches ms low_later high_later rise.2
                  | false ↦ λ p.
                      last_ended (lies lo hi) false ms (ends m.at ms rise.0 p rise.1 rise.2)
                      ∙ sym (ap (λ b. b && not (t hi)) (falls m.at lo rise.0 lo_of under p))
                ] refl
          ] refl

      pub raised_force : (d : Deletion) (ms : List Change) → Stands lo ms → Stands hi ms → Rise order ms
          → after t None (raised (lies lo hi) d ms) ≡ cond (t lo && not (t hi)) (greater deletion_cmp (after t None ms) (Some d)) (after t None ms)
      raised_force d ms low high rise =
          raised_after t (lies lo hi) d false None ms ∙ ap (λ b. more d b (after t None ms)) (reaches ms low high rise)

    -- ---- one more cut

    module _ (c : Cut) (c_of : c.order ≡ order) where
      inserted_ends : (now : Option Deletion) (ms : List Change) → t c ≡ false → Ends ms → Ends (inserted now c ms)
      inserted_ends now [] e all = (e, tt)
      inserted_ends now (m ∷ ms) e all =
          elim (is_lt (key_cmp (key_of c) (key_of m.at))) as (λ b. Ends (cond b (record { at = c; to = now } ∷ m ∷ ms) (m ∷ inserted m.to c ms))) [
            | true ↦ (e, all)
            | false ↦ (all.0, inserted_ends m.to ms e all.1)
          ]

      inserted_after : (now : Option Deletion) (ms : List Change) → Rise order ms → has_cut c ms ≡ false → after t now (inserted now c ms) ≡ after t now ms
      inserted_after now [] rise none = twice (t c)
        where
          twice : (b : Bool) → cond b now now ≡ now
          twice true = refl
          twice false = refl
      inserted_after now (m ∷ ms) rise none = go (inserted_after m.to ms rise.2) (key_cmp (key_of c) (key_of m.at)) refl
        where
          twice : (b : Bool) → after t (cond (t m.at) m.to (cond b now now)) ms ≡ after t (cond (t m.at) m.to now) ms
          twice true = refl
          twice false = refl

          later : {r : Ordering} → key_cmp (key_of c) (key_of m.at) ≡ r → is_eq r ≡ false → has_cut c ms ≡ false
          later e f = ap (λ b. b || has_cut c ms) (sym (ap is_eq e ∙ f)) ∙ none

          put : (b : Bool) → is_lt (key_cmp (key_of c) (key_of m.at)) ≡ b
              → after t now (cond b (record { at = c; to = now } ∷ m ∷ ms) (m ∷ inserted m.to c ms)) ≡ after t now (m ∷ ms)
              → after t now (inserted now c (m ∷ ms)) ≡ after t now (m ∷ ms)
          put b e h = ap (λ v. after t now (cond v (record { at = c; to = now } ∷ m ∷ ms) (m ∷ inserted m.to c ms))) e ∙ h

          go : (has_cut c ms ≡ false → after t m.to (inserted m.to c ms) ≡ after t m.to ms) → (r : Ordering) → key_cmp (key_of c) (key_of m.at) ≡ r → after t now (inserted now c (m ∷ ms)) ≡ after t now (m ∷ ms)
          go ih Less e = put true (ap is_lt e) (twice (t c))
          go ih Equal e = absurd (true≢false (ap (λ b. b || has_cut c ms) (sym (ap is_eq e)) ∙ none))
          go ih Greater e =
              put false (ap is_lt e)
              (elim (t m.at) as (λ p. t m.at ≡ p → after t (cond p m.to now) (inserted m.to c ms) ≡ after t (cond p m.to now) ms) [
                | true ↦ λ p. ih (later e refl)
                | false ↦ λ p.
                    let under : at m.at c ≡ Less = turn m.at c ∙ ap ordering_reverse (sym (as_points c m.at c_of rise.0) ∙ e) in
                    let all : Ends ms = ends m.at ms rise.0 p rise.1 rise.2 in
                    ended now (inserted m.to c ms) (inserted_ends m.to ms (falls m.at c rise.0 c_of under p) all) ∙ sym (ended now ms all)
              ] refl)

      pub with_cut_after : (ms : List Change) → Rise order ms → after t None (with_cut c ms) ≡ after t None ms
      with_cut_after ms rise =
          elim (has_cut c ms) as (λ b. has_cut c ms ≡ b → after t None (cond b ms (inserted None c ms)) ≡ after t None ms) [
            | true ↦ λ e. refl
            | false ↦ λ e. inserted_after None ms rise e
          ] refl

  -- ---- they go on rising

  pub raised_rise : (q : Cut → Bool) (d : Deletion) (ms : List Change) → Rise order ms → Rise order (raised q d ms)
  raised_rise q d [] rise = tt
  raised_rise q d (m ∷ ms) rise = (rise.0, raised_over m.at ms rise.1, raised_rise q d ms rise.2)
    where
      raised_over : (k : Cut) (ns : List Change) → Over k ns → Over k (raised q d ns)
      raised_over k [] over = tt
      raised_over k (n ∷ ns) over = (over.0, raised_over k ns over.1)

  module _ (c : Cut) (c_of : c.order ≡ order) where
    inserted_over : (k : Cut) (now : Option Deletion) (ms : List Change) → at k c ≡ Less → Over k ms → Over k (inserted now c ms)
    inserted_over k now [] e over = (e, tt)
    inserted_over k now (m ∷ ms) e over =
        elim (is_lt (key_cmp (key_of c) (key_of m.at))) as (λ b. Over k (cond b (record { at = c; to = now } ∷ m ∷ ms) (m ∷ inserted m.to c ms))) [
          | true ↦ (e, over)
          | false ↦ (over.0, inserted_over k m.to ms e over.1)
        ]

    inserted_rise : (now : Option Deletion) (ms : List Change) → Rise order ms → has_cut c ms ≡ false → Rise order (inserted now c ms)
    inserted_rise now [] rise none = (c_of, tt, tt)
    inserted_rise now (m ∷ ms) rise none = go (inserted_rise m.to ms rise.2) (key_cmp (key_of c) (key_of m.at)) refl
      where
        go : (has_cut c ms ≡ false → Rise order (inserted m.to c ms)) → (r : Ordering) → key_cmp (key_of c) (key_of m.at) ≡ r → Rise order (inserted now c (m ∷ ms))
        go ih Less e =
            let under : at c m.at ≡ Less = sym (as_points c m.at c_of rise.0) ∙ e in
            subst (λ b. Rise order (cond b (record { at = c; to = now } ∷ m ∷ ms) (m ∷ inserted m.to c ms))) (sym (ap is_lt e))
            (c_of, (under, over_too c m.at ms under rise.1), rise)
        go ih Equal e = absurd (true≢false (ap (λ b. b || has_cut c ms) (sym (ap is_eq e)) ∙ none))
        go ih Greater e =
            subst (λ b. Rise order (cond b (record { at = c; to = now } ∷ m ∷ ms) (m ∷ inserted m.to c ms))) (sym (ap is_lt e)) (
              rise.0,
              inserted_over m.at m.to ms (turn m.at c ∙ ap ordering_reverse (sym (as_points c m.at c_of rise.0) ∙ e)) rise.1,
              ih (ap (λ b. b || has_cut c ms) (sym (ap is_eq e)) ∙ none),
            )

    pub with_cut_rise : (ms : List Change) → Rise order ms → Rise order (with_cut c ms)
    with_cut_rise ms rise =
        elim (has_cut c ms) as (λ b. has_cut c ms ≡ b → Rise order (cond b ms (inserted None c ms))) [
          | true ↦ λ e. rise
          | false ↦ λ e. inserted_rise None ms rise e
        ] refl

  -- a cut that the changes have stands among them
  pub has_stands : (c : Cut) → c.order ≡ order → (ms : List Change) → Rise order ms → has_cut c ms ≡ true → Stands c ms
  unfolding Stands
  has_stands c of [] rise e = absurd (true≢false (sym e))
  has_stands c of (m ∷ ms) rise e =
      elim (is_eq (key_cmp (key_of c) (key_of m.at))) as (λ b. is_eq (key_cmp (key_of c) (key_of m.at)) ≡ b → (b || has_cut c ms) ≡ true → (at c m.at ≡ Equal) ⊎ Stands c ms) [
        | true ↦ λ p _. inl (sym (as_points c m.at of rise.0) ∙ (Equal-is (key_cmp (key_of c) (key_of m.at))).0 p)
        | false ↦ λ p h. inr (has_stands c of ms rise.2 h)
      ] refl e

  -- ---- covers

  given_or : (b : Bool) (o : Option Deletion) (d : Deletion) → cond b (greater deletion_cmp o (Some d)) o ≡ greater deletion_cmp o (then_some b d)
  given_or true o d = refl
  given_or false o d = sym (greater_none deletion_laws.orders o)

  pub raised_closed : (lo hi : Cut) (d : Deletion) (ms : List Change) → lo.order ≡ order → hi.order ≡ order → cut_cmp lo hi ≡ Less
      → has_cut lo ms ≡ true → has_cut hi ms ≡ true → Rise order ms → at_end None ms ≡ None → at_end None (raised (lies lo hi) d ms) ≡ None
  raised_closed lo hi d ms e f some low high rise closed =
      let below : at lo hi ≡ Less = sym (point_laws.cuts lo hi ∙ ap (λ o. point_cmp o (cut_point lo) (cut_point hi)) e) ∙ some in
      raised_force (λ cut. true) (always_falls order) (at_points order (λ cut. true)) lo hi e f below d ms (has_stands lo e ms rise low) (has_stands hi f ms rise high) rise ∙ closed

  pub raised_covers : (lo hi : Cut) (d : Deletion) (ms : List Change) → lo.order ≡ order → hi.order ≡ order → cut_cmp lo hi ≡ Less
      → has_cut lo ms ≡ true → has_cut hi ms ≡ true → Rise order ms → at_end None ms ≡ None → (x : Coordinate) (r : RowKey) → row_of x ≡ r
      → cover (ranges (raised (lies lo hi) d ms)) x ≡ greater deletion_cmp (cover (ranges ms) x) (deletion_at x (RangeDeletion lo hi d))
  raised_covers lo hi d ms e f some low high rise closed x static_row is =
      ranges_not_static (raised (lies lo hi) d ms) x is
      ∙ sym ((λ i. greater deletion_cmp (ranges_not_static ms x is i) (then_some (lies_between lo hi (is i)) d)))
  raised_covers lo hi d ms e f some low high rise closed x (clustered c) is =
      let below : at lo hi ≡ Less = sym (point_laws.cuts lo hi ∙ ap (λ o. point_cmp o (cut_point lo) (cut_point hi)) e) ∙ some in
      ranges_cover order (raised (lies lo hi) d ms) x c is (raised_rise (lies lo hi) d ms rise) (raised_closed lo hi d ms e f some low high rise closed)
      ∙ raised_force (λ cut. is_past cut c) (past_falls order c) (at_points order (λ cut. is_past cut c)) lo hi e f below d ms (has_stands lo e ms rise low) (has_stands hi f ms rise high) rise
      ∙ given_or (is_inside lo hi c) (reaching None ms c) d
      ∙ (λ i. greater deletion_cmp (sym (ranges_cover order ms x c is rise closed) i) (then_some (lies_between lo hi (sym is i)) d))

  pub with_cut_closed : (c : Cut) → c.order ≡ order → (ms : List Change) → Rise order ms → at_end None ms ≡ None → at_end None (with_cut c ms) ≡ None
  with_cut_closed c of ms rise closed = with_cut_after (λ cut. true) (always_falls order) (at_points order (λ cut. true)) c of ms rise ∙ closed

  pub with_cut_covers : (c : Cut) → c.order ≡ order → (ms : List Change) → Rise order ms → at_end None ms ≡ None → (x : Coordinate) (r : RowKey) → row_of x ≡ r
      → cover (ranges (with_cut c ms)) x ≡ cover (ranges ms) x
  with_cut_covers c of ms rise closed x static_row is = ranges_not_static (with_cut c ms) x is ∙ sym (ranges_not_static ms x is)
  with_cut_covers c of ms rise closed x (clustered q) is =
      ranges_cover order (with_cut c ms) x q is (with_cut_rise c of ms rise) (with_cut_closed c of ms rise closed)
      ∙ with_cut_after (λ cut. is_past cut q) (past_falls order q) (at_points order (λ cut. is_past cut q)) c of ms rise
      ∙ sym (ranges_cover order ms x q is rise closed)

-- ---- which cuts there are

pub raised_has : (c : Cut) (q : Cut → Bool) (d : Deletion) (ms : List Change) → has_cut c (raised q d ms) ≡ has_cut c ms
raised_has c q d [] = refl
raised_has c q d (m ∷ ms) = ap (λ b. is_eq (key_cmp (key_of c) (key_of m.at)) || b) (raised_has c q d ms)

either_true : (b c : Bool) → c ≡ true → (b || c) ≡ true
either_true true c e = refl
either_true false c e = e

inserted_has : (k c : Cut) (now : Option Deletion) (ms : List Change) → has_cut k ms ≡ true → has_cut k (inserted now c ms) ≡ true
inserted_has k c now [] e = absurd (true≢false (sym e))
inserted_has k c now (m ∷ ms) e =
    elim (is_lt (key_cmp (key_of c) (key_of m.at))) as (λ b. has_cut k (cond b (record { at = c; to = now } ∷ m ∷ ms) (m ∷ inserted m.to c ms)) ≡ true) [
      | true ↦ either_true (is_eq (key_cmp (key_of k) (key_of c))) (has_cut k (m ∷ ms)) e
      | false ↦ elim (is_eq (key_cmp (key_of k) (key_of m.at))) as (λ b. (b || has_cut k ms) ≡ true → (b || has_cut k (inserted m.to c ms)) ≡ true) [
        | true ↦ λ _. refl
        | false ↦ λ h. inserted_has k c m.to ms h
      ] e
    ]

inserted_itself : (c : Cut) (now : Option Deletion) (ms : List Change) → has_cut c (inserted now c ms) ≡ true
inserted_itself c now [] = ap (λ r. is_eq r || false) (tied_itself key_total (key_of c))
inserted_itself c now (m ∷ ms) =
    elim (is_lt (key_cmp (key_of c) (key_of m.at))) as (λ b. has_cut c (cond b (record { at = c; to = now } ∷ m ∷ ms) (m ∷ inserted m.to c ms)) ≡ true) [
      | true ↦ ap (λ r. is_eq r || has_cut c (m ∷ ms)) (tied_itself key_total (key_of c))
      | false ↦ either_true (is_eq (key_cmp (key_of c) (key_of m.at))) (has_cut c (inserted m.to c ms)) (inserted_itself c m.to ms)
    ]

pub with_cut_has : (k c : Cut) (ms : List Change) → has_cut k ms ≡ true → has_cut k (with_cut c ms) ≡ true
with_cut_has k c ms e =
    elim (has_cut c ms) as (λ b. has_cut k (cond b ms (inserted None c ms)) ≡ true) [
      | true ↦ e
      | false ↦ inserted_has k c None ms e
    ]

pub with_cut_itself : (c : Cut) (ms : List Change) → has_cut c (with_cut c ms) ≡ true
with_cut_itself c ms =
    elim (has_cut c ms) as (λ b. has_cut c ms ≡ b → has_cut c (cond b ms (inserted None c ms)) ≡ true) [
      | true ↦ λ e. e
      | false ↦ λ e. inserted_itself c None ms
    ] refl
