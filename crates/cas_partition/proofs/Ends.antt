-- Where changes stand that change what is in force: once place is made at a cut, once a range is raised, and in a merge.
use Rattle.std.proofs.Common.{◌≡◌, ◌⊎◌, Bool, true, false, cond, not, ◌&&◌, Option, None, Some, List, [], ◌∷◌, ◌++◌, inl, inr, refl, sym, ap, ◌∙◌, subst}
use Rattle.std.proofs.lemmas.Bool.{true≢false}
use Rattle.std.specs.List.{AllByRecursion, cons_option}
use Rattle.std.specs.declared.cmp.Ordering.{Ordering}
use Rattle.std.specs.declared.cmp.Ordering.TheVariants.{Less, Equal, Greater}
use Rattle.std.specs.Ordering.{is_eq, is_le, is_lt, ordering_reverse}
use Rattle.cas_cell.specs.Deletions.{deletion_cmp}
use Rattle.cas_cell.specs.declared.deletion.Deletion.{Deletion}
use Rattle.cas_cell.proofs.OrderLaws.{deletion_laws}
use Rattle.cas_bounds.specs.Keys.{key_cmp}
use Rattle.cas_bounds.specs.Points.{cut_point, side}
use Rattle.cas_bounds.specs.declared.order.Ordered.{Ordered}
use Rattle.cas_bounds.specs.declared.cuts.Cut.{Cut}
use Rattle.cas_atoms.specs.Greatest.{greater}
use Rattle.cas_atoms.specs.declared.atom.Atom.{Atom}
use Rattle.cas_atoms.specs.declared.atom.Atom.TheVariants.{RangeDeletion}
use Rattle.cas_atoms.proofs.GreatestLemmas.{greater_comm}
use Rattle.cas_laws.specs.Given.{Has}
use Rattle.cas_streams.specs.Flat.{Change, changes, own}
use Rattle.cas_streams.specs.Streams.{Differ, IsOf, IsOrdered}
use Rattle.cas_streams.specs.Joined.{Stream, opened, raised as raised_fragment, joined_fragment, fragment_cmp, by_place}
use Rattle.cas_streams.specs.Merged.{Draw, nobody, one, pair, draw, joined_all, merged}
use Rattle.cas_streams.specs.Settled.{if_said, bare, same_force, settled_from}
use Rattle.cas_streams.specs.Weaving.{rights, among, woven}
use Rattle.cas_streams.specs.declared.fragment.Fragment.{Fragment}
use Rattle.cas_streams.specs.declared.fragment.Fragment.TheVariants as fragment
use Rattle.cas_streams.proofs.Forces.{forces}
use Rattle.cas_streams.proofs.InOrder.{Rise}
use Rattle.cas_streams.proofs.Merges.{Each, all_drawn, all_ordered}
use Rattle.cas_streams.proofs.Settling.{same_force_is}
use Rattle.cas_streams.proofs.Twins.{Twins, twins}
use Rattle.cas_streams.proofs.Weaves.{by_case}
use Rattle.cas_partition.specs.Ends.{IsEnd, MovesAt, AreAtEnds}
use Rattle.cas_partition.specs.Ranges.{key_of, lies, raised, has_cut, inserted, with_cut}
use Rattle.cas_partition.specs.Inner.Slots.{is_after}
use Rattle.cas_partition.proofs.Raising.{at, Stands, Over, as_points, turn, chain, tie, ties, over_none, over_too, tied_over}

-- ---- ends among more atoms

has_before : (A B : List Atom) (a : Atom) → Has A a → Has (A ++ B) a
has_before [] B a none = absurd none
has_before (x ∷ A) B a (inl e) = inl e
has_before (x ∷ A) B a (inr h) = inr (has_before A B a h)

has_behind : (A B : List Atom) (a : Atom) → Has B a → Has (A ++ B) a
has_behind [] B a h = h
has_behind (x ∷ A) B a h = inr (has_behind A B a h)

pub end_before : (A B : List Atom) (c : Cut) → IsEnd A c → IsEnd (A ++ B) c
end_before A B c e = record { lo = e.lo; hi = e.hi; deletion = e.deletion; has = has_before A B (RangeDeletion e.lo e.hi e.deletion) e.has; at = e.at }

pub end_behind : (A B : List Atom) (c : Cut) → IsEnd B c → IsEnd (A ++ B) c
end_behind A B c e = record { lo = e.lo; hi = e.hi; deletion = e.deletion; has = has_behind A B (RangeDeletion e.lo e.hi e.deletion) e.has; at = e.at }

has_either : (A B : List Atom) (a : Atom) → Has (A ++ B) a → Has A a ⊎ Has B a
has_either [] B a h = inr h
has_either (x ∷ A) B a (inl e) = inl (inl e)
has_either (x ∷ A) B a (inr h) = elim (has_either A B a h) [ inl first ↦ inl (inr first) | inr last ↦ inr last ]

-- an end among two lists is one among the first or among the second
pub ends_both : (A B C D : List Atom) → ((c : Cut) → IsEnd A c → IsEnd C c) → ((c : Cut) → IsEnd B c → IsEnd D c) → (c : Cut) → IsEnd (A ++ B) c → IsEnd (C ++ D) c
ends_both A B C D f g c e = elim (has_either A B (RangeDeletion e.lo e.hi e.deletion) e.has) [
  | inl first ↦ end_before C D c (f c (record { lo = e.lo; hi = e.hi; deletion = e.deletion; has = first; at = e.at }))
  | inr last ↦ end_behind C D c (g c (record { lo = e.lo; hi = e.hi; deletion = e.deletion; has = last; at = e.at }))
]

pub moves_so : (P Q : Cut → Type 0) → ((c : Cut) → P c → Q c) → (now : Option Deletion) (ms : List Change) → MovesAt P now ms → MovesAt Q now ms
moves_so P Q h now [] mv = tt
moves_so P Q h now (m ∷ ms) mv = (elim mv.0 [ inl e ↦ inl e | inr p ↦ inr (h m.at p) ], moves_so P Q h m.to ms mv.1)

pub ends_before : (A B : List Atom) (ms : List Change) → AreAtEnds A ms → AreAtEnds (A ++ B) ms
ends_before A B ms mv = moves_so (IsEnd A) (IsEnd (A ++ B)) (end_before A B) None ms mv

pub ends_behind : (A B : List Atom) (ms : List Change) → AreAtEnds B ms → AreAtEnds (A ++ B) ms
ends_behind A B ms mv = moves_so (IsEnd B) (IsEnd (A ++ B)) (end_behind A B) None ms mv

-- where each change does change what is in force
pub all_at : (P : Cut → Type 0) (now : Option Deletion) (ms : List Change) → Differ now ms → MovesAt P now ms → AllByRecursion (λ m. P m.at) ms
all_at P now [] differ mv = tt
all_at P now (m ∷ ms) differ mv = (elim mv.0 [ inl e ↦ absurd (differ.0 e) | inr p ↦ p ], all_at P m.to ms differ.1 mv.1)

-- ---- place is made

module _ (P : Cut → Type 0) where
  inserted_moves : (now : Option Deletion) (c : Cut) (ms : List Change) → MovesAt P now ms → MovesAt P now (inserted now c ms)
  inserted_moves now c [] mv = (inl refl, tt)
  inserted_moves now c (m ∷ ms) mv =
      elim (is_lt (key_cmp (key_of c) (key_of m.at))) as (λ b. MovesAt P now (cond b (record { at = c; to = now } ∷ m ∷ ms) (m ∷ inserted m.to c ms))) [
        | true ↦ (inl refl, mv)
        | false ↦ (mv.0, inserted_moves m.to c ms mv.1)
      ]

  pub with_cut_moves : (c : Cut) (ms : List Change) → MovesAt P None ms → MovesAt P None (with_cut c ms)
  with_cut_moves c ms mv = elim (has_cut c ms) as (λ b. MovesAt P None (cond b ms (inserted None c ms))) [ true ↦ mv | false ↦ inserted_moves None c ms mv ]

-- ---- a range is raised

-- a cut of one order is where it stands
pub one_cut_there : (order : List Ordered) (k l : Cut) → k.order ≡ order → l.order ≡ order → cut_point k ≡ cut_point l → k ≡ l
one_cut_there order k l e f same =
    let orders : k.order ≡ l.order = e ∙ sym f in
    let sides : k.after ≡ l.after = sym (again k.after) ∙ ap (λ p. is_after p.end) same ∙ again l.after in
    λ i. record { prefix = (same i).values; after = sides i; order = orders i }
  where
    again : (b : Bool) → is_after (side b) ≡ b
    again true = refl
    again false = refl

module _ (order : List Ordered) (lo hi : Cut) (lo_of : lo.order ≡ order) (hi_of : hi.order ≡ order) (some : at order lo hi ≡ Less) (P : Cut → Type 0) (low : P lo) (high : P hi) (d : Deletion) where
  lies_is : (c : Cut) → c.order ≡ order → (r s : Ordering) → at order lo c ≡ r → at order hi c ≡ s → lies lo hi c ≡ (is_le r && not (is_le s))
  lies_is c of r s e f = λ i. is_le ((as_points order lo c lo_of of ∙ e) i) && not (is_le ((as_points order hi c hi_of of ∙ f) i))

  -- what is in force with the deletion, where that reaches
  abbrev more : Bool → Option Deletion → Option Deletion
  more b now = cond b (greater deletion_cmp now (Some d)) now

  as_before : (b : Bool) (now to : Option Deletion) (c : Cut) → (now ≡ to) ⊎ P c → (more b now ≡ more b to) ⊎ P c
  as_before b now to c (inl e) = inl (ap (more b) e)
  as_before b now to c (inr p) = inr p

  -- one change, and those behind it
  abbrev Goes : Option Deletion → Change → List Change → Bool → Type 0
  Goes now m ms b = MovesAt P now (record { at = m.at; to = more b m.to } ∷ raised (lies lo hi) d ms)

  past : (now : Option Deletion) (ms : List Change) → Over order hi ms → Rise order ms → MovesAt P now ms → MovesAt P now (raised (lies lo hi) d ms)
  past now [] over rise mv = tt
  past now (m ∷ ms) over rise mv =
      subst (Goes now m ms) (sym (lies_is m.at rise.0 Less Less (chain order lo hi m.at some over.0) over.0)) (mv.0, past m.to ms over.1 rise.2 mv.1)

  within : (now : Option Deletion) (ms : List Change) → Over order lo ms → Stands order hi ms → Rise order ms → MovesAt P now ms → MovesAt P (more true now) (raised (lies lo hi) d ms)
  unfolding Stands
  within now [] over stands rise mv = absurd stands
  within now (m ∷ ms) over stands rise mv =
      elim (at order hi m.at) as (λ s. at order hi m.at ≡ s → MovesAt P (more true now) (raised (lies lo hi) d (m ∷ ms))) [
        | Less ↦ λ s. absurd (over_none order hi (m ∷ ms) (s, over_too order hi m.at ms s rise.1) stands)
        | Equal ↦ λ s.
            subst (Goes (more true now) m ms) (sym (lies_is m.at rise.0 Less Equal over.0 s)) (
              inr (subst P (one_cut_there order hi m.at hi_of rise.0 (ties order hi m.at s)) high),
              past m.to ms (tied_over order hi m.at ms s rise.1) rise.2 mv.1,
            )
        | Greater ↦ λ s.
            let later : Stands order hi ms = elim stands [ inl e ↦ absurd (true≢false (ap is_eq (sym e ∙ s))) | inr l ↦ l ] in
            subst (Goes (more true now) m ms) (sym (lies_is m.at rise.0 Less Greater over.0 s))
            (as_before true now m.to m.at mv.0, within m.to ms over.1 later rise.2 mv.1)
      ] refl

  reaches : (now : Option Deletion) (ms : List Change) → Stands order lo ms → Stands order hi ms → Rise order ms → MovesAt P now ms → MovesAt P now (raised (lies lo hi) d ms)
  unfolding Stands
  reaches now [] first last rise mv = absurd first
  reaches now (m ∷ ms) first last rise mv =
      elim (at order lo m.at) as (λ r. at order lo m.at ≡ r → MovesAt P now (raised (lies lo hi) d (m ∷ ms))) [
        | Less ↦ λ r. absurd (over_none order lo (m ∷ ms) (r, over_too order lo m.at ms r rise.1) first)
        | Equal ↦ λ r.
            let above : at order hi m.at ≡ Greater = turn order hi m.at ∙ ap ordering_reverse (sym (tie order lo m.at hi r) ∙ some) in
            let later : Stands order hi ms = elim last [ inl e ↦ absurd (true≢false (ap is_eq (sym e ∙ above))) | inr l ↦ l ] in
            subst (Goes now m ms) (sym (lies_is m.at rise.0 Equal Greater r above)) (
              inr (subst P (one_cut_there order lo m.at lo_of rise.0 (ties order lo m.at r)) low),
              within m.to ms (tied_over order lo m.at ms r rise.1) later rise.2 mv.1,
            )
        | Greater ↦ λ r.
            let under : at order m.at lo ≡ Less = turn order m.at lo ∙ ap ordering_reverse r in
            let lower : at order hi m.at ≡ Greater = turn order hi m.at ∙ ap ordering_reverse (chain order m.at lo hi under some) in
            let low_later : Stands order lo ms = elim first [ inl e ↦ absurd (true≢false (ap is_eq (sym e ∙ r))) | inr l ↦ l ] in
            let high_later : Stands order hi ms = elim last [ inl e ↦ absurd (true≢false (ap is_eq (sym e ∙ lower))) | inr l ↦ l ] in
            subst (Goes now m ms) (sym (lies_is m.at rise.0 Greater Greater r lower)) (mv.0, reaches m.to ms low_later high_later rise.2 mv.1)
      ] refl

  pub raised_moves : (ms : List Change) → Stands order lo ms → Stands order hi ms → Rise order ms → MovesAt P None ms → MovesAt P None (raised (lies lo hi) d ms)
  raised_moves ms first last rise mv = reaches None ms first last rise mv

-- ---- a merge

module _ (P : Cut → Type 0) where
  -- a marker that changes what is in force is at such a cut
  abbrev Step : Option Deletion → Fragment → Type 0
  Step now (fragment.Static columns) = Unit {0}
  Step now (fragment.Row r) = Unit {0}
  Step now (fragment.Marker cut d) = (now ≡ d) ⊎ P cut

  abbrev Steps : Option Deletion → List Fragment → Type 0
  Steps now [] = Unit {0}
  Steps now (f ∷ fs) = Step now f × Steps (opened now f) fs

  steps_move : (now : Option Deletion) (fs : List Fragment) → Steps now fs → MovesAt P now (changes fs)
  steps_move now [] st = tt
  steps_move now (fragment.Static columns ∷ fs) st = steps_move now fs st.1
  steps_move now (fragment.Row r ∷ fs) st = steps_move now fs st.1
  steps_move now (fragment.Marker cut d ∷ fs) st = (st.0, steps_move d fs st.1)

  moves_step : (now : Option Deletion) (fs : List Fragment) → MovesAt P now (changes fs) → Steps now fs
  moves_step now [] mv = tt
  moves_step now (fragment.Static columns ∷ fs) mv = (tt, moves_step now fs mv)
  moves_step now (fragment.Row r ∷ fs) mv = (tt, moves_step now fs mv)
  moves_step now (fragment.Marker cut d ∷ fs) mv = (mv.0, moves_step d fs mv.1)

  -- what is in force in both
  abbrev now_in : Option Deletion → Option Deletion → Option Deletion
  now_in l r = greater deletion_cmp l r

  in_turn : (l r : Option Deletion) → now_in l r ≡ now_in r l
  in_turn l r = greater_comm deletion_laws.orders l r

  step_left : (l r : Option Deletion) (f : Fragment) → Step l f → Step (now_in l r) (raised_fragment r f)
  step_left l r (fragment.Static columns) st = tt
  step_left l r (fragment.Row row) st = tt
  step_left l r (fragment.Marker cut d) (inl e) = inl (ap (λ o. now_in o r) e)
  step_left l r (fragment.Marker cut d) (inr p) = inr p

  step_right : (l r : Option Deletion) (f : Fragment) → Step r f → Step (now_in l r) (raised_fragment l f)
  step_right l r (fragment.Static columns) st = tt
  step_right l r (fragment.Row row) st = tt
  step_right l r (fragment.Marker cut d) (inl e) = inl (ap (now_in l) e ∙ in_turn l d)
  step_right l r (fragment.Marker cut d) (inr p) = inr p

  open_left : (l r : Option Deletion) (f : Fragment) → opened (now_in l r) (raised_fragment r f) ≡ now_in (opened l f) r
  open_left l r (fragment.Static columns) = refl
  open_left l r (fragment.Row row) = refl
  open_left l r (fragment.Marker cut d) = refl

  open_right : (l r : Option Deletion) (f : Fragment) → opened (now_in l r) (raised_fragment l f) ≡ now_in l (opened r f)
  open_right l r (fragment.Static columns) = refl
  open_right l r (fragment.Row row) = refl
  open_right l r (fragment.Marker cut d) = in_turn d l

  step_both : (order : List Ordered) (l r : Option Deletion) (f g : Fragment) → IsOf order f → IsOf order g → Twins f g → Step l f → Step r g → Step (now_in l r) (joined_fragment f g)
  step_both order l r (fragment.Static cs) (fragment.Static ds) of og t st su = tt
  step_both order l r (fragment.Row a) (fragment.Row b) of og t st su = tt
  step_both order l r (fragment.Marker k d) (fragment.Marker m e) of og t (inl p) (inl q) = inl (λ i. now_in (p i) (q i))
  step_both order l r (fragment.Marker k d) (fragment.Marker m e) of og t (inr p) su = inr p
  step_both order l r (fragment.Marker k d) (fragment.Marker m e) of og t (inl p) (inr q) = inr (subst P (sym (one_cut_there order k m of og t)) q)
  step_both order l r (fragment.Static cs) (fragment.Row b) of og t st su = absurd t
  step_both order l r (fragment.Static cs) (fragment.Marker m e) of og t st su = absurd t
  step_both order l r (fragment.Row a) (fragment.Static ds) of og t st su = absurd t
  step_both order l r (fragment.Row a) (fragment.Marker m e) of og t st su = absurd t
  step_both order l r (fragment.Marker k d) (fragment.Static ds) of og t st su = absurd t
  step_both order l r (fragment.Marker k d) (fragment.Row b) of og t st su = absurd t

  open_both : (l r : Option Deletion) (f g : Fragment) → Twins f g → opened (now_in l r) (joined_fragment f g) ≡ now_in (opened l f) (opened r g)
  open_both l r (fragment.Static cs) (fragment.Static ds) t = refl
  open_both l r (fragment.Row a) (fragment.Row b) t = refl
  open_both l r (fragment.Marker k d) (fragment.Marker m e) t = refl
  open_both l r (fragment.Static cs) (fragment.Row b) t = absurd t
  open_both l r (fragment.Static cs) (fragment.Marker m e) t = absurd t
  open_both l r (fragment.Row a) (fragment.Static ds) t = absurd t
  open_both l r (fragment.Row a) (fragment.Marker m e) t = absurd t
  open_both l r (fragment.Marker k d) (fragment.Static ds) t = absurd t
  open_both l r (fragment.Marker k d) (fragment.Row b) t = absurd t

  from_now : (now then : Option Deletion) (fs : List Fragment) → now ≡ then → Steps then fs → Steps now fs
  from_now now then fs e st = subst (λ o. Steps o fs) (sym e) st

  module _ (order : List Ordered) where
    rights_step : (l r : Option Deletion) (ys : List Fragment) → Steps r ys → Steps (now_in l r) (rights by_place (forces l r) ys)
    rights_step l r [] su = tt
    rights_step l r (y ∷ ys) su =
        let rest : List Fragment = rights by_place (forces l (opened r y)) ys in
        (step_right l r y su.0, from_now (opened (now_in l r) (raised_fragment l y)) (now_in l (opened r y)) rest (open_right l r y) (rights_step l (opened r y) ys su.1))

    among_step : (x : Fragment) (xs : List Fragment) → IsOf order x
        → ((l r : Option Deletion) (zs : List Fragment) → AllByRecursion (IsOf order) zs → Steps l xs → Steps r zs → Steps (now_in l r) (woven by_place (forces l r) xs zs))
        → (l r : Option Deletion) (ys : List Fragment) → AllByRecursion (IsOf order) ys → Steps l (x ∷ xs) → Steps r ys
        → Steps (now_in l r) (among by_place x (λ t zs. woven by_place t xs zs) (forces l r) ys)
    among_step x xs of h l r [] og st su =
        let rest : List Fragment = woven by_place (forces (opened l x) r) xs [] in
        (step_left l r x st.0, from_now (opened (now_in l r) (raised_fragment r x)) (now_in (opened l x) r) rest (open_left l r x) (h (opened l x) r [] tt st.1 tt))
    among_step x xs of h l r (y ∷ ys) og st su =
        let first : List Fragment = woven by_place (forces (opened l x) r) xs (y ∷ ys) in
        let both : List Fragment = woven by_place (forces (opened l x) (opened r y)) xs ys in
        let last : List Fragment = among by_place x (λ t zs. woven by_place t xs zs) (forces l (opened r y)) ys in
        by_case (Steps (now_in l r)) (fragment_cmp x y) (raised_fragment r x ∷ first) (joined_fragment x y ∷ both) (raised_fragment l y ∷ last)
        (λ e. (
          step_left l r x st.0,
          from_now (opened (now_in l r) (raised_fragment r x)) (now_in (opened l x) r) first (open_left l r x) (h (opened l x) r (y ∷ ys) og st.1 su),
        ))
        (λ e.
        let t : Twins x y = twins x y e in (
          step_both order l r x y of og.0 t st.0 su.0,
          from_now (opened (now_in l r) (joined_fragment x y)) (now_in (opened l x) (opened r y)) both (open_both l r x y t) (h (opened l x) (opened r y) ys og.1 st.1 su.1),
        ))
        (λ e. (
          step_right l r y su.0,
          from_now (opened (now_in l r) (raised_fragment l y)) (now_in l (opened r y)) last (open_right l r y) (among_step x xs of h l (opened r y) ys og.1 st su.1),
        ))

    woven_step : (l r : Option Deletion) (xs ys : List Fragment) → AllByRecursion (IsOf order) xs → AllByRecursion (IsOf order) ys → Steps l xs → Steps r ys
        → Steps (now_in l r) (woven by_place (forces l r) xs ys)
    woven_step l r [] ys of og st su = rights_step l r ys su
    woven_step l r (x ∷ xs) ys of og st su = among_step x xs of.0 (λ k m zs oz a b. woven_step k m xs zs of.1 oz a b) l r ys og st su

    all_step : (d : Draw) → Each (λ s. IsOrdered order s.fragments) d → Each (λ s. Steps None s.fragments) d → Steps None (joined_all d).fragments
    all_step nobody o a = tt
    all_step (one s) o a = a
    all_step (pair l r) o a =
        woven_step None None (joined_all l).fragments (joined_all r).fragments (all_ordered order l o.0).of (all_ordered order r o.1).of (all_step l o.0 a.0) (all_step r o.1 a.1)

  -- ---- what is left of it

  if_there : (now : Option Deletion) (atoms : List Atom) (f : Fragment) (rest : List Fragment) → opened now f ≡ now → Step now f → Steps now rest → Steps now (cons_option (if_said atoms f) rest)
  if_there now [] f rest e st all = all
  if_there now (a ∷ atoms) f rest e st all = (st, from_now (opened now f) now rest e all)

  settled_step : (top now : Option Deletion) (fs : List Fragment) → Steps now fs → Steps now (settled_from top now fs)
  settled_step top now [] st = tt
  settled_step top now (fragment.Static cs ∷ fs) st =
      let left : Fragment = bare top now (fragment.Static cs) in if_there now (own left) left (settled_from top now fs) refl tt (settled_step top now fs st.1)
  settled_step top now (fragment.Row r ∷ fs) st =
      let left : Fragment = bare top now (fragment.Row r) in if_there now (own left) left (settled_from top now fs) refl tt (settled_step top now fs st.1)
  settled_step top now (fragment.Marker cut d ∷ fs) st =
      elim (same_force now d) as (λ b. same_force now d ≡ b → Steps now (cons_option (cond b None (Some (fragment.Marker cut d))) (settled_from top d fs))) [
        | true ↦ λ e. from_now now d (settled_from top d fs) (same_force_is now d e) (settled_step top d fs st.1)
        | false ↦ λ e. (st.0, settled_step top d fs st.1)
      ] refl

  each_step : (ss : List Stream) → AllByRecursion (λ s. MovesAt P None (changes s.fragments)) ss → AllByRecursion (λ s. Steps None s.fragments) ss
  each_step [] all = tt
  each_step (s ∷ ss) all = (moves_step None s.fragments all.0, each_step ss all.1)

  pub merge_moves : (order : List Ordered) (ss : List Stream) → AllByRecursion (λ s. IsOrdered order s.fragments) ss → AllByRecursion (λ s. MovesAt P None (changes s.fragments)) ss
      → MovesAt P None (changes (merged ss).fragments)
  merge_moves order ss ordered all =
      let j : Stream = joined_all (draw ss) in
      let drawn : Each (λ s. IsOrdered order s.fragments) (draw ss) = all_drawn (λ s. IsOrdered order s.fragments) ss ordered in
      steps_move None (merged ss).fragments
      (settled_step j.top None j.fragments (all_step order (draw ss) drawn (all_drawn (λ s. Steps None s.fragments) ss (each_step ss all))))
