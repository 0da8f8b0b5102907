-- A slice from one end of a partition to the other changes what is in force where the partition's own changes do.
use Rattle.std.proofs.Common.{◌≡◌, ◌⊎◌, ℕ, Bool, true, false, cond, not, ◌&&◌, Option, None, Some, List, [], ◌∷◌, ◌++◌, filter, inl, inr, refl, sym, ap, ◌∙◌, subst}
use Rattle.std.proofs.lemmas.Bool.{true≢false}
use Rattle.std.proofs.lemmas.Cmp.{tied_itself}
use Rattle.std.specs.List.{AllByRecursion}
use Rattle.std.specs.declared.cmp.Ordering.TheVariants.{Less}
use Rattle.std.specs.Ordering.{is_le, is_lt}
use Rattle.cas_cell.specs.declared.deletion.Deletion.{Deletion}
use Rattle.cas_bounds.specs.Keys.{key_cmp}
use Rattle.cas_bounds.specs.Points.{cut_point}
use Rattle.cas_bounds.specs.declared.order.Ordered.{Ordered}
use Rattle.cas_bounds.specs.declared.cuts.Cut.{Cut}
use Rattle.cas_bounds.specs.declared.cuts.Slice.{Slice}
use Rattle.cas_streams.specs.Flat.{Change, after, at_end}
use Rattle.cas_streams.specs.Slices.{stands_before}
use Rattle.cas_streams.proofs.InOrder.{Rise}
use Rattle.cas_partition.specs.Ends.{MovesAt}
use Rattle.cas_partition.specs.Ranges.{key_of, is_above, is_below, change_at, clipped}
use Rattle.cas_partition.specs.Slices.{IsAll}
use Rattle.cas_partition.proofs.Raising.{at, Over, as_points, total, chain}
use Rattle.cas_partition.proofs.Clipping.{above_is, below_is}
use Rattle.cas_partition.proofs.Slots.{is_less}

module _ (order : List Ordered) where
  abbrev low : Cut
  low = record { prefix = []; after = false; order = order }

  abbrev high : Cut
  high = record { prefix = []; after = true; order = order }

  -- what stands neither past the low end nor before the high end is that end
  at_low : (c : Cut) → c.order ≡ order → is_above low c ≡ false → c ≡ low
  at_low c of out = go c.prefix c.after refl refl (sym (above_is order low c refl of) ∙ out)
    where
      go : (prefix : List (List ℕ)) (b : Bool) → c.prefix ≡ prefix → c.after ≡ b → stands_before low (record { prefix = prefix; after = b; order = c.order }) ≡ false → c ≡ low
      go (y ∷ ys) b p q none = absurd (true≢false none)
      go [] true p q none = absurd (true≢false none)
      go [] false p q none = λ i. record { prefix = p i; after = q i; order = of i }

  at_high : (c : Cut) → c.order ≡ order → is_below high c ≡ false → c ≡ high
  at_high c of out = go c.prefix c.after refl refl (sym (below_is order high c refl of) ∙ out)
    where
      go : (prefix : List (List ℕ)) (b : Bool) → c.prefix ≡ prefix → c.after ≡ b → stands_before (record { prefix = prefix; after = b; order = c.order }) high ≡ false → c ≡ high
      go (y ∷ ys) b p q none = absurd (true≢false none)
      go [] true p q none = λ i. record { prefix = p i; after = q i; order = of i }
      go [] false p q none = absurd (true≢false none)

  -- the low end is before the high one
  low_below : (c : Cut) → c.order ≡ order → c ≡ low → is_below high c ≡ true
  low_below c of here =
      elim (is_below high c) as (λ b. is_below high c ≡ b → b ≡ true) [
        | true ↦ λ e. refl
        | false ↦ λ e. absurd (true≢false (ap (λ k. k.after) (sym (at_high c of e) ∙ here)))
      ] refl

  -- nothing stands past the high end
  none_past : (c : Cut) → c.order ≡ order → at order high c ≡ Less → ⊥
  none_past c of past =
      let same : c ≡ high = at_high c of (ap (λ r. not (is_le r)) (as_points order high c refl of ∙ past)) in
      true≢false (sym (ap is_lt (sym (tied_itself (total order) (cut_point high)) ∙ ap (at order high) (sym same) ∙ past)))

  abbrev Above : List Change → Type 0
  Above ms = AllByRecursion (λ m. is_above low m.at ≡ true) ms

  all_above : (k : Cut) → (k ≡ low) ⊎ (at order low k ≡ Less) → (ms : List Change) → Over order k ms → Rise order ms → Above ms
  all_above k from [] over rise = tt
  all_above k from (m ∷ ms) over rise =
      let below : at order low m.at ≡ Less = elim from [ inl e ↦ ap (λ c. at order c m.at) (sym e) ∙ over.0 | inr less ↦ chain order low k m.at less over.0 ] in
      (ap is_lt (as_points order low m.at refl rise.0 ∙ below), all_above m.at (inr below) ms rise.1 rise.2)

  unpassed : (now : Option Deletion) (ms : List Change) → Above ms → after (λ c. not (is_above low c)) now ms ≡ now
  unpassed now [] above = refl
  unpassed now (m ∷ ms) above = ap (λ b. after (λ c. not (is_above low c)) (cond (not b) m.to now) ms) above.0 ∙ unpassed now ms above.1

  module _ (P : Cut → Type 0) where
    opened_moves : (c : Cut) (d : Option Deletion) (rest : List Change) → (None ≡ d) ⊎ P c → MovesAt P d rest → MovesAt P None (change_at c d d ++ rest)
    opened_moves c None rest h mv = mv
    opened_moves c (Some d) rest h mv = (h, mv)

    closed_moves : (c : Cut) (d : Option Deletion) → (d ≡ None) ⊎ P c → MovesAt P d (change_at c d None)
    closed_moves c None h = tt
    closed_moves c (Some d) h = (h, tt)

    -- between both ends, and up to the high one
    abbrev inside : List Change → List Change
    inside ms = filter (λ m. is_above low m.at && is_below high m.at) ms

    amid : (now : Option Deletion) (ms : List Change) → Above ms → Rise order ms → at_end now ms ≡ None → MovesAt P now ms
        → MovesAt P now (inside ms ++ change_at high (after (is_below high) now ms) None)
    amid now [] above rise closed mv = closed_moves high now (inl closed)
    amid now (m ∷ ms) above rise closed mv =
        subst (λ b. MovesAt P now (cond (b && is_below high m.at) (m ∷ inside ms) (inside ms) ++ change_at high (after (is_below high) (cond (is_below high m.at) m.to now) ms) None)) (sym above.0)
        (elim (is_below high m.at) as (λ b. is_below high m.at ≡ b
        → MovesAt P now (cond b (m ∷ inside ms) (inside ms) ++ change_at high (after (is_below high) (cond b m.to now) ms) None)) [
          | true ↦ λ e. (mv.0, amid m.to ms above.1 rise.2 closed mv.1)
          | false ↦ λ e. last ms rise.1 rise.2 closed (at_high m.at rise.0 e)
        ] refl)
      where
        last : (ns : List Change) → Over order m.at ns → Rise order ns → at_end m.to ns ≡ None → m.at ≡ high
            → MovesAt P now (inside ns ++ change_at high (after (is_below high) now ns) None)
        last [] over rising ends here = closed_moves high now (elim mv.0 [ inl e ↦ inl (e ∙ ends) | inr p ↦ inr (subst P here p) ])
        last (n ∷ ns) over rising ends here = absurd (none_past n.at rising.0 (ap (λ c. at order c n.at) (sym here) ∙ over.0))

    whole_moves : (ms : List Change) → Rise order ms → at_end None ms ≡ None → MovesAt P None ms
        → MovesAt P None (change_at low (after (λ c. not (is_above low c)) None ms) (after (λ c. not (is_above low c)) None ms)
        ++ (inside ms ++ change_at high (after (is_below high) None ms) None))
    whole_moves [] rise closed mv = tt
    whole_moves (m ∷ ms) rise closed mv =
        elim (is_above low m.at) as (λ b. is_above low m.at ≡ b → Whole (m ∷ ms)) [
          | true ↦ λ e.
              let above : Above (m ∷ ms) = (e, all_above m.at (inr (less m.at rise.0 e)) ms rise.1 rise.2) in
              opened_moves low (begun (m ∷ ms)) (rest (m ∷ ms)) (inl (sym (unpassed None (m ∷ ms) above)))
              (subst (λ o. MovesAt P o (rest (m ∷ ms))) (sym (unpassed None (m ∷ ms) above)) (amid None (m ∷ ms) above rise closed mv))
          | false ↦ λ e.
              let here : m.at ≡ low = at_low m.at rise.0 e in
              let above : Above ms = all_above m.at (inl here) ms rise.1 rise.2 in
              let first : begun (m ∷ ms) ≡ m.to = ap (λ b. after (λ c. not (is_above low c)) (cond (not b) m.to None) ms) e ∙ unpassed m.to ms above in
              opened_moves low (begun (m ∷ ms)) (rest (m ∷ ms)) (elim mv.0 [ inl same ↦ inl (same ∙ sym first) | inr p ↦ inr (subst P here p) ])
              (subst (λ o. MovesAt P o (rest (m ∷ ms))) (sym first)
              (subst (λ b. MovesAt P m.to (cond (b && is_below high m.at) (m ∷ inside ms) (inside ms) ++ change_at high (after (is_below high) (cond (is_below high m.at) m.to None) ms) None)) (sym e)
              (subst (λ b. MovesAt P m.to (inside ms ++ change_at high (after (is_below high) (cond b m.to None) ms) None)) (sym (low_below m.at rise.0 here))
              (amid m.to ms above rise.2 closed mv.1))))
        ] refl
      where
        begun : List Change → Option Deletion
        begun ns = after (λ c. not (is_above low c)) None ns

        rest : List Change → List Change
        rest ns = inside ns ++ change_at high (after (is_below high) None ns) None

        Whole : List Change → Type 0
        Whole ns = MovesAt P None (change_at low (begun ns) (begun ns) ++ rest ns)

        less : (c : Cut) → c.order ≡ order → is_above low c ≡ true → at order low c ≡ Less
        less c of e = sym (as_points order low c refl of) ∙ is_less (key_cmp (key_of low) (key_of c)) e

    all_moves : (ms : List Change) → Rise order ms → at_end None ms ≡ None → MovesAt P None ms → MovesAt P None (clipped (record { lo = low; hi = high }) ms)
    all_moves ms rise closed mv =
        elim (is_above low high) as (λ b. MovesAt P None (cond b (change_at low (after (λ c. not (is_above low c)) None ms) (after (λ c. not (is_above low c)) None ms)
        ++ (inside ms ++ change_at high (after (is_below high) None ms) None)) [])) [
          | true ↦ whole_moves ms rise closed mv
          | false ↦ tt
        ]

    pub clipped_moves : (s : Slice) (ms : List Change) → IsAll order s → Rise order ms → at_end None ms ≡ None → MovesAt P None ms → MovesAt P None (clipped s ms)
    clipped_moves s ms all rise closed mv = subst (λ t. MovesAt P None (clipped t ms)) (λ i. record { lo = sym all.0 i; hi = sym all.1 i }) (all_moves ms rise closed mv)
