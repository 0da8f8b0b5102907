-- What is noted of where the fragments behind a cut begin.
use Rattle.std.proofs.Common.{◌≡◌, ℕ, zero, suc, ◌+◌, ◌-◌, ◌≤◌, ◌++◌, Bool, true, false, eqb, cond, Option, None, Some, List, [], ◌∷◌, length, Ok, Err, refl, sym, ap, subst, ◌∙◌, arith}
use Rattle.std.specs.Prelude.{nat_le}
use Rattle.std.specs.Ordering.{is_lt}
use Rattle.std.proofs.lemmas.Bool.{eqb-false}
use Rattle.cas_types.specs.Limits.{IsNarrow}
use Rattle.cas_types.specs.declared.schema.Column.{Column}
use Rattle.cas_cell.specs.declared.deletion.Deletion.{Deletion}
use Rattle.cas_bounds.specs.ClusteringOrder.{clustering_order}
use Rattle.cas_bounds.specs.Points.{cut_point, Point}
use Rattle.cas_bounds.specs.declared.cuts.Cut.{Cut}
use Rattle.cas_bounds.specs.declared.order.Ordered.{Ordered}
use Rattle.cas_codec.specs.Exact.{AreBytes}
use Rattle.cas_codec.specs.declared.fault.ReadFault.{ReadFault}
use Rattle.cas_codec.specs.declared.fault.ReadFault.TheVariants.{Bad}
use Rattle.cas_codec.specs.Reading.{Left, Read, ◌>>=◌, checked}
use Rattle.cas_codec.proofs.Exactness.{Begins-then, ok_is}
use Rattle.cas_streams.specs.Joined.{opened}
use Rattle.cas_streams.specs.Places.{place_of, place_cmp}
use Rattle.cas_streams.specs.declared.fragment.Fragment.{Fragment}
use Rattle.cas_fragments.specs.Blocks.{Reached, may_follow}
use Rattle.cas_fragments.specs.declared.blocks.TheConstants.{BLOCK_LEAST}
use Rattle.cas_fragments.specs.Reading.{fragment_at, next_fragment_at, early_fragment_at}
use Rattle.cas_skips.specs.Told.{told}
use Rattle.cas_skips.specs.Marks.{Mark, mark_of, force_behind}
use Rattle.cas_skips.specs.Blocks.{spelled, is_beyond, skipped}
use Rattle.cas_skips.specs.Inner.Stops.{left_from, IsFurther, IsFirst, IsKept}
use Rattle.cas_skips.specs.Inner.Notes.{found, ArePassed, IsSpot, IsSought, IsNoted, IsNoteOf, IsOfSkip, IsHeld, note_behind}
use Rattle.cas_skips.specs.declared.notes.Spot.{Spot}
use Rattle.cas_skips.specs.declared.notes.Note.{Note}
use Rattle.cas_skips.proofs.Passing.{told_ok}
use Rattle.cas_skips.proofs.Spelling.{none_spelled, first_spelled, beyond, beyond_is, opened_is, skip_found, not_further, further, left_within, left_is}

-- ---- a fragment that may stand there

of_checked : {A B : Type 0} (test : A → Bool) (f : A → B) (bad : ReadFault) (read : Read A) (b : B) (new : Left)
    → told f (read >>= λ x. cond (test x.0) (Ok x) (Err bad)) ≡ Ok (b, new) → told f read ≡ Ok (b, new)
of_checked test f bad (Err g) b new e = e
of_checked test f bad (Ok x) b new e = each (test x.0) e
  where
    each : (t : Bool) → told f (cond t (Ok x) (Err bad)) ≡ Ok (b, new) → told f (Ok x) ≡ Ok (b, new)
    each true e = e
    each false e = absurd cc

of_early : {A B : Type 0} (f : A → B) (late : Bool) (bad : ReadFault) (read : Read A) (b : B) (new : Left)
    → told f (cond late (Err bad) read) ≡ Ok (b, new) → told f read ≡ Ok (b, new)
of_early f true bad read b new e = absurd cc
of_early f false bad read b new e = e

-- ---- which fragments are passed over depends on the place of the cut alone

pub skipped_same : (order : List Ordered) (a b : Cut) (now : Option Deletion) (fs : List Fragment) → cut_point a ≡ cut_point b
    → skipped order a now fs ≡ skipped order b now fs
skipped_same order a b now [] e = refl
skipped_same order a b now (f ∷ fs) e =
    ap (λ (p : Point). cond (is_lt (place_cmp order (Some p) (place_of f))) (now, f ∷ fs) (skipped order a (opened now f) fs)) e
    ∙ ap (λ (q : Option Deletion × List Fragment). cond (is_beyond order b f) (now, f ∷ fs) q) (skipped_same order a b (opened now f) fs e)

module _ (order : List Ordered) (columns : List Column) (cut : Cut) where
  -- ---- those that were passed over

  passed_suc : (n : ℕ) (now : Option Deletion) (old : Left) (force : Option Deletion) (mid : Left) (m : Mark) (new : Left)
      → ArePassed order columns cut n now old force mid → told mark_of (fragment_at order columns mid) ≡ Ok (m, new)
      → beyond order columns order cut m ≡ false → IsFurther mid new → ArePassed order columns cut (suc n) now old (force_behind force m.opens) new
  passed_suc zero now old force mid m new so_far is low on =
      let (f, read, same) = told_ok mark_of (fragment_at order columns mid) m new is in (
        f,
        new,
        ap (fragment_at order columns) so_far.1 ∙ read,
        beyond_is order columns order cut f m same ∙ low,
        subst (λ (l : Left). IsFurther l new) (sym so_far.1) on,
        (opened_is now f ∙ ap (λ (k : Mark). force_behind now k.opens) same ∙ ap (λ (d : Option Deletion). force_behind d m.opens) so_far.0, refl),
      )
  passed_suc (suc n) now old force mid m new (f, next, read, behind, far, rest) is low on =
      (f, next, read, behind, far, passed_suc n (opened now f) next force mid m new rest is low on)

  pub passed_more : (n : ℕ) (now : Option Deletion) (old : Left) (force : Option Deletion) (mid : Left) (m : Mark) (new : Left)
      → ArePassed order columns cut n now old force mid → told mark_of (fragment_at order columns mid) ≡ Ok (m, new)
      → beyond order columns order cut m ≡ false → IsFurther mid new → ArePassed order columns cut (n + 1) now old (force_behind force m.opens) new
  passed_more n now old force mid m new so_far is low on =
      let next : suc n ≡ n + 1 = omega arith in
      subst (λ (k : ℕ). ArePassed order columns cut k now old (force_behind force m.opens) new) next (passed_suc n now old force mid m new so_far is low on)

  pub passed_further : (n : ℕ) (now : Option Deletion) (old : Left) (force : Option Deletion) (new : Left)
      → ArePassed order columns cut n now old force new → IsFurther old new
  passed_further zero now old force new so_far = subst (λ (l : Left). IsFurther old l) so_far.1 (not_further old)
  passed_further (suc n) now old force new (f, next, read, behind, far, rest) =
      let others = passed_further n (opened now f) next force new rest in
      (far.0 ++ others.0, Begins-then far.0 others.0 old next new far.1 others.1)

  pub passed_skipped : (n k : ℕ) (now : Option Deletion) (old : Left) (force : Option Deletion) (new : Left)
      → ArePassed order columns cut n now old force new
      → skipped order cut now (spelled order columns (n + k) old) ≡ skipped order cut force (spelled order columns k new)
  passed_skipped zero k now old force new so_far =
      let none : zero + k ≡ k = omega arith in
      ap (λ (j : ℕ). skipped order cut now (spelled order columns j old)) none
      ∙ ap (λ (l : Left). skipped order cut now (spelled order columns k l)) so_far.1
      ∙ ap (λ (d : Option Deletion). skipped order cut d (spelled order columns k new)) so_far.0
  passed_skipped (suc n) k now old force new (f, next, read, behind, far, rest) =
      let fs = spelled order columns (n + k) next in
      let one : suc n + k ≡ suc (n + k) = omega arith in
      ap (λ (j : ℕ). skipped order cut now (spelled order columns j old)) one
      ∙ ap (skipped order cut now) (first_spelled order columns (n + k) old f next read)
      ∙ ap (λ (b : Bool). cond b (now, f ∷ fs) (skipped order cut (opened now f) fs)) behind
      ∙ passed_skipped n k (opened now f) next force new rest

  -- without the first of them
  passed_first : (n : ℕ) (now : Option Deletion) (old : Left) (force : Option Deletion) (new : Left) (f : Fragment) (next : Left)
      → ArePassed order columns cut (suc n) now old force new → fragment_at order columns old ≡ Ok (f, next)
      → ArePassed order columns cut n (opened now f) next force new
  passed_first n now old force new f next (g, other, read, behind, far, rest) is =
      let same = ok_is (g, other) (f, next) (sym read ∙ is) in
      subst (λ (p : Fragment × Left). ArePassed order columns cut n (opened now p.0) p.1 force new) same rest

  -- ---- where those behind the cut begin

  stands_at : (now : Option Deletion) (m : Mark) (left new : Left) → told mark_of (fragment_at order columns left) ≡ Ok (m, new)
      → beyond order columns order cut m ≡ true → (n : ℕ) → skipped order cut now (spelled order columns n left) ≡ (now, spelled order columns n left)
  stands_at now m left new is high zero =
      let none = none_spelled order columns 0 left refl in
      ap (skipped order cut now) none ∙ ap (λ (gs : List Fragment). let p : Option Deletion × List Fragment = (now, gs) in p) (sym none)
  stands_at now m left new is high (suc n) = skip_found order columns order cut n now m left new is high

  more_counted : (force : Option Deletion) (start : Left) (count : ℕ) (spot : Spot) → IsSpot order columns cut force start count spot
      → IsSpot order columns cut force start (count + 1) spot
  more_counted force start count spot known = record {
    at = known.at;
    some = let few = known.some in omega arith;
    long = known.long;
    passed = known.passed;
    stands = known.stands;
  }

  -- a loop that looks for them passes over one fragment more
  sought_cut : (force : Option Deletion) (start : Left) (count : ℕ) (now : Option Deletion) (left : Left) (spot : Option Spot) (m : Mark) (new : Left)
      → IsSought order columns (Some cut) force start count now left spot → told mark_of (fragment_at order columns left) ≡ Ok (m, new) → IsFurther left new
      → IsSought order columns (Some cut) force start (count + 1) (force_behind now m.opens) new
      (found order (Some cut) spot (record { before = count; left = length left.bytes; force = now }) m.place)
  sought_cut force start count now left (Some spot) m new known is on = more_counted force start count spot known
  sought_cut force start count now left None m new known is on =
      let here : Spot = record { before = count; left = length left.bytes; force = now } in
      let at_mark : (b : Bool) → beyond order columns order cut m ≡ b
      → IsSought order columns (Some cut) force start (count + 1) (force_behind now m.opens) new (cond b (Some here) None) =
      λ b. elim b as (λ b. beyond order columns order cut m ≡ b
      → IsSought order columns (Some cut) force start (count + 1) (force_behind now m.opens) new (cond b (Some here) None)) [
        | true ↦ λ high. record { at = left; some = omega arith; long = refl; passed = known; stands = stands_at now m left new is high }
        | false ↦ λ low. passed_more count force start now left m new known is low on
      ] in at_mark (beyond order columns order cut m) refl

module _ (order : List Ordered) (columns : List Column) where
  pub sought_on : (low : Option Cut) (force : Option Deletion) (start : Left) (count : ℕ) (now : Option Deletion) (left : Left) (spot : Option Spot) (m : Mark) (new : Left)
      → IsSought order columns low force start count now left spot → told mark_of (fragment_at order columns left) ≡ Ok (m, new) → IsFurther left new
      → IsSought order columns low force start (count + 1) (force_behind now m.opens) new
      (found order low spot (record { before = count; left = length left.bytes; force = now }) m.place)
  sought_on None force start count now left spot m new known is on = tt
  sought_on (Some cut) force start count now left spot m new known is on = sought_cut order columns cut force start count now left spot m new known is on

  -- before the first fragment nothing was found
  pub sought_none : (low : Option Cut) (force : Option Deletion) (start : Left) → IsSought order columns low force start 0 force start None
  sought_none None force start = tt
  sought_none (Some cut) force start = (refl, refl)

  -- a fragment that may stand there is one
  pub early_is : (long : ℕ) (r : Reached) (left : Left) (m : Mark) (new : Left) → told mark_of (early_fragment_at order columns long r left) ≡ Ok (m, new)
      → told mark_of (fragment_at order columns left) ≡ Ok (m, new)
  unfolding early_fragment_at next_fragment_at checked
  early_is long r left m new e =
      of_checked (may_follow order r) mark_of (Bad left.at) (fragment_at order columns left) m new
      (of_early mark_of (nat_le BLOCK_LEAST (long - length left.bytes)) (Bad left.at) (next_fragment_at order columns r left) m new e)

  -- the same, as the code has it
  pub sought_next : IsNarrow columns → order ≡ clustering_order columns → (low : Option Cut) (force : Option Deletion) (start : Left) (count : ℕ) (now : Option Deletion)
      (left : Left) (spot : Option Spot) (long : ℕ) (r : Reached) (m : Mark) (new : Left) (behind : Option Deletion) (here : Spot) (next : Option Spot)
      → AreBytes left.bytes → told mark_of (early_fragment_at order columns long r left) ≡ Ok (m, new) → behind ≡ force_behind now m.opens
      → here ≡ record { before = count; left = length left.bytes; force = now } → next ≡ found order low spot here m.place
      → IsSought order columns low force start count now left spot → IsSought order columns low force start (count + 1) behind new next
  sought_next narrow ordered low force start count now left spot long r m new behind here next are early behind_is here_is next_is known =
      let is = early_is long r left m new early in
      let (f, read, same) = told_ok mark_of (fragment_at order columns left) m new is in
      let on = further columns narrow order ordered left left new f are read (not_further left) in
      let found_is = next_is ∙ ap (λ (h : Spot). found order low spot h m.place) here_is in
      subst (λ (d : Option Deletion). IsSought order columns low force start (count + 1) d new next) (sym behind_is)
      (subst (λ (o : Option Spot). IsSought order columns low force start (count + 1) (force_behind now m.opens) new o) (sym found_is)
      (sought_on low force start count now left spot m new known is on))

  -- what is kept of what was found
  pub noted_is : (low : Option Cut) (force : Option Deletion) (start : Left) (count : ℕ) (now : Option Deletion) (left : Left) (spot : Option Spot) (note : Option Note)
      → IsNoteOf low force spot note → IsSought order columns low force start count now left spot → IsNoted order columns start count note
  noted_is low force start count now left spot None of known = tt
  noted_is low force start count now left spot (Some note) of known =
      subst (λ (d : Option Deletion). IsSpot order columns note.cut d start count note.spot) (sym of.1)
      (subst (λ (s : Option Spot). IsSought order columns (Some note.cut) force start count now left s) of.2
      (subst (λ (c : Option Cut). IsSought order columns c force start count now left spot) of.0 known))

  -- the note behind the first fragment
  pub noted_behind : (start : Left) (count : ℕ) (note : Option Note) (f : Fragment) (next : Left) → IsNoted order columns start count note
      → fragment_at order columns start ≡ Ok (f, next) → IsNoted order columns next (count - 1) (note_behind note f)
  noted_behind start count None f next known is = tt
  noted_behind start count (Some note) f next known is = each (eqb note.spot.before 0) refl
    where
      others : Note
      others = record { cut = note.cut; force = opened note.force f; spot = record { before = note.spot.before - 1; left = note.spot.left; force = note.spot.force } }

      each : (b : Bool) → eqb note.spot.before 0 ≡ b → IsNoted order columns next (count - 1) (cond b None (Some others))
      each true e = tt
      each false e =
          let some : note.spot.before ≡ 0 → ⊥ = eqb-false note.spot.before 0 e in
          let one : note.spot.before ≡ suc (note.spot.before - 1) = omega arith in
          let few = known.some in record {
            at = known.at;
            some = omega arith;
            long = known.long;
            passed =
                passed_first order columns note.cut (note.spot.before - 1) note.force start note.spot.force known.at f next
                (subst (λ (k : ℕ). ArePassed order columns note.cut k note.force start note.spot.force known.at) one known.passed) is;
            stands = known.stands;
          }

-- ---- how a note is used

module _ (order : List Ordered) (columns : List Column) (bytes : List ℕ) (place taken count : ℕ) (kept : IsKept order columns bytes place taken) where
  -- a skip to that place leads there
  abbrev pub IsReached : List Ordered → Cut → Option Deletion → Spot → Type 0
  IsReached by cut force spot =
      (skipped by cut force (spelled order columns count (left_from bytes place taken))
      ≡ (spot.force, spelled order columns (count - spot.before) (left_from bytes place (length bytes - spot.left))))
      × (spot.before ≤ count) × (spot.left ≤ length bytes)

  reached_spot : (cut : Cut) (force : Option Deletion) (spot : Spot) → IsSpot order columns cut force (left_from bytes place taken) count spot
      → IsReached order cut force spot
  reached_spot cut force spot known =
      let far = passed_further order columns cut spot.before force (left_from bytes place taken) spot.force known.at known.passed in
      let within = left_within bytes place taken kept.some known.at far in
      let there : left_from bytes place (length bytes - spot.left) ≡ known.at =
      ap (λ (n : ℕ). left_from bytes place (length bytes - n)) known.long ∙ left_is bytes place taken kept.some known.at far in
      let few = known.some in
      let long = known.long in
      let all : count ≡ spot.before + (count - spot.before) = omega arith in (
        ap (λ (n : ℕ). skipped order cut force (spelled order columns n (left_from bytes place taken))) all
            ∙ passed_skipped order columns cut spot.before (count - spot.before) force (left_from bytes place taken) spot.force known.at known.passed
            ∙ known.stands (count - spot.before)
            ∙ ap (λ (l : Left). let p : Option Deletion × List Fragment = (spot.force, spelled order columns (count - spot.before) l) in p) (sym there),
        few,
        omega arith,
      )

  pub noted_skip : (note : Option Note) (by : List Ordered) (cut : Cut) (force : Option Deletion) (spot : Spot)
      → IsNoted order columns (left_from bytes place taken) count note → IsOfSkip note order by cut force spot → IsReached by cut force spot
  noted_skip None by cut force spot known of = absurd of
  noted_skip (Some note) by cut force spot known (same_cut, same_force, same_order, same_spot) =
      let fs = spelled order columns count (left_from bytes place taken) in
      let r = reached_spot note.cut note.force note.spot known in
      subst (λ (s : Spot). IsReached by cut force s) (sym same_spot) (
        ap (λ (o : List Ordered). skipped o cut force fs) (sym same_order)
            ∙ sym (skipped_same order note.cut cut force fs same_cut)
            ∙ ap (λ (d : Option Deletion). skipped order note.cut d fs) (sym same_force) ∙ r.0,
        r.1,
        r.2,
      )

module _ (order : List Ordered) (columns : List Column) (bytes : List ℕ) (place taken count : ℕ) (note : Option Note)
    (held : IsHeld order columns bytes place taken count note) where
  -- behind the first fragment
  pub held_behind : (f : Fragment) (long : ℕ) → IsFirst order columns (left_from bytes place taken) (Some (f, long))
      → IsHeld order columns bytes place (length bytes - long) (count - 1) (note_behind note f)
  held_behind f long first =
      let kept = held.kept in
      let far = further columns kept.narrow order kept.ordered (left_from bytes place taken) (left_from bytes place taken) first.0 f first.3 first.1
      (not_further (left_from bytes place taken)) in
      let there : left_from bytes place (length bytes - long) ≡ first.0 =
      ap (λ (n : ℕ). left_from bytes place (length bytes - n)) first.2 ∙ left_is bytes place taken kept.some first.0 far in record {
        kept = record { ordered = kept.ordered; narrow = kept.narrow; within = kept.within; some = omega arith };
        noted =
            subst (λ (l : Left). IsNoted order columns l (count - 1) (note_behind note f)) (sym there)
            (noted_behind order columns (left_from bytes place taken) count note f first.0 held.noted first.1);
      }
