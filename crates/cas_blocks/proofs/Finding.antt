-- Where the block stands that the index names for a slice, and what comes before it.
use Rattle.std.proofs.Common.{◌≡◌, ℕ, zero, suc, ◌+◌, ◌<◌, Bool, true, false, ◌&&◌, cond, Option, None, Some, List, [], ◌∷◌, ◌++◌, length, refl, sym, ap, ◌∙◌, length-append, arith}
use Rattle.std.specs.Prelude.{slice_get}
use Rattle.std.specs.List.{AllByRecursion, flat_map}
use Rattle.std.proofs.lemmas.Bool.{true≢false}
use Rattle.std.specs.Ordering.{is_lt}
use Rattle.std.specs.declared.cmp.Ordering.TheVariants.{Less}
use Rattle.cas_cell.specs.declared.deletion.Deletion.{Deletion}
use Rattle.cas_bounds.specs.Cuts.{cut_cmp}
use Rattle.cas_bounds.specs.Points.{cut_point}
use Rattle.cas_bounds.specs.declared.order.Ordered.{Ordered}
use Rattle.cas_bounds.specs.declared.cuts.Slice.{Slice}
use Rattle.cas_streams.specs.Flat.{changes, at_end}
use Rattle.cas_streams.specs.Joined.{opened}
use Rattle.cas_streams.specs.Places.{place_of, place_cmp}
use Rattle.cas_streams.specs.Streams.{IsOf, IsThere}
use Rattle.cas_streams.specs.Slices.{IsSliceOf, stands_before, is_static, opened_at, closed_at}
use Rattle.cas_streams.specs.declared.fragment.Fragment.{Fragment}
use Rattle.cas_streams.specs.declared.fragment.Fragment.TheVariants as fragment
use Rattle.cas_streams.proofs.Cutting.{changes_append, after_append}
use Rattle.cas_streams.proofs.Forces.{places_total}
use Rattle.cas_streams.proofs.Weaves.{Ascend, all_of}
use Rattle.cas_fragments.specs.Spelling.{block_bytes}
use Rattle.cas_fragments.specs.Laws.{joined}
use Rattle.cas_index.specs.Searches.{IsFirst, begins_before, next_is_above, can_meet, TellsBlock}
use Rattle.cas_index.specs.declared.entries.BlockAt.{BlockAt}
use Rattle.cas_index.specs.declared.entries.BlockEntry.{BlockEntry}
use Rattle.cas_tables.specs.Places.{first_cut, block_entries}
use Rattle.cas_blocks.specs.Cutting.{is_behind, is_before, up_to_end, cut_from}
use Rattle.cas_blocks.proofs.CutLaws.{is_less, never_true, low_is_short}
use Rattle.cas_blocks.proofs.Between.{not_behind_front, begins_is_before, before_begins, begins_is_behind}

-- ---- what isn't behind the low cut is passed

at_end_passed : (now : Option Deletion) (f : Fragment) (fs : List Fragment) → at_end (opened now f) (changes fs) ≡ at_end now (changes (f ∷ fs))
at_end_passed now (fragment.Static cs) fs = refl
at_end_passed now (fragment.Row r) fs = refl
at_end_passed now (fragment.Marker k d) fs = refl

pub at_end_both : (now : Option Deletion) (fs gs : List Fragment) → at_end now (changes (fs ++ gs)) ≡ at_end (at_end now (changes fs)) (changes gs)
at_end_both now fs gs = ap (at_end now) (changes_append fs gs) ∙ after_append (λ cut. true) now (changes fs) (changes gs)

module _ (order : List Ordered) (s : Slice) where
  pub cut_skips : (now : Option Deletion) (fs gs : List Fragment) → AllByRecursion (λ f. is_behind order s.lo f ≡ false) fs
      → cut_from order s now (fs ++ gs) ≡ cut_from order s (at_end now (changes fs)) gs
  cut_skips now [] gs all = refl
  cut_skips now (f ∷ fs) gs all =
      ap (λ b. cond b (opened_at s.lo now ++ up_to_end order s now (f ∷ (fs ++ gs))) (cut_from order s (opened now f) (fs ++ gs))) all.0
      ∙ cut_skips (opened now f) fs gs all.1 ∙ ap (λ d. cut_from order s d gs) (at_end_passed now f fs)

-- ---- lists in order

module _ (order : List Ordered) where
  abbrev Below : Fragment → Fragment → Type 0
  Below f g = place_cmp order (place_of f) (place_of g) ≡ Less

  -- the first ones stand before the others
  pub ascend_front : (fs gs : List Fragment) → Ascend (place_cmp order) place_of (fs ++ gs) → AllByRecursion (λ f. AllByRecursion (Below f) gs) fs
  ascend_front [] gs up = tt
  ascend_front (f ∷ fs) gs up = ((all_of (Below f) fs gs up.0).1, ascend_front fs gs up.1)

  pub ascend_back : (fs gs : List Fragment) → Ascend (place_cmp order) place_of (fs ++ gs) → Ascend (place_cmp order) place_of gs
  ascend_back [] gs up = up
  ascend_back (f ∷ fs) gs up = ascend_back fs gs up.1

-- a row or a marker of the table
abbrev pub IsRow : List Ordered → Fragment → Type 0
IsRow order f = IsOf order f × (is_static f ≡ false)

-- ---- the block that is found

-- the block stands behind others, of which nothing is behind the slice's low cut
pub record Found (order : List Ordered) (s : Slice) (place : ℕ) (now : Option Deletion) (bs : List (List Fragment)) (at : BlockAt) : Type 0 where
  pub front : List (List Fragment)
  pub first : Fragment
  pub others : List Fragment
  pub rest : List (List Fragment)
  pub split : bs ≡ front ++ (first ∷ others) ∷ rest
  pub place_is : at.place ≡ place + length (flat_map block_bytes front)
  pub force : at.in_force ≡ at_end now (changes (joined front))
  pub low : AllByRecursion (λ f. is_behind order s.lo f ≡ false) (joined front)

all_join : {X : Type 0} (P : X → Type 0) (xs ys : List X) → AllByRecursion P xs → AllByRecursion P ys → AllByRecursion P (xs ++ ys)
all_join P [] ys a b = b
all_join P (x ∷ xs) ys a b = (a.0, all_join P xs ys a.1 b)

second_part : (a b c : Bool) → a ≡ true → b ≡ true → a && (b && c) ≡ false → c ≡ false
second_part true true c p q e = e
second_part false b c p q e = absurd (true≢false (sym p))
second_part true false c p q e = absurd (true≢false (sym q))

module _ (order : List Ordered) (s : Slice) (slice : IsSliceOf order s) (some : stands_before s.lo s.hi ≡ true) where
  -- the tests of later blocks
  meets_later : (e : BlockEntry) (es : List BlockEntry) (i : ℕ) → can_meet s (e ∷ es) (suc i) ≡ can_meet s es i
  meets_later e es i =
      let more : suc i + 1 ≡ suc (i + 1) = omega arith in
      ap (λ n. is_lt (cut_cmp s.lo s.hi) && (begins_before s.hi (slice_get es i) && next_is_above s.lo (slice_get (e ∷ es) n))) more

  -- nothing of a block is behind the low cut where the next one begins no later
  all_low : (fs : List Fragment) (g : Fragment) (gs : List Fragment) → AllByRecursion (λ f. AllByRecursion (Below order f) (g ∷ gs)) fs
      → stands_before s.lo (first_cut g) ≡ false → AllByRecursion (λ f. is_behind order s.lo f ≡ false) fs
  all_low [] g gs up low = tt
  all_low (f ∷ fs) g gs up low = (not_behind_front order s.lo f g slice.lo up.0.0 low, all_low fs g gs up.1 low)

  -- a block before one that begins before the high cut does so too
  begins_earlier : (f g : Fragment) → IsRow order f → IsRow order g → Below order f g → stands_before (first_cut g) s.hi ≡ true
      → stands_before (first_cut f) s.hi ≡ true
  begins_earlier f g row-f row-g up e =
      before_begins order s.hi f row-f.0 row-f.1 (ap is_lt ((places_total order).trans (place_of f) (place_of g) (Some (cut_point s.hi)) up
      (is_less (place_cmp order (place_of g) (Some (cut_point s.hi))) (begins_is_before order s.hi g slice.hi row-g.0 e))))

  tells_later : (e : BlockEntry) (es : List BlockEntry) (at : BlockAt) (n : ℕ) → at.number ≡ suc n → TellsBlock (e ∷ es) at
      → TellsBlock es (record { number = n; place = at.place; in_force = at.in_force })
  tells_later e es at n is tells = (tells.0, ap (slice_get (e ∷ es)) (sym is) ∙ tells.1, tells.2, tells.3)

  some_is : {X : Type 0} (x y : X) → (let o : Option X = Some x in o) ≡ Some y → x ≡ y
  some_is x y e = cc

  -- the first block that can meet the slice, and that the first of all begins before its end
  pub find : (bs : List (List Fragment)) (place : ℕ) (now : Option Deletion) (n : ℕ) (at : BlockAt) → at.number ≡ n → AllByRecursion IsThere bs
      → AllByRecursion (IsRow order) (joined bs) → Ascend (place_cmp order) place_of (joined bs)
      → IsFirst (can_meet s (block_entries place now bs)) (length (block_entries place now bs)) (Some n) → TellsBlock (block_entries place now bs) at
      → Found order s place now bs at × (begins_before s.hi (slice_get (block_entries place now bs) 0) ≡ true)
  find [] place now n at is there rows up first tells = absurd (let few : n < 0 = first.0 in omega arith)
  find ([] ∷ bs) place now n at is there rows up first tells = absurd there.0
  find ((f ∷ fs) ∷ bs) place now zero at is there rows up first tells =
      let here = some_is (record { cut = first_cut f; place = place; in_force = now }) tells.0 (ap (slice_get (block_entries place now ((f ∷ fs) ∷ bs))) (sym is) ∙ tells.1) in (
        record {
          front = [];
          first = f;
          others = fs;
          rest = bs;
          split = refl;
          place_is = tells.2 ∙ sym (ap (λ (e : BlockEntry). e.place) here) ∙ omega arith;
          force = tells.3 ∙ sym (ap (λ (e : BlockEntry). e.in_force) here);
          low = tt;
        },
        begun (is_lt (cut_cmp s.lo s.hi)) (begins_before s.hi (slice_get (block_entries place now ((f ∷ fs) ∷ bs)) 0)) _ first.1,
      )
    where
      begun : (a b c : Bool) → a && (b && c) ≡ true → b ≡ true
      begun true true c e = refl
      begun true false c e = absurd (true≢false (sym e))
      begun false b c e = absurd (true≢false (sym e))
  find ((f ∷ fs) ∷ []) place now (suc n) at is there rows up first tells = absurd (let few : suc n < 1 = first.0 in omega arith)
  find ((f ∷ fs) ∷ [] ∷ bs) place now (suc n) at is there rows up first tells = absurd there.1.0
  find ((f ∷ fs) ∷ (g ∷ gs) ∷ bs) place now (suc n) at is there rows up first tells =
      let next-place : ℕ = place + length (block_bytes (f ∷ fs)) in
      let next-now : Option Deletion = at_end now (changes (f ∷ fs)) in
      let later : List (List Fragment) = (g ∷ gs) ∷ bs in
      let es : List BlockEntry = block_entries next-place next-now later in
      let e : BlockEntry = record { cut = first_cut f; place = place; in_force = now } in
      let rows-split = all_of (IsRow order) (f ∷ fs) (joined later) rows in
      let apart = ascend_front order (f ∷ fs) (joined later) up in
      let within : n < length es = (let few : suc n < suc (length es) = first.0 in omega arith) in
      let found = find later next-place next-now n (record { number = n; place = at.place; in_force = at.in_force }) refl there.1 rows-split.1
      (ascend_back order (f ∷ fs) (joined later) up)
      (within, sym (meets_later e es n) ∙ first.1, λ i low. sym (meets_later e es i) ∙ first.2 (suc i) (omega arith)) (tells_later e es at n is tells) in
      let begun = begins_earlier f g rows-split.0.0 rows-split.1.0 apart.0.0 found.1 in
      let low = second_part (stands_before s.lo s.hi) (stands_before (first_cut f) s.hi) (stands_before s.lo (first_cut g)) some begun (first.2 0 (omega arith)) in (
        record {
          front = (f ∷ fs) ∷ found.0.front;
          first = found.0.first;
          others = found.0.others;
          rest = found.0.rest;
          split = ap (λ (cs : List (List Fragment)). (f ∷ fs) ∷ cs) found.0.split;
          place_is = omega (arith, found.0.place_is, length-append (block_bytes (f ∷ fs)) (flat_map block_bytes found.0.front));
          force = found.0.force ∙ sym (at_end_both now (f ∷ fs) (joined found.0.front));
          low = all_join (λ x. is_behind order s.lo x ≡ false) (f ∷ fs) (joined found.0.front) (all_low (f ∷ fs) g (gs ++ joined bs) apart low) found.0.low;
        },
        begun,
      )

-- ---- where no block is found

module _ (order : List Ordered) (s : Slice) (slice : IsSliceOf order s) (some : stands_before s.lo s.hi ≡ true) where
  -- blocks of which the first begins before the slice's end: one of them can meet it
  one_meets : (b : BlockEntry) (bs : List BlockEntry) → AllByRecursion (λ e. e.cut.order ≡ order) (b ∷ bs) → stands_before b.cut s.hi ≡ true
      → ((i : ℕ) → i < length (b ∷ bs) → can_meet s (b ∷ bs) i ≡ false) → ⊥
  one_meets b [] of begins none = true≢false (sym (both (stands_before s.lo s.hi) (stands_before b.cut s.hi) some begins) ∙ none 0 (omega arith))
    where
      both : (x y : Bool) → x ≡ true → y ≡ true → x && (y && true) ≡ true
      both true true p q = refl
      both false y p q = p
      both true false p q = q
  one_meets b (c ∷ bs) of begins none =
      let low = second_part (stands_before s.lo s.hi) (stands_before b.cut s.hi) (stands_before s.lo c.cut) some begins (none 0 (omega arith)) in
      one_meets c bs of.1 (low_is_short order s slice some c.cut of.1.0 low) (λ i within. sym (meets_later order s slice some b (c ∷ bs) i) ∙ none (suc i) (omega arith))

  entries_of : (bs : List (List Fragment)) (place : ℕ) (now : Option Deletion) → AllByRecursion (IsRow order) (joined bs)
      → AllByRecursion (λ e. e.cut.order ≡ order) (block_entries place now bs)
  entries_of [] place now rows = tt
  entries_of ([] ∷ bs) place now rows = entries_of bs place now rows
  entries_of ((f ∷ fs) ∷ bs) place now rows = (
    first_of f rows.0.0 rows.0.1,
    entries_of bs (place + length (block_bytes (f ∷ fs))) (at_end now (changes (f ∷ fs))) (all_of (IsRow order) (f ∷ fs) (joined bs) rows).1,
  )
    where
      first_of : (g : Fragment) → IsOf order g → is_static g ≡ false → (first_cut g).order ≡ order
      first_of (fragment.Static cs) of row = absurd (true≢false row)
      first_of (fragment.Row r) of row = of
      first_of (fragment.Marker k d) of row = of

  -- a partition of which the first block begins at the slice's end or later has nothing in it
  pub begins_late : (bs : List (List Fragment)) (place : ℕ) → AllByRecursion IsThere bs → AllByRecursion (IsRow order) (joined bs)
      → IsFirst (can_meet s (block_entries place None bs)) (length (block_entries place None bs)) None → cut_from order s None (joined bs) ≡ []
  begins_late [] place there rows none = refl
  begins_late ([] ∷ bs) place there rows none = absurd there.0
  begins_late ((f ∷ fs) ∷ bs) place there rows none =
      (λ i. cond (behind i) (up_to_end order s None (f ∷ (fs ++ joined bs))) (cut_from order s (opened None f) (fs ++ joined bs)))
      ∙ ap (λ b. cond b (f ∷ up_to_end order s (opened None f) (fs ++ joined bs)) (closed_at s.hi None)) after
    where
      late : stands_before (first_cut f) s.hi ≡ false
      late = never_true (stands_before (first_cut f) s.hi)
          (λ begins. one_meets (record { cut = first_cut f; place = place; in_force = None })
          (block_entries (place + length (block_bytes (f ∷ fs))) (at_end None (changes (f ∷ fs))) bs) (entries_of ((f ∷ fs) ∷ bs) place None rows) begins none)

      is_late : (b : Bool) → stands_before s.lo (first_cut f) ≡ b → stands_before s.lo (first_cut f) ≡ true
      is_late true e = e
      is_late false e = absurd (true≢false (sym (low_is_short order s slice some (first_cut f) (entries_of ((f ∷ fs) ∷ bs) place None rows).0 e) ∙ late))

      behind : is_behind order s.lo f ≡ true
      behind = begins_is_behind order s.lo f slice.lo rows.0.1 (is_late (stands_before s.lo (first_cut f)) refl)

      after : is_before order s.hi f ≡ false
      after = never_true (is_before order s.hi f) (λ e. true≢false (sym (before_begins order s.hi f rows.0.0 rows.0.1 e) ∙ late))
