-- How fragments are taken of the bytes that spell them.
use Rattle.std.proofs.Common.{◌≡◌, ℕ, suc, ◌+◌, ◌-◌, ◌<◌, ◌≤◌, ◌++◌, Bool, true, false, cond, Option, None, Some, List, [], ◌∷◌, length, drop, Ok, Err, refl, sym, ap, ◌∙◌, length-append, length-drop, arith}
use Rattle.std.proofs.lemmas.List.{drop_at, drop-drop}
use Rattle.std.specs.List.{AllByRecursion}
use Rattle.std.specs.Ordering.{is_lt}
use Rattle.cas_types.specs.Limits.{IsNarrow}
use Rattle.cas_types.specs.declared.schema.Column.{Column}
use Rattle.cas_cell.specs.declared.deletion.Deletion.{Deletion}
use Rattle.cas_bounds.specs.ClusteringOrder.{clustering_order}
use Rattle.cas_bounds.specs.Points.{cut_point}
use Rattle.cas_bounds.specs.declared.cuts.Cut.{Cut}
use Rattle.cas_bounds.specs.declared.order.Ordered.{Ordered}
use Rattle.cas_codec.specs.declared.fault.ReadFault.{ReadFault}
use Rattle.cas_codec.specs.Exact.{AreBytes}
use Rattle.cas_codec.specs.Reading.{Left, Read}
use Rattle.cas_codec.proofs.Exactness.{read_left, Begins-then}
use Rattle.cas_streams.specs.Joined.{opened}
use Rattle.cas_streams.specs.Places.{place_of, place_cmp}
use Rattle.cas_streams.specs.declared.fragment.Fragment.{Fragment}
use Rattle.cas_streams.specs.declared.fragment.Fragment.TheVariants as fragment
use Rattle.cas_fragments.specs.Allowed.{FitsFragment}
use Rattle.cas_fragments.specs.Blocks.{Reached, past_all}
use Rattle.cas_fragments.specs.Reading.{fragment_at, body_at}
use Rattle.cas_fragments.specs.Spelling.{fragment_bytes, body_bytes}
use Rattle.cas_fragments.proofs.BlockLaws.{blocks_exact}
use Rattle.cas_fragments.proofs.FragmentLaws.{fragment_exact}
use Rattle.cas_skips.specs.Told.{told}
use Rattle.cas_skips.specs.Marks.{Mark, mark_of, force_behind}
use Rattle.cas_skips.specs.Blocks.{spelled, is_beyond, skipped}
use Rattle.cas_skips.specs.Inner.Passing.{counted}
use Rattle.cas_skips.specs.Inner.Stops.{left_from, IsKept, IsFurther, IsFirst}
use Rattle.cas_skips.proofs.Passing.{told_ok, told_err}

-- ---- the first of so many

pub none_spelled : (order : List Ordered) (columns : List Column) (n : ℕ) (left : Left) → n ≡ 0 → spelled order columns n left ≡ []
unfolding spelled
none_spelled order columns n left e = rw e refl

module _ (order : List Ordered) (columns : List Column) (n : ℕ) (left : Left) where
  pub first_spelled : (f : Fragment) (new : Left) → fragment_at order columns left ≡ Ok (f, new)
      → spelled order columns (suc n) left ≡ f ∷ spelled order columns n new
  unfolding spelled
  first_spelled f new e = rw e refl

  pub nothing_spelled : (g : ReadFault) → fragment_at order columns left ≡ Err g → spelled order columns (suc n) left ≡ []
  unfolding spelled
  nothing_spelled g e = rw e refl

-- ---- a block's bytes spell its fragments

module _ (columns : List Column) (narrow : IsNarrow columns) where
  body_spelled : (fs : List Fragment) (at : ℕ) → AllByRecursion (FitsFragment columns) fs
      → spelled (clustering_order columns) columns (length fs) (read_left (body_bytes fs) at) ≡ fs
  body_spelled [] at fit = none_spelled (clustering_order columns) columns 0 (read_left [] at) refl
  body_spelled (f ∷ fs) at fit =
      let e = (fragment_exact columns narrow).again f (body_bytes fs) at fit.0 in
      first_spelled (clustering_order columns) columns (length fs) (read_left (body_bytes (f ∷ fs)) at) f _ e
      ∙ ap (λ (gs : List Fragment). f ∷ gs) (body_spelled fs (at + length (fragment_bytes f)) fit.1)

  pub block_spelled : (order : List Ordered) → order ≡ clustering_order columns → (r : Reached) (old new : Left) (fs : List Fragment) → AreBytes old.bytes
      → body_at order columns r old ≡ Ok (fs, new) → spelled order columns (length fs) old ≡ fs
  block_spelled order is r old new fs are e =
      let f = blocks_exact.found columns narrow r old new fs are (ap (λ (o : List Ordered). body_at o columns r old) (sym is) ∙ e) in
      let here : old ≡ read_left (body_bytes fs) old.at = λ i. record { bytes = f.1 i; at = old.at } in
      ap (λ (o : List Ordered). spelled o columns (length fs) old) is
      ∙ ap (spelled (clustering_order columns) columns (length fs)) here ∙ body_spelled fs old.at f.0.fit

  -- what a check of a block's bytes tells of it
  pub checked_is : (order : List Ordered) → order ≡ clustering_order columns → (r q : Reached) (n : ℕ) (old new : Left) → AreBytes old.bytes
      → told (counted 0 r) (body_at order columns r old) ≡ Ok ((n, q), new)
      → (body_at order columns r old ≡ Ok (spelled order columns n old, new)) × (q ≡ past_all r (spelled order columns n old))
  checked_is order is r q n old new are e =
      let (fs, there, tells) = told_ok (counted 0 r) (body_at order columns r old) (n, q) new e in
      let counts : 0 + length fs ≡ n = ap (λ (p : ℕ × Reached). p.0) tells in
      let long : length fs ≡ n = omega arith in
      let same : spelled order columns n old ≡ fs =
      ap (λ (m : ℕ). spelled order columns m old) (sym long) ∙ block_spelled order is r old new fs are there in (
        there ∙ ap (λ (gs : List Fragment). let read : Read (List Fragment) = Ok (gs, new) in read) (sym same),
        ap (λ (p : ℕ × Reached). p.1) (sym tells) ∙ ap (past_all r) (sym same),
      )

-- ---- how far the bytes were taken

pub not_further : (left : Left) → IsFurther left left
not_further left = ([], record { bytes = refl; at = omega arith })

pub further : (columns : List Column) → IsNarrow columns → (order : List Ordered) → order ≡ clustering_order columns → (start old new : Left) (f : Fragment)
    → AreBytes old.bytes → fragment_at order columns old ≡ Ok (f, new) → IsFurther start old → IsFurther start new
further columns narrow order is start old new f are e so_far =
    let there = (fragment_exact columns narrow).found old new f are (ap (λ (o : List Ordered). fragment_at o columns old) (sym is) ∙ e) in
    (so_far.0 ++ fragment_bytes f, Begins-then so_far.0 (fragment_bytes f) start old new so_far.1 there.1)

module _ (bytes : List ℕ) (place taken : ℕ) (within : taken ≤ length bytes) (new : Left) (there : IsFurther (left_from bytes place taken) new) where
  left_long : length bytes ≡ taken + length there.0 + length new.bytes
  left_long =
      let a = length-drop taken bytes in
      let b : length (drop taken bytes) ≡ length there.0 + length new.bytes = ap length there.1.bytes ∙ length-append there.0 new.bytes in omega arith

  -- there are no more of them than before
  pub left_within : length new.bytes ≤ length bytes
  left_within = let all = left_long in omega arith

  pub left_is : left_from bytes place (length bytes - length new.bytes) ≡ new
  left_is =
      let all = left_long in
      let on : length bytes - length new.bytes ≡ taken + length there.0 = omega arith in
      let rest : drop (length bytes - length new.bytes) bytes ≡ new.bytes =
      ap (λ (n : ℕ). drop n bytes) on ∙ sym (drop-drop (length there.0) taken bytes)
      ∙ ap (drop (length there.0)) there.1.bytes ∙ drop_at there.0 new.bytes (length there.0) refl in
      let at : place + (length bytes - length new.bytes) ≡ new.at = omega (arith, there.1.at) in
      λ i. record { bytes = rest i; at = at i }

-- ---- taking the first one

module _ (order : List Ordered) (columns : List Column) (bytes : List ℕ) (place taken count : ℕ) (kept : IsKept order columns bytes place taken) where
  module _ (f : Fragment) (long : ℕ) (first : IsFirst order columns (left_from bytes place taken) (Some (f, long))) where
    there : IsFurther (left_from bytes place taken) first.0
    there = further columns kept.narrow order kept.ordered (left_from bytes place taken) (left_from bytes place taken) first.0 f first.3 first.1
        (not_further (left_from bytes place taken))

    pub taken_within : long ≤ length bytes
    taken_within = let fits = left_within bytes place taken kept.some first.0 there in omega (arith, first.2)

    pub taken_is : 0 < count → f ∷ spelled order columns (count - 1) (left_from bytes place (length bytes - long)) ≡ spelled order columns count (left_from bytes place taken)
    taken_is more =
        let next : count ≡ suc (count - 1) = omega arith in
        let on : left_from bytes place (length bytes - long) ≡ first.0 =
        ap (λ (n : ℕ). left_from bytes place (length bytes - n)) first.2 ∙ left_is bytes place taken kept.some first.0 there in
        ap (λ (l : Left). f ∷ spelled order columns (count - 1) l) on
        ∙ sym (first_spelled order columns (count - 1) (left_from bytes place taken) f first.0 first.1)
        ∙ ap (λ (n : ℕ). spelled order columns n (left_from bytes place taken)) (sym next)

  pub none_taken : IsFirst order columns (left_from bytes place taken) None → 0 < count → spelled order columns count (left_from bytes place taken) ≡ []
  none_taken none more =
      let next : count ≡ suc (count - 1) = omega arith in
      ap (λ (n : ℕ). spelled order columns n (left_from bytes place taken)) next
      ∙ nothing_spelled order columns (count - 1) (left_from bytes place taken) none.0 none.1

-- ---- passing over those before a cut

pub place_is : (f : Fragment) → place_of f ≡ (mark_of f).place
place_is (fragment.Static cs) = refl
place_is (fragment.Row r) = refl
place_is (fragment.Marker cut d) = refl

pub opened_is : (now : Option Deletion) (f : Fragment) → opened now f ≡ force_behind now (mark_of f).opens
opened_is now (fragment.Static cs) = refl
opened_is now (fragment.Row r) = refl
opened_is now (fragment.Marker cut d) = refl

module _ (order : List Ordered) (columns : List Column) (by : List Ordered) (cut : Cut) where
  abbrev pub beyond : Mark → Bool
  beyond m = is_lt (place_cmp by (Some (cut_point cut)) m.place)

  pub beyond_is : (f : Fragment) (m : Mark) → mark_of f ≡ m → is_beyond by cut f ≡ beyond m
  beyond_is f m e = ap (λ p. is_lt (place_cmp by (Some (cut_point cut)) p)) (place_is f) ∙ ap beyond e

  pub skip_on : (n : ℕ) (now : Option Deletion) (m : Mark) (left new : Left) → told mark_of (fragment_at order columns left) ≡ Ok (m, new) → beyond m ≡ false
      → skipped by cut now (spelled order columns (suc n) left) ≡ skipped by cut (force_behind now m.opens) (spelled order columns n new)
  skip_on n now m left new e low =
      let (f, is, same) = told_ok mark_of (fragment_at order columns left) m new e in
      ap (skipped by cut now) (first_spelled order columns n left f new is)
      ∙ ap (λ (b : Bool). cond b (now, f ∷ spelled order columns n new) (skipped by cut (opened now f) (spelled order columns n new))) (beyond_is f m same ∙ low)
      ∙ ap (λ (d : Option Deletion). skipped by cut d (spelled order columns n new)) (opened_is now f ∙ ap (λ (k : Mark). force_behind now k.opens) same)

  pub skip_found : (n : ℕ) (now : Option Deletion) (m : Mark) (left new : Left) → told mark_of (fragment_at order columns left) ≡ Ok (m, new) → beyond m ≡ true
      → skipped by cut now (spelled order columns (suc n) left) ≡ (now, spelled order columns (suc n) left)
  skip_found n now m left new e high =
      let (f, is, same) = told_ok mark_of (fragment_at order columns left) m new e in
      let fs = spelled order columns n new in
      let whole = first_spelled order columns n left f new is in
      ap (skipped by cut now) whole ∙ ap (λ (b : Bool). cond b (now, f ∷ fs) (skipped by cut (opened now f) fs)) (beyond_is f m same ∙ high)
      ∙ ap (λ (gs : List Fragment). let p : Option Deletion × List Fragment = (now, gs) in p) (sym whole)

  skip_ended : (now : Option Deletion) (n : ℕ) (left other : Left) → spelled order columns n left ≡ []
      → skipped by cut now (spelled order columns n left) ≡ (now, spelled order columns 0 other)
  skip_ended now n left other none =
      ap (skipped by cut now) none
      ∙ ap (λ (gs : List Fragment). let p : Option Deletion × List Fragment = (now, gs) in p) (sym (none_spelled order columns 0 other refl))

  -- what a loop knows that has passed over i of n
  abbrev pub HasSkipped : ℕ → Option Deletion × List Fragment → ℕ → Option Deletion → Left → Type 0
  HasSkipped n whole i now left = whole ≡ skipped by cut now (spelled order columns (n - i) left)

  pub loop_on : (n i : ℕ) (now : Option Deletion) (m : Mark) (left new : Left) (whole : Option Deletion × List Fragment) → i < n
      → told mark_of (fragment_at order columns left) ≡ Ok (m, new) → beyond m ≡ false
      → HasSkipped n whole i now left → HasSkipped n whole (i + 1) (force_behind now m.opens) new
  loop_on n i now m left new whole turns e low so_far =
      let rest : n - i ≡ suc (n - (i + 1)) = omega arith in
      so_far ∙ ap (λ (k : ℕ). skipped by cut now (spelled order columns k left)) rest ∙ skip_on (n - (i + 1)) now m left new e low

  pub loop_found : (n i : ℕ) (now : Option Deletion) (m : Mark) (left new : Left) (whole : Option Deletion × List Fragment) → i < n
      → told mark_of (fragment_at order columns left) ≡ Ok (m, new) → beyond m ≡ true
      → HasSkipped n whole i now left → whole ≡ (now, spelled order columns (n - i) left)
  loop_found n i now m left new whole turns e high so_far =
      let rest : n - i ≡ suc (n - (i + 1)) = omega arith in
      so_far ∙ ap (λ (k : ℕ). skipped by cut now (spelled order columns k left)) rest ∙ skip_found (n - (i + 1)) now m left new e high
      ∙ ap (λ (k : ℕ). let p : Option Deletion × List Fragment = (now, spelled order columns k left) in p) (sym rest)

  pub loop_bad : (n i : ℕ) (now : Option Deletion) (g : ReadFault) (left other : Left) (whole : Option Deletion × List Fragment) → i < n
      → told mark_of (fragment_at order columns left) ≡ Err g → HasSkipped n whole i now left → whole ≡ (now, spelled order columns 0 other)
  loop_bad n i now g left other whole turns e so_far =
      let rest : n - i ≡ suc (n - (i + 1)) = omega arith in
      so_far ∙ skip_ended now (n - i) left other
      (ap (λ (k : ℕ). spelled order columns k left) rest
      ∙ nothing_spelled order columns (n - (i + 1)) left g (told_err mark_of (fragment_at order columns left) g e))

  pub loop_through : (n i : ℕ) (now : Option Deletion) (left other : Left) (whole : Option Deletion × List Fragment) → n ≤ i
      → HasSkipped n whole i now left → whole ≡ (now, spelled order columns 0 other)
  loop_through n i now left other whole through so_far =
      let none : n - i ≡ 0 = omega arith in
      so_far ∙ skip_ended now (n - i) left other (none_spelled order columns (n - i) left none)
