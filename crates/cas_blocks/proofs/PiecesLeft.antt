-- What is left of a partition's blocks, one fragment after another.
use Rattle.std.proofs.Common.{◌≡◌, ℕ, suc, ◌≤◌, Bool, true, false, cond, List, [], ◌∷◌, ◌++◌, Option, None, Some, Result, Ok, Err, length, refl, sym, ap, subst, ◌∙◌, append-nil, arith}
use Rattle.std.specs.Prelude.{is_none, IfOk}
use Rattle.std.specs.Option.{option_map}
use Rattle.cas_types.specs.declared.schema.Column.{Column}
use Rattle.cas_cell.specs.declared.deletion.Deletion.{Deletion}
use Rattle.cas_bounds.specs.declared.order.Ordered.{Ordered}
use Rattle.cas_bounds.specs.declared.cuts.Cut.{Cut}
use Rattle.cas_bounds.specs.declared.cuts.Slice.{Slice}
use Rattle.cas_streams.specs.Joined.{opened}
use Rattle.cas_streams.specs.Sources.{TakesFirst, Shrinks}
use Rattle.cas_streams.specs.Streams.{IsThere}
use Rattle.cas_streams.specs.Slices.{opened_at}
use Rattle.cas_streams.specs.declared.fragment.Fragment.{Fragment}
use Rattle.cas_fragments.specs.Blocks.{past_all, is_full}
use Rattle.cas_skips.specs.Blocks.{skipped, with_first}
use Rattle.cas_blocks.specs.Reading.{left_at, fragments_on}
use Rattle.cas_blocks.specs.Cutting.{is_behind, up_to_end, cut_from}
use Rattle.cas_blocks.specs.Inner.Steps.{reached, Answers}
use Rattle.cas_blocks.specs.Inner.Pieces.{pieces_left, told_on, pieces_room, IsBadBlock, IfBad}
use Rattle.cas_blocks.specs.Inner.Windows.{Begun, Comes}
use Rattle.cas_blocks.specs.declared.fault.TableFault.{TableFault}
use Rattle.cas_blocks.specs.declared.fault.TableFault.TheVariants as table_fault
use Rattle.cas_blocks.specs.declared.steps.Onward.{Onward}
use Rattle.cas_blocks.specs.declared.steps.Step.{Step}
use Rattle.cas_blocks.proofs.Onwards.{on_block, on_end, on_bad}

some_is : {X : Type 0} (x y : X) → (let o : Option X = Some x in o) ≡ Some y → x ≡ y
some_is x y e = cc

map_none : {X : Type 0} (o : Option (List X)) → option_map (λ fs. [] ++ fs) o ≡ o
map_none None = refl
map_none (Some x) = refl

-- where the partition goes on and nothing is left of the block at hand, what is told is of the blocks behind it
pub told_there : (order : List Ordered) (columns : List Column) (end : ℕ) (contents : Option (List ℕ)) (onward : Option Onward) (o : Onward)
    (rest fs : List Fragment) → onward ≡ Some o → rest ≡ [] → pieces_left order columns end contents onward rest ≡ Some fs
    → told_on order columns end contents o [] ≡ Some fs
told_there order columns end contents onward o rest fs is empty told =
    subst (λ (gs : List Fragment). told_on order columns end contents o gs ≡ Some fs) empty
    (subst (λ (x : Option Onward). pieces_left order columns end contents x rest ≡ Some fs) is told)

module _ (order : List Ordered) (columns : List Column) (number end : ℕ) where
  -- at the partition's end nothing is left
  pub piece_end : (contents : Option (List ℕ)) (o : Onward) (fs : List Fragment) → told_on order columns end contents o [] ≡ Some fs
      → ((file : List ℕ) → contents ≡ Some file → Answers order columns number end file o (Ok None)) → fs ≡ []
  piece_end None o fs told answers = cc
  piece_end (Some file) o fs told answers =
      let a = answers file refl in
      let none : fragments_on order columns o.ends o.goes_on (reached o) (left_at file end o.place) ≡ Some [] =
      on_end order columns o.ends o.goes_on (reached o) (left_at file end o.place) a.0 a.1 in
      sym (some_is [] fs (sym (ap (option_map (λ gs. [] ++ gs)) none) ∙ told))

  -- a block's fragments are the next ones
  pub piece_block : (contents : Option (List ℕ)) (o : Onward) (fs : List Fragment) (step : Step) → told_on order columns end contents o [] ≡ Some fs
      → ((file : List ℕ) → contents ≡ Some file → Answers order columns number end file o (Ok (Some step)))
      → told_on order columns end contents step.onward step.fragments ≡ Some fs
  piece_block None o fs step told answers = absurd cc
  piece_block (Some file) o fs step told answers =
      let a = answers file refl in
      let b : List Fragment = step.fragments in
      let left = left_at file end step.onward.place in
      let here = on_block order columns o.ends o.goes_on (reached o) (left_at file end o.place) left b a.0 in
      let same : fragments_on order columns step.onward.ends step.onward.goes_on (reached step.onward) left
      ≡ fragments_on order columns (is_none (past_all (reached o) b).force) (is_full b) (past_all (reached o) b) left =
      (λ i. fragments_on order columns (a.1.ends i) (a.1.goes_on i) (a.1.reached_is i) left) in
      ap (option_map (λ gs. b ++ gs)) same ∙ sym here
      ∙ sym (map_none (fragments_on order columns o.ends o.goes_on (reached o) (left_at file end o.place))) ∙ told

  -- where what stands there is bad, nothing is told
  pub piece_bad : (contents : Option (List ℕ)) (o : Onward) (f : TableFault)
      → ((file : List ℕ) → contents ≡ Some file → Answers order columns number end file o (Err f))
      → IfBad (IsBadBlock order columns number end contents (Some o)) (let r : Result (Option Fragment) TableFault = Err f in r)
  piece_bad contents o table_fault.Read answers = tt
  piece_bad contents o (table_fault.BadBlock n at) answers = answers
  piece_bad contents o table_fault.Mem answers = tt

  pub piece_sound : (contents : Option (List ℕ)) (o : Onward) (f : TableFault) (fs : List Fragment) → told_on order columns end contents o [] ≡ Some fs
      → ((file : List ℕ) → contents ≡ Some file → Answers order columns number end file o (Err f))
      → IfBad (λ n at. ⊥) (let r : Result (Option Fragment) TableFault = Err f in r)
  piece_sound contents o table_fault.Read fs told answers = tt
  piece_sound None o (table_fault.BadBlock n at) fs told answers = cc
  piece_sound (Some file) o (table_fault.BadBlock n at) fs told answers =
      let a = answers file refl in
      let none : fragments_on order columns o.ends o.goes_on (reached o) (left_at file end o.place) ≡ None =
      on_bad order columns o.ends o.goes_on (reached o) (left_at file end o.place) a.2.0 a.2.1 in
      let nothing : Option (List Fragment) = None in
      let e : nothing ≡ Some fs = sym (ap (option_map (λ gs. [] ++ gs)) none) ∙ told in
      cc
  piece_sound contents o table_fault.Mem fs told answers = tt

  -- a fragment that is taken of the block at hand
  pub taken : (contents : Option (List ℕ)) (o : Onward) (fs items rest : List Fragment) (r : Option Fragment) → told_on order columns end contents o items ≡ Some fs
      → with_first r rest ≡ items → IsThere items
      → TakesFirst fs (told_on order columns end contents o rest) (let x : Result (Option Fragment) TableFault = Ok r in x)
  taken contents o fs items rest None told is there = absurd (subst IsThere (sym is) there)
  taken None o fs items rest (Some f) told is there = absurd cc
  taken (Some file) o fs items rest (Some f) told is there =
      let on : Option (List Fragment) = fragments_on order columns o.ends o.goes_on (reached o) (left_at file end o.place) in
      go on (ap (λ (xs : List Fragment). option_map (λ gs. xs ++ gs) on) is ∙ told)
    where
      go : (x : Option (List Fragment)) → option_map (λ gs. (f ∷ rest) ++ gs) x ≡ Some fs → (hs : List Fragment) × (fs ≡ f ∷ hs) × (option_map (λ gs. rest ++ gs) x ≡ Some hs)
      go None e = absurd cc
      go (Some gs) e = (rest ++ gs, sym (some_is (f ∷ (rest ++ gs)) fs e), refl)

-- ---- passing over what is left of a block

pub skipped_shorter : (order : List Ordered) (cut : Cut) (now : Option Deletion) (fs : List Fragment) → length (skipped order cut now fs).1 ≤ length fs
skipped_shorter order cut now [] = omega arith
skipped_shorter order cut now (f ∷ fs) = go (is_behind order cut f) (skipped_shorter order cut (opened now f) fs)
  where
    go : (b : Bool) → length (skipped order cut (opened now f) fs).1 ≤ length fs → length (cond {A = Option Deletion × List Fragment} b (now, f ∷ fs) (skipped order cut (opened now f) fs)).1 ≤ suc (length fs)
    go true less = omega arith
    go false less = omega arith

module _ (order : List Ordered) (s : Slice) where
  abbrev passed : Option Deletion → Fragment → List Fragment → Bool → Option Deletion × List Fragment
  passed now f fs b = cond b (now, f ∷ fs) (skipped order s.lo (opened now f) fs)

  pub skipped_cut : (now : Option Deletion) (fs rest : List Fragment)
      → cut_from order s now (fs ++ rest) ≡ cut_from order s (skipped order s.lo now fs).0 ((skipped order s.lo now fs).1 ++ rest)
  skipped_cut now [] rest = refl
  skipped_cut now (f ∷ fs) rest = go (is_behind order s.lo f) refl (skipped_cut (opened now f) fs rest)
    where
      go : (b : Bool) → is_behind order s.lo f ≡ b → cut_from order s (opened now f) (fs ++ rest)
          ≡ cut_from order s (skipped order s.lo (opened now f) fs).0 ((skipped order s.lo (opened now f) fs).1 ++ rest)
          → cut_from order s now ((f ∷ fs) ++ rest) ≡ cut_from order s (skipped order s.lo now (f ∷ fs)).0 ((skipped order s.lo now (f ∷ fs)).1 ++ rest)
      go true e others = ap (λ (b : Bool). cut_from order s (passed now f fs b).0 ((passed now f fs b).1 ++ rest)) (sym e)
      go false e others =
          ap (λ (b : Bool). cond b (opened_at s.lo now ++ up_to_end order s now (f ∷ (fs ++ rest))) (cut_from order s (opened now f) (fs ++ rest))) e
          ∙ others ∙ ap (λ (b : Bool). cut_from order s (passed now f fs b).0 ((passed now f fs b).1 ++ rest)) (sym e)

-- what is told is what is left of the block at hand, and something behind that
behind_rest : (order : List Ordered) (columns : List Column) (end : ℕ) (contents : Option (List ℕ)) (onward : Option Onward) (rest fs : List Fragment)
    → pieces_left order columns end contents onward rest ≡ Some fs
    → (others : List Fragment) × (fs ≡ rest ++ others) × ((left : List Fragment) → pieces_left order columns end contents onward left ≡ Some (left ++ others))
behind_rest order columns end contents None rest fs told =
    ([], some_is fs rest (sym told) ∙ sym (append-nil rest), λ left. ap (λ (xs : List Fragment). Some xs) (sym (append-nil left)))
behind_rest order columns end None (Some o) rest fs told = absurd cc
behind_rest order columns end (Some file) (Some o) rest fs told =
    go (fragments_on order columns o.ends o.goes_on (reached o) (left_at file end o.place)) told
  where
    go : (x : Option (List Fragment)) → option_map (λ gs. rest ++ gs) x ≡ Some fs
        → (others : List Fragment) × (fs ≡ rest ++ others) × ((left : List Fragment) → option_map (λ gs. left ++ gs) x ≡ Some (left ++ others))
    go None e = absurd cc
    go (Some gs) e = (gs, sym (some_is (rest ++ gs) fs e), λ left. refl)

pub comes : (order : List Ordered) (columns : List Column) (end : ℕ) (contents : Option (List ℕ)) (s : Slice) (force now : Option Deletion)
    (onward : Option Onward) (before after fs : List Fragment) (left : Option (List Fragment)) (r : Result (Option Fragment) TableFault)
    → pieces_left order columns end contents onward before ≡ Some fs → skipped order s.lo force before ≡ (now, after)
    → ((gs : List Fragment) → pieces_left order columns end contents onward after ≡ Some gs → TakesFirst gs left r)
    → IfOk r (λ next. Comes order s force now fs next left)
comes order columns end contents s force now onward before after fs left (Err e) told skips first = tt
comes order columns end contents s force now onward before after fs left (Ok next) told skips first =
    let b = behind_rest order columns end contents onward before fs told in
    let same : cut_from order s force fs ≡ cut_from order s now (after ++ b.0) =
    ap (cut_from order s force) b.1 ∙ skipped_cut order s force before b.0
    ∙ ap (λ (p : Option Deletion × List Fragment). cut_from order s p.0 (p.1 ++ b.0)) skips in
    (after ++ b.0, same, first (after ++ b.0) (b.2 after))

pub shrinks_on : (order : List Ordered) (cut : Cut) (force now : Option Deletion) (end : ℕ) (onward : Option Onward) (before after : List Fragment) (most : ℕ)
    (r : Result (Option Fragment) TableFault) → skipped order cut force before ≡ (now, after) → Shrinks (pieces_room end onward after) most r
    → Shrinks (pieces_room end onward before) most r
shrinks_on order cut force now end onward before after most r skips less =
    go onward r less (let all = skipped_shorter order cut force before in
    subst (λ (p : Option Deletion × List Fragment). length p.1 ≤ length before) skips all)
  where
    go : (o : Option Onward) (r : Result (Option Fragment) TableFault) → Shrinks (pieces_room end o after) most r → length after ≤ length before
        → Shrinks (pieces_room end o before) most r
    go o (Err e) less shorter = tt
    go None (Ok None) less shorter = omega arith
    go None (Ok (Some f)) less shorter = omega arith
    go (Some x) (Ok None) less shorter = omega arith
    go (Some x) (Ok (Some f)) less shorter = omega arith

-- ---- to the slice's beginning

module _ (order : List Ordered) (s : Slice) where
  -- what a turn has
  abbrev pub IsOn : Option Deletion → Option Deletion → List Fragment → Option (List Fragment) → Type 0
  IsOn force now fs left = (gs : List Fragment) × (left ≡ Some gs) × (cut_from order s force fs ≡ cut_from order s now gs)

  pub turn_skips : (force now : Option Deletion) (fs gs : List Fragment) (f : Fragment) (left : Option (List Fragment))
      → cut_from order s force fs ≡ cut_from order s now gs
      → (rest : List Fragment) × (gs ≡ f ∷ rest) × (left ≡ Some rest) → is_behind order s.lo f ≡ false → IsOn force (opened now f) fs left
  turn_skips force now fs gs f left same next low = (
    next.0,
    next.2,
    same ∙ ap (cut_from order s now) next.1
        ∙ ap (λ b. cond b (opened_at s.lo now ++ up_to_end order s now (f ∷ next.0)) (cut_from order s (opened now f) next.0)) low,
  )

  pub turn_finds : (force now : Option Deletion) (fs gs : List Fragment) (f : Fragment) (left : Option (List Fragment))
      → cut_from order s force fs ≡ cut_from order s now gs
      → (rest : List Fragment) × (gs ≡ f ∷ rest) × (left ≡ Some rest) → is_behind order s.lo f ≡ true → Begun order s force now fs (Some f) left
  turn_finds force now fs gs f left same next high = record {
    rest = next.0;
    left_is = next.2;
    same = same ∙ ap (cut_from order s now) next.1
        ∙ ap (λ b. cond b (opened_at s.lo now ++ up_to_end order s now (f ∷ next.0)) (cut_from order s (opened now f) next.0)) high;
  }

  pub turn_ends : (force now : Option Deletion) (fs gs : List Fragment) (left : Option (List Fragment))
      → cut_from order s force fs ≡ cut_from order s now gs → (gs ≡ []) × (left ≡ Some []) → Begun order s force now fs None left
  turn_ends force now fs gs left same next = record { rest = []; left_is = next.1; same = same ∙ ap (cut_from order s now) next.0 }
