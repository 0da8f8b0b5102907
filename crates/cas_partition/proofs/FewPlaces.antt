-- A row's first places in a vector, and those behind them in a map.
use Rattle.std.proofs.Common.{◌≡◌, ℕ, ◌+◌, ◌-◌, ◌≤◌, ◌==◌, length, take, drop, get_or, arith, append_assoc, length-append, Option, None, Some, [], ◌∷◌, ◌++◌, false, cond, is_some, refl, sym, ap, ◌∙◌, subst}
use Rattle.std.proofs.lemmas.Bool.{false≢true}
use Rattle.std.proofs.lemmas.List.{append-nil}
use Rattle.std.specs.List.{AllByRecursion, insert}
use Rattle.std.specs.List.Sorted.{IsStrictlySortedBy}
use Rattle.std.specs.Map.{keys_of, lookup}
use Rattle.std.specs.BTreeMap.{insert_entry, is_at}
use Rattle.std.specs.Prelude.{slice_set, slice_index_or}
use Rattle.std.specs.Ordering.{is_eq, match_ordering}
use Rattle.std.specs.declared.cmp.Ordering.TheVariants.{Less, Greater}
use Rattle.cas_types.specs.declared.tag.TypeTag.{TypeTag}
use Rattle.cas_partition.specs.Spots.{place_cmp, blank, joined_content}
use Rattle.cas_partition.specs.Inner.Few.{AreBefore, BeginsBehind, StandsAt, FitsAt}
use Rattle.cas_partition.specs.Inner.Rows.{Said, AreInOrder, spot_in, with_place, joined_place, has_none}
use Rattle.cas_partition.specs.declared.spot.Place.{Place}
use Rattle.cas_partition.specs.declared.spot.Content.{Content}
use Rattle.cas_partition.specs.declared.spot.Room.TheVariants.{At}
use Rattle.cas_partition.specs.declared.spot.Addition.TheVariants as gives
use Rattle.cas_partition.proofs.RowLists.{place_total, above_too, above_none}
use Rattle.cas_partition.proofs.RunLists.{rest_is, place_sorted, place_keys}

-- ---- one place is sought

-- those that were passed stand before it
pub record Seeking (p : Place) (entries rest : Said) (at : ℕ) : Type 0 where
  pub before : Said
  pub are : entries ≡ before ++ rest
  pub many : at ≡ length before
  pub past : AreBefore p before

one_more_before : (p : Place) (es : Said) (e : Place × Content) → AreBefore p es → place_cmp p e.0 ≡ Greater → AreBefore p (es ++ e ∷ [])
one_more_before p [] e all is = (is, tt)
one_more_before p (x ∷ es) e all is = (all.0, one_more_before p es e all.1 is)

module _ (p : Place) (entries rest : Said) (e d : Place × Content) (at : ℕ) (some : 1 ≤ length rest) (item : e ≡ get_or rest 0 d) (so_far : Seeking p entries rest at) where
  abbrev later : Said
  later = take (length rest - 1) (drop 1 rest)

  next_is : rest ≡ e ∷ later
  next_is = rest_is rest d some ∙ ap (λ x. x ∷ later) (sym item)

  pub one_passed : place_cmp p e.0 ≡ Greater → Seeking p entries later (at + 1)
  one_passed is = record {
    before = so_far.before ++ e ∷ [];
    are = so_far.are ∙ ap (λ l. so_far.before ++ l) next_is ∙ sym (append_assoc so_far.before (e ∷ []) later);
    many = let n : length (so_far.before ++ e ∷ []) ≡ length so_far.before + 1 = length-append so_far.before (e ∷ []) in omega (arith, so_far.many, n);
    past = one_more_before p so_far.before e so_far.past is;
  }

-- ---- lists in two parts

order_behind : (xs ys : Said) → AreInOrder (xs ++ ys) → AreInOrder ys
unfolding IsStrictlySortedBy
order_behind [] ys sorted = sorted
order_behind (x ∷ xs) ys sorted = order_behind xs ys sorted.1

begins : (e : Place × Content) (es : Said) → AreInOrder (e ∷ es) → BeginsBehind e.0 es
unfolding IsStrictlySortedBy
begins e [] sorted = tt
begins e (x ∷ es) sorted = sorted.0.0

put_past : (p : Place) (c : Content) (before rest : Said) → AreBefore p before → insert_entry place_cmp (before ++ rest) p c ≡ before ++ insert_entry place_cmp rest p c
put_past p c [] rest past = refl
put_past p c (e ∷ before) rest past =
    ap (λ r. match_ordering r ((p, c) ∷ e ∷ (before ++ rest)) ((e.0, c) ∷ (before ++ rest)) (e ∷ insert_entry place_cmp (before ++ rest) p c)) past.0
    ∙ ap (λ l. e ∷ l) (put_past p c before rest past.1)

put_first : (p : Place) (c : Content) (es : Said) → BeginsBehind p es → insert_entry place_cmp es p c ≡ (p, c) ∷ es
put_first p c [] next = refl
put_first p c (e ∷ es) next = ap (λ r. match_ordering r ((p, c) ∷ e ∷ es) ((e.0, c) ∷ es) (e ∷ insert_entry place_cmp es p c)) next

sought_past : (p : Place) (before rest : Said) → AreBefore p before → lookup (is_at (place_cmp p)) (before ++ rest) ≡ lookup (is_at (place_cmp p)) rest
sought_past p [] rest past = refl
sought_past p (e ∷ before) rest past = ap (λ r. cond (is_eq r) (Some e.1) (lookup (is_at (place_cmp p)) (before ++ rest))) past.0 ∙ sought_past p before rest past.1

joined_past : (p : Place) (c : Content) (before rest : Said) → AreBefore p before → joined_place p c (before ++ rest) ≡ before ++ joined_place p c rest
joined_past p c [] rest past = refl
joined_past p c (e ∷ before) rest past =
    ap (λ r. cond (is_eq r) ((e.0, joined_content e.1 c) ∷ (before ++ rest)) (e ∷ joined_place p c (before ++ rest))) past.0 ∙ ap (λ l. e ∷ l) (joined_past p c before rest past.1)

all_behind : (p : Place) (es : Said) → BeginsBehind p es → AreInOrder es → AllByRecursion (λ q. place_cmp p q ≡ Less) (keys_of es)
unfolding IsStrictlySortedBy
all_behind p [] next sorted = tt
all_behind p (e ∷ es) next sorted = (next, above_too place_total p e.0 (keys_of es) next sorted.0)

joined_before : (p : Place) (c : Content) (es rest : Said) → AllByRecursion (λ q. place_cmp p q ≡ Less) (keys_of (es ++ rest)) → joined_place p c (es ++ rest) ≡ es ++ joined_place p c rest
joined_before p c [] rest all = refl
joined_before p c (e ∷ es) rest all =
    ap (λ r. cond (is_eq r) ((e.0, joined_content e.1 c) ∷ (es ++ rest)) (e ∷ joined_place p c (es ++ rest))) all.0 ∙ ap (λ l. e ∷ l) (joined_before p c es rest all.1)

joined_behind : (p : Place) (c : Content) (es rest : Said) → BeginsBehind p es → AreInOrder (es ++ rest) → joined_place p c (es ++ rest) ≡ es ++ joined_place p c rest
joined_behind p c [] rest next sorted = refl
joined_behind p c (e ∷ es) rest next sorted = joined_before p c (e ∷ es) rest (all_behind p (e ∷ es ++ rest) next sorted)

-- ---- place is made

pub is_made : (p : Place) (tag : Option TypeTag) (es ms : Said) (at : ℕ) → StandsAt p es at → es ++ ms ≡ with_place p tag (es ++ ms)
is_made p tag es ms at stands =
    let whole : es ++ ms ≡ stands.before ++ stands.there ∷ (stands.behind ++ ms) = ap (λ l. l ++ ms) stands.are ∙ append_assoc stands.before (stands.there ∷ stands.behind) ms in
    let is : lookup (is_at (place_cmp p)) (es ++ ms) ≡ Some stands.there.1 =
    ap (lookup (is_at (place_cmp p))) whole ∙ sought_past p stands.before (stands.there ∷ (stands.behind ++ ms)) stands.past
    ∙ ap (λ r. cond (is_eq r) (Some stands.there.1) (lookup (is_at (place_cmp p)) (stands.behind ++ ms))) stands.same in
    ap (λ o. cond (is_some o) (es ++ ms) (insert_entry place_cmp (es ++ ms) p (blank tag))) (sym is)

put_between : (e : Place × Content) (before behind : Said) → insert (before ++ behind) (length before) e ≡ before ++ e ∷ behind
put_between e [] behind = refl
put_between e (x ∷ before) behind = ap (λ l. x ∷ l) (put_between e before behind)

pub is_put : (p : Place) (tag : Option TypeTag) (es new ms : Said) (at : ℕ) → FitsAt p es at → AreInOrder (es ++ ms) → ms ≡ [] → new ≡ insert es at (p, blank tag) → new ++ ms ≡ with_place p tag (es ++ ms)
is_put p tag es new ms at fits sorted none e =
    let only : es ++ ms ≡ es = ap (λ l. es ++ l) none ∙ append-nil es in
    let behind : AreInOrder fits.behind = order_behind fits.before fits.behind (subst AreInOrder (only ∙ fits.are) sorted) in
    let is : lookup (is_at (place_cmp p)) es ≡ None =
    ap (lookup (is_at (place_cmp p))) fits.are ∙ sought_past p fits.before fits.behind fits.past ∙ above_none place_total p fits.behind (all_behind p fits.behind fits.next behind) in
    ap (λ l. new ++ l) none ∙ append-nil new ∙ e ∙ (λ i. insert (fits.are i) (fits.many i) (p, blank tag)) ∙ put_between (p, blank tag) fits.before fits.behind
    ∙ sym (ap (λ l. insert_entry place_cmp l p (blank tag)) fits.are ∙ put_past p (blank tag) fits.before fits.behind fits.past ∙ ap (λ l. fits.before ++ l) (put_first p (blank tag) fits.behind fits.next))
    ∙ ap (λ o. cond (is_some o) es (insert_entry place_cmp es p (blank tag))) (sym is) ∙ ap (with_place p tag) (sym only)

pub made_order : (p : Place) (tag : Option TypeTag) (es : Said) → AreInOrder es → AreInOrder (with_place p tag es)
made_order p tag es sorted = place_sorted (At (spot_in None p) tag) es sorted

-- ---- the few are moved

pub is_moved : (few rest many all : Said) (e : Place × Content) → few ≡ rest ++ e ∷ [] → few ++ many ≡ all → AreInOrder all → rest ++ insert_entry place_cmp many e.0 e.1 ≡ all
is_moved few rest many all e last same sorted =
    let whole : rest ++ e ∷ many ≡ all = sym (append_assoc rest (e ∷ []) many) ∙ ap (λ l. l ++ many) (sym last) ∙ same in
    ap (λ l. rest ++ l) (put_first e.0 e.1 many (begins e many (order_behind rest (e ∷ many) (subst AreInOrder (sym whole) sorted)))) ∙ whole

pub moved_made : (p : Place) (tag : Option TypeTag) (few many new all : Said) → few ≡ [] → few ++ many ≡ all → new ≡ with_place p tag many → few ++ new ≡ with_place p tag all
moved_made p tag few many new all none same e = ap (λ l. l ++ new) none ∙ e ∙ ap (with_place p tag) (sym (ap (λ l. l ++ many) none) ∙ same)

-- ---- more is said

set_between : (x y : Place × Content) (before behind : Said) → slice_set (before ++ x ∷ behind) (length before) y ≡ before ++ y ∷ behind
set_between x y [] behind = refl
set_between x y (e ∷ before) behind = ap (λ l. e ∷ l) (set_between x y before behind)

item_between : (x d : Place × Content) (before behind : Said) → slice_index_or (before ++ x ∷ behind) (length before) d ≡ x
item_between x d [] behind = refl
item_between x d (e ∷ before) behind = item_between x d before behind

pub is_joined : (p : Place) (c : Content) (es new ms : Said) (at : ℕ) → StandsAt p es at
    → ((d : Place × Content) → new ≡ slice_set es at ((slice_index_or es at d).0, joined_content (slice_index_or es at d).1 c)) → new ++ ms ≡ joined_place p c (es ++ ms)
is_joined p c es new ms at stands e =
    let x : Place × Content = stands.there in
    let y : Place × Content = (x.0, joined_content x.1 c) in
    let item : slice_index_or es at x ≡ x = (λ i. slice_index_or (stands.are i) (stands.many i) x) ∙ item_between x x stands.before stands.behind in
    let is : new ≡ stands.before ++ y ∷ stands.behind =
    e x ∙ (λ i. slice_set (stands.are i) (stands.many i) ((item i).0, joined_content (item i).1 c)) ∙ set_between x y stands.before stands.behind in
    ap (λ l. l ++ ms) is ∙ append_assoc stands.before (y ∷ stands.behind) ms
    ∙ sym (ap (λ l. joined_place p c (l ++ ms)) stands.are ∙ ap (joined_place p c) (append_assoc stands.before (x ∷ stands.behind) ms)
    ∙ joined_past p c stands.before (x ∷ (stands.behind ++ ms)) stands.past
    ∙ ap (λ r. stands.before ++ cond (is_eq r) (y ∷ (stands.behind ++ ms)) (x ∷ joined_place p c (stands.behind ++ ms))) stands.same)

pub is_joined_behind : (p : Place) (c : Content) (es ms new : Said) (at : ℕ) → FitsAt p es at → AreInOrder (es ++ ms) → new ≡ joined_place p c ms → es ++ new ≡ joined_place p c (es ++ ms)
is_joined_behind p c es ms new at fits sorted e =
    let whole : es ++ ms ≡ fits.before ++ (fits.behind ++ ms) = ap (λ l. l ++ ms) fits.are ∙ append_assoc fits.before fits.behind ms in
    ap (λ l. es ++ l) e ∙ ap (λ l. l ++ joined_place p c ms) fits.are ∙ append_assoc fits.before fits.behind (joined_place p c ms)
    ∙ sym (ap (joined_place p c) whole ∙ joined_past p c fits.before (fits.behind ++ ms) fits.past
    ∙ ap (λ l. fits.before ++ l) (joined_behind p c fits.behind ms fits.next (order_behind fits.before (fits.behind ++ ms) (subst AreInOrder whole sorted))))

pub joined_order : (p : Place) (c : Content) (es : Said) → AreInOrder es → AreInOrder (joined_place p c es)
joined_order p c es sorted = subst (IsStrictlySortedBy place_cmp) (sym (place_keys (gives.At (spot_in None p) c) es)) sorted

-- ---- whether there is none

pub some_there : (xs ms : Said) (n : ℕ) → n ≡ length xs → (n == 0) ≡ false → has_none (xs ++ ms) ≡ false
some_there [] ms n many some = absurd (false≢true (sym some ∙ ap (λ k. k == 0) many))
some_there (x ∷ xs) ms n many some = refl

pub none_left : (es : Said) → length es ≡ 0 → es ≡ []
none_left [] none = refl
none_left (e ∷ es) none = absurd (omega (arith, none))
