-- What becomes of changes that are kept in slots.
use Rattle.std.proofs.Common.{◌≡◌, ℕ, ◌+◌, ◌<◌, Bool, true, false, cond, not, ◌&&◌, ◌||◌, Option, None, Some, is_some, List, [], ◌∷◌, ◌++◌, length, filter, get_or, Result, Ok, Err, OnErr, refl, sym, ap, ◌∙◌, subst, arith}
use Rattle.std.proofs.lemmas.Bool.{true≢false}
use Rattle.std.proofs.lemmas.List.{get_or-set_same, get_or-set_other, length-set, length-append, get_or_append_left}
use Rattle.std.specs.List.{AllByRecursion, slice_set}
use Rattle.std.specs.List.Sorted.{IsStrictlySortedBy}
use Rattle.std.specs.Map.{keys_of, lookup}
use Rattle.std.specs.BTreeMap.{insert_entry, is_at}
use Rattle.std.specs.Ordering.{is_le, is_lt, is_eq, match_ordering, ordering_reverse}
use Rattle.std.specs.declared.cmp.Ordering.{Ordering}
use Rattle.std.specs.declared.cmp.Ordering.TheVariants.{Less, Equal, Greater}
use Rattle.cas_cell.specs.Deletions.{deletion_cmp}
use Rattle.cas_cell.specs.declared.deletion.Deletion.{Deletion}
use Rattle.cas_bounds.specs.Points.{cut_point, side}
use Rattle.cas_bounds.specs.Keys.{key_cmp, key_point}
use Rattle.cas_bounds.specs.Inner.KeyLaws.{key_total}
use Rattle.cas_bounds.specs.declared.cuts.Cut.{Cut}
use Rattle.cas_bounds.specs.declared.cuts.Slice.{Slice}
use Rattle.cas_bounds.specs.declared.map_key.MapKey.{MapKey}
use Rattle.cas_atoms.specs.Greatest.{greater}
use Rattle.cas_streams.specs.Flat.{Change, after}
use Rattle.cas_partition.specs.Ranges.{key_of, lies, raised, has_cut, inserted, with_cut, is_above, is_below, change_at, clipped}
use Rattle.cas_partition.specs.Inner.Slots.{is_after, cut_of, change_of, changes_of, Apart, IsWhole, between, amid, last_force, force_by, force_below, force_behind, raised_at}

abbrev Slot : Type 0
Slot = MapKey × ℕ

abbrev Forces : Type 0
Forces = List (Option Deletion)

-- ---- keys of cuts

pub as_key : (k : MapKey) (c : Cut) → key_point k ≡ cut_point c → k.order ≡ c.order → k ≡ key_of c
as_key k c p o = λ i. record { values = (p i).values; end = (p i).end; order = o i }

side_back : (b : Bool) → is_after (side b) ≡ b
side_back true = refl
side_back false = refl

pub cut_back : (c : Cut) → cut_of (key_of c) ≡ c
cut_back c = λ i. record { prefix = c.prefix; after = side_back c.after i; order = c.order }

pub is_key_of_cut : (k : MapKey) (c : Cut) → k ≡ key_of c → key_of (cut_of k) ≡ k
is_key_of_cut k c e = subst (λ q. key_of (cut_of q) ≡ q) (sym e) (ap key_of (cut_back c))

pub is_less : (r : Ordering) → is_lt r ≡ true → r ≡ Less
is_less Less e = refl
is_less Equal e = absurd (true≢false (sym e))
is_less Greater e = absurd (true≢false (sym e))

-- ---- what is in force below a key

pub by_last : (t : MapKey → Bool) (now : Option Deletion) (es : List Slot) (fs : Forces) → force_by t now es fs ≡ last_force now (filter (λ e. true && t e.0) es) fs
by_last t now [] fs = refl
by_last t now (e ∷ es) fs =
    elim (t e.0) as (λ b. force_by t (cond b (get_or fs e.1 None) now) es fs ≡ last_force now (cond b (e ∷ filter (λ e. true && t e.0) es) (filter (λ e. true && t e.0) es)) fs) [
      | true ↦ by_last t (get_or fs e.1 None) es fs
      | false ↦ by_last t now es fs
    ]

pub of_last : (now : Option Deletion) (front : List Slot) (e : Slot) (fs : Forces) → last_force now (front ++ e ∷ []) fs ≡ get_or fs e.1 None
of_last now [] e fs = refl
of_last now (f ∷ front) e fs = of_last (get_or fs f.1 None) front e fs

-- ---- what is in force below a key, by what is so behind a lower one

module _ (low high : MapKey) where
  above : (k : MapKey) (es : List Slot) → key_cmp low k ≡ Less → AllByRecursion (λ y. key_cmp k y ≡ Less) (keys_of es) → AllByRecursion (λ y. key_cmp low y ≡ Less) (keys_of es)
  above k [] e a = tt
  above k (f ∷ es) e a = (key_total.trans low k f.0 e a.0, above k es e a.1)

  -- none of these entries counts behind the low key
  none_counts : (now : Option Deletion) (es : List Slot) (fs : Forces) → AllByRecursion (λ y. key_cmp low y ≡ Less) (keys_of es) → force_behind low now es fs ≡ now
  none_counts now [] fs a = refl
  none_counts now (e ∷ es) fs a =
      ap (λ r. force_behind low (cond (not (is_lt r)) (get_or fs e.1 None) now) es fs) a.0 ∙ none_counts now es fs a.1

  -- those below the high key are amid
  all_amid : (es : List Slot) → AllByRecursion (λ y. key_cmp low y ≡ Less) (keys_of es) → amid low high es ≡ filter (λ e. true && not (is_le (key_cmp high e.0))) es
  all_amid [] a = refl
  all_amid (e ∷ es) a =
      (λ i. cond (is_lt (a.0 i) && not (is_le (key_cmp high e.0))) (e ∷ all_amid es a.1 i) (all_amid es a.1 i))

  all_behind : (now : Option Deletion) (es : List Slot) (fs : Forces) → AllByRecursion (λ y. key_cmp low y ≡ Less) (keys_of es)
      → last_force (force_behind low now es fs) (amid low high es) fs ≡ force_below high now es fs
  all_behind now es fs a =
      (λ i. last_force (none_counts now es fs a i) (all_amid es a i) fs) ∙ sym (by_last (λ k. not (is_le (key_cmp high k))) now es fs)

  -- a key at the low one or below it is below the high one
  below_high : (k : MapKey) (r : Ordering) → key_cmp low k ≡ r → is_lt r ≡ false → key_cmp low high ≡ Less → key_cmp high k ≡ Greater
  below_high k Less e none less = absurd (true≢false none)
  below_high k Equal e none less = key_total.antisymm high k ∙ ap ordering_reverse (sym (key_total.congr low k high e) ∙ less)
  below_high k Greater e none less =
      key_total.antisymm high k ∙ ap ordering_reverse (key_total.trans k low high (key_total.antisymm k low ∙ ap ordering_reverse e) less)

  pub last_amid : key_cmp low high ≡ Less → (now : Option Deletion) (es : List Slot) (fs : Forces) → IsStrictlySortedBy key_cmp (keys_of es)
      → last_force (force_behind low now es fs) (amid low high es) fs ≡ force_below high now es fs
  unfolding IsStrictlySortedBy
  last_amid less now [] fs s = refl
  last_amid less now (e ∷ es) fs s =
      elim (is_lt (key_cmp low e.0)) as (λ b. is_lt (key_cmp low e.0) ≡ b → last_force (force_behind low now (e ∷ es) fs) (amid low high (e ∷ es)) fs ≡ force_below high now (e ∷ es) fs) [
        | true ↦ λ t. let over : key_cmp low e.0 ≡ Less = is_less (key_cmp low e.0) t in all_behind now (e ∷ es) fs (over, above e.0 es over s.0)
        | false ↦ λ f.
            let under : key_cmp high e.0 ≡ Greater = below_high e.0 (key_cmp low e.0) refl f less in
            (λ i. last_force (force_behind low (cond (not (f i)) (get_or fs e.1 None) now) es fs) (cond (f i && not (is_le (key_cmp high e.0))) (e ∷ amid low high es) (amid low high es)) fs)
            ∙ last_amid less (get_or fs e.1 None) es fs s.1
            ∙ sym (ap (λ r. force_below high (cond (not (is_le r)) (get_or fs e.1 None) now) es fs) under)
      ] refl

-- ---- slots that are raised

pub raised_length : (d : Deletion) (es : List Slot) (fs : Forces) → length (raised_at d es fs) ≡ length fs
raised_length d [] fs = refl
raised_length d (e ∷ es) fs =
    raised_length d es (slice_set fs e.1 (greater deletion_cmp (get_or fs e.1 None) (Some d))) ∙ length-set fs e.1 (greater deletion_cmp (get_or fs e.1 None) (Some d))

module _ (d : Deletion) (p : Slot → Bool) where
  untouched : (i : ℕ) (es : List Slot) (fs : Forces) → AllByRecursion (λ f. i ≡ f.1 → ⊥) es → get_or (raised_at d (filter p es) fs) i None ≡ get_or fs i None
  untouched i [] fs none = refl
  untouched i (e ∷ es) fs none =
      elim (p e) as (λ b. get_or (raised_at d (cond b (e ∷ filter p es) (filter p es)) fs) i None ≡ get_or fs i None) [
        | true ↦
            let v : Option Deletion = greater deletion_cmp (get_or fs e.1 None) (Some d) in
            untouched i es (slice_set fs e.1 v) none.1 ∙ get_or-set_other fs e.1 i v None none.0
        | false ↦ untouched i es fs none.1
      ]

  kept_slots : (i : ℕ) (v : Option Deletion) (es : List Slot) (fs : Forces) → AllByRecursion (λ f. i ≡ f.1 → ⊥) es → changes_of es (slice_set fs i v) ≡ changes_of es fs
  kept_slots i v [] fs none = refl
  kept_slots i v (e ∷ es) fs none =
      λ j. record { at = cut_of e.0; to = get_or-set_other fs i e.1 v None (λ same. none.0 (sym same)) j } ∷ kept_slots i v es fs none.1 j

  pub raised_changes : (t : Cut → Bool) (es : List Slot) (fs : Forces) → AllByRecursion (λ e. t (cut_of e.0) ≡ p e) es → AllByRecursion (λ e. e.1 < length fs) es → Apart es
      → changes_of es (raised_at d (filter p es) fs) ≡ raised t d (changes_of es fs)
  raised_changes t [] fs tests within apart = refl
  raised_changes t (e ∷ es) fs tests within apart =
      elim (p e) as (λ b. p e ≡ b → change_of (raised_at d (cond b (e ∷ filter p es) (filter p es)) fs) e ∷ changes_of es (raised_at d (cond b (e ∷ filter p es) (filter p es)) fs)
      ≡ raised t d (changes_of (e ∷ es) fs)) [
        | true ↦ λ q.
            let v : Option Deletion = greater deletion_cmp (get_or fs e.1 None) (Some d) in
            (λ j. record { at = cut_of e.0; to = (untouched e.1 es (slice_set fs e.1 v) apart.0 ∙ get_or-set_same fs e.1 v None within.0) j }
            ∷ raised_changes t es (slice_set fs e.1 v) tests.1 (subst (λ n. AllByRecursion (λ f. f.1 < n) es) (sym (length-set fs e.1 v)) within.1) apart.1 j)
            ∙ (λ j. record { at = cut_of e.0; to = v } ∷ raised t d (kept_slots e.1 v es fs apart.0 j))
            ∙ ap (λ b. record { at = cut_of e.0; to = cond b v (get_or fs e.1 None) } ∷ raised t d (changes_of es fs)) (sym (tests.0 ∙ q))
        | false ↦ λ q.
            (λ j. record { at = cut_of e.0; to = untouched e.1 es fs apart.0 j } ∷ raised_changes t es fs tests.1 within.1 apart.1 j)
            ∙ ap (λ b. record { at = cut_of e.0; to = cond b (greater deletion_cmp (get_or fs e.1 None) (Some d)) (get_or fs e.1 None) } ∷ raised t d (changes_of es fs)) (sym (tests.0 ∙ q))
      ] refl

tests_agree : (lo hi : Cut) (from to : MapKey) → from ≡ key_of lo → to ≡ key_of hi → (es : List Slot) → AllByRecursion (λ e. key_of (cut_of e.0) ≡ e.0) es
    → AllByRecursion (λ e. lies lo hi (cut_of e.0) ≡ (is_le (key_cmp from e.0) && not (is_le (key_cmp to e.0)))) es
tests_agree lo hi from to f t [] cuts = tt
tests_agree lo hi from to f t (e ∷ es) cuts =
    ((λ i. is_le (key_cmp (sym f i) (cuts.0 i)) && not (is_le (key_cmp (sym t i) (cuts.0 i)))), tests_agree lo hi from to f t es cuts.1)

pub raised_between : (lo hi : Cut) (from to : MapKey) (d : Deletion) (es : List Slot) (fs : Forces) → from ≡ key_of lo → to ≡ key_of hi → IsWhole es fs
    → changes_of es (raised_at d (between from to es) fs) ≡ raised (lies lo hi) d (changes_of es fs)
raised_between lo hi from to d es fs f t whole =
    raised_changes d (λ e. is_le (key_cmp from e.0) && not (is_le (key_cmp to e.0))) (lies lo hi) es fs (tests_agree lo hi from to f t es whole.cuts) whole.slots whole.apart

pub still_whole : (d : Deletion) (between : List Slot) (es : List Slot) (fs : Forces) → IsWhole es fs → IsWhole es (raised_at d between fs)
still_whole d between es fs whole = record {
  sorted = whole.sorted;
  cuts = whole.cuts;
  slots = subst (λ n. AllByRecursion (λ e. e.1 < n) es) (sym (raised_length d between fs)) whole.slots;
  apart = whole.apart;
}

-- ---- no entry between keys that don't rise

none_there : (from to : MapKey) → is_lt (key_cmp from to) ≡ false → (es : List Slot) → between from to es ≡ []
none_there from to low [] = refl
none_there from to low (e ∷ es) =
    ap (λ b. cond b (e ∷ between from to es) (between from to es)) (never (key_cmp from e.0) (key_cmp to e.0) refl refl) ∙ none_there from to low es
  where
    never : (r s : Ordering) → key_cmp from e.0 ≡ r → key_cmp to e.0 ≡ s → (is_le r && not (is_le s)) ≡ false
    never Greater s a b = refl
    never Less Less a b = refl
    never Less Equal a b = refl
    never Equal Less a b = refl
    never Equal Equal a b = refl
    never Less Greater a b = absurd (true≢false (sym (ap is_lt (key_total.trans from e.0 to a (key_total.antisymm e.0 to ∙ ap ordering_reverse b))) ∙ low))
    never Equal Greater a b = absurd (true≢false (sym (ap is_lt (key_total.congr from e.0 to a ∙ key_total.antisymm e.0 to ∙ ap ordering_reverse b)) ∙ low))

pub nothing_raised : (from to : MapKey) (d : Deletion) (es : List Slot) (fs : Forces) → is_lt (key_cmp from to) ≡ false → raised_at d (between from to es) fs ≡ fs
nothing_raised from to d es fs low = ap (λ l. raised_at d l fs) (none_there from to low es)

-- ---- one more cut

pub on_err : {A E : Type 0} (r : Result A E) (P : Type 0) → P → OnErr r P
on_err (Ok x) P p = tt
on_err (Err e) P p = p

either_there : (b : Bool) (n : ℕ) (o : Option ℕ) → is_some (cond b (Some n) o) ≡ (b || is_some o)
either_there true n o = refl
either_there false n o = refl

found : (c : Cut) (key : MapKey) (es : List Slot) (fs : Forces) → key ≡ key_of c → AllByRecursion (λ e. key_of (cut_of e.0) ≡ e.0) es
    → is_some (lookup (is_at (key_cmp key)) es) ≡ has_cut c (changes_of es fs)
found c key [] fs k cuts = refl
found c key (e ∷ es) fs k cuts =
    either_there (is_eq (key_cmp key e.0)) e.1 (lookup (is_at (key_cmp key)) es)
    ∙ (λ i. is_eq (key_cmp (k i) (sym cuts.0 i)) || found c key es fs k cuts.1 i)

pub already : (c : Cut) (key : MapKey) (es : List Slot) (fs : Forces) → key ≡ key_of c → AllByRecursion (λ e. key_of (cut_of e.0) ≡ e.0) es
    → is_some (lookup (is_at (key_cmp key)) es) ≡ true → changes_of es fs ≡ with_cut c (changes_of es fs)
already c key es fs k cuts there =
    sym (ap (λ b. cond b (changes_of es fs) (inserted None c (changes_of es fs))) (sym (found c key es fs k cuts) ∙ there))

-- a slot more, which no entry has
kept_within : (v : Option Deletion) (es : List Slot) (fs : Forces) → AllByRecursion (λ e. e.1 < length fs) es → changes_of es (fs ++ v ∷ []) ≡ changes_of es fs
kept_within v [] fs within = refl
kept_within v (e ∷ es) fs within = λ i. record { at = cut_of e.0; to = get_or_append_left fs (v ∷ []) None e.1 within.0 i } ∷ kept_within v es fs within.1 i

longer : (v : Option Deletion) (fs : Forces) → length (fs ++ v ∷ []) ≡ length fs + 1
longer v fs = length-append fs (v ∷ [])

more_slots : (n : ℕ) (es : List Slot) → AllByRecursion (λ e. e.1 < n) es → AllByRecursion (λ e. e.1 < n + 1) es
more_slots n [] within = tt
more_slots n (e ∷ es) within = (omega (arith, within.0), more_slots n es within.1)

pub more_whole : (es new : List Slot) (fs room : Forces) (v : Option Deletion) → new ≡ es → room ≡ fs ++ v ∷ [] → IsWhole es fs → IsWhole new room
more_whole es new fs room v same more whole =
    subst (λ l. IsWhole l room) (sym same) (subst (IsWhole es) (sym more) (record {
      sorted = whole.sorted;
      cuts = whole.cuts;
      slots = subst (λ n. AllByRecursion (λ e. e.1 < n) es) (sym (longer v fs)) (more_slots (length fs) es whole.slots);
      apart = whole.apart;
    }))

pub more_same : (es new : List Slot) (fs room : Forces) (v : Option Deletion) → new ≡ es → room ≡ fs ++ v ∷ [] → IsWhole es fs → changes_of new room ≡ changes_of es fs
more_same es new fs room v same more whole = (λ i. changes_of (same i) (more i)) ∙ kept_within v es fs whole.slots

-- the slot that is put in is the last one
module _ (key : MapKey) (n : ℕ) where
  put_cuts : (es : List Slot) → key_of (cut_of key) ≡ key → AllByRecursion (λ e. key_of (cut_of e.0) ≡ e.0) es → AllByRecursion (λ e. key_of (cut_of e.0) ≡ e.0) (insert_entry key_cmp es key n)
  put_cuts [] k cuts = (k, tt)
  put_cuts (e ∷ es) k cuts =
      elim (key_cmp key e.0) as (λ r. AllByRecursion (λ f. key_of (cut_of f.0) ≡ f.0) (match_ordering r ((key, n) ∷ e ∷ es) ((e.0, n) ∷ es) (e ∷ insert_entry key_cmp es key n))) [
        | Less ↦ (k, cuts)
        | Equal ↦ cuts
        | Greater ↦ (cuts.0, put_cuts es k cuts.1)
      ]

  put_slots : (es : List Slot) → AllByRecursion (λ e. e.1 < n) es → AllByRecursion (λ e. e.1 < n + 1) (insert_entry key_cmp es key n)
  put_slots [] within = (omega arith, tt)
  put_slots (e ∷ es) within =
      elim (key_cmp key e.0) as (λ r. AllByRecursion (λ f. f.1 < n + 1) (match_ordering r ((key, n) ∷ e ∷ es) ((e.0, n) ∷ es) (e ∷ insert_entry key_cmp es key n))) [
        | Less ↦ (omega arith, more_slots n (e ∷ es) within)
        | Equal ↦ (omega arith, more_slots n es within.1)
        | Greater ↦ (omega (arith, within.0), put_slots es within.1)
      ]

  none_last : (es : List Slot) → AllByRecursion (λ e. e.1 < n) es → AllByRecursion (λ f. n ≡ f.1 → ⊥) es
  none_last [] within = tt
  none_last (e ∷ es) within = ((λ same. omega (arith, within.0, same)), none_last es within.1)

  put_other : (i : ℕ) (es : List Slot) → i < n → AllByRecursion (λ f. i ≡ f.1 → ⊥) es → AllByRecursion (λ f. i ≡ f.1 → ⊥) (insert_entry key_cmp es key n)
  put_other i [] h apart = ((λ same. omega (arith, h, same)), tt)
  put_other i (e ∷ es) h apart =
      elim (key_cmp key e.0) as (λ r. AllByRecursion (λ f. i ≡ f.1 → ⊥) (match_ordering r ((key, n) ∷ e ∷ es) ((e.0, n) ∷ es) (e ∷ insert_entry key_cmp es key n))) [
        | Less ↦ ((λ same. omega (arith, h, same)), apart)
        | Equal ↦ ((λ same. omega (arith, h, same)), apart.1)
        | Greater ↦ (apart.0, put_other i es h apart.1)
      ]

  put_apart : (es : List Slot) → AllByRecursion (λ e. e.1 < n) es → Apart es → Apart (insert_entry key_cmp es key n)
  put_apart [] within apart = (tt, tt)
  put_apart (e ∷ es) within apart =
      elim (key_cmp key e.0) as (λ r. Apart (match_ordering r ((key, n) ∷ e ∷ es) ((e.0, n) ∷ es) (e ∷ insert_entry key_cmp es key n))) [
        | Less ↦ (none_last (e ∷ es) within, apart)
        | Equal ↦ (none_last es within.1, apart.1)
        | Greater ↦ (put_other e.1 es within.0 apart.0, put_apart es within.1 apart.1)
      ]

pub put_whole : (c : Cut) (key : MapKey) (es new : List Slot) (fs room : Forces) (v : Option Deletion) (n : ℕ) → key ≡ key_of c → n ≡ length fs → new ≡ insert_entry key_cmp es key n → room ≡ fs ++ v ∷ []
    → IsStrictlySortedBy key_cmp (keys_of new) → IsWhole es fs → IsWhole new room
put_whole c key es new fs room v n k len put more sorted whole =
    let within : AllByRecursion (λ e. e.1 < n) es = subst (λ m. AllByRecursion (λ e. e.1 < m) es) (sym len) whole.slots in
    record {
      sorted = sorted;
      cuts = subst (λ l. AllByRecursion (λ e. key_of (cut_of e.0) ≡ e.0) l) (sym put) (put_cuts key n es (is_key_of_cut key c k) whole.cuts);
      slots = subst (λ l. AllByRecursion (λ e. e.1 < length room) l) (sym put)
          (subst (λ m. AllByRecursion (λ e. e.1 < m) (insert_entry key_cmp es key n)) (ap (λ m. m + 1) len ∙ sym (longer v fs) ∙ sym (ap length more)) (put_slots key n es within));
      apart = subst Apart (sym put) (put_apart key n es within whole.apart);
    }

at_end : (fs : Forces) (v : Option Deletion) → get_or (fs ++ v ∷ []) (length fs) None ≡ v
at_end [] v = refl
at_end (f ∷ fs) v = at_end fs v

all_above : (key : MapKey) (now : Option Deletion) (es : List Slot) (fs : Forces) → AllByRecursion (λ k. key_cmp key k ≡ Less) (keys_of es) → force_below key now es fs ≡ now
all_above key now [] fs above = refl
all_above key now (e ∷ es) fs above = ap (λ r. force_below key (cond (not (is_le r)) (get_or fs e.1 None) now) es fs) above.0 ∙ all_above key now es fs above.1

above_too : (key k : MapKey) (ks : List MapKey) → key_cmp key k ≡ Less → AllByRecursion (λ q. key_cmp k q ≡ Less) ks → AllByRecursion (λ q. key_cmp key q ≡ Less) ks
above_too key k [] below all = tt
above_too key k (q ∷ ks) below all = (key_total.trans key k q below all.0, above_too key k ks below all.1)

module _ (c : Cut) (key : MapKey) (same : key ≡ key_of c) (fs : Forces) (v : Option Deletion) where
  put_change : (now : Option Deletion) (es : List Slot) → v ≡ force_below key now es fs → is_some (lookup (is_at (key_cmp key)) es) ≡ false
      → IsStrictlySortedBy key_cmp (keys_of es) → AllByRecursion (λ e. key_of (cut_of e.0) ≡ e.0) es → AllByRecursion (λ e. e.1 < length fs) es
      → changes_of (insert_entry key_cmp es key (length fs)) (fs ++ v ∷ []) ≡ inserted now c (changes_of es fs)
  unfolding IsStrictlySortedBy
  put_change now [] force none sorted cuts within =
      λ i. record { at = (ap cut_of same ∙ cut_back c) i; to = (at_end fs v ∙ force) i } ∷ []
  put_change now (e ∷ es) force none sorted cuts within =
      elim (key_cmp key e.0) as (λ r. key_cmp key e.0 ≡ r → changes_of (match_ordering r ((key, length fs) ∷ e ∷ es) ((e.0, length fs) ∷ es) (e ∷ insert_entry key_cmp es key (length fs))) (fs ++ v ∷ [])
      ≡ inserted now c (changes_of (e ∷ es) fs)) [
        | Less ↦ λ r.
            (λ i. record { at = (ap cut_of same ∙ cut_back c) i; to = (at_end fs v ∙ force ∙ all_above key now (e ∷ es) fs (r, above_too key e.0 (keys_of es) r sorted.0)) i } ∷ kept_within v (e ∷ es) fs within i)
            ∙ sym (ap (λ t. cond t (record { at = c; to = now } ∷ changes_of (e ∷ es) fs) (change_of fs e ∷ inserted (get_or fs e.1 None) c (changes_of es fs))) (turned r))
        | Equal ↦ λ r. absurd (true≢false (sym (ap (λ q. is_some (cond (is_eq q) (Some e.1) (lookup (is_at (key_cmp key)) es))) r) ∙ none))
        | Greater ↦ λ r.
            (λ i. record { at = cut_of e.0; to = get_or_append_left fs (v ∷ []) None e.1 within.0 i } ∷
            put_change (get_or fs e.1 None) es (force ∙ ap (λ q. force_below key (cond (not (is_le q)) (get_or fs e.1 None) now) es fs) r)
            (sym (ap (λ q. is_some (cond (is_eq q) (Some e.1) (lookup (is_at (key_cmp key)) es))) r) ∙ none) sorted.1 cuts.1 within.1 i)
            ∙ sym (ap (λ t. cond t (record { at = c; to = now } ∷ changes_of (e ∷ es) fs) (change_of fs e ∷ inserted (get_or fs e.1 None) c (changes_of es fs))) (turned r))
      ] refl
    where
      turned : {r : Ordering} → key_cmp key e.0 ≡ r → is_lt (key_cmp (key_of c) (key_of (cut_of e.0))) ≡ is_lt r
      turned r = (λ i. is_lt (key_cmp (sym same i) (cuts.0 i))) ∙ ap is_lt r

pub put_in : (c : Cut) (key : MapKey) (es new : List Slot) (fs room : Forces) (v : Option Deletion) (n : ℕ) → key ≡ key_of c → n ≡ length fs → new ≡ insert_entry key_cmp es key n → room ≡ fs ++ v ∷ []
    → v ≡ force_below key None es fs → is_some (lookup (is_at (key_cmp key)) es) ≡ false → IsWhole es fs → changes_of new room ≡ with_cut c (changes_of es fs)
put_in c key es new fs room v n k len put more force none whole =
    (λ i. changes_of ((put ∙ ap (insert_entry key_cmp es key) len) i) (more i))
    ∙ put_change c key k fs v None es force none whole.sorted whole.cuts whole.slots
    ∙ sym (ap (λ b. cond b (changes_of es fs) (inserted None c (changes_of es fs))) (sym (found c key es fs k whole.cuts) ∙ none))

-- ---- in a slice

-- by a test of keys and one of cuts that agree
module _ (t : MapKey → Bool) (u : Cut → Bool) (alike : (k : MapKey) → key_of (cut_of k) ≡ k → u (cut_of k) ≡ t k) where
  pub after_slots : (now : Option Deletion) (es : List Slot) (fs : Forces) → AllByRecursion (λ e. key_of (cut_of e.0) ≡ e.0) es → after u now (changes_of es fs) ≡ force_by t now es fs
  after_slots now [] fs cuts = refl
  after_slots now (e ∷ es) fs cuts =
      ap (λ b. after u (cond b (get_or fs e.1 None) now) (changes_of es fs)) (alike e.0 cuts.0) ∙ after_slots (cond (t e.0) (get_or fs e.1 None) now) es fs cuts.1

  pub among_slots : (es : List Slot) (fs : Forces) → AllByRecursion (λ e. key_of (cut_of e.0) ≡ e.0) es → filter (λ m. u m.at) (changes_of es fs) ≡ changes_of (filter (λ e. t e.0) es) fs
  among_slots [] fs cuts = refl
  among_slots (e ∷ es) fs cuts =
      ap (λ b. cond b (change_of fs e ∷ filter (λ m. u m.at) (changes_of es fs)) (filter (λ m. u m.at) (changes_of es fs))) (alike e.0 cuts.0)
      ∙ elim (t e.0) as (λ b. cond b (change_of fs e ∷ filter (λ m. u m.at) (changes_of es fs)) (filter (λ m. u m.at) (changes_of es fs)) ≡ changes_of (cond b (e ∷ filter (λ e. t e.0) es) (filter (λ e. t e.0) es)) fs) [
        | true ↦ ap (λ l. change_of fs e ∷ l) (among_slots es fs cuts.1)
        | false ↦ among_slots es fs cuts.1
      ]

-- the changes of a slice, as they are kept
pub slice_of_slots : (s : Slice) (low high : MapKey) (es : List Slot) (fs : Forces) → low ≡ key_of s.lo → high ≡ key_of s.hi → AllByRecursion (λ e. key_of (cut_of e.0) ≡ e.0) es
    → is_lt (key_cmp low high) ≡ true
    → change_at s.lo (force_behind low None es fs) (force_behind low None es fs) ++ (changes_of (amid low high es) fs ++ change_at s.hi (force_below high None es fs) None)
    ≡ clipped s (changes_of es fs)
slice_of_slots s low high es fs l h cuts below =
    sym (ap (λ b. cond b (change_at s.lo (after (λ c. not (is_above s.lo c)) None ms) (after (λ c. not (is_above s.lo c)) None ms)
    ++ (filter (λ m. is_above s.lo m.at && is_below s.hi m.at) ms ++ change_at s.hi (after (is_below s.hi) None ms) None)) []) ((λ i. is_lt (key_cmp (sym l i) (sym h i))) ∙ below)
    ∙ (λ i. change_at s.lo (behind i) (behind i) ++ (inside i ++ change_at s.hi (before i) None)))
  where
    ms : List Change
    ms = changes_of es fs

    behind : after (λ c. not (is_above s.lo c)) None (changes_of es fs) ≡ force_behind low None es fs
    behind = after_slots (λ k. not (is_lt (key_cmp low k))) (λ c. not (is_above s.lo c)) (λ k e. λ i. not (is_lt (key_cmp (sym l i) (e i)))) None es fs cuts

    before : after (is_below s.hi) None (changes_of es fs) ≡ force_below high None es fs
    before = after_slots (λ k. not (is_le (key_cmp high k))) (is_below s.hi) (λ k e. λ i. not (is_le (key_cmp (sym h i) (e i)))) None es fs cuts

    inside : filter (λ m. is_above s.lo m.at && is_below s.hi m.at) (changes_of es fs) ≡ changes_of (amid low high es) fs
    inside = among_slots (λ k. is_lt (key_cmp low k) && not (is_le (key_cmp high k))) (λ c. is_above s.lo c && is_below s.hi c)
        (λ k e. λ i. is_lt (key_cmp (sym l i) (e i)) && not (is_le (key_cmp (sym h i) (e i)))) es fs cuts

pub empty_slice : (s : Slice) (low high : MapKey) (ms : List Change) → low ≡ key_of s.lo → high ≡ key_of s.hi → is_lt (key_cmp low high) ≡ false → clipped s ms ≡ []
empty_slice s low high ms l h none =
    ap (λ b. cond b (change_at s.lo (after (λ c. not (is_above s.lo c)) None ms) (after (λ c. not (is_above s.lo c)) None ms)
    ++ (filter (λ m. is_above s.lo m.at && is_below s.hi m.at) ms ++ change_at s.hi (after (is_below s.hi) None ms) None)) []) ((λ i. is_lt (key_cmp (sym l i) (sym h i))) ∙ none)
