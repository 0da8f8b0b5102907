-- The entries of a slice, by its rows.
use Rattle.std.proofs.Common.{◌≡◌, ℕ, append_assoc, true, false, cond, not, Bool, ◌&&◌, Option, None, Some, is_some, List, [], ◌∷◌, ◌++◌, map, filter, refl, sym, ap, ◌∙◌, subst}
use Rattle.std.proofs.lemmas.Bool.{true≢false}
use Rattle.std.specs.Option.{option_cmp}
use Rattle.std.specs.List.{AllByRecursion}
use Rattle.std.specs.List.Sorted.{IsStrictlySortedBy}
use Rattle.std.specs.Map.{keys_of}
use Rattle.std.specs.Ordering.{nat_cmp, is_le, is_lt, ordering_then, ordering_reverse}
use Rattle.std.specs.declared.cmp.Ordering.{Ordering}
use Rattle.std.specs.declared.cmp.Ordering.TheVariants.{Less, Equal, Greater}
use Rattle.cas_types.specs.Values.{bytes_cmp}
use Rattle.cas_bounds.specs.Keys.{key_cmp}
use Rattle.cas_bounds.specs.declared.cuts.Cut.{Cut}
use Rattle.cas_bounds.specs.declared.order.Ordered.{Ordered}
use Rattle.cas_bounds.specs.declared.map_key.End.{End}
use Rattle.cas_bounds.specs.declared.map_key.End.TheVariants.{Before, Row, After}
use Rattle.cas_bounds.specs.declared.map_key.MapKey.{MapKey}
use Rattle.cas_partition.specs.Ranges.{key_of}
use Rattle.cas_partition.specs.Spots.{row_cmp, place_cmp, spot_cmp}
use Rattle.cas_partition.specs.Ranged.{spot_at, below_rows, statics_of, rows_between}
use Rattle.cas_partition.specs.Inner.Rows.{Said, RowsOf, spot_in, entry_in, flat, AreRows}
use Rattle.cas_partition.specs.Inner.Fronts.{row_total}
use Rattle.cas_partition.specs.Inner.Lent.{static_rows, rows_amid}
use Rattle.cas_partition.specs.declared.spot.Place.{Place}
use Rattle.cas_partition.specs.declared.spot.Spot.{Spot}
use Rattle.cas_partition.specs.declared.spot.Content.{Content}
use Rattle.cas_partition.proofs.RowLists.{all_upper, upper_is, here_is}

abbrev Entries : Type 0
Entries = List (Spot × Content)

-- ---- in order

module _ (k : Option MapKey) where
  later_places : (p : Place) (b : Said) (es : Entries) → AllByRecursion (λ q. place_cmp p q ≡ Less) (keys_of b) → AllByRecursion (λ e. row_cmp k e.0.row ≡ Less) es
      → AllByRecursion (λ s. spot_cmp (spot_in k p) s ≡ Less) (keys_of (map (entry_in k) b ++ es))
  later_places p [] [] all upper = tt
  later_places p [] (e ∷ es) all upper = (upper_is k p e.0 upper.0, later_places p [] es all upper.1)
  later_places p (x ∷ b) es all upper = (here_is k p x.0 ∙ all.0, later_places p b es all.1 upper)

  row_sorted : (b : Said) (es : Entries) → IsStrictlySortedBy place_cmp (keys_of b) → IsStrictlySortedBy spot_cmp (keys_of es) → AllByRecursion (λ e. row_cmp k e.0.row ≡ Less) es
      → IsStrictlySortedBy spot_cmp (keys_of (map (entry_in k) b ++ es))
  unfolding IsStrictlySortedBy
  row_sorted [] es mine others upper = others
  row_sorted (x ∷ b) es mine others upper = (later_places x.0 b es mine.0 upper, row_sorted b es mine.1 others upper)

all_sorted : (rows : RowsOf) → IsStrictlySortedBy row_cmp (keys_of rows) → AllByRecursion (λ r. IsStrictlySortedBy place_cmp (keys_of r.1)) rows → IsStrictlySortedBy spot_cmp (keys_of (flat rows))
unfolding IsStrictlySortedBy
all_sorted [] sorted places = tt
all_sorted (r ∷ rows) sorted places = row_sorted r.0 r.1 (flat rows) places.0 (all_sorted rows sorted.1 places.1) (all_upper r.0 rows sorted.0)

pub flat_sorted : (rows : RowsOf) → AreRows rows → IsStrictlySortedBy spot_cmp (keys_of (flat rows))
flat_sorted rows are = all_sorted rows are.sorted are.places

-- ---- by a test of rows

module _ (t : Spot × Content → Bool) (u : Option MapKey → Bool) (alike : (k : Option MapKey) (e : Place × Content) → t (entry_in k e) ≡ u k) where
  kept_row : (k : Option MapKey) (b : Said) (es : Entries) → filter t (map (entry_in k) b ++ es) ≡ cond (u k) (map (entry_in k) b ++ filter t es) (filter t es)
  kept_row k [] es = elim (u k) as (λ c. filter t es ≡ cond c (filter t es) (filter t es)) [ true ↦ refl | false ↦ refl ]
  kept_row k (e ∷ b) es =
      (λ i. cond (alike k e i) (entry_in k e ∷ kept_row k b es i) (kept_row k b es i))
      ∙ elim (u k) as (λ c. cond c (entry_in k e ∷ cond c (map (entry_in k) b ++ filter t es) (filter t es)) (cond c (map (entry_in k) b ++ filter t es) (filter t es))
      ≡ cond c (entry_in k e ∷ (map (entry_in k) b ++ filter t es)) (filter t es)) [ true ↦ refl | false ↦ refl ]

  pub kept_flat : (rows : RowsOf) → filter t (flat rows) ≡ flat (filter (λ r. u r.0) rows)
  kept_flat [] = refl
  kept_flat (r ∷ rows) =
      kept_row r.0 r.1 (flat rows)
      ∙ ap (λ l. cond (u r.0) (map (entry_in r.0) r.1 ++ l) l) (kept_flat rows)
      ∙ elim (u r.0) as (λ c. cond c (map (entry_in r.0) r.1 ++ flat (filter (λ r. u r.0) rows)) (flat (filter (λ r. u r.0) rows)) ≡ flat (cond c (r ∷ filter (λ r. u r.0) rows) (filter (λ r. u r.0) rows))) [
        | true ↦ refl
        | false ↦ refl
      ]

-- no column and no path stand above any others
whole_first : (column : Option ℕ) (path : Option (List ℕ)) → is_le (ordering_then (option_cmp nat_cmp None column) (option_cmp bytes_cmp None path)) ≡ true
whole_first None None = refl
whole_first None (Some p) = refl
whole_first (Some n) path = refl

by_row : (r o : Ordering) → is_le o ≡ true → is_le (ordering_then r o) ≡ is_le r
by_row Less o e = refl
by_row Equal o e = e
by_row Greater o e = refl

at_row : (k : MapKey) (row : Option MapKey) (e : Place × Content) → is_le (spot_cmp (spot_at k) (entry_in row e).0) ≡ is_le (row_cmp (Some k) row)
at_row k row e = by_row (row_cmp (Some k) row) (ordering_then (option_cmp nat_cmp None e.0.column) (option_cmp bytes_cmp None e.0.path)) (whole_first e.0.column e.0.path)

pub statics_flat : (rows : RowsOf) → statics_of (flat rows) ≡ flat (static_rows rows)
statics_flat rows =
    kept_flat (λ e. true && not (is_le (spot_cmp (spot_at below_rows) e.0))) (λ k. not (is_le (row_cmp (Some below_rows) k))) (λ k e. ap (λ b. not b) (at_row below_rows k e)) rows

pub between_flat : (lo hi : Cut) (rows : RowsOf) → rows_between lo hi (flat rows) ≡ flat (rows_amid (Some (key_of lo)) (Some (key_of hi)) rows)
between_flat lo hi rows =
    kept_flat (λ e. is_le (spot_cmp (spot_at (key_of lo)) e.0) && not (is_le (spot_cmp (spot_at (key_of hi)) e.0)))
    (λ k. is_le (row_cmp (Some (key_of lo)) k) && not (is_le (row_cmp (Some (key_of hi)) k)))
    (λ k e. λ i. at_row (key_of lo) k e i && not (at_row (key_of hi) k e i)) rows

pub flat_both : (xs ys : RowsOf) → flat (xs ++ ys) ≡ flat xs ++ flat ys
flat_both [] ys = refl
flat_both (x ∷ xs) ys = ap (λ l. map (entry_in x.0) x.1 ++ l) (flat_both xs ys) ∙ sym (append_assoc (map (entry_in x.0) x.1) (flat xs) (flat ys))

-- ---- the static row

below_ends : (order : List Ordered) (end : End) (values : List (List ℕ)) → is_le (key_cmp below_rows (record { values = values; end = end; order = order })) ≡ true
below_ends [] Before [] = refl
below_ends [] Row [] = refl
below_ends [] After [] = refl
below_ends [] end (x ∷ xs) = refl
below_ends (o ∷ os) end values = refl

not_static : (row : Option MapKey) → is_some row ≡ true → not (is_le (row_cmp (Some below_rows) row)) ≡ false
not_static None e = absurd (true≢false (sym e))
not_static (Some k) e = ap (λ b. not b) (below_ends k.order k.end k.values)

-- behind a row there are only rows
later_row : (s t : Option MapKey) → row_cmp s t ≡ Less → is_some t ≡ true
later_row None None less = absurd (true≢false (sym (ap is_lt less)))
later_row (Some k) None less = absurd (true≢false (sym (ap is_lt less)))
later_row s (Some q) less = refl

none_static : (k : Option MapKey) (rows : RowsOf) → AllByRecursion (λ l. row_cmp k l ≡ Less) (keys_of rows) → static_rows rows ≡ []
none_static k [] all = refl
none_static k (r ∷ rows) all = ap (λ b. cond b (r ∷ static_rows rows) (static_rows rows)) (not_static r.0 (later_row k r.0 all.0)) ∙ none_static k rows all.1

pub static_absent : (r : Option MapKey × Said) (rows : RowsOf) → IsStrictlySortedBy row_cmp (keys_of (r ∷ rows)) → is_some r.0 ≡ true → static_rows (r ∷ rows) ≡ []
unfolding IsStrictlySortedBy
static_absent r rows sorted some = ap (λ b. cond b (r ∷ static_rows rows) (static_rows rows)) (not_static r.0 some) ∙ none_static r.0 rows sorted.0

is_static : (row : Option MapKey) → is_some row ≡ false → not (is_le (row_cmp (Some below_rows) row)) ≡ true
is_static None e = refl
is_static (Some k) e = absurd (true≢false e)

pub static_there : (r : Option MapKey × Said) (rows : RowsOf) → IsStrictlySortedBy row_cmp (keys_of (r ∷ rows)) → is_some r.0 ≡ false → static_rows (r ∷ rows) ≡ r ∷ []
unfolding IsStrictlySortedBy
static_there r rows sorted none = ap (λ b. cond b (r ∷ static_rows rows) (static_rows rows)) (is_static r.0 none) ∙ ap (λ l. r ∷ l) (none_static r.0 rows sorted.0)

-- ---- rows that are lent are in order

static_or_none : (rows : RowsOf) → IsStrictlySortedBy row_cmp (keys_of rows) → (P : RowsOf → Type 0) → P [] → ((b : Said) → P ((None, b) ∷ [])) → P (static_rows rows)
static_or_none [] sorted P none one = none
static_or_none (r ∷ rows) sorted P none one = go r sorted
  where
    go : (r : Option MapKey × Said) → IsStrictlySortedBy row_cmp (keys_of (r ∷ rows)) → P (static_rows (r ∷ rows))
    go (None, b) s = subst P (sym (static_there (None, b) rows s refl)) (one b)
    go (Some k, b) s = subst P (sym (static_absent (Some k, b) rows s refl)) none

all_rows : (lo : MapKey) (high : Option MapKey) (rows : RowsOf) → AllByRecursion (λ l. row_cmp None l ≡ Less) (keys_of (rows_amid (Some lo) high rows))
all_rows lo high [] = tt
all_rows lo high (r ∷ rows) = go r.0 (is_le (row_cmp high r.0)) (all_rows lo high rows)
  where
    go : (k : Option MapKey) (b : Bool) → AllByRecursion (λ l. row_cmp None l ≡ Less) (keys_of (rows_amid (Some lo) high rows))
        → AllByRecursion (λ l. row_cmp None l ≡ Less) (keys_of (cond (is_le (row_cmp (Some lo) k) && not b) ((k, r.1) ∷ rows_amid (Some lo) high rows) (rows_amid (Some lo) high rows)))
    go None b others = others
    go (Some k) b others =
        elim (is_le (key_cmp lo k) && not b) as (λ t. AllByRecursion (λ l. row_cmp None l ≡ Less) (keys_of (cond t ((Some k, r.1) ∷ rows_amid (Some lo) high rows) (rows_amid (Some lo) high rows)))) [
          | true ↦ (refl, others)
          | false ↦ others
        ]

kept_above : (P : Option MapKey → Type 0) (u : Option MapKey × Said → Bool) (rows : RowsOf) → AllByRecursion P (keys_of rows) → AllByRecursion P (keys_of (filter u rows))
kept_above P u [] all = tt
kept_above P u (r ∷ rows) all =
    elim (u r) as (λ t. AllByRecursion P (keys_of (cond t (r ∷ filter u rows) (filter u rows)))) [ true ↦ (all.0, kept_above P u rows all.1) | false ↦ kept_above P u rows all.1 ]

kept_sorted : (u : Option MapKey × Said → Bool) (rows : RowsOf) → IsStrictlySortedBy row_cmp (keys_of rows) → IsStrictlySortedBy row_cmp (keys_of (filter u rows))
unfolding IsStrictlySortedBy
kept_sorted u [] sorted = tt
kept_sorted u (r ∷ rows) sorted =
    elim (u r) as (λ t. IsStrictlySortedBy row_cmp (keys_of (cond t (r ∷ filter u rows) (filter u rows)))) [
      | true ↦ (kept_above (λ l. row_cmp r.0 l ≡ Less) u rows sorted.0, kept_sorted u rows sorted.1)
      | false ↦ kept_sorted u rows sorted.1
    ]

behind_static : (b : Said) (lo : MapKey) (high : Option MapKey) (rows : RowsOf) → IsStrictlySortedBy row_cmp (keys_of rows)
    → IsStrictlySortedBy row_cmp (keys_of (((None, b) ∷ []) ++ rows_amid (Some lo) high rows))
unfolding IsStrictlySortedBy
behind_static b lo high rows sorted = (all_rows lo high rows, kept_sorted (λ r. is_le (row_cmp (Some lo) r.0) && not (is_le (row_cmp high r.0))) rows sorted)

pub lent_sorted : (lo : MapKey) (high : Option MapKey) (rows : RowsOf) → IsStrictlySortedBy row_cmp (keys_of rows) → IsStrictlySortedBy row_cmp (keys_of (static_rows rows ++ rows_amid (Some lo) high rows))
lent_sorted lo high rows sorted =
    static_or_none rows sorted (λ l. IsStrictlySortedBy row_cmp (keys_of (l ++ rows_amid (Some lo) high rows)))
    (kept_sorted (λ r. is_le (row_cmp (Some lo) r.0) && not (is_le (row_cmp high r.0))) rows sorted) (λ b. behind_static b lo high rows sorted)

-- none stands from one on, before another that isn't above it
pub none_amid : (low high : Option MapKey) → is_lt (row_cmp low high) ≡ false → (rows : RowsOf) → rows_amid low high rows ≡ []
none_amid low high over [] = refl
none_amid low high over (r ∷ rows) =
    ap (λ b. cond b (r ∷ rows_amid low high rows) (rows_amid low high rows)) (never (row_cmp low r.0) (row_cmp high r.0) refl refl) ∙ none_amid low high over rows
  where
    below : (o : Ordering) → row_cmp high r.0 ≡ o → row_cmp r.0 high ≡ ordering_reverse o
    below o e = row_total.antisymm r.0 high ∙ ap ordering_reverse e

    never : (o p : Ordering) → row_cmp low r.0 ≡ o → row_cmp high r.0 ≡ p → (is_le o && not (is_le p)) ≡ false
    never Greater p a b = refl
    never Less Less a b = refl
    never Less Equal a b = refl
    never Equal Less a b = refl
    never Equal Equal a b = refl
    never Less Greater a b = absurd (true≢false (sym (ap is_lt (row_total.trans low r.0 high a (below Greater b))) ∙ over))
    never Equal Greater a b = absurd (true≢false (sym (ap is_lt (row_total.congr low r.0 high a ∙ below Greater b)) ∙ over))

-- what was asked of a row
pub row_there : (row key : Option MapKey) (b : Bool) → row ≡ key → b ≡ is_some row → b ≡ true → is_some key ≡ true
row_there row key b e f t = ap (λ k. is_some k) (sym e) ∙ sym f ∙ t

pub row_absent : (row key : Option MapKey) (b : Bool) → row ≡ key → b ≡ is_some row → b ≡ false → is_some key ≡ false
row_absent row key b e f t = ap (λ k. is_some k) (sym e) ∙ sym f ∙ t
