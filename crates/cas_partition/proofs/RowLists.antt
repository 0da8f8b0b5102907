-- What is kept row by row, as one list of entries.
use Rattle.std.proofs.Common.{◌≡◌, true, false, cond, Option, None, Some, is_some, List, [], ◌∷◌, ◌++◌, map, refl, sym, ap, ◌∙◌, subst, append_assoc}
use Rattle.std.proofs.lemmas.Option.{none-some}
use Rattle.std.proofs.lemmas.Cmp.{tied_itself}
use Rattle.std.proofs.lemmas.Map.{keys-set_value}
use Rattle.std.specs.Cmp.{IsTotalOrder, then_total, on_total, nat_cmp_total}
use Rattle.std.specs.Cmp.Lexicographic.{options_total, nat_list_cmp_total}
use Rattle.std.specs.Option.{unwrap_or}
use Rattle.std.specs.List.{AllByRecursion}
use Rattle.std.specs.List.Sorted.{IsStrictlySortedBy}
use Rattle.std.specs.Map.{keys_of, lookup, set_value}
use Rattle.std.specs.BTreeMap.{insert_entry, is_at}
use Rattle.std.specs.Ordering.{is_eq, match_ordering, ordering_then, ordering_reverse}
use Rattle.std.specs.declared.cmp.Ordering.{Ordering}
use Rattle.std.specs.declared.cmp.Ordering.TheVariants.{Less, Equal, Greater}
use Rattle.cas_types.specs.declared.tag.TypeTag.{TypeTag}
use Rattle.cas_bounds.specs.Keys.{key_cmp}
use Rattle.cas_bounds.specs.Inner.KeyLaws.{key_ties}
use Rattle.cas_bounds.specs.declared.map_key.MapKey.{MapKey}
use Rattle.cas_partition.specs.Spots.{row_cmp, place_cmp, spot_cmp, blank, joined_content}
use Rattle.cas_partition.specs.Partitions.{with_spot}
use Rattle.cas_partition.specs.Inner.Fronts.{row_total}
use Rattle.cas_partition.specs.Inner.Rows.{Said, RowsOf, spot_in, entry_in, flat, AreInOrder, AreRows, place_of, body_of, with_place, joined_place}
use Rattle.cas_partition.specs.Inner.Runs.{joined_spot}
use Rattle.cas_partition.specs.declared.spot.Place.{Place}
use Rattle.cas_partition.specs.declared.spot.Spot.{Spot}
use Rattle.cas_partition.specs.declared.spot.Content.{Content}
use Rattle.cas_partition.proofs.Saying.{option_ties}

abbrev Entries : Type 0
Entries = List (Spot × Content)

pub row_ties : (r s : Option MapKey) → row_cmp r s ≡ Equal → r ≡ s
row_ties r s e = option_ties key_cmp key_ties r s e

pub place_total : IsTotalOrder place_cmp
place_total = then_total (on_total (λ (p : Place). p.column) (options_total nat_cmp_total)) (on_total (λ (p : Place). p.path) (options_total nat_list_cmp_total))

pub row_itself : (r : Option MapKey) → row_cmp r r ≡ Equal
row_itself r = tied_itself row_total r

-- ---- sorted lists

module _ {K : Type 0} {cmp : K → K → Ordering} (total : IsTotalOrder cmp) where
  pub above_too : (k l : K) (ks : List K) → cmp k l ≡ Less → AllByRecursion (λ y. cmp l y ≡ Less) ks → AllByRecursion (λ y. cmp k y ≡ Less) ks
  above_too k l [] less all = tt
  above_too k l (m ∷ ks) less all = (total.trans k l m less all.0, above_too k l ks less all.1)

  pub above_like : (k l : K) (ks : List K) → cmp k l ≡ Equal → AllByRecursion (λ y. cmp l y ≡ Less) ks → AllByRecursion (λ y. cmp k y ≡ Less) ks
  above_like k l [] tie all = tt
  above_like k l (m ∷ ks) tie all = (total.congr k l m tie ∙ all.0, above_like k l ks tie all.1)

module _ {K X : Type 0} {cmp : K → K → Ordering} (total : IsTotalOrder cmp) where
  pub above_none : (k : K) (es : List (K × X)) → AllByRecursion (λ y. cmp k y ≡ Less) (keys_of es) → lookup (is_at (cmp k)) es ≡ None
  above_none k [] all = refl
  above_none k (e ∷ es) all = ap (λ r. cond (is_eq r) (Some e.1) (lookup (is_at (cmp k)) es)) all.0 ∙ above_none k es all.1

  put_above : (k l : K) (v : X) (es : List (K × X)) → cmp l k ≡ Less → AllByRecursion (λ y. cmp l y ≡ Less) (keys_of es)
      → AllByRecursion (λ y. cmp l y ≡ Less) (keys_of (insert_entry cmp es k v))
  put_above k l v [] less all = (less, tt)
  put_above k l v (e ∷ es) less all =
      elim (cmp k e.0) as (λ r. AllByRecursion (λ y. cmp l y ≡ Less) (keys_of (match_ordering r ((k, v) ∷ e ∷ es) ((e.0, v) ∷ es) (e ∷ insert_entry cmp es k v)))) [
        | Less ↦ (less, all)
        | Equal ↦ all
        | Greater ↦ (all.0, put_above k l v es less all.1)
      ]

  pub put_sorted : (k : K) (v : X) (es : List (K × X)) → IsStrictlySortedBy cmp (keys_of es) → IsStrictlySortedBy cmp (keys_of (insert_entry cmp es k v))
  unfolding IsStrictlySortedBy
  put_sorted k v [] sorted = (tt, tt)
  put_sorted k v (e ∷ es) sorted =
      elim (cmp k e.0) as (λ r. cmp k e.0 ≡ r → IsStrictlySortedBy cmp (keys_of (match_ordering r ((k, v) ∷ e ∷ es) ((e.0, v) ∷ es) (e ∷ insert_entry cmp es k v)))) [
        | Less ↦ λ r. ((r, above_too total k e.0 (keys_of es) r sorted.0), sorted)
        | Equal ↦ λ r. sorted
        | Greater ↦ λ r. (put_above k e.0 v es (total.antisymm e.0 k ∙ ap ordering_reverse r) sorted.0, put_sorted k v es sorted.1)
      ] refl

  -- where the key is there, its value is set in either way
  pub set_is_put : (k : K) (v w : X) (es : List (K × X)) → IsStrictlySortedBy cmp (keys_of es) → lookup (is_at (cmp k)) es ≡ Some v
      → set_value (is_at (cmp k)) es w ≡ insert_entry cmp es k w
  unfolding IsStrictlySortedBy
  set_is_put k v w [] sorted there = absurd (none-some v there)
  set_is_put k v w (e ∷ es) sorted there =
      elim (cmp k e.0) as (λ r. cmp k e.0 ≡ r → cond (is_eq r) (Some e.1) (lookup (is_at (cmp k)) es) ≡ Some v
      → cond (is_eq r) ((e.0, w) ∷ es) (e ∷ set_value (is_at (cmp k)) es w) ≡ match_ordering r ((k, w) ∷ e ∷ es) ((e.0, w) ∷ es) (e ∷ insert_entry cmp es k w)) [
        | Less ↦ λ r h. absurd (none-some v (sym (above_none k es (above_too total k e.0 (keys_of es) r sorted.0)) ∙ h))
        | Equal ↦ λ r h. refl
        | Greater ↦ λ r h. ap (λ l. e ∷ l) (set_is_put k v w es sorted.1 h)
      ] refl there

  -- and where it isn't, nothing is set
  pub set_none : (k : K) (w : X) (es : List (K × X)) → lookup (is_at (cmp k)) es ≡ None → set_value (is_at (cmp k)) es w ≡ es
  set_none k w [] none = refl
  set_none k w (e ∷ es) none =
      elim (is_eq (cmp k e.0)) as (λ b. cond b (Some e.1) (lookup (is_at (cmp k)) es) ≡ None → cond b ((e.0, w) ∷ es) (e ∷ set_value (is_at (cmp k)) es w) ≡ e ∷ es) [
        | true ↦ λ h. absurd (none-some e.1 (sym h))
        | false ↦ λ h. ap (λ l. e ∷ l) (set_none k w es h)
      ] none

-- a fact of what is said of each row
put_each : (P : Said → Type 0) (k : Option MapKey) (b : Said) (rows : RowsOf) → P b → AllByRecursion (λ r. P r.1) rows → AllByRecursion (λ r. P r.1) (insert_entry row_cmp rows k b)
put_each P k b [] p all = (p, tt)
put_each P k b (r ∷ rows) p all =
    elim (row_cmp k r.0) as (λ o. AllByRecursion (λ r. P r.1) (match_ordering o ((k, b) ∷ r ∷ rows) ((r.0, b) ∷ rows) (r ∷ insert_entry row_cmp rows k b))) [
      | Less ↦ (p, all)
      | Equal ↦ (p, all.1)
      | Greater ↦ (all.0, put_each P k b rows p all.1)
    ]

-- the row with that said of it
pub rows_put : (k : Option MapKey) (b : Said) (rows : RowsOf) → AreInOrder b → AreRows rows → AreRows (insert_entry row_cmp rows k b)
rows_put k b rows sorted are = record { sorted = put_sorted row_total k b rows are.sorted; places = put_each AreInOrder k b rows sorted are.places }

pub none_sorted : AreInOrder []
unfolding IsStrictlySortedBy
none_sorted = tt

body_sorted : (k : Option MapKey) (rows : RowsOf) → AllByRecursion (λ r. AreInOrder r.1) rows → AreInOrder (body_of k rows)
body_sorted k [] all = none_sorted
body_sorted k (r ∷ rows) all =
    elim (is_eq (row_cmp k r.0)) as (λ b. AreInOrder (unwrap_or (cond b (Some r.1) (lookup (is_at (row_cmp k)) rows)) [])) [
      | true ↦ all.0
      | false ↦ body_sorted k rows all.1
    ]

pub sorted_body : (k : Option MapKey) (rows : RowsOf) → AreRows rows → AreInOrder (body_of k rows)
sorted_body k rows are = body_sorted k rows are.places

keys_kept : (k : Option MapKey) (b : Said) (rows : RowsOf) → keys_of (set_value (is_at (row_cmp k)) rows b) ≡ keys_of rows
keys_kept k b rows = keys-set_value (is_at (row_cmp k)) rows b

set_each : (P : Said → Type 0) (k : Option MapKey) (b : Said) (rows : RowsOf) → P b → AllByRecursion (λ r. P r.1) rows → AllByRecursion (λ r. P r.1) (set_value (is_at (row_cmp k)) rows b)
set_each P k b [] p all = tt
set_each P k b (r ∷ rows) p all =
    elim (is_eq (row_cmp k r.0)) as (λ t. AllByRecursion (λ r. P r.1) (cond t ((r.0, b) ∷ rows) (r ∷ set_value (is_at (row_cmp k)) rows b))) [
      | true ↦ (p, all.1)
      | false ↦ (all.0, set_each P k b rows p all.1)
    ]

pub set_keeps_keys : (k : Option MapKey) (b : Said) (rows : RowsOf) → AreRows rows → AreInOrder b → AreRows (set_value (is_at (row_cmp k)) rows b)
set_keeps_keys k b rows are sorted = record {
  sorted = subst (IsStrictlySortedBy row_cmp) (sym (keys_kept k b rows)) are.sorted;
  places = set_each AreInOrder k b rows sorted are.places;
}

-- ---- the entries of a row among those of all

-- the entries before a row and behind it
record Split (k : Option MapKey) (rows : RowsOf) : Type 0 where
  before : Entries
  behind : Entries
  lower : AllByRecursion (λ e. row_cmp k e.0.row ≡ Greater) before
  upper : AllByRecursion (λ e. row_cmp k e.0.row ≡ Less) behind
  is : (b : Said) → flat (insert_entry row_cmp rows k b) ≡ before ++ (map (entry_in k) b ++ behind)

all_of : (P : Spot × Content → Type 0) (k : Option MapKey) (b : Said) (es : Entries) → ((e : Place × Content) → P (entry_in k e)) → AllByRecursion P es → AllByRecursion P (map (entry_in k) b ++ es)
all_of P k [] es h all = all
all_of P k (e ∷ b) es h all = (h e, all_of P k b es h all)

pub all_upper : (k : Option MapKey) (rows : RowsOf) → AllByRecursion (λ y. row_cmp k y ≡ Less) (keys_of rows) → AllByRecursion (λ e. row_cmp k e.0.row ≡ Less) (flat rows)
all_upper k [] all = tt
all_upper k (r ∷ rows) all = all_of (λ e. row_cmp k e.0.row ≡ Less) r.0 r.1 (flat rows) (λ e. all.0) (all_upper k rows all.1)

further_split : (k : Option MapKey) (r : Option MapKey × Said) (rows : RowsOf) → row_cmp k r.0 ≡ Greater → Split k rows
    → (before : Entries) × (behind : Entries) × AllByRecursion (λ e. row_cmp k e.0.row ≡ Greater) before × AllByRecursion (λ e. row_cmp k e.0.row ≡ Less) behind
    × ((b : Said) → flat (r ∷ insert_entry row_cmp rows k b) ≡ before ++ (map (entry_in k) b ++ behind))
further_split k r rows above s = (
  map (entry_in r.0) r.1 ++ s.before,
  s.behind,
  all_of (λ e. row_cmp k e.0.row ≡ Greater) r.0 r.1 s.before (λ e. above) s.lower,
  s.upper,
  λ b. ap (λ l. map (entry_in r.0) r.1 ++ l) (s.is b) ∙ sym (append_assoc (map (entry_in r.0) r.1) s.before (map (entry_in k) b ++ s.behind)),
)

abbrev step : Option MapKey → Option MapKey × Said → RowsOf → Ordering → Said → RowsOf
step k r rows o b = match_ordering o ((k, b) ∷ r ∷ rows) ((r.0, b) ∷ rows) (r ∷ insert_entry row_cmp rows k b)

split : (k : Option MapKey) (rows : RowsOf) → IsStrictlySortedBy row_cmp (keys_of rows) → Split k rows
unfolding IsStrictlySortedBy
split k [] sorted = record { before = []; behind = []; lower = tt; upper = tt; is = λ b. refl }
split k (r ∷ rows) sorted = go (split k rows sorted.1) (row_cmp k r.0) refl
  where
    go : Split k rows → (o : Ordering) → row_cmp k r.0 ≡ o → Split k (r ∷ rows)
    go s Less e = record {
      before = [];
      behind = flat (r ∷ rows);
      lower = tt;
      upper = all_upper k (r ∷ rows) (e, above_too row_total k r.0 (keys_of rows) e sorted.0);
      is = λ b. ap (λ o. flat (step k r rows o b)) e;
    }
    go s Equal e = record {
      before = [];
      behind = flat rows;
      lower = tt;
      upper = all_upper k rows (above_like row_total k r.0 (keys_of rows) e sorted.0);
      is = λ b. ap (λ o. flat (step k r rows o b)) e ∙ ap (λ q. map (entry_in q) b ++ flat rows) (sym (row_ties k r.0 e));
    }
    go s Greater e =
        let (before, behind, lower, upper, is) = further_split k r rows e s in
        record { before = before; behind = behind; lower = lower; upper = upper; is = λ b. ap (λ o. flat (step k r rows o b)) e ∙ is b }

module _ (k : Option MapKey) (p : Place) where
  at : Spot → Ordering
  at s = spot_cmp (spot_in k p) s

  lower_is : (s : Spot) → row_cmp k s.row ≡ Greater → spot_cmp (spot_in k p) s ≡ Greater
  lower_is s e = ap (λ r. ordering_then r (place_cmp p (place_of s))) e

  pub upper_is : (s : Spot) → row_cmp k s.row ≡ Less → spot_cmp (spot_in k p) s ≡ Less
  upper_is s e = ap (λ r. ordering_then r (place_cmp p (place_of s))) e

  pub here_is : (q : Place) → spot_cmp (spot_in k p) (spot_in k q) ≡ place_cmp p q
  here_is q = ap (λ r. ordering_then r (place_cmp p q)) (row_itself k)

  -- ---- looked up

  look_lower : (before es : Entries) → AllByRecursion (λ e. row_cmp k e.0.row ≡ Greater) before
      → lookup (is_at (spot_cmp (spot_in k p))) (before ++ es) ≡ lookup (is_at (spot_cmp (spot_in k p))) es
  look_lower [] es all = refl
  look_lower (e ∷ before) es all =
      ap (λ r. cond (is_eq r) (Some e.1) (lookup (is_at (spot_cmp (spot_in k p))) (before ++ es))) (lower_is e.0 all.0) ∙ look_lower before es all.1

  look_upper : (es : Entries) → AllByRecursion (λ e. row_cmp k e.0.row ≡ Less) es → lookup (is_at (spot_cmp (spot_in k p))) es ≡ None
  look_upper [] all = refl
  look_upper (e ∷ es) all = ap (λ r. cond (is_eq r) (Some e.1) (lookup (is_at (spot_cmp (spot_in k p))) es)) (upper_is e.0 all.0) ∙ look_upper es all.1

  look_here : (b : Said) (es : Entries) → lookup (is_at (spot_cmp (spot_in k p))) es ≡ None
      → lookup (is_at (spot_cmp (spot_in k p))) (map (entry_in k) b ++ es) ≡ lookup (is_at (place_cmp p)) b
  look_here [] es none = none
  look_here (e ∷ b) es none = λ i. cond (is_eq (here_is e.0 i)) (Some e.1) (look_here b es none i)

  look : (before behind : Entries) (b : Said) → AllByRecursion (λ e. row_cmp k e.0.row ≡ Greater) before → AllByRecursion (λ e. row_cmp k e.0.row ≡ Less) behind
      → lookup (is_at (spot_cmp (spot_in k p))) (before ++ (map (entry_in k) b ++ behind)) ≡ lookup (is_at (place_cmp p)) b
  look before behind b lower upper = look_lower before (map (entry_in k) b ++ behind) lower ∙ look_here b behind (look_upper behind upper)

  -- ---- put in

  put_lower : (v : Content) (before es : Entries) → AllByRecursion (λ e. row_cmp k e.0.row ≡ Greater) before
      → insert_entry spot_cmp (before ++ es) (spot_in k p) v ≡ before ++ insert_entry spot_cmp es (spot_in k p) v
  put_lower v [] es all = refl
  put_lower v (e ∷ before) es all =
      ap (λ r. match_ordering r ((spot_in k p, v) ∷ e ∷ (before ++ es)) ((e.0, v) ∷ (before ++ es)) (e ∷ insert_entry spot_cmp (before ++ es) (spot_in k p) v)) (lower_is e.0 all.0)
      ∙ ap (λ l. e ∷ l) (put_lower v before es all.1)

  put_upper : (v : Content) (es : Entries) → AllByRecursion (λ e. row_cmp k e.0.row ≡ Less) es → insert_entry spot_cmp es (spot_in k p) v ≡ (spot_in k p, v) ∷ es
  put_upper v [] all = refl
  put_upper v (e ∷ es) all = ap (λ r. match_ordering r ((spot_in k p, v) ∷ e ∷ es) ((e.0, v) ∷ es) (e ∷ insert_entry spot_cmp es (spot_in k p) v)) (upper_is e.0 all.0)

  put_here : (v : Content) (b : Said) (es : Entries) → AllByRecursion (λ e. row_cmp k e.0.row ≡ Less) es
      → insert_entry spot_cmp (map (entry_in k) b ++ es) (spot_in k p) v ≡ map (entry_in k) (insert_entry place_cmp b p v) ++ es
  put_here v [] es upper = put_upper v es upper
  put_here v (e ∷ b) es upper =
      (λ i. match_ordering (here_is e.0 i) ((spot_in k p, v) ∷ entry_in k e ∷ (map (entry_in k) b ++ es)) ((spot_in k e.0, v) ∷ (map (entry_in k) b ++ es)) (entry_in k e ∷ put_here v b es upper i))
      ∙ elim (place_cmp p e.0) as (λ r. match_ordering r ((spot_in k p, v) ∷ entry_in k e ∷ (map (entry_in k) b ++ es)) ((spot_in k e.0, v) ∷ (map (entry_in k) b ++ es))
      (entry_in k e ∷ (map (entry_in k) (insert_entry place_cmp b p v) ++ es)) ≡ map (entry_in k) (match_ordering r ((p, v) ∷ e ∷ b) ((e.0, v) ∷ b) (e ∷ insert_entry place_cmp b p v)) ++ es) [
        | Less ↦ refl
        | Equal ↦ refl
        | Greater ↦ refl
      ]

  abbrev all_in : Entries → Said → Entries → Entries
  all_in before b behind = before ++ (map (entry_in k) b ++ behind)

  place_made : (tag : Option TypeTag) (before behind : Entries) (b : Said) → AllByRecursion (λ e. row_cmp k e.0.row ≡ Greater) before → AllByRecursion (λ e. row_cmp k e.0.row ≡ Less) behind
      → with_spot (spot_in k p) tag (before ++ (map (entry_in k) b ++ behind)) ≡ before ++ (map (entry_in k) (with_place p tag b) ++ behind)
  place_made tag before behind b lower upper =
      ap (λ o. cond (is_some o) (all_in before b behind) (insert_entry spot_cmp (all_in before b behind) (spot_in k p) (blank tag))) (look before behind b lower upper)
      ∙ elim (is_some (lookup (is_at (place_cmp p)) b)) as (λ t. cond t (all_in before b behind) (insert_entry spot_cmp (all_in before b behind) (spot_in k p) (blank tag)) ≡ before ++ (map (entry_in k) (cond t b (insert_entry place_cmp b p (blank tag))) ++ behind)) [
        | true ↦ refl
        | false ↦ put_lower (blank tag) before (map (entry_in k) b ++ behind) lower ∙ ap (λ l. before ++ l) (put_here (blank tag) b behind upper)
      ]

  -- ---- joined

  join_lower : (c : Content) (before es : Entries) → AllByRecursion (λ e. row_cmp k e.0.row ≡ Greater) before → joined_spot (spot_in k p) c (before ++ es) ≡ before ++ joined_spot (spot_in k p) c es
  join_lower c [] es all = refl
  join_lower c (e ∷ before) es all =
      ap (λ r. cond (is_eq r) ((e.0, joined_content e.1 c) ∷ (before ++ es)) (e ∷ joined_spot (spot_in k p) c (before ++ es))) (lower_is e.0 all.0)
      ∙ ap (λ l. e ∷ l) (join_lower c before es all.1)

  join_upper : (c : Content) (es : Entries) → AllByRecursion (λ e. row_cmp k e.0.row ≡ Less) es → joined_spot (spot_in k p) c es ≡ es
  join_upper c [] all = refl
  join_upper c (e ∷ es) all =
      ap (λ r. cond (is_eq r) ((e.0, joined_content e.1 c) ∷ es) (e ∷ joined_spot (spot_in k p) c es)) (upper_is e.0 all.0) ∙ ap (λ l. e ∷ l) (join_upper c es all.1)

  join_here : (c : Content) (b : Said) (es : Entries) → AllByRecursion (λ e. row_cmp k e.0.row ≡ Less) es
      → joined_spot (spot_in k p) c (map (entry_in k) b ++ es) ≡ map (entry_in k) (joined_place p c b) ++ es
  join_here c [] es upper = join_upper c es upper
  join_here c (e ∷ b) es upper =
      (λ i. cond (is_eq (here_is e.0 i)) ((spot_in k e.0, joined_content e.1 c) ∷ (map (entry_in k) b ++ es)) (entry_in k e ∷ join_here c b es upper i))
      ∙ elim (is_eq (place_cmp p e.0)) as (λ t. cond t ((spot_in k e.0, joined_content e.1 c) ∷ (map (entry_in k) b ++ es)) (entry_in k e ∷ (map (entry_in k) (joined_place p c b) ++ es))
      ≡ map (entry_in k) (cond t ((e.0, joined_content e.1 c) ∷ b) (e ∷ joined_place p c b)) ++ es) [
        | true ↦ refl
        | false ↦ refl
      ]

  place_joined : (c : Content) (before behind : Entries) (b : Said) → AllByRecursion (λ e. row_cmp k e.0.row ≡ Greater) before → AllByRecursion (λ e. row_cmp k e.0.row ≡ Less) behind
      → joined_spot (spot_in k p) c (before ++ (map (entry_in k) b ++ behind)) ≡ before ++ (map (entry_in k) (joined_place p c b) ++ behind)
  place_joined c before behind b lower upper = join_lower c before (map (entry_in k) b ++ behind) lower ∙ ap (λ l. before ++ l) (join_here c b behind upper)

-- a place made in a row, and in the list of all entries
pub made_in : (k : Option MapKey) (p : Place) (tag : Option TypeTag) (rows : RowsOf) (b : Said) → IsStrictlySortedBy row_cmp (keys_of rows)
    → with_spot (spot_in k p) tag (flat (insert_entry row_cmp rows k b)) ≡ flat (insert_entry row_cmp rows k (with_place p tag b))
made_in k p tag rows b sorted =
    let s : Split k rows = split k rows sorted in
    ap (with_spot (spot_in k p) tag) (s.is b) ∙ place_made k p tag s.before s.behind b s.lower s.upper ∙ sym (s.is (with_place p tag b))

-- and joined
pub joined_in_row : (k : Option MapKey) (p : Place) (c : Content) (rows : RowsOf) (b : Said) → IsStrictlySortedBy row_cmp (keys_of rows)
    → joined_spot (spot_in k p) c (flat (insert_entry row_cmp rows k b)) ≡ flat (insert_entry row_cmp rows k (joined_place p c b))
joined_in_row k p c rows b sorted =
    let s : Split k rows = split k rows sorted in
    ap (joined_spot (spot_in k p) c) (s.is b) ∙ place_joined k p c s.before s.behind b s.lower s.upper ∙ sym (s.is (joined_place p c b))

-- the row as it is, also where it isn't there
as_there : (k : Option MapKey) (b : Said) (rows : RowsOf) → IsStrictlySortedBy row_cmp (keys_of rows) → lookup (is_at (row_cmp k)) rows ≡ Some b → insert_entry row_cmp rows k b ≡ rows
unfolding IsStrictlySortedBy
as_there k b [] sorted there = absurd (none-some b there)
as_there k b (r ∷ rows) sorted there =
    elim (row_cmp k r.0) as (λ o. row_cmp k r.0 ≡ o → cond (is_eq o) (Some r.1) (lookup (is_at (row_cmp k)) rows) ≡ Some b
    → match_ordering o ((k, b) ∷ r ∷ rows) ((r.0, b) ∷ rows) (r ∷ insert_entry row_cmp rows k b) ≡ r ∷ rows) [
      | Less ↦ λ o h. absurd (none-some b (sym (above_none row_total k rows (above_too row_total k r.0 (keys_of rows) o sorted.0)) ∙ h))
      | Equal ↦ λ o h. ap (λ c. (r.0, c) ∷ rows) (sym (ap (λ q. unwrap_or q b) h))
      | Greater ↦ λ o h. ap (λ l. r ∷ l) (as_there k b rows sorted.1 h)
    ] refl there

as_absent : (k : Option MapKey) (rows : RowsOf) → lookup (is_at (row_cmp k)) rows ≡ None → flat (insert_entry row_cmp rows k []) ≡ flat rows
as_absent k [] none = refl
as_absent k (r ∷ rows) none =
    elim (row_cmp k r.0) as (λ o. cond (is_eq o) (Some r.1) (lookup (is_at (row_cmp k)) rows) ≡ None
    → flat (match_ordering o ((k, []) ∷ r ∷ rows) ((r.0, []) ∷ rows) (r ∷ insert_entry row_cmp rows k [])) ≡ flat (r ∷ rows)) [
      | Less ↦ λ h. refl
      | Equal ↦ λ h. absurd (none-some r.1 (sym h))
      | Greater ↦ λ h. ap (λ l. map (entry_in r.0) r.1 ++ l) (as_absent k rows h)
    ] none

pub as_it_is : (k : Option MapKey) (rows : RowsOf) → IsStrictlySortedBy row_cmp (keys_of rows) → flat (insert_entry row_cmp rows k (body_of k rows)) ≡ flat rows
as_it_is k rows sorted = go (lookup (is_at (row_cmp k)) rows) refl
  where
    go : (o : Option Said) → lookup (is_at (row_cmp k)) rows ≡ o → flat (insert_entry row_cmp rows k (body_of k rows)) ≡ flat rows
    go None e = ap (λ q. flat (insert_entry row_cmp rows k (unwrap_or q []))) e ∙ as_absent k rows e
    go (Some b) e = ap (λ q. flat (insert_entry row_cmp rows k (unwrap_or q []))) e ∙ ap flat (as_there k b rows sorted e)

-- what a row is set to, if it is there
pub set_row : (k : Option MapKey) (f : Said → Said) (rows : RowsOf) → f [] ≡ [] → IsStrictlySortedBy row_cmp (keys_of rows)
    → flat (set_value (is_at (row_cmp k)) rows (f (body_of k rows))) ≡ flat (insert_entry row_cmp rows k (f (body_of k rows)))
set_row k f rows none sorted = go (lookup (is_at (row_cmp k)) rows) refl
  where
    go : (o : Option Said) → lookup (is_at (row_cmp k)) rows ≡ o
        → flat (set_value (is_at (row_cmp k)) rows (f (body_of k rows))) ≡ flat (insert_entry row_cmp rows k (f (body_of k rows)))
    go None e =
        ap flat (set_none row_total k (f (body_of k rows)) rows e) ∙ sym (as_absent k rows e)
        ∙ ap (λ b. flat (insert_entry row_cmp rows k b)) (sym (ap (λ q. f (unwrap_or q [])) e ∙ none))
    go (Some b) e = ap flat (set_is_put row_total k b (f (body_of k rows)) rows sorted e)
