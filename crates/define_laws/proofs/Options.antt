-- The options that a CREATE TABLE gives are such as the manifest takes.
use Rattle.std.proofs.Common.{◌≡◌, ℕ, ℤ, pos, negsuc, ◌≤◌, ◌≤ℤ◌, int_le, nat_le, unsigned_abs, Bool, true, false, ◌&&◌, List, [], ◌∷◌, reverse, find, bytes_eq, codes, Option, None, Some, option_map, unwrap_or, if◌then◌else◌, refl, sym, ap, subst, arith}
use mathlib.Core.List.{reverse-cons}
use Rattle.std.specs.Bool.{then_some}
use Rattle.std.specs.List.{AllByRecursion, list_all, list_any}
use Rattle.std.specs.Option.{option_and_then}
use Rattle.std.proofs.lemmas.Bool.{eq-eqb}
use Rattle.std.proofs.lemmas.Int.{ints}
use Rattle.std.proofs.lemmas.Slice.Eq.{bytes_eq-Decides}
use Rattle.cas_types.specs.declared.schema.Strategy.{Strategy}
use Rattle.cas_types.specs.declared.schema.Strategy.TheVariants as strategy
use Rattle.cas_types.specs.declared.schema.Unit.TheVariants as unit
use Rattle.cql_parse.specs.declared.term.Constant.TheVariants as constant
use Rattle.cql_parse.specs.declared.term.Setting.{Setting}
use Rattle.cql_parse.specs.declared.term.Setting.TheVariants as setting
use Rattle.cql_parse.specs.declared.syntax.OptionValue.{OptionValue}
use Rattle.cql_parse.specs.declared.syntax.OptionValue.TheVariants as value
use Rattle.cql_parse.specs.declared.syntax.Suboption.{Suboption}
use Rattle.cql_parse.specs.declared.syntax.TableOption.{TableOption}
use Rattle.cas_terms.specs.Constants as constants
use Rattle.cas_options.specs.Options.{is_keyed, suboption_named, suboption_number, suboption_fits, strategy_given, suboption_names, is_suboption, thresholds_fit, sized_fit, leveled_fit, window_fits, compaction_fits, option_given, is_known_option, whole_option, map_option, compaction_given, options_fit, options_of}
use Rattle.cas_options.specs.Settings.{value_or, is_readable, number_in_range, number_setting, whole_setting, ratio_setting, unit_setting, strategy_setting}
use Rattle.cas_options.specs.declared.ranges.OptionRange.{OptionRange}
use Rattle.cas_options.specs.declared.ranges.TheConstants as given
use Rattle.cas_schemas.specs.Options.{allows, is_leveled, has_buckets, has_windows, allows_unit, FitsOptions}
use Rattle.cas_schemas.proofs.CodeLaws.{within}
use Rattle.define_laws.proofs.Tests.{front, back, both, passes, together, each_of, found, found_so}

-- ---- numbers in their ranges

abbrev IsWithin : OptionRange → ℕ → Type 0
IsWithin r n = (r.least ≤ n) × (n ≤ r.greatest)

le_from : (a b : ℤ) → int_le a b ≡ true → a ≤ℤ b
le_from a b e = grind (arith, ints)

within_ints : (least greatest : ℕ) (z : ℤ) → int_le (pos least) z ≡ true → int_le z (pos greatest) ≡ true → (least ≤ unsigned_abs z) × (unsigned_abs z ≤ greatest)
within_ints least greatest (pos n) low high =
    let from : pos least ≤ℤ pos n = le_from _ _ low in
    let to : pos n ≤ℤ pos greatest = le_from _ _ high in
    (omega (arith, ints), omega (arith, ints))
within_ints least greatest (negsuc n) low high = cc

number_within : (r : OptionRange) (z : ℤ) (n : ℕ) → number_in_range r z ≡ Some n → IsWithin r n
unfolding number_in_range
number_within r z n e = of (constants.is_in_range (pos r.least) (pos r.greatest) z) refl e
  where
    of : (b : Bool) → constants.is_in_range (pos r.least) (pos r.greatest) z ≡ b → then_some b (unsigned_abs z) ≡ Some n → IsWithin r n
    of true is f =
        let same : unsigned_abs z ≡ n = cc in
        subst (IsWithin r) same (within_ints r.least r.greatest z (front _ _ is) (back _ _ is))
    of false is f = cc

setting_within : (r : OptionRange) (s : Setting) (n : ℕ) → number_setting r s ≡ Some n → IsWithin r n
unfolding number_setting
setting_within r s n e = of (if r.is_ratio then ratio_setting s else whole_setting s) e
  where
    of : (o : Option ℤ) → option_and_then (number_in_range r) o ≡ Some n → IsWithin r n
    of None f = cc
    of (Some z) f = number_within r z n f

whole_within : (r : OptionRange) (v : OptionValue) (n : ℕ) → whole_option r v ≡ Some n → IsWithin r n
unfolding whole_option
whole_within r (value.Constant (constant.Number z)) n e = number_within r z n e
whole_within r (value.Constant (constant.Text t)) n e = cc
whole_within r (value.Constant (constant.Blob b)) n e = cc
whole_within r (value.Constant (constant.Uuid u)) n e = cc
whole_within r (value.Constant (constant.Boolean b)) n e = cc
whole_within r (value.Ratio z) n e = cc
whole_within r (value.Suboptions ss) n e = cc

value_within : {A : Type 0} (read : A → Option ℕ) (r : OptionRange) (default : ℕ) (o : Option A) → ((a : A) (n : ℕ) → read a ≡ Some n → IsWithin r n) → IsWithin r default
    → IsWithin r (value_or read default o)
value_within {A} read r default None gives its = its
value_within {A} read r default (Some a) gives its = of (read a) refl
  where
    of : (o : Option ℕ) → read a ≡ o → IsWithin r (unwrap_or o default)
    of None e = its
    of (Some n) e = gives a n e

-- ---- suboptions that a strategy doesn't have

each_back : (P : Suboption → Type 0) (ss : List Suboption) → AllByRecursion P ss → AllByRecursion P (reverse ss)
each_back P [] all = tt
each_back P (s ∷ ss) all = subst (AllByRecursion P) (sym (reverse-cons s ss)) (together P (reverse ss) (s ∷ []) (each_back P ss all.1) (all.0, tt))

other_key : (name : List ℕ) (s : Strategy) (key : Setting) → list_any (bytes_eq name) (suboption_names s) ≡ false → is_suboption s key ≡ true → is_keyed name key ≡ false
unfolding is_suboption is_keyed
other_key name s (setting.Text t) apart e = of (bytes_eq t name) refl
  where
    of : (b : Bool) → bytes_eq t name ≡ b → bytes_eq t name ≡ false
    of false is = is
    of true is =
        let same : t ≡ name = (bytes_eq-Decides t name).0 is in
        let any : list_any (bytes_eq name) (suboption_names s) ≡ true = subst (λ u. list_any (bytes_eq u) (suboption_names s) ≡ true) same e in
        cc
other_key name s (setting.Number n) apart e = refl
other_key name s (setting.Ratio n) apart e = refl

module _ (s : Strategy) (ss : List Suboption) (known : list_all (λ o. is_suboption s o.key) ss ≡ true) where
  not_given : (name : List ℕ) → list_any (bytes_eq name) (suboption_names s) ≡ false → suboption_named name ss ≡ None
  unfolding suboption_named
  not_given name apart = of (find (λ o. is_keyed name o.key) (reverse ss)) refl
    where
      others : AllByRecursion (λ o. is_keyed name o.key ≡ false) (reverse ss)
      others =
          each_back (λ o. is_keyed name o.key ≡ false) ss
          (each_of (λ o. is_suboption s o.key ≡ true) (λ o. is_keyed name o.key ≡ false) (λ o e. other_key name s o.key apart e) ss (passes (λ o. is_suboption s o.key) ss known))

      of : (o : Option Suboption) → find (λ o. is_keyed name o.key) (reverse ss) ≡ o → option_map (λ o. o.value) o ≡ None
      of None e = refl
      of (Some o) e =
          let isnt : is_keyed name o.key ≡ false = found (λ o. is_keyed name o.key ≡ false) (λ o. is_keyed name o.key) (reverse ss) o others e in
          let is : is_keyed name o.key ≡ true = found_so (λ o. is_keyed name o.key) (reverse ss) o e in
          cc

  -- a suboption that the strategy has is in its range, another one at its default
  allowed : (has : Bool) (name : List ℕ) (r : OptionRange) → r.least ≤ r.default → r.default ≤ r.greatest → (has ≡ false → list_any (bytes_eq name) (suboption_names s) ≡ false)
      → allows has (record { least = r.least; greatest = r.greatest; default = r.default }) (suboption_number ss name r) ≡ true
  unfolding suboption_number
  allowed true name r low high apart =
      let its = value_within (number_setting r) r r.default (suboption_named name ss) (setting_within r) (low, high) in within r.least r.greatest _ its.0 its.1
  allowed false name r low high apart =
      let none : suboption_named name ss ≡ None = not_given name (apart refl) in eq-eqb _ _ (ap (value_or (number_setting r) r.default) none)

  allowed_unit : (has : Bool) → (has ≡ false → list_any (bytes_eq (codes "compaction_window_unit")) (suboption_names s) ≡ false)
      → allows_unit has (value_or unit_setting unit.Days (suboption_named (codes "compaction_window_unit") ss)) ≡ true
  allowed_unit true apart = refl
  allowed_unit false apart =
      let none : suboption_named (codes "compaction_window_unit") ss ≡ None = not_given (codes "compaction_window_unit") (apart refl) in
      ap (λ o. allows_unit false (value_or unit_setting unit.Days o)) none

-- ---- which strategy has which

module _ (name : List ℕ) where
  no_bucket : list_any (bytes_eq name) (suboption_names strategy.Leveled) ≡ false → (s : Strategy) → has_buckets s ≡ false → list_any (bytes_eq name) (suboption_names s) ≡ false
  no_bucket apart strategy.SizeTiered e = cc
  no_bucket apart strategy.Leveled e = apart
  no_bucket apart strategy.TimeWindow e = cc

  no_level : list_any (bytes_eq name) (suboption_names strategy.TimeWindow) ≡ false → list_any (bytes_eq name) (suboption_names strategy.SizeTiered) ≡ false → (s : Strategy) → is_leveled s ≡ false
      → list_any (bytes_eq name) (suboption_names s) ≡ false
  no_level windowed sized strategy.SizeTiered e = sized
  no_level windowed sized strategy.Leveled e = cc
  no_level windowed sized strategy.TimeWindow e = windowed

  no_window : list_any (bytes_eq name) (suboption_names strategy.SizeTiered) ≡ false → list_any (bytes_eq name) (suboption_names strategy.Leveled) ≡ false → (s : Strategy) → has_windows s ≡ false
      → list_any (bytes_eq name) (suboption_names s) ≡ false
  no_window sized leveled strategy.SizeTiered e = sized
  no_window sized leveled strategy.Leveled e = leveled
  no_window sized leveled strategy.TimeWindow e = cc

-- ---- the options of a table

known_given : (os : List TableOption) → options_fit os ≡ true → compaction_fits (compaction_given os) ≡ true
unfolding options_fit
known_given os e =
    back (is_readable map_option (option_given (codes "compaction") os)) _ (back (is_readable (whole_option given.DEFAULT_TIME_TO_LIVE) (option_given (codes "default_time_to_live") os)) _
    (back (is_readable (whole_option given.GC_GRACE_SECONDS) (option_given (codes "gc_grace_seconds") os)) _ (back (list_all is_known_option os) _ e)))

abbrev HasOnlyItsOwn : List Suboption → Type 0
HasOnlyItsOwn ss = list_all (λ o. is_suboption (strategy_given ss) o.key) ss ≡ true

abbrev AreInOrder : List Suboption → Type 0
AreInOrder ss =
    nat_le (suboption_number ss (codes "min_threshold") given.MIN_THRESHOLD) (suboption_number ss (codes "max_threshold") given.MAX_THRESHOLD) ≡ true

own_only : (ss : List Suboption) → compaction_fits ss ≡ true → HasOnlyItsOwn ss
unfolding compaction_fits
own_only ss e = let one = back _ _ e in front _ _ one

in_order : (ss : List Suboption) → compaction_fits ss ≡ true → AreInOrder ss
unfolding compaction_fits sized_fit thresholds_fit
in_order ss e =
    let sized : sized_fit ss ≡ true = front (sized_fit ss) (leveled_fit ss && window_fits ss) (back (list_all (λ o. is_suboption (strategy_given ss) o.key) ss) _
    (back (is_readable strategy_setting (suboption_named (codes "class") ss)) _ e)) in
    let order : thresholds_fit ss ≡ true = front _ _ sized in
    back (suboption_fits ss (codes "max_threshold") given.MAX_THRESHOLD) _ (back (suboption_fits ss (codes "min_threshold") given.MIN_THRESHOLD) _ order)

pub made_options_fit : (os : List TableOption) → options_fit os ≡ true → FitsOptions (options_of os)
unfolding options_of
made_options_fit os e =
    let ss : List Suboption = compaction_given os in
    let s : Strategy = strategy_given ss in
    let fits : compaction_fits ss ≡ true = known_given os e in
    let known : list_all (λ o. is_suboption s o.key) ss ≡ true = own_only ss fits in
    record {
      grace = (value_within (whole_option given.GC_GRACE_SECONDS) given.GC_GRACE_SECONDS 864000 (option_given (codes "gc_grace_seconds") os)
          (whole_within given.GC_GRACE_SECONDS) (omega arith, omega arith)).1;
      ttl = (value_within (whole_option given.DEFAULT_TIME_TO_LIVE) given.DEFAULT_TIME_TO_LIVE 0 (option_given (codes "default_time_to_live") os)
          (whole_within given.DEFAULT_TIME_TO_LIVE) (omega arith, omega arith)).1;
      fewest = allowed s ss known (has_buckets s) (codes "min_threshold") given.MIN_THRESHOLD (omega arith) (omega arith) (no_bucket (codes "min_threshold") refl s);
      most = both _ _
          (allowed s ss known (has_buckets s) (codes "max_threshold") given.MAX_THRESHOLD (omega arith) (omega arith) (no_bucket (codes "max_threshold") refl s)) (in_order ss fits);
      low = allowed s ss known (has_buckets s) (codes "bucket_low") given.BUCKET_LOW (omega arith) (omega arith) (no_bucket (codes "bucket_low") refl s);
      high = allowed s ss known (has_buckets s) (codes "bucket_high") given.BUCKET_HIGH (omega arith) (omega arith) (no_bucket (codes "bucket_high") refl s);
      least_size = allowed s ss known (has_buckets s) (codes "min_sstable_size") given.MIN_SSTABLE_SIZE (omega arith) (omega arith) (no_bucket (codes "min_sstable_size") refl s);
      table_size = allowed s ss known (is_leveled s) (codes "sstable_size_in_mb") given.SSTABLE_SIZE_IN_MB (omega arith) (omega arith)
          (no_level (codes "sstable_size_in_mb") refl refl s);
      fanout = allowed s ss known (is_leveled s) (codes "fanout_size") given.FANOUT_SIZE (omega arith) (omega arith) (no_level (codes "fanout_size") refl refl s);
      unit = allowed_unit s ss known (has_windows s) (no_window (codes "compaction_window_unit") refl refl s);
      window = allowed s ss known (has_windows s) (codes "compaction_window_size") given.COMPACTION_WINDOW_SIZE (omega arith) (omega arith)
          (no_window (codes "compaction_window_size") refl refl s);
    }
