-- The options of a table: which there are, and what they are by what a CREATE TABLE gives them.
-- CQL documentation, "Data definition: table options, compaction options". Some ranges and defaults are own.
use Rattle.std.specs.Prelude.{ℕ, nat_le, Bool, true, false, ◌&&◌, ◌||◌, List, [], ◌∷◌, ◌++◌, Option, None, Some, option_map, reverse, codes}
use Rattle.std.specs.Option.{option_and_then}
use Rattle.std.specs.List.{find, list_all, list_any}
use Rattle.std.specs.Str.{bytes_eq}
use Rattle.cas_types.specs.declared.schema.Options.{Options}
use Rattle.cas_types.specs.declared.schema.Strategy.{Strategy}
use Rattle.cas_types.specs.declared.schema.Strategy.TheVariants as strategy
use Rattle.cas_types.specs.declared.schema.Unit.TheVariants as unit
use Rattle.cql_parse.specs.declared.term.Constant.TheVariants as constant
use Rattle.cql_parse.specs.declared.term.Setting.{Setting}
use Rattle.cql_parse.specs.declared.term.Setting.TheVariants as setting
use Rattle.cql_parse.specs.declared.syntax.TableOption.{TableOption}
use Rattle.cql_parse.specs.declared.syntax.TableOption.TheVariants as table_option
use Rattle.cql_parse.specs.declared.syntax.OptionValue.{OptionValue}
use Rattle.cql_parse.specs.declared.syntax.OptionValue.TheVariants as value
use Rattle.cql_parse.specs.declared.syntax.Suboption.{Suboption}
use Rattle.cas_options.specs.Settings.{value_or, is_readable, number_in_range, number_setting, unit_setting, strategy_setting}
use Rattle.cas_options.specs.declared.ranges.OptionRange.{OptionRange}
use Rattle.cas_options.specs.declared.ranges.TheConstants.{GC_GRACE_SECONDS, DEFAULT_TIME_TO_LIVE, MIN_THRESHOLD, MAX_THRESHOLD, BUCKET_LOW, BUCKET_HIGH}
use Rattle.cas_options.specs.declared.ranges.TheConstants.{MIN_SSTABLE_SIZE, SSTABLE_SIZE_IN_MB, FANOUT_SIZE, COMPACTION_WINDOW_SIZE}

-- ---- suboptions of compaction

-- the key is a string that is the name
unfoldable pub is_keyed : List ℕ → Setting → Bool
is_keyed n (setting.Text t) = bytes_eq t n
is_keyed n _ = false

-- what the suboption of the name is given; of two with one name the later counts, as of `{'min_threshold': 4, 'min_threshold': 8}`
unfoldable pub suboption_named : List ℕ → List Suboption → Option Setting
suboption_named n ss = option_map (λ s. s.value) (find (λ s. is_keyed n s.key) (reverse ss))

-- the number that the suboption is given, and without one its default
unfoldable pub suboption_number : List Suboption → List ℕ → OptionRange → ℕ
suboption_number ss n r = value_or (number_setting r) r.default (suboption_named n ss)

-- the suboption isn't given, or is a number in its range
unfoldable pub suboption_fits : List Suboption → List ℕ → OptionRange → Bool
suboption_fits ss n r = is_readable (number_setting r) (suboption_named n ss)

-- the strategy that `class` names, and without it size-tiered
abbrev pub strategy_given : List Suboption → Strategy
strategy_given ss = value_or strategy_setting strategy.SizeTiered (suboption_named (codes "class") ss)

-- the suboptions that size-tiered compaction has, and time-window compaction with it
abbrev pub sized_names : List (List ℕ)
sized_names =
    codes "class" ∷ codes "min_threshold" ∷ codes "max_threshold" ∷ codes "bucket_low" ∷ codes "bucket_high" ∷ codes "min_sstable_size" ∷ []

-- the suboptions that a strategy has
abbrev pub suboption_names : Strategy → List (List ℕ)
suboption_names strategy.SizeTiered = sized_names
suboption_names strategy.Leveled = codes "class" ∷ codes "sstable_size_in_mb" ∷ codes "fanout_size" ∷ []
suboption_names strategy.TimeWindow = sized_names ++ codes "compaction_window_unit" ∷ codes "compaction_window_size" ∷ []

-- the key is a suboption of the strategy
unfoldable pub is_suboption : Strategy → Setting → Bool
is_suboption s key = list_any (λ n. is_keyed n key) (suboption_names s)

-- the thresholds are in their ranges and in order
unfoldable pub thresholds_fit : List Suboption → Bool
thresholds_fit ss =
    suboption_fits ss (codes "min_threshold") MIN_THRESHOLD && (suboption_fits ss (codes "max_threshold") MAX_THRESHOLD
    && nat_le (suboption_number ss (codes "min_threshold") MIN_THRESHOLD) (suboption_number ss (codes "max_threshold") MAX_THRESHOLD))

-- the suboptions of size-tiered and of time-window compaction have values that they can have
unfoldable pub sized_fit : List Suboption → Bool
sized_fit ss =
    thresholds_fit ss && (suboption_fits ss (codes "bucket_low") BUCKET_LOW && (suboption_fits ss (codes "bucket_high") BUCKET_HIGH
    && suboption_fits ss (codes "min_sstable_size") MIN_SSTABLE_SIZE))

-- so do those of leveled compaction
unfoldable pub leveled_fit : List Suboption → Bool
leveled_fit ss = suboption_fits ss (codes "sstable_size_in_mb") SSTABLE_SIZE_IN_MB && suboption_fits ss (codes "fanout_size") FANOUT_SIZE

-- and those of time-window compaction alone
unfoldable pub window_fits : List Suboption → Bool
window_fits ss =
    suboption_fits ss (codes "compaction_window_size") COMPACTION_WINDOW_SIZE && is_readable unit_setting (suboption_named (codes "compaction_window_unit") ss)

-- the class is a strategy, each suboption is one that the strategy has, and each has a value that it can have
unfoldable pub compaction_fits : List Suboption → Bool
compaction_fits ss =
    is_readable strategy_setting (suboption_named (codes "class") ss)
    && (list_all (λ o. is_suboption (strategy_given ss) o.key) ss && (sized_fit ss && (leveled_fit ss && window_fits ss)))

-- ---- options

-- the option has the name; CLUSTERING ORDER BY has none
unfoldable pub is_option_named : List ℕ → TableOption → Bool
is_option_named n (table_option.Named o) = bytes_eq o.name n
is_option_named n (table_option.ClusteringOrder os) = false

-- what an option is given
unfoldable pub value_given : TableOption → Option OptionValue
value_given (table_option.Named o) = Some o.value
value_given (table_option.ClusteringOrder os) = None

-- what the option of the name is given
unfoldable pub option_given : List ℕ → List TableOption → Option OptionValue
option_given n os = option_and_then value_given (find (is_option_named n) os)

-- CLUSTERING ORDER BY, or one of the three options that there are
unfoldable pub is_known_option : TableOption → Bool
is_known_option (table_option.Named o) =
    bytes_eq o.name (codes "gc_grace_seconds") || (bytes_eq o.name (codes "default_time_to_live") || bytes_eq o.name (codes "compaction"))
is_known_option (table_option.ClusteringOrder os) = true

-- a whole number in the range; a string isn't one here
unfoldable pub whole_option : OptionRange → OptionValue → Option ℕ
whole_option r (value.Constant (constant.Number n)) = number_in_range r n
whole_option r _ = None

-- a map, as `{'class': 'LeveledCompactionStrategy'}`
unfoldable pub map_option : OptionValue → Option (List Suboption)
map_option (value.Suboptions ss) = Some ss
map_option _ = None

-- the suboptions that `compaction` is given
abbrev pub compaction_given : List TableOption → List Suboption
compaction_given os = value_or map_option [] (option_given (codes "compaction") os)

-- every option is one that there is, and has a value that it can have
unfoldable pub options_fit : List TableOption → Bool
options_fit os =
    list_all is_known_option os
    && (is_readable (whole_option GC_GRACE_SECONDS) (option_given (codes "gc_grace_seconds") os)
    && (is_readable (whole_option DEFAULT_TIME_TO_LIVE) (option_given (codes "default_time_to_live") os)
    && (is_readable map_option (option_given (codes "compaction") os)
    && compaction_fits (compaction_given os))))

-- the options of a table: each is as it is given, and else as its default
unfoldable pub options_of : List TableOption → Options
options_of os =
    let ss : List Suboption = compaction_given os in
    record {
      gc_grace_seconds = value_or (whole_option GC_GRACE_SECONDS) GC_GRACE_SECONDS.default (option_given (codes "gc_grace_seconds") os);
      default_time_to_live = value_or (whole_option DEFAULT_TIME_TO_LIVE) DEFAULT_TIME_TO_LIVE.default (option_given (codes "default_time_to_live") os);
      strategy = strategy_given ss;
      min_threshold = suboption_number ss (codes "min_threshold") MIN_THRESHOLD;
      max_threshold = suboption_number ss (codes "max_threshold") MAX_THRESHOLD;
      bucket_low = suboption_number ss (codes "bucket_low") BUCKET_LOW;
      bucket_high = suboption_number ss (codes "bucket_high") BUCKET_HIGH;
      min_sstable_size = suboption_number ss (codes "min_sstable_size") MIN_SSTABLE_SIZE;
      sstable_size_in_mb = suboption_number ss (codes "sstable_size_in_mb") SSTABLE_SIZE_IN_MB;
      fanout_size = suboption_number ss (codes "fanout_size") FANOUT_SIZE;
      unit = value_or unit_setting unit.Days (suboption_named (codes "compaction_window_unit") ss);
      window = suboption_number ss (codes "compaction_window_size") COMPACTION_WINDOW_SIZE;
    }
