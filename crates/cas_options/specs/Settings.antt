-- How the value of an option is read: a number in its range, a strategy, a unit.
-- CQL documentation, "Data definition: table options, compaction options". That a ratio counts in whole hundredths is own.
use Rattle.std.specs.Prelude.{ℕ, ℤ, pos, ◌*ℤ◌, unsigned_abs, Bool, true, ◌||◌, List, ◌++◌, codes, if◌then◌else◌}
use Rattle.std.specs.Prelude.{Option, None, Some, option_map, is_some, unwrap_or}
use Rattle.std.specs.Bool.{then_some}
use Rattle.std.specs.Option.{option_and_then, option_or, option_map_or}
use Rattle.std.specs.Str.{bytes_eq}
use Rattle.cas_types.specs.declared.schema.Strategy.{Strategy}
use Rattle.cas_types.specs.declared.schema.Strategy.TheVariants as strategy
use Rattle.cas_types.specs.declared.schema.Unit.{Unit as WindowUnit}
use Rattle.cas_types.specs.declared.schema.Unit.TheVariants as unit
use Rattle.cql_lex.specs.Numbers.{number_value, ratio_value}
use Rattle.cql_parse.specs.declared.term.Setting.{Setting}
use Rattle.cql_parse.specs.declared.term.Setting.TheVariants as setting
use Rattle.cas_terms.specs.Constants.{is_in_range}
use Rattle.cas_options.specs.declared.ranges.OptionRange.{OptionRange}

-- what is given, where it can be read, and else the default
abbrev pub value_or : {A X : Type 0} → (A → Option X) → X → Option A → X
value_or read default given = unwrap_or (option_and_then read given) default

-- nothing is given, or what is given can be read
abbrev pub is_readable : {A X : Type 0} → (A → Option X) → Option A → Bool
is_readable read given = option_map_or (λ a. is_some (read a)) given true

-- a number in the range of an option: 64 of `max_threshold`, and not 65
unfoldable pub number_in_range : OptionRange → ℤ → Option ℕ
number_in_range r n = then_some (is_in_range (pos r.least) (pos r.greatest) n) (unsigned_abs n)

-- a whole number, or a string that spells one: `4` and `'4'`
unfoldable pub whole_setting : Setting → Option ℤ
whole_setting (setting.Text t) = number_value t
whole_setting (setting.Number n) = Some n
whole_setting (setting.Ratio n) = None

-- the hundredths of a ratio, of a whole number, or of a string that spells one of them: 150 of `1.5` and of `'1.5'`, 200 of `2`
unfoldable pub ratio_setting : Setting → Option ℤ
ratio_setting (setting.Text t) = option_or (ratio_value t) (option_map (λ n. n *ℤ pos 100) (number_value t))
ratio_setting (setting.Number n) = Some (n *ℤ pos 100)
ratio_setting (setting.Ratio n) = Some n

-- a number in the range, or a ratio in the range of one that is a ratio
unfoldable pub number_setting : OptionRange → Setting → Option ℕ
number_setting r s = option_and_then (number_in_range r) (if r.is_ratio then ratio_setting s else whole_setting s)

-- `'MINUTES'`, `'HOURS'` or `'DAYS'`, in capitals
unfoldable pub unit_setting : Setting → Option WindowUnit
unit_setting (setting.Text t) =
    if bytes_eq t (codes "MINUTES") then Some unit.Minutes
    else if bytes_eq t (codes "HOURS") then Some unit.Hours
    else if bytes_eq t (codes "DAYS") then Some unit.Days
    else None
unit_setting _ = None

-- the name of a class, with or without its package
abbrev pub is_class : List ℕ → List ℕ → Bool
is_class t name = bytes_eq t name || bytes_eq t (codes "org.apache.cassandra.db.compaction." ++ name)

-- one of the three strategies, in Cassandra's spelling
unfoldable pub strategy_setting : Setting → Option Strategy
strategy_setting (setting.Text t) =
    if is_class t (codes "SizeTieredCompactionStrategy") then Some strategy.SizeTiered
    else if is_class t (codes "LeveledCompactionStrategy") then Some strategy.Leveled
    else if is_class t (codes "TimeWindowCompactionStrategy") then Some strategy.TimeWindow
    else None
strategy_setting _ = None
