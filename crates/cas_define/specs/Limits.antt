-- What limits a definition: the length of names, and how many tables and columns there may be.
-- CQL documentation, "Data definition: CREATE TABLE": the name of a table has letters, digits and `_`, and at most 48 of them. The rest is own.
use Rattle.std.specs.Prelude.{ℕ, ◌==◌, nat_lt, nat_le, Bool, ◌&&◌, ◌||◌, List, length, Option}
use Rattle.std.specs.Bool.{then_some}
use Rattle.std.specs.Char.{is_ascii_alphanumeric}
use Rattle.std.specs.List.{list_all}
use Rattle.cas_types.specs.declared.limits.TheConstants.{COLUMN_LIMIT}
use Rattle.cas_define.specs.declared.limits.TheConstants.{NAME_LIMIT, TABLE_LIMIT}
use Rattle.cas_effects.specs.declared.refusal.Refusal.{Refusal}
use Rattle.cas_effects.specs.declared.refusal.Refusal.TheVariants.{TooMany}
use Rattle.cas_effects.specs.declared.refusal.Counted.TheVariants as counted

-- 1 to 48 bytes: `""` has none, and `"ä"` two
unfoldable pub has_name_length : List ℕ → Bool
has_name_length n = nat_lt 0 (length n) && nat_le (length n) NAME_LIMIT

-- of letters, digits and `_`: `"N_9"`, and not `"a b"`
unfoldable pub is_table_name : List ℕ → Bool
is_table_name n = has_name_length n && list_all (λ c. is_ascii_alphanumeric c || (c == 95)) n

-- there are 64 tables already
unfoldable pub too_many_tables : ℕ → Option Refusal
too_many_tables n = then_some (nat_le TABLE_LIMIT n) (TooMany counted.Tables TABLE_LIMIT)

-- a table of more than 256 columns
unfoldable pub too_many_columns : ℕ → Option Refusal
too_many_columns n = then_some (nat_lt COLUMN_LIMIT n) (TooMany counted.Columns COLUMN_LIMIT)
