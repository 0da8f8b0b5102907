-- What INSERT, UPDATE, DELETE and SELECT are refused for. Each reason is said in RowFaults, in this order; of what is too large,
-- which the bound form tells, the reasons are given the refusal.
-- CQL documentation, "Data manipulation: INSERT, UPDATE, DELETE, SELECT". Where a name is of no column, that is told before what would hang on the column.
use Rattle.std.specs.Prelude.{pos, ◌||◌, Option}
use Rattle.std.specs.List.{list_any}
use Rattle.cas_types.specs.declared.limits.TheConstants.{LEAST_TIMESTAMP, GREATEST_TIMESTAMP, TTL_LIMIT}
use Rattle.cas_types.specs.declared.schema.TableSchema.{TableSchema}
use Rattle.cql_parse.specs.declared.syntax.Statement.{Statement}
use Rattle.cas_terms.specs.Columns.{is_unknown}
use Rattle.cas_effects.specs.Refusals.{no_reason}
use Rattle.cas_effects.specs.declared.reasons.Reasons.{Reasons}
use Rattle.cas_mentions.specs.ColumnFaults.{changes_twice, has_other_count, is_of_another_type}
use Rattle.cas_reasons.specs.Statements.{uses_of, timestamp_in, ttl_in, changes_of, names_used, terms_used}
use Rattle.cas_effects.specs.declared.refusal.Refusal.{Refusal}
use Rattle.cas_reasons.specs.RowFaults.{uses_twice, is_outside, gives_empty_key, lacks_key, has_bad_restriction}

-- something is said twice; a name is of no column; TIMESTAMP is out of range; a column is given what isn't of its type; the partition
-- key is empty; a column of the key has no value; a WHERE, ORDER BY or LIMIT can't be had; TTL is out of range; a value is too large
unfoldable pub row_reasons : TableSchema → Option Refusal → Statement → Reasons
row_reasons t large s =
    record no_reason {
      bad_definition = changes_twice t.columns (changes_of s) || (has_other_count s || uses_twice (uses_of s));
      no_column = list_any (is_unknown t.columns) (names_used s);
      bad_option = is_outside LEAST_TIMESTAMP GREATEST_TIMESTAMP (timestamp_in (uses_of s));
      wrong_type = list_any (is_of_another_type t.columns) (terms_used s);
      empty_key = gives_empty_key t.columns s;
      missing_key = lacks_key t.columns s;
      bad_restriction = has_bad_restriction t.columns s;
      ttl_too_large = is_outside (pos 0) (pos TTL_LIMIT) (ttl_in (uses_of s));
      too_large = large;
    }
