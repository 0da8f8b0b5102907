-- What a CREATE TABLE is refused for, and what it comes to.
-- CQL documentation, "Data definition: CREATE TABLE". Of several reasons the first in the order of `refusal_for` counts.
use Rattle.std.specs.Prelude.{not, List, length, Result}
use Rattle.std.specs.List.{list_any}
use Rattle.std.specs.Option.{option_or}
use Rattle.std.specs.Str.{bytes_eq}
use Rattle.cas_types.specs.declared.schema.TableSchema.{TableSchema}
use Rattle.cql_parse.specs.declared.syntax.CreateTable.{CreateTable}
use Rattle.cas_effects.specs.Refusals.{no_reason, refusal_for}
use Rattle.cas_effects.specs.declared.reasons.Reasons.{Reasons}
use Rattle.cas_effects.specs.declared.refusal.Refusal.{Refusal}
use Rattle.cas_terms.specs.Columns.{is_local}
use Rattle.cas_define.specs.Outcomes.{outcome}
use Rattle.cas_define.specs.CreateTests.{create_is_malformed}
use Rattle.cas_options.specs.Options.{options_fit}
use Rattle.cas_define.specs.Limits.{too_many_tables, too_many_columns}
use Rattle.cas_define.specs.Schemas.{columns_of, schema_of}

-- no_table: the keyspace isn't `local`, as in `CREATE TABLE other.t ..`
-- table_exists: there is a table of the name
-- bad_definition: the definition contradicts itself, as `CREATE TABLE t (k int)`, which has no key
-- bad_option: `WITH comment = 'a'`, which there isn't here, or `WITH gc_grace_seconds = -1`, which is out of range
-- too_many: there are 64 tables already, or the table has more than 256 columns
unfoldable pub create_reasons : List TableSchema → CreateTable → Reasons
create_reasons tables c =
    record no_reason {
      no_table = not (is_local c.table.keyspace);
      table_exists = list_any (λ t. bytes_eq t.name c.table.name) tables;
      bad_definition = create_is_malformed c;
      bad_option = not (options_fit c.options);
      too_many = option_or (too_many_tables (length tables)) (too_many_columns (length (columns_of c)));
    }

-- a CREATE TABLE comes to the table that it makes
unfoldable pub create_means : List TableSchema → CreateTable → Result TableSchema Refusal
create_means tables c = outcome (refusal_for (create_reasons tables c)) (schema_of tables c)
