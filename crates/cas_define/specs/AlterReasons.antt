-- What an ALTER TABLE ADD is refused for, and what it comes to.
-- CQL documentation, "Data definition: ALTER TABLE". Of several reasons the first in the order of `refusal_for` counts; that there is no such table
-- is told before.
use Rattle.std.specs.Prelude.{ℕ, ◌+◌, ◌==◌, Bool, not, ◌&&◌, ◌||◌, List, map, length, Result}
use Rattle.std.specs.List.{list_all, list_any}
use Rattle.cas_types.specs.declared.schema.Column.{Column}
use Rattle.cas_types.specs.declared.schema.TableSchema.{TableSchema}
use Rattle.cql_parse.specs.declared.syntax.AddedColumn.{AddedColumn}
use Rattle.cql_parse.specs.declared.syntax.AlterTable.{AlterTable}
use Rattle.cas_effects.specs.Refusals.{no_reason, refusal_for}
use Rattle.cas_effects.specs.declared.reasons.Reasons.{Reasons}
use Rattle.cas_effects.specs.declared.refusal.Refusal.{Refusal}
use Rattle.cas_terms.specs.Names.{stands_twice}
use Rattle.cas_terms.specs.Columns.{is_unknown, clustering_columns}
use Rattle.cas_define.specs.Outcomes.{outcome}
use Rattle.cas_define.specs.Limits.{has_name_length, too_many_columns}
use Rattle.cas_define.specs.Schemas.{addition_of}
use Rattle.cas_define.specs.declared.addition.Addition.{Addition}

-- the table has no column of the name, and the name is neither empty nor too long
unfoldable pub is_new_name : List Column → List ℕ → Bool
is_new_name cs n = is_unknown cs n && has_name_length n

-- a name stands twice or isn't new, or a column is static in a table without clustering columns
unfoldable pub alter_is_malformed : TableSchema → AlterTable → Bool
alter_is_malformed t a =
    stands_twice (map (λ c. c.name) a.added) || (not (list_all (λ c. is_new_name t.columns c.name) a.added)
    || (list_any (λ c. c.is_static) a.added && (length (clustering_columns t.columns) == 0)))

-- bad_definition: `ALTER TABLE t ADD v int` where there is a `v`, or `ALTER TABLE t ADD n int, n text`
-- too_many: with the columns that are added the table has more than 256
unfoldable pub alter_reasons : TableSchema → AlterTable → Reasons
alter_reasons t a =
    record no_reason {
      bad_definition = alter_is_malformed t a;
      too_many = too_many_columns (length t.columns + length a.added);
    }

-- an ALTER TABLE comes to the columns that it adds to the table
unfoldable pub alter_means : TableSchema → AlterTable → Result Addition Refusal
alter_means t a = outcome (refusal_for (alter_reasons t a)) (addition_of t a)
