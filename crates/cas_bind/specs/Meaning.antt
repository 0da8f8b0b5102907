-- What a statement means to the tables that there are: what is to be done, or why it is refused.
-- CQL documentation, "Data definition" and "Data manipulation". Only where memory runs out is there another answer.
use Rattle.std.specs.Prelude.{ℕ, List, Option, None, Some, Result, Ok, Err}
use Rattle.cas_types.specs.declared.schema.TableSchema.{TableSchema}
use Rattle.cas_effects.specs.declared.refusal.Refusal.{Refusal}
use Rattle.cas_effects.specs.declared.refusal.Refusal.TheVariants.{NoTable}
use Rattle.cas_terms.specs.Columns.{table_named}
use Rattle.cas_define.specs.AlterReasons.{alter_means}
use Rattle.cas_define.specs.CreateReasons.{create_means}
use Rattle.cql_parse.specs.declared.syntax.Statement.{Statement}
use Rattle.cql_parse.specs.declared.syntax.Statement.TheVariants as statement
use Rattle.cas_writes.specs.ChangeMeaning.{change_means}
use Rattle.cas_bind.specs.Selects.{select_means}
use Rattle.cas_bind.specs.declared.bound.Bound.{Bound}
use Rattle.cas_bind.specs.declared.bound.Bound.TheVariants as bound

-- a statement of a table that isn't there is refused
abbrev pub of_table : Option TableSchema → (TableSchema → Result Bound Refusal) → Result Bound Refusal
of_table None means = Err NoTable
of_table (Some t) means = means t

-- what comes of a definition, a write or a read, as what is to be done
abbrev pub bound_as : {X : Type 0} → (X → Bound) → Result X Refusal → Result Bound Refusal
bound_as kind (Ok x) = Ok (kind x)
bound_as kind (Err r) = Err r

-- with so many shards and these tables
unfoldable pub meaning : ℕ → List TableSchema → Statement → Result Bound Refusal
meaning shards tables (statement.Create c) = bound_as (λ t. bound.Create t) (create_means tables c)
meaning shards tables (statement.Alter a) = of_table (table_named tables a.table) (λ t. bound_as (λ x. bound.Alter x) (alter_means t a))
meaning shards tables (statement.Insert i) =
    of_table (table_named tables i.table) (λ t. bound_as (λ w. bound.Write w) (change_means shards t (statement.Insert i)))
meaning shards tables (statement.Update u) =
    of_table (table_named tables u.table) (λ t. bound_as (λ w. bound.Write w) (change_means shards t (statement.Update u)))
meaning shards tables (statement.Delete d) =
    of_table (table_named tables d.table) (λ t. bound_as (λ w. bound.Write w) (change_means shards t (statement.Delete d)))
meaning shards tables (statement.Select s) = of_table (table_named tables s.table) (λ t. bound_as (λ r. bound.Read r) (select_means shards t s))
