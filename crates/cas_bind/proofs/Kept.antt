-- Tables stay as they are to be, and what is bound is within the limits.
use Rattle.std.proofs.Common.{◌≡◌, ℕ, ℤ, ◌%◌, ◌≤◌, ◌<◌, ◌≤ℤ◌, ◌&&◌, not, int_le, Bool, true, false, cond, List, ◌++◌, length, map, bytes_eq, Option, None, Some, Result, Ok, Err, IfOk, IfSome, find, refl, sym, subst, T, arith}
use Rattle.std.specs.List.{All, AllByRecursion}
use Rattle.std.proofs.lemmas.List.Elements.{All-from_recursion, All-push, recursion_from_All}
use Rattle.cas_types.specs.Limits.{IsNarrow, IsShardCount}
use Rattle.cas_types.specs.declared.schema.TableSchema.{TableSchema}
use Rattle.cas_terms.specs.Columns.{is_local, table_named}
use Rattle.cas_define.specs.IsTable.{IsTable}
use Rattle.cas_define.specs.declared.addition.Addition.{Addition}
use Rattle.cql_parse.specs.declared.syntax.TableName.{TableName}
use Rattle.cql_parse.specs.declared.syntax.Select.{Select}
use Rattle.cas_effects.specs.declared.effect.BoundWrite.{BoundWrite}
use Rattle.cas_writes.proofs.Bound.{below}
use Rattle.cas_bind.specs.Selects.{bound_select, select_means}
use Rattle.cas_bind.specs.Tables.{AreTables, IsWithin, tables_after, with_added}
use Rattle.cas_bind.specs.declared.bound.Bound.{Bound}
use Rattle.cas_bind.specs.declared.bound.Bound.TheVariants as bound
use Rattle.cas_bind.specs.declared.bound.BoundRead.{BoundRead}
use Rattle.cas_bind.proofs.RowLemmas.{select_comes}
use Rattle.cas_bind.proofs.KeptTables.{holds_of_found, holds_of_number, numbered_with, numbered_after, holds_after}

-- ---- a write and a read change no table

pub write_keeps : (tables : List TableSchema) (w : BoundWrite) → AreTables tables → AreTables (tables_after tables (bound.Write w))
unfolding tables_after
write_keeps tables w are = are

pub read_keeps : (tables : List TableSchema) (r : BoundRead) → AreTables tables → AreTables (tables_after tables (bound.Read r))
unfolding tables_after
read_keeps tables r are = are

-- a read is of one of the shards, and of the table's columns
pub select_within : (shards : ℕ) (t : TableSchema) (s : Select) (r : BoundRead) → IsShardCount shards → IsNarrow t.columns → select_means shards t s ≡ Ok r → IsWithin shards (bound.Read r)
unfolding bound_select
select_within shards t s r are narrow e = subst (λ r. IsWithin shards (bound.Read r)) (select_comes shards t s r e).1 (below shards _ are, narrow)

-- ---- tables stay as they are to be

pub create_keeps : (tables : List TableSchema) (t : TableSchema) → AreTables tables → IsNarrow t.columns → t.number ≡ length tables → IsTable t
    → AreTables (tables_after tables (bound.Create t))
unfolding tables_after
create_keeps tables t are few its one = record {
  narrow = All-push (λ t. IsNarrow t.columns) tables t are.narrow few;
  numbered = numbered_with 0 tables t are.numbered (omega arith);
  each = All-push IsTable tables t are.each one;
}

-- a table that is named is found
pub found : (local : Bool) (test : TableSchema → Bool) (tables : List TableSchema) (t : TableSchema) → cond local (find test tables) None ≡ Some t → find test tables ≡ Some t
found true test tables t e = e
found false test tables t e = cc

abbrev with_more : Addition → TableSchema → TableSchema
with_more a t = record t { columns = t.columns ++ a.columns }

pub alter_keeps : (tables : List TableSchema) (n : TableName) (t : TableSchema) (a : Addition) → AreTables tables → table_named tables n ≡ Some t → a.table ≡ t.number
    → IsNarrow (t.columns ++ a.columns) → (IsTable t → IsTable (with_more a t)) → AreTables (tables_after tables (bound.Alter a))
unfolding tables_after table_named
alter_keeps tables n t a are f its few stays = record {
  narrow = after (λ t. IsNarrow t.columns) are.narrow few;
  numbered = numbered_after a 0 tables are.numbered;
  each = after IsTable are.each (stays (holds_of_found IsTable test tables t (recursion_from_All IsTable tables are.each) here));
}
  where
    test : TableSchema → Bool
    test t = bytes_eq t.name n.name

    here : find test tables ≡ Some t
    here = found (is_local n.keyspace) test tables t f

    after : (P : TableSchema → Type 0) → All P tables → P (with_more a t) → All P (map (with_added a) tables)
    after P all one =
        All-from_recursion P _ (holds_after a P tables (recursion_from_All P tables all)
        (subst (λ m. AllByRecursion (λ u. u.number ≡ m → P (with_more a u)) tables) (sym its)
        (holds_of_number (λ u. P (with_more a u)) test t one 0 tables are.numbered here)))
