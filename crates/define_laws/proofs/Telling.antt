-- What a statement defines may be told to the manifest.
use Rattle.std.proofs.Common.{◌≡◌, ℕ, suc, ◌+◌, ◌≤◌, ◌-◌, Bool, true, false, cond, List, [], ◌∷◌, ◌++◌, length, map, bytes_eq, Option, None, Some, Result, Ok, Err, find, slice_get, refl, sym, ap, subst, append_assoc, ◌∙◌, arith}
use Rattle.std.proofs.lemmas.List.{append-nil}
use Rattle.std.proofs.lemmas.List.Elements.{recursion_from_All}
use Rattle.cas_types.specs.declared.limits.TheConstants.{COLUMN_LIMIT}
use Rattle.cas_types.specs.declared.schema.TableSchema.{TableSchema}
use Rattle.cql_parse.specs.declared.syntax.AlterTable.{AlterTable}
use Rattle.cql_parse.specs.declared.syntax.Statement.TheVariants as statement
use Rattle.cql_parse.specs.declared.syntax.TableName.{TableName}
use Rattle.cas_effects.specs.Refusals.{refusal_for}
use Rattle.cas_effects.specs.declared.refusal.Refusal.{Refusal}
use Rattle.cas_terms.specs.Columns.{is_local, table_named}
use Rattle.cas_define.specs.AlterReasons.{alter_means, alter_reasons}
use Rattle.cas_define.specs.CreateReasons.{create_means}
use Rattle.cas_define.specs.IsTable.{IsTable}
use Rattle.cas_define.specs.Schemas.{addition_of}
use Rattle.cas_define.specs.declared.addition.Addition.{Addition}
use Rattle.cas_bind.specs.Meaning.{bound_as, of_table, meaning}
use Rattle.cas_bind.specs.Tables.{AreInPlace, AreTables, tables_after}
use Rattle.cas_bind.specs.declared.bound.Bound.{Bound}
use Rattle.cas_bind.specs.declared.bound.Bound.TheVariants as bound
use Rattle.cas_bind.proofs.KeptTables.{holds_of_found}
use Rattle.cas_schemas.specs.Allowed.{FitsTable}
use Rattle.cas_schemas.specs.Columns.{FitColumns}
use Rattle.cas_changes.specs.declared.entry.Entry.{Entry}
use Rattle.cas_changes.specs.declared.entry.Entry.TheVariants as entry
use Rattle.cas_changes.specs.Saying.{Saying, after, said_by}
use Rattle.cas_changes.specs.Allowed.{FitsEntry}
use Rattle.cas_changes.proofs.EntryLaws.{spelled}
use Rattle.cas_changes.proofs.EntryLengths.{entry_short}
use Rattle.cas_manifest.proofs.Appends.{said_more}
use Rattle.define_laws.specs.Entries.{MayTell, IsThere, DefinedTablesMayBeTold, DefinedColumnsMayBeTold, NamedSegmentsDefineNothing}
use Rattle.define_laws.proofs.Stated.{stated_tables_fit, stated_columns_fit}
use Rattle.define_laws.proofs.Tables.{unrefused}

-- ---- what a statement means

module _ {X : Type 0} (kind : X → Bound) where
  bound_from : (r : Result X Refusal) (b : Bound) → bound_as kind r ≡ Ok b → (x : X) × (r ≡ Ok x) × (kind x ≡ b)
  bound_from (Ok x) b e = (x, refl, cc)
  bound_from (Err r) b e = cc

  table_from : (o : Option TableSchema) (means : TableSchema → Result X Refusal) (b : Bound) → of_table o (λ t. bound_as kind (means t)) ≡ Ok b
      → (t : TableSchema) × (o ≡ Some t) × (x : X) × (means t ≡ Ok x) × (kind x ≡ b)
  table_from None means b e = cc
  table_from (Some t) means b e = let its = bound_from (means t) b e in (t, refl, its.0, its.1, its.2)

-- ---- a table

table_told : (tables : List TableSchema) (t : TableSchema) → FitsTable tables t → (said : Saying) → said.tables ≡ tables → 1 ≤ said.shards
    → MayTell said (entry.Schema t) (tables_after tables (bound.Create t))
unfolding tables_after
table_told tables t fit said same made =
    let fits : FitsEntry said (entry.Schema t) = (made, subst (λ ts. FitsTable ts t) (sym same) fit) in
    record {
      fits = fits;
      spelled = spelled said (entry.Schema t) fits;
      short = entry_short (record said { listed = 0 }) (entry.Schema t) (fits, omega arith);
      tells = ap (λ ts. ts ++ t ∷ []) same;
    }

pub defined_tables_may_be_told : DefinedTablesMayBeTold
unfolding meaning
defined_tables_may_be_told source tokens (statement.Create c) m shards tables t e said same made =
    let its = bound_from (λ t. bound.Create t) (create_means tables c) (bound.Create t) e in
    let is : its.0 ≡ t = (let bounds : bound.Create its.0 ≡ bound.Create t = its.2 in cc) in
    table_told tables t (stated_tables_fit source tokens c m tables t (its.1 ∙ ap (λ t. Ok t) is)) said same made
defined_tables_may_be_told source tokens (statement.Alter a) m shards tables t e said same made =
    let its = table_from (λ x. bound.Alter x) (table_named tables a.table) (λ t. alter_means t a) (bound.Create t) e in
    let bounds : bound.Alter its.2 ≡ bound.Create t = its.4 in cc
defined_tables_may_be_told source tokens (statement.Insert i) m shards tables t e said same made =
    let its = table_from (λ w. bound.Write w) (table_named tables i.table) _ (bound.Create t) e in
    let bounds : bound.Write its.2 ≡ bound.Create t = its.4 in cc
defined_tables_may_be_told source tokens (statement.Update u) m shards tables t e said same made =
    let its = table_from (λ w. bound.Write w) (table_named tables u.table) _ (bound.Create t) e in
    let bounds : bound.Write its.2 ≡ bound.Create t = its.4 in cc
defined_tables_may_be_told source tokens (statement.Delete d) m shards tables t e said same made =
    let its = table_from (λ w. bound.Write w) (table_named tables d.table) _ (bound.Create t) e in
    let bounds : bound.Write its.2 ≡ bound.Create t = its.4 in cc
defined_tables_may_be_told source tokens (statement.Select s) m shards tables t e said same made =
    let its = table_from (λ r. bound.Read r) (table_named tables s.table) _ (bound.Create t) e in
    let bounds : bound.Read its.2 ≡ bound.Create t = its.4 in cc

-- ---- columns

-- a table that is found is at its number
found_at : (test : TableSchema → Bool) (n : ℕ) (ts : List TableSchema) (t : TableSchema) → AreInPlace n ts → find test ts ≡ Some t
    → (i : ℕ) × (t.number ≡ n + i) × (slice_get ts i ≡ Some t)
found_at test n [] t numbered e = cc
found_at test n (u ∷ us) t numbered e =
    elim (test u) as (λ b. cond b (Some u) (find test us) ≡ Some t → (i : ℕ) × (t.number ≡ n + i) × (slice_get (u ∷ us) i ≡ Some t)) [
      | true ↦ λ f.
          let same : u ≡ t = cc in
          let its : u.number ≡ n = numbered.0 in
          let number : t.number ≡ n = ap (λ v. v.number) (sym same) ∙ its in
          (0, omega (arith, number), ap (λ v. Some v) same)
      | false ↦ λ f.
          let later = found_at test (n + 1) us t numbered.1 f in
          let number : t.number ≡ n + 1 + later.0 = later.1 in
          (suc later.0, omega (arith, number), later.2)
    ] e

named_found : (tables : List TableSchema) (n : TableName) (t : TableSchema) → table_named tables n ≡ Some t → find (λ u. bytes_eq u.name n.name) tables ≡ Some t
unfolding table_named
named_found tables n t e = of (is_local n.keyspace) e
  where
    of : (b : Bool) → cond b (find (λ u. bytes_eq u.name n.name) tables) None ≡ Some t → find (λ u. bytes_eq u.name n.name) tables ≡ Some t
    of true f = f
    of false f = cc

named_there : (tables : List TableSchema) (n : TableName) (t : TableSchema) → AreTables tables → table_named tables n ≡ Some t
    → IsTable t × (slice_get tables t.number ≡ Some t)
named_there tables n t are e =
    let f : find (λ u. bytes_eq u.name n.name) tables ≡ Some t = named_found tables n t e in
    let place = found_at (λ u. bytes_eq u.name n.name) 0 tables t are.numbered f in
    let number : place.0 ≡ t.number = (let its : t.number ≡ 0 + place.0 = place.1 in omega (arith, its)) in (
      holds_of_found IsTable (λ u. bytes_eq u.name n.name) tables t (recursion_from_All IsTable tables are.each) f,
      subst (λ i. slice_get tables i ≡ Some t) number place.2,
    )

-- what is added is added to the table
its_table : (t : TableSchema) (a : AlterTable) (d : Addition) → alter_means t a ≡ Ok d → d.table ≡ t.number
unfolding alter_means addition_of
its_table t a d e = ap (λ d. d.table) (sym (unrefused (refusal_for (alter_reasons t a)) (addition_of t a) d e).1)

columns_told : (tables : List TableSchema) (t : TableSchema) (a : Addition) → slice_get tables a.table ≡ Some t → FitColumns (COLUMN_LIMIT - length t.columns) false t.columns a.columns
    → (said : Saying) → said.tables ≡ tables → 1 ≤ said.shards
    → IsThere tables a.table × MayTell said (entry.AddColumns a.table a.columns) (tables_after tables (bound.Alter a))
unfolding tables_after
columns_told tables t a there fit said same made =
    let fits : FitsEntry said (entry.AddColumns a.table a.columns) = (made, t, subst (λ ts. slice_get ts a.table ≡ Some t) (sym same) there, fit) in (
      (t, there),
      record {
        fits = fits;
        spelled = spelled said (entry.AddColumns a.table a.columns) fits;
        short = entry_short (record said { listed = 0 }) (entry.AddColumns a.table a.columns) (fits, omega arith);
        tells = ap (λ ts. (after (record said { tables = ts }) (entry.AddColumns a.table a.columns)).tables) same;
      },
    )

pub defined_columns_may_be_told : DefinedColumnsMayBeTold
unfolding meaning
defined_columns_may_be_told source tokens (statement.Create c) m shards tables a are e said same made =
    let its = bound_from (λ t. bound.Create t) (create_means tables c) (bound.Alter a) e in
    let bounds : bound.Create its.0 ≡ bound.Alter a = its.2 in cc
defined_columns_may_be_told source tokens (statement.Alter b) m shards tables a are e said same made =
    let its = table_from (λ x. bound.Alter x) (table_named tables b.table) (λ t. alter_means t b) (bound.Alter a) e in
    let t : TableSchema = its.0 in
    let is : its.2 ≡ a = (let bounds : bound.Alter its.2 ≡ bound.Alter a = its.4 in cc) in
    let means : alter_means t b ≡ Ok a = its.3 ∙ ap (λ x. Ok x) is in
    let there = named_there tables b.table t are its.1 in
    columns_told tables t a (subst (λ i. slice_get tables i ≡ Some t) (sym (its_table t b a means)) there.1) (stated_columns_fit source tokens b m t a there.0 means) said same made
defined_columns_may_be_told source tokens (statement.Insert i) m shards tables a are e said same made =
    let its = table_from (λ w. bound.Write w) (table_named tables i.table) _ (bound.Alter a) e in
    let bounds : bound.Write its.2 ≡ bound.Alter a = its.4 in cc
defined_columns_may_be_told source tokens (statement.Update u) m shards tables a are e said same made =
    let its = table_from (λ w. bound.Write w) (table_named tables u.table) _ (bound.Alter a) e in
    let bounds : bound.Write its.2 ≡ bound.Alter a = its.4 in cc
defined_columns_may_be_told source tokens (statement.Delete d) m shards tables a are e said same made =
    let its = table_from (λ w. bound.Write w) (table_named tables d.table) _ (bound.Alter a) e in
    let bounds : bound.Write its.2 ≡ bound.Alter a = its.4 in cc
defined_columns_may_be_told source tokens (statement.Select s) m shards tables a are e said same made =
    let its = table_from (λ r. bound.Read r) (table_named tables s.table) _ (bound.Alter a) e in
    let bounds : bound.Read its.2 ≡ bound.Alter a = its.4 in cc

-- ---- segments that are named

module _ {X : Type 0} (of : Saying → X) (leaves : (s : Saying) (n : ℕ) → of (after s (entry.NewSegment n)) ≡ of s) where
  named_leave : (entries : List Entry) (numbers : List ℕ) → of (said_by (entries ++ map entry.NewSegment numbers)) ≡ of (said_by entries)
  named_leave entries [] = ap (λ (l : List Entry). of (said_by l)) (append-nil entries)
  named_leave entries (n ∷ numbers) =
      ap (λ (l : List Entry). of (said_by l)) (sym (append_assoc entries (entry.NewSegment n ∷ []) (map entry.NewSegment numbers)))
      ∙ named_leave (entries ++ entry.NewSegment n ∷ []) numbers ∙ ap of (said_more entries (entry.NewSegment n)) ∙ leaves (said_by entries) n

pub named_segments_define_nothing : NamedSegmentsDefineNothing
named_segments_define_nothing entries numbers =
    (named_leave (λ s. s.tables) (λ s n. refl) entries numbers, named_leave (λ s. s.shards) (λ s n. refl) entries numbers)
