-- What is bound fits one of the tables.
use Rattle.std.proofs.Common.{◌≡◌, ℕ, suc, ◌+◌, ◌-◌, ◌≤◌, Bool, true, false, cond, List, [], ◌∷◌, Option, None, Some, Result, Ok, Err, IfOk, IfSome, bytes_eq, find, refl, sym, ap, ◌∙◌, subst, arith}
use Rattle.std.specs.List.{All, slice_get}
use Rattle.cas_types.specs.Limits.{IsNarrow, IsShardCount}
use Rattle.cas_types.specs.declared.schema.TableSchema.{TableSchema}
use Rattle.cas_effects.specs.declared.refusal.BindFault.{BindFault}
use Rattle.cas_effects.specs.declared.refusal.Refusal.{Refusal}
use Rattle.cas_define.specs.AlterReasons.{alter_means}
use Rattle.cas_define.specs.IsTable.{IsTable}
use Rattle.cas_define.specs.Outcomes.{Binds}
use Rattle.cas_terms.specs.Columns.{is_local, table_named}
use Rattle.cql_parse.specs.declared.syntax.Select.{Select}
use Rattle.cql_parse.specs.declared.syntax.Statement.{Statement}
use Rattle.cql_parse.specs.declared.syntax.Statement.TheVariants as statement
use Rattle.cql_parse.specs.declared.syntax.TableName.{TableName}
use Rattle.cas_writes.specs.ChangeMeaning.{change_means}
use Rattle.cas_writes.specs.Changes.{bound_change}
use Rattle.cas_bind.specs.Fitting.{BoundFits}
use Rattle.cas_bind.specs.Meaning.{bound_as, of_table, meaning}
use Rattle.cas_bind.specs.Selects.{bound_select, select_means}
use Rattle.cas_bind.specs.Tables.{AreInPlace, AreTables}
use Rattle.cas_bind.specs.declared.bound.Bound.{Bound}
use Rattle.cas_bind.specs.declared.bound.Bound.TheVariants as bound
use Rattle.cas_bind.specs.declared.bound.BoundRead.{BoundRead}
use Rattle.cas_effects.specs.declared.effect.BoundWrite.{BoundWrite}
use Rattle.cas_writes.proofs.RowLemmas.{change_comes}
use Rattle.cas_bind.proofs.Kept.{found}
use Rattle.cas_bind.proofs.RowLemmas.{select_comes}
use Rattle.cas_bind.proofs.TableLemmas.{named_holds}
use Rattle.cas_writes.proofs.FitWrites.{write_fits}
use Rattle.cas_bind.proofs.FitReads.{read_fits}

-- a table that is found stands at its number
in_place : (test : TableSchema → Bool) (n : ℕ) (ts : List TableSchema) (t : TableSchema) → AreInPlace n ts → find test ts ≡ Some t → (n ≤ t.number) × (slice_get ts (t.number - n) ≡ Some t)
in_place test n [] t numbered e = cc
in_place test n (u ∷ us) t numbered e =
    elim (test u) as (λ b. cond b (Some u) (find test us) ≡ Some t → (n ≤ t.number) × (slice_get (u ∷ us) (t.number - n) ≡ Some t)) [
      | true ↦ λ f. let same : u ≡ t = cc in let its : n ≡ t.number = sym numbered.0 ∙ ap (λ v. v.number) same in
          (omega arith, subst (λ k. slice_get (u ∷ us) k ≡ Some t) (let none : 0 ≡ t.number - n = omega arith in none) (ap (λ v. Some v) same))
      | false ↦ λ f.
          let rest : (n + 1 ≤ t.number) × (slice_get us (t.number - (n + 1)) ≡ Some t) = in_place test (n + 1) us t numbered.1 f in
          let past : n + 1 ≤ t.number = rest.0 in
          (omega arith, subst (λ k. slice_get (u ∷ us) k ≡ Some t) (let next : suc (t.number - (n + 1)) ≡ t.number - n = omega arith in next) rest.1)
    ] e

at_number : (tables : List TableSchema) (n : TableName) (t : TableSchema) → AreTables tables → table_named tables n ≡ Some t → slice_get tables t.number ≡ Some t
unfolding table_named
at_number tables n t are e =
    let here = in_place (λ t. bytes_eq t.name n.name) 0 tables t are.numbered (found (is_local n.keyspace) (λ t. bytes_eq t.name n.name) tables t e) in
    subst (λ k. slice_get tables k ≡ Some t) (let same : t.number - 0 ≡ t.number = omega arith in same) here.1

named_one : (P : TableSchema → Type 0) (tables : List TableSchema) (n : TableName) (t : TableSchema) → All P tables → table_named tables n ≡ Some t → P t
named_one P tables n t all e = subst (λ o. IfSome o P) e (named_holds P tables n all)

module _ (shards : ℕ) (tables : List TableSchema) (shard : IsShardCount shards) (are : AreTables tables) where
  created : {X : Type 0} (kind : X → Bound) → ((x : X) → BoundFits shards tables (kind x)) → (r : Result X Refusal) (b : Bound) → bound_as kind r ≡ Ok b → BoundFits shards tables b
  created kind fits (Ok x) b e = let same : kind x ≡ b = cc in subst (BoundFits shards tables) same (fits x)
  created kind fits (Err r) b e = cc

  bound_one : {X : Type 0} (kind : X → Bound) (r : Result X Refusal) → ((x : X) → r ≡ Ok x → BoundFits shards tables (kind x)) → (b : Bound) → bound_as kind r ≡ Ok b → BoundFits shards tables b
  bound_one kind (Ok x) fits b e = let same : kind x ≡ b = cc in subst (BoundFits shards tables) same (fits x refl)
  bound_one kind (Err r) fits b e = cc

  written : (n : TableName) (s : Statement) (t : TableSchema) → table_named tables n ≡ Some t → (w : BoundWrite) → change_means shards t s ≡ Ok w → BoundFits shards tables (bound.Write w)
  unfolding bound_change
  written n s t f w e =
      let comes = change_comes shards t s w e in
      subst (λ w. BoundFits shards tables (bound.Write w)) comes.1
      (t, at_number tables n t are f, write_fits t (named_one (λ t. IsNarrow t.columns) tables n t are.narrow f) (named_one IsTable tables n t are.each f) shards s shard comes.0)

  changed : (n : TableName) (s : Statement) (b : Bound) (o : Option TableSchema) → table_named tables n ≡ o
      → of_table o (λ t. bound_as (λ w. bound.Write w) (change_means shards t s)) ≡ Ok b → BoundFits shards tables b
  changed n s b None f e = cc
  changed n s b (Some t) f e = bound_one (λ w. bound.Write w) (change_means shards t s) (written n s t f) b e

  read : (s : Select) (t : TableSchema) → table_named tables s.table ≡ Some t → (r : BoundRead) → select_means shards t s ≡ Ok r → BoundFits shards tables (bound.Read r)
  unfolding bound_select
  read s t f r e =
      let comes = select_comes shards t s r e in
      subst (λ r. BoundFits shards tables (bound.Read r)) comes.1
      (t, at_number tables s.table t are f, read_fits t (named_one (λ t. IsNarrow t.columns) tables s.table t are.narrow f) (named_one IsTable tables s.table t are.each f) shards s comes.0)

  selected : (s : Select) (b : Bound) (o : Option TableSchema) → table_named tables s.table ≡ o
      → of_table o (λ t. bound_as (λ r. bound.Read r) (select_means shards t s)) ≡ Ok b → BoundFits shards tables b
  selected s b None f e = cc
  selected s b (Some t) f e = bound_one (λ r. bound.Read r) (select_means shards t s) (read s t f) b e

  by_meaning : (s : Statement) (b : Bound) → meaning shards tables s ≡ Ok b → BoundFits shards tables b
  unfolding meaning
  by_meaning (statement.Create c) b e = created (λ t. bound.Create t) (λ t. tt) _ b e
  by_meaning (statement.Alter a) b e = altered (table_named tables a.table) e
    where
      altered : (o : Option TableSchema) → of_table o (λ t. bound_as (λ x. bound.Alter x) (alter_means t a)) ≡ Ok b → BoundFits shards tables b
      altered None f = cc
      altered (Some t) f = created (λ x. bound.Alter x) (λ x. tt) (alter_means t a) b f
  by_meaning (statement.Insert i) b e = changed i.table (statement.Insert i) b _ refl e
  by_meaning (statement.Update u) b e = changed u.table (statement.Update u) b _ refl e
  by_meaning (statement.Delete d) b e = changed d.table (statement.Delete d) b _ refl e
  by_meaning (statement.Select s) b e = selected s b _ refl e

  pub bound_fits : (s : Statement) (result : Result Bound BindFault) → Binds result (meaning shards tables s) → IfOk result (λ b. BoundFits shards tables b)
  bound_fits s (Ok b) e = by_meaning s b e
  bound_fits s (Err f) e = tt
