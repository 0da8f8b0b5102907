-- What holds of each table holds of the one that has a name.
use Rattle.std.proofs.Common.{Bool, true, false, cond, List, [], ◌∷◌, Option, None, Some}
use Rattle.std.specs.List.{find, All, AllByRecursion}
use Rattle.std.specs.Option.{IfSome}
use Rattle.std.specs.Str.{bytes_eq}
use Rattle.std.proofs.lemmas.List.Elements.{recursion_from_All}
use Rattle.cas_types.specs.declared.schema.TableSchema.{TableSchema}
use Rattle.cas_terms.specs.Columns.{is_local, table_named}
use Rattle.cql_parse.specs.declared.syntax.TableName.{TableName}

module _ {X : Type 0} (P : X → Type 0) where
  chosen : (b : Bool) (x : X) (o : Option X) → P x → IfSome o P → IfSome (cond b (Some x) o) P
  chosen true x o p q = p
  chosen false x o p q = q

  found : (test : X → Bool) (xs : List X) → AllByRecursion P xs → IfSome (find test xs) P
  found test [] all = tt
  found test (x ∷ xs) all = chosen (test x) x (find test xs) all.0 (found test xs all.1)

  if_any : (b : Bool) (o : Option X) → IfSome o P → IfSome (cond b o None) P
  if_any true o p = p
  if_any false o p = tt

pub named_holds : (P : TableSchema → Type 0) (tables : List TableSchema) (n : TableName) → All P tables → IfSome (table_named tables n) P
unfolding table_named
named_holds P tables n all =
    if_any P (is_local n.keyspace) (find (λ t. bytes_eq t.name n.name) tables) (found P (λ t. bytes_eq t.name n.name) tables (recursion_from_All P tables all))
