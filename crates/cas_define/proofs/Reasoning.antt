-- What the order of refusals tells of a definition that isn't refused.
use Rattle.std.proofs.Common.{◌≡◌, ℕ, ◌<◌, ◌≤◌, ◌+◌, nat_lt, nat_le, Bool, true, false, List, [], ◌∷◌, ◌++◌, length, map, Option, None, Some, refl, length-append, arith}
use Rattle.std.specs.Bool.{then_some}
use Rattle.std.specs.Option.{option_or}
use Rattle.std.proofs.lemmas.Bool.Decides.{nat_tests}
use Rattle.std.proofs.lemmas.List.{length-map}
use Rattle.cas_types.specs.declared.schema.TableSchema.{TableSchema}
use Rattle.cas_types.specs.declared.schema.Column.{Column}
use Rattle.cql_parse.specs.declared.syntax.CreateTable.{CreateTable}
use Rattle.cql_parse.specs.declared.syntax.AlterTable.{AlterTable}
use Rattle.cas_effects.specs.Refusals.{first_of, refusal_for}
use Rattle.cas_effects.specs.declared.reasons.Reasons.{Reasons}
use Rattle.cas_effects.specs.declared.refusal.Refusal.{Refusal}
use Rattle.cas_effects.specs.declared.refusal.Refusal.TheVariants.{NoTable, NoColumn, WrongType, MissingKey, BadRestriction, BadOption, TableExists, EmptyKey, TtlTooLarge, BadDefinition}
use Rattle.cas_define.specs.Limits.{too_many_tables, too_many_columns}
use Rattle.cas_define.specs.Schemas.{columns_of, added_column}
use Rattle.cas_define.specs.CreateReasons.{create_reasons}
use Rattle.cas_define.specs.AlterReasons.{alter_reasons}

one_is_none : (rs : List (Option Refusal)) (o : Option Refusal) (qs : List (Option Refusal)) → first_of (rs ++ o ∷ qs) ≡ None → o ≡ None
one_is_none [] None qs e = refl
one_is_none [] (Some r) qs e = cc
one_is_none (None ∷ rs) o qs e = one_is_none rs o qs e
one_is_none (Some s ∷ rs) o qs e = cc

-- where nothing is refused, nothing is too many
none_too_many : (r : Reasons) → refusal_for r ≡ None → r.too_many ≡ None
none_too_many r e =
    one_is_none (then_some r.no_table NoTable ∷ then_some r.table_exists TableExists ∷ then_some r.bad_definition BadDefinition ∷ then_some r.no_column NoColumn
    ∷ then_some r.bad_option BadOption ∷ then_some r.wrong_type WrongType ∷ then_some r.empty_key EmptyKey ∷ then_some r.missing_key MissingKey
    ∷ then_some r.bad_restriction BadRestriction ∷ then_some r.ttl_too_large TtlTooLarge ∷ r.too_large ∷ []) r.too_many [] e

is_false : {X : Type 0} (b : Bool) (x : X) → then_some b x ≡ None → b ≡ false
is_false true x e = cc
is_false false x e = refl

-- nor is its definition a bad one
pub none_bad : (r : Reasons) → refusal_for r ≡ None → r.bad_definition ≡ false
none_bad r e =
    is_false _ _ (one_is_none (then_some r.no_table NoTable ∷ then_some r.table_exists TableExists ∷ []) (then_some r.bad_definition BadDefinition)
    (then_some r.no_column NoColumn ∷ then_some r.bad_option BadOption ∷ then_some r.wrong_type WrongType ∷ then_some r.empty_key EmptyKey
    ∷ then_some r.missing_key MissingKey ∷ then_some r.bad_restriction BadRestriction ∷ then_some r.ttl_too_large TtlTooLarge ∷ r.too_large ∷ r.too_many ∷ []) e)

first_is_none : {X : Type 0} (o p : Option X) → option_or o p ≡ None → o ≡ None
first_is_none None p e = refl
first_is_none (Some x) p e = cc

second_is_none : {X : Type 0} (o p : Option X) → option_or o p ≡ None → p ≡ None
second_is_none None p e = e
second_is_none (Some x) p e = cc

columns_within : (n : ℕ) → too_many_columns n ≡ None → n ≤ 256
unfolding too_many_columns
columns_within n e = let small : nat_lt 256 n ≡ false = is_false _ _ e in grind (arith, nat_tests)

pub few_tables : (tables : List TableSchema) (c : CreateTable) → refusal_for (create_reasons tables c) ≡ None → length tables < 64
unfolding create_reasons too_many_tables
few_tables tables c e =
    let few : nat_le 64 (length tables) ≡ false = is_false _ _ (first_is_none _ _ (none_too_many (create_reasons tables c) e)) in
    grind (arith, nat_tests)

pub few_columns : (tables : List TableSchema) (c : CreateTable) → refusal_for (create_reasons tables c) ≡ None → length (columns_of c) ≤ 256
unfolding create_reasons
few_columns tables c e = columns_within _ (second_is_none _ _ (none_too_many (create_reasons tables c) e))

-- the table with the columns that are added
pub few_together : (t : TableSchema) (a : AlterTable) → refusal_for (alter_reasons t a) ≡ None → length (t.columns ++ map added_column a.added) ≤ 256
unfolding alter_reasons
few_together t a e =
    let sum : length t.columns + length a.added ≤ 256 = columns_within _ (none_too_many (alter_reasons t a) e) in
    let both : length (t.columns ++ map added_column a.added) ≡ length t.columns + length (map added_column a.added) = length-append t.columns (map added_column a.added) in
    let as_many : length (map added_column a.added) ≡ length a.added = length-map a.added added_column in
    omega arith
