-- What the order of refusals tells of a statement of rows: what is too large comes last, and where nothing is told, each reason is false.
use Rattle.std.proofs.Common.{◌≡◌, Bool, true, false, List, [], ◌∷◌, ◌++◌, Option, None, Some, Ok, Err, refl, ap}
use Rattle.std.specs.Bool.{then_some}
use Rattle.std.specs.Option.{option_or}
use Rattle.cas_types.specs.declared.schema.TableSchema.{TableSchema}
use Rattle.cas_define.specs.Outcomes.{outcome}
use Rattle.cas_effects.specs.Refusals.{first_of, refusal_for}
use Rattle.cas_effects.specs.declared.reasons.Reasons.{Reasons}
use Rattle.cas_effects.specs.declared.refusal.Refusal.{Refusal}
use Rattle.cas_effects.specs.declared.refusal.Refusal.TheVariants.{NoTable, NoColumn, WrongType, MissingKey, BadRestriction, BadOption, TableExists, EmptyKey, TtlTooLarge, BadDefinition}
use Rattle.cql_parse.specs.declared.syntax.Statement.{Statement}
use Rattle.cas_reasons.specs.RowReasons.{row_reasons}

-- all reasons but the last two, in their order
abbrev early : Reasons → List (Option Refusal)
early r =
    then_some r.no_table NoTable ∷ then_some r.table_exists TableExists ∷ then_some r.bad_definition BadDefinition ∷ then_some r.no_column NoColumn
    ∷ then_some r.bad_option BadOption ∷ then_some r.wrong_type WrongType ∷ then_some r.empty_key EmptyKey ∷ then_some r.missing_key MissingKey
    ∷ then_some r.bad_restriction BadRestriction ∷ then_some r.ttl_too_large TtlTooLarge ∷ []

late : (rs : List (Option Refusal)) (large : Option Refusal) → first_of (rs ++ large ∷ None ∷ []) ≡ option_or (first_of (rs ++ None ∷ None ∷ [])) large
late [] None = refl
late [] (Some r) = refl
late (None ∷ rs) large = late rs large
late (Some r ∷ rs) large = refl

-- what is too large is told after all else
pub rows_late : (t : TableSchema) (large : Option Refusal) (s : Statement) → refusal_for (row_reasons t large s) ≡ option_or (refusal_for (row_reasons t None s)) large
unfolding row_reasons
rows_late t large s = late (early (row_reasons t None s)) large

holds_not : (rs more : List (Option Refusal)) (b : Bool) (r : Refusal) → first_of (rs ++ then_some b r ∷ more) ≡ None → b ≡ false
holds_not [] more true r e = cc
holds_not [] more false r e = refl
holds_not (None ∷ rs) more b r e = holds_not rs more b r e
holds_not (Some s ∷ rs) more b r e = cc

pub options_good : (r : Reasons) → refusal_for r ≡ None → r.bad_option ≡ false
options_good r e = holds_not (then_some r.no_table NoTable ∷ then_some r.table_exists TableExists ∷ then_some r.bad_definition BadDefinition ∷ then_some r.no_column NoColumn ∷ []) _ r.bad_option BadOption e

pub restricts_well : (r : Reasons) → refusal_for r ≡ None → r.bad_restriction ≡ false
restricts_well r e =
    holds_not (then_some r.no_table NoTable ∷ then_some r.table_exists TableExists ∷ then_some r.bad_definition BadDefinition ∷ then_some r.no_column NoColumn
    ∷ then_some r.bad_option BadOption ∷ then_some r.wrong_type WrongType ∷ then_some r.empty_key EmptyKey ∷ then_some r.missing_key MissingKey ∷ []) _ r.bad_restriction BadRestriction e

pub lives_well : (r : Reasons) → refusal_for r ≡ None → r.ttl_too_large ≡ false
lives_well r e =
    holds_not (then_some r.no_table NoTable ∷ then_some r.table_exists TableExists ∷ then_some r.bad_definition BadDefinition ∷ then_some r.no_column NoColumn
    ∷ then_some r.bad_option BadOption ∷ then_some r.wrong_type WrongType ∷ then_some r.empty_key EmptyKey ∷ then_some r.missing_key MissingKey
    ∷ then_some r.bad_restriction BadRestriction ∷ []) _ r.ttl_too_large TtlTooLarge e

-- ---- what a statement comes to, from its early reasons and its bound form

pub refused_early : {X : Type 0} (o : Option Refusal) (large : Option Refusal) (r : Refusal) (x : X) → o ≡ Some r → outcome (option_or o large) x ≡ Err r
refused_early o large r x e = ap (λ o. outcome (option_or o large) x) e

pub decided_late : {X : Type 0} (o : Option Refusal) (large : Option Refusal) (x : X) → o ≡ None → outcome (option_or o large) x ≡ outcome large x
decided_late o large x e = ap (λ o. outcome (option_or o large) x) e

-- what is answered is what was not refused
pub done : {X : Type 0} (o : Option Refusal) (x y : X) → outcome o x ≡ Ok y → (o ≡ None) × (x ≡ y)
done None x y e = (refl, cc)
done (Some r) x y e = cc
