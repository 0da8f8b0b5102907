-- The refusals of statements, and which of several comes.
-- CQL documentation, "Data manipulation" and "Data definition", for what a statement may not have; the numbers and the order are own.
use Rattle.std.specs.Prelude.{ℕ, false, List, [], ◌∷◌, Option, None, Some}
use Rattle.std.specs.Bool.{then_some}
use Rattle.cas_effects.specs.declared.refusal.Refusal.{Refusal}
use Rattle.cas_effects.specs.declared.refusal.Refusal.TheVariants.{NoTable, NoColumn, WrongType, MissingKey, BadRestriction, BadOption}
use Rattle.cas_effects.specs.declared.refusal.Refusal.TheVariants.{TableExists, EmptyKey, TooLarge, TtlTooLarge, BadDefinition, TooMany}
use Rattle.cas_effects.specs.declared.refusal.TheConstants as refused
use Rattle.cas_effects.specs.declared.reasons.Reasons.{Reasons}

-- the number that a refusal is reported with, as in `refused S4` for a constant of another type
abbrev pub refusal_number : Refusal → ℕ
refusal_number NoTable = 2
refusal_number NoColumn = 3
refusal_number WrongType = 4
refusal_number MissingKey = 5
refusal_number BadRestriction = 6
refusal_number BadOption = 7
refusal_number TableExists = 8
refusal_number EmptyKey = 9
refusal_number (TooLarge length limit) = refused.TOO_LARGE
refusal_number TtlTooLarge = 11
refusal_number BadDefinition = 12
refusal_number (TooMany what limit) = refused.TOO_MANY

-- nothing to refuse a statement for
abbrev pub no_reason : Reasons
no_reason = record {
  no_table = false;
  table_exists = false;
  bad_definition = false;
  no_column = false;
  bad_option = false;
  wrong_type = false;
  empty_key = false;
  missing_key = false;
  bad_restriction = false;
  ttl_too_large = false;
  too_large = None;
  too_many = None;
}

-- the first refusal of a list in which some places are free
abbrev pub first_of : List (Option Refusal) → Option Refusal
first_of [] = None
first_of (None ∷ rs) = first_of rs
first_of (Some r ∷ rs) = Some r

-- a statement with several reasons is refused for the first one in this order: an unknown column, for example, before a constant of another type
abbrev pub refusal_for : Reasons → Option Refusal
refusal_for r =
    first_of (then_some r.no_table NoTable ∷ then_some r.table_exists TableExists ∷ then_some r.bad_definition BadDefinition ∷ then_some r.no_column NoColumn
    ∷ then_some r.bad_option BadOption ∷ then_some r.wrong_type WrongType ∷ then_some r.empty_key EmptyKey ∷ then_some r.missing_key MissingKey
    ∷ then_some r.bad_restriction BadRestriction ∷ then_some r.ttl_too_large TtlTooLarge ∷ r.too_large ∷ r.too_many ∷ [])
