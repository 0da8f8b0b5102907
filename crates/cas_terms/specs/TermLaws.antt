-- What terms give columns is of the columns' types: a law over the bytes of constants.
-- CQL documentation, "Data types: native types; constants".
use Rattle.std.specs.Prelude.{◌≡◌, true, IfSome}
use Rattle.cas_types.specs.Values.{is_value}
use Rattle.cas_types.specs.declared.tag.TypeTag.{TypeTag}
use Rattle.cql_parse.specs.declared.term.Term.{Term}
use Rattle.cas_terms.specs.Terms.{term_value}

-- the bytes of a term as a value of a type are bytes of that type: four of an `int`, UTF-8 of a `text`, a moment of the day of a `time`
abbrev pub TermsHaveTheirTypes : Type 0
TermsHaveTheirTypes = (tag : TypeTag) (t : Term) → IfSome (term_value tag t) (λ b. is_value tag b ≡ true)
