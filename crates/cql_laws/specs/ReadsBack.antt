-- What the program prints of a value, read as a term of CQL, is the same value.
-- CQL documentation, "Definitions: constants, terms" and "Data types: native types, collections".
use Rattle.std.specs.Prelude.{◌≡◌, ℕ, ◌<◌, List, [], ◌∷◌, map, Option, None, Some, IsTrue, FitsSigned}
use Rattle.std.specs.List.{All, AllByRecursion}
use Rattle.std.specs.Int.{w64}
use Rattle.cas_types.specs.Values.{is_value}
use Rattle.cas_types.specs.Schemas.{type_or_blob}
use Rattle.cas_types.specs.declared.tag.TypeTag.{TypeTag}
use Rattle.cas_types.specs.declared.schema.Column.{Column}
use Rattle.cas_types.specs.declared.schema.Shape.{Shape}
use Rattle.cas_types.specs.declared.schema.Shape.TheVariants as shape
use Rattle.cas_atoms.specs.declared.query.Datum.{Datum}
use Rattle.cas_atoms.specs.declared.query.Datum.TheVariants as datum
use Rattle.cas_effects.specs.declared.effect.Elements.{Elements}
use Rattle.cas_effects.specs.declared.effect.Elements.TheVariants as elements
use Rattle.cas_render.specs.Text.{datum_text}
use Rattle.cas_terms.specs.Terms.{term_value, whole_elements, by_path, term_fits}
use Rattle.cql_lex.specs.Lexes.{Lexes}
use Rattle.cql_lex.specs.declared.token.Token.{Token}
use Rattle.cql_phrases.specs.Phrases.{IsTerm}
use Rattle.cql_phrases.specs.Lexemes.{lexemes_of}
use Rattle.cql_phrases.specs.declared.lexeme.Lexeme.{Lexeme}
use Rattle.cql_phrases.specs.declared.term.Constant.TheVariants as constant
use Rattle.cql_phrases.specs.declared.term.Term.{Term}
use Rattle.cql_phrases.specs.declared.term.Term.TheVariants as term

-- the bytes are a value of the type
abbrev pub IsValue : TypeTag → List ℕ → Type 0
IsValue t v = IsTrue (is_value t v) × All (λ b. b < 256) v

-- what is shown holds values of its types: a bigint of 8 bytes, and no set of ints in which there are 3
abbrev pub IsOfItsTypes : Datum → Type 0
IsOfItsTypes datum.Null = Unit {0}
IsOfItsTypes (datum.Number n) = FitsSigned w64 n
IsOfItsTypes (datum.One t v) = IsValue t v
IsOfItsTypes (datum.Set t vs) = AllByRecursion (IsValue t) vs
IsOfItsTypes (datum.List t vs) = AllByRecursion (IsValue t) vs
IsOfItsTypes (datum.Map t u es) = AllByRecursion (λ e. IsValue t e.0 × IsValue u e.1) es

-- the text is the term, by the rules of tokens and the grammar of terms, and nothing else stands in it: `{1, 2}` is a literal
pub record Spells (text : List ℕ) (term : Term) : Type 0 where
  pub tokens : List Token
  pub lexed : Lexes text tokens
  pub lexemes : List Lexeme
  pub meanings : lexemes_of text tokens ≡ Some lexemes
  pub grammar : IsTerm term lexemes []

-- a column of this shape, and of this type of values, elements or keys
abbrev pub IsOf : Column → Shape → TypeTag → Type 0
IsOf c s t = (c.shape ≡ s) × (c.tag ≡ t)

-- the term says what is shown: a column that is given it has just this value, these elements or these entries
abbrev pub Says : Term → Datum → Type 0
Says x datum.Null = x ≡ term.Null
Says x (datum.Number n) = x ≡ term.Constant (constant.Number n)
Says x (datum.One t v) = (c : Column) → IsOf c shape.One t → IsTrue (term_fits c x) × (term_value t x ≡ Some v)
Says x (datum.Set t vs) = (c : Column) → IsOf c shape.Set t → IsTrue (term_fits c x) × (whole_elements c x ≡ elements.At (by_path (map (λ v. (v, Some [])) vs)))
Says x (datum.List t vs) = (c : Column) → IsOf c shape.List t → IsTrue (term_fits c x) × (whole_elements c x ≡ elements.Appended vs)
Says x (datum.Map t u es) =
    (c : Column) → IsOf c shape.Map t → type_or_blob c.second ≡ u
    → IsTrue (term_fits c x) × (whole_elements c x ≡ elements.At (by_path (map (λ e. (e.0, Some e.1)) es)))

-- what is printed of a value is a term, and the term says the value: so `'it''s'`, `-7`, `0x0aff`, `{'a': true}`
abbrev pub ReadsBack : Type 0
ReadsBack = (d : Datum) → IsOfItsTypes d → (x : Term) × Spells (datum_text d) x × Says x d
