-- What each token is to the grammar, by its kind and its text.
use Rattle.std.specs.Prelude.{◌≡◌, ℕ, ◌&&◌, nat_le, List, [], ◌∷◌, length, slice_range, Option, None, Some, option_map, option_and_then}
use Rattle.std.specs.Prelude.{is_some, IsTrue, IsUtf8, if◌then◌else◌}
use Rattle.cql_lex.specs.Constants.{name_value, uuid_value, blob_value}
use Rattle.cql_lex.specs.Numbers.{number_value, ratio_value}
use Rattle.cql_lex.specs.Quotes.{quoted_text, name_quote, string_quote}
use Rattle.cql_lex.specs.Lexes.{Lexes}
use Rattle.cql_lex.specs.declared.token.Token.{Token}
use Rattle.cql_lex.specs.declared.token.TokenKind.{TokenKind}
use Rattle.cql_lex.specs.declared.token.TokenKind.TheVariants as kind
use Rattle.cql_phrases.specs.declared.lexeme.Lexeme.{Lexeme}
use Rattle.cql_phrases.specs.declared.lexeme.Lexeme.TheVariants as lexeme
use Rattle.cql_lex.specs.declared.token.Mark.{Mark}
use Rattle.cql_lex.specs.declared.token.Mark.TheVariants as mark

-- a mark at this place: the brackets of literals keep theirs, an opening one its first byte, a closing one the byte
-- after it
abbrev pub mark_lexeme : Mark → ℕ → ℕ → Lexeme
mark_lexeme mark.OpenBracket start end = lexeme.OpenBracket start
mark_lexeme mark.CloseBracket start end = lexeme.CloseBracket end
mark_lexeme mark.OpenBrace start end = lexeme.OpenBrace start
mark_lexeme mark.CloseBrace start end = lexeme.CloseBrace end
mark_lexeme m start end = lexeme.Mark m

-- a token of this kind at this place with this text: the name `Ab` is the word `ab`, the string `'it''s'` the text `it's`
unfoldable pub lexeme_of : TokenKind → ℕ → ℕ → List ℕ → Option Lexeme
lexeme_of kind.Uuid start end text = option_map lexeme.Uuid (uuid_value text)
lexeme_of kind.Blob start end text = option_map lexeme.Blob (blob_value text)
lexeme_of kind.Number start end text = option_map lexeme.Number (number_value text)
lexeme_of kind.Ratio start end text = option_map lexeme.Ratio (ratio_value text)
lexeme_of kind.Name start end text = option_map lexeme.Word (name_value text)
lexeme_of kind.QuotedName start end text = option_map lexeme.Quoted (quoted_text name_quote text)
lexeme_of kind.String start end text = option_map lexeme.Text (quoted_text string_quote text)
lexeme_of (kind.Mark m) start end text = Some (mark_lexeme m start end)

-- a token of a source; none where its span isn't in the source or its text isn't of its kind
unfoldable pub lexeme_at : List ℕ → Token → Option Lexeme
lexeme_at source t =
    if nat_le t.start t.end && nat_le t.end (length source) then lexeme_of t.kind t.start t.end (slice_range source t.start t.end)
    else None

-- the tokens of a source, each with its meaning
unfoldable pub lexemes_of : List ℕ → List Token → Option (List Lexeme)
lexemes_of source [] = Some []
lexemes_of source (t ∷ ts) = option_and_then (λ x. option_map (λ xs. x ∷ xs) (lexemes_of source ts)) (lexeme_at source t)

-- the lexemes of a line
abbrev pub AreLexemes : List ℕ → List Lexeme → Type 0
AreLexemes source found = (tokens : List Token) × Lexes source tokens × (lexemes_of source tokens ≡ Some found)

-- each token of a line is a lexeme, so that a line is refused for its tokens or by the grammar, and for nothing between
abbrev pub TokensHaveLexemes : Type 0
TokensHaveLexemes = (source : List ℕ) (tokens : List Token) → IsUtf8 source → Lexes source tokens → IsTrue (is_some (lexemes_of source tokens))
