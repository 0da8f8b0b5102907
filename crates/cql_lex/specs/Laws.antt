-- What holds of the tokens of a line.
use Rattle.std.specs.Prelude.{◌≡◌, ◌↔◌, ℕ, Bool, true, false, ◌-◌, ◌<◌, ◌≤◌, List, [], ◌∷◌, length, take, drop, codes, Some, is_some, IsTrue, IsUtf8}
use Rattle.std.specs.List.{AllByRecursion}
use Rattle.cql_lex.specs.Characters.{is_word, first_is}
use Rattle.cql_lex.specs.Numbers.{number_value, is_ratio}
use Rattle.cql_lex.specs.Quotes.{name_quote, string_quote, quoted_value, quoted_text, in_quotes}
use Rattle.cql_lex.specs.Constants.{name_value, uuid_value, blob_value}
use Rattle.cql_lex.specs.Lexes.{Lexes}
use Rattle.cql_lex.specs.declared.token.Mark.{Mark}
use Rattle.cql_lex.specs.declared.token.Mark.TheVariants as mark
use Rattle.cql_lex.specs.declared.token.Token.{Token}
use Rattle.cql_lex.specs.declared.token.TokenKind.{TokenKind}
use Rattle.cql_lex.specs.declared.token.TokenKind.TheVariants as kind

-- the spans stand one after another, from this place up to the end
abbrev pub Ascend : ℕ → List Token → ℕ → Type 0
Ascend from [] end = from ≤ end
Ascend from (t ∷ ts) end = (from ≤ t.start) × (t.start < t.end) × Ascend t.end ts end

-- the text of a span
abbrev pub text_of : List ℕ → Token → List ℕ
text_of source t = take (t.end - t.start) (drop t.start source)

-- how a mark is written
abbrev pub mark_text : Mark → List ℕ
mark_text mark.AtMost = codes "<="
mark_text mark.AtLeast = codes ">="
mark_text mark.OpenParen = codes "("
mark_text mark.CloseParen = codes ")"
mark_text mark.OpenBracket = codes "["
mark_text mark.CloseBracket = codes "]"
mark_text mark.OpenBrace = codes "{"
mark_text mark.CloseBrace = codes "}"
mark_text mark.Less = codes "<"
mark_text mark.Greater = codes ">"
mark_text mark.Equals = codes "="
mark_text mark.Comma = codes ","
mark_text mark.Semicolon = codes ";"
mark_text mark.Colon = codes ":"
mark_text mark.Dot = codes "."
mark_text mark.Plus = codes "+"
mark_text mark.Minus = codes "-"
mark_text mark.Star = codes "*"

-- the text is a token of the kind: `Ab_1` is a name, `1.5` a ratio, `<=` the mark AtMost
abbrev pub HasForm : TokenKind → List ℕ → Type 0
HasForm kind.Uuid text = IsTrue (is_some (uuid_value text))
HasForm kind.Blob text = IsTrue (is_some (blob_value text))
HasForm kind.Number text = IsTrue (is_some (number_value text))
HasForm kind.Ratio text = IsTrue (is_ratio text)
HasForm kind.Name text = IsTrue (is_some (name_value text))
HasForm kind.QuotedName text = IsTrue (is_some (quoted_text name_quote text))
HasForm kind.String text = IsTrue (is_some (quoted_text string_quote text))
HasForm (kind.Mark m) text = text ≡ mark_text m

-- each token's text is one of its kind
abbrev pub HaveForms : List ℕ → List Token → Type 0
HaveForms source tokens = AllByRecursion (λ t. HasForm t.kind (text_of source t)) tokens

-- no longer text from the same place is one of the kind: a token takes as much as its form says
abbrev pub IsLongest : List ℕ → Token → Type 0
IsLongest source t = (end : ℕ) → t.end < end → end ≤ length source → ¬ (HasForm t.kind (take (end - t.start) (drop t.start source)))

-- each of the tokens is the longest of its kind at its place
abbrev pub AreLongest : List ℕ → List Token → Type 0
AreLongest source tokens = AllByRecursion (IsLongest source) tokens

-- a name, a number, a ratio or a uuid
abbrev pub is_wordlike : TokenKind → Bool
is_wordlike kind.Uuid = true
is_wordlike kind.Number = true
is_wordlike kind.Ratio = true
is_wordlike kind.Name = true
is_wordlike _ = false

-- no letter, digit or `_` follows one of these at once
abbrev pub IsApart : List ℕ → Token → Type 0
IsApart source t = IsTrue (is_wordlike t.kind) → first_is is_word (drop t.end source) ≡ false

-- and so for each of the tokens: `12 a` is two tokens, `12a` is none
abbrev pub AreApart : List ℕ → List Token → Type 0
AreApart source tokens = AllByRecursion (IsApart source) tokens

-- what holds of the places of a line's tokens
pub record ArePlaced (source : List ℕ) (tokens : List Token) : Type 0 where
  pub spans : Ascend 0 tokens (length source)
  pub forms : HaveForms source tokens
  pub longest : AreLongest source tokens
  pub apart : AreApart source tokens

-- a line has one list of tokens at most
abbrev pub OneReading : Type 0
OneReading = (source : List ℕ) (tokens others : List Token) → Lexes source tokens → Lexes source others → tokens ≡ others

-- so are the tokens of each line placed
abbrev pub WellPlaced : Type 0
WellPlaced = (source : List ℕ) (tokens : List Token) → IsUtf8 source → Lexes source tokens → ArePlaced source tokens

-- a text in quotes stands for exactly the text that is written so
abbrev pub QuotesRoundTrip : Type 0
QuotesRoundTrip = (quote : ℕ) (text inner : List ℕ) → (quoted_value quote text ≡ Some inner) ↔ (text ≡ in_quotes quote inner)
