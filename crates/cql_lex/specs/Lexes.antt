-- The tokens of a line.
use Rattle.std.specs.Prelude.{◌≡◌, ℕ, ◌+◌, List, [], ◌∷◌, ◌++◌, drop, Option, None, Some}
use Rattle.cql_lex.specs.Rules.{piece_at}
use Rattle.cql_lex.specs.declared.piece.Piece.{Piece}
use Rattle.cql_lex.specs.declared.token.Token.{Token}
use Rattle.cql_lex.specs.declared.token.TokenKind.{TokenKind}

-- A text is cut into pieces: each is what the rules give at its place, and nothing is left. `a -1` is cut into a name, a blank and a number.
abbrev pub IsCut : List ℕ → List Piece → Type 0
IsCut text [] = text ≡ []
IsCut text (p ∷ ps) = (piece_at text ≡ Some p) × IsCut (drop p.size text) ps

-- the token that a piece from this place on is; blanks and comments are none
abbrev pub token_of : ℕ → Option TokenKind → ℕ → List Token
token_of from None size = []
token_of from (Some kind) size = record { kind = kind; start = from; end = from + size } ∷ []

-- the tokens among pieces that stand one after another, from this place on
abbrev pub tokens_of : ℕ → List Piece → List Token
tokens_of from [] = []
tokens_of from (p ∷ ps) = token_of from p.kind p.size ++ tokens_of (from + p.size) ps

-- the tokens of a line, of which each is a span: those of `a -1` are a name from 0 to 1 and a number from 2 to 4
abbrev pub Lexes : List ℕ → List Token → Type 0
Lexes source tokens = (pieces : List Piece) × IsCut source pieces × (tokens ≡ tokens_of 0 pieces)

-- no tokens are those of the line, as of `a 1x` or `'a`
abbrev pub IsRefused : List ℕ → Type 0
IsRefused source = (tokens : List Token) → ¬ (Lexes source tokens)
