-- What is added to the lexemes of a line.
use Rattle.std.specs.Prelude.{◌≡◌, ℕ, ◌+◌, ◌≤◌, length, List, [], ◌∷◌, ◌++◌, take, drop, Option, None, Some}
use Rattle.cql_lex.specs.Laws.{HasForm}
use Rattle.cql_lex.specs.Rules.{piece_at}
use Rattle.cql_lex.specs.declared.piece.Piece.{Piece}
use Rattle.cql_lex.specs.declared.token.TokenKind.{TokenKind}
use Rattle.cql_phrases.specs.declared.lexeme.Lexeme.{Lexeme}
use Rattle.cql_phrases.specs.Lexemes.{lexeme_of}

-- this one was added behind those that were there
abbrev pub IsAdded : Option Lexeme → List Lexeme → List Lexeme → Type 0
IsAdded read old new = (x : Lexeme) × (read ≡ Some x) × (new ≡ old ++ x ∷ [])

-- a piece that is a token has its form
abbrev pub HasItsForm : List ℕ → ℕ → Piece → Type 0
HasItsForm source from p = (k : TokenKind) → p.kind ≡ Some k → HasForm k (take p.size (drop from source))

-- what a piece is to the grammar was added, which stands from this place on
abbrev pub IsPieceAdded : List ℕ → ℕ → Option TokenKind → ℕ → List Lexeme → List Lexeme → Type 0
IsPieceAdded source from None size old new = new ≡ old
IsPieceAdded source from (Some k) size old new = IsAdded (lexeme_of k from (from + size) (take size (drop from source))) old new

-- what the piece at this place is to the grammar was added; it has this size
abbrev pub IsNextAdded : List ℕ → ℕ → ℕ → List Lexeme → List Lexeme → Type 0
IsNextAdded source at size old new =
    (p : Piece) × (piece_at (drop at source) ≡ Some p) × (p.size ≡ size) × (at + size ≤ length source) × IsPieceAdded source at p.kind p.size old new
