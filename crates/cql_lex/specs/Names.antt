-- What is read at the front of a text without asking for its piece.
use Rattle.std.specs.Prelude.{◌≡◌, ℕ, Bool, false, true, ◌||◌, List, length, take, Some}
use Rattle.cql_lex.specs.Constants.{name_value}
use Rattle.cql_lex.specs.Rules.{piece_at, token}
use Rattle.cql_lex.specs.declared.token.Mark.{Mark}
use Rattle.cql_lex.specs.declared.token.Mark.TheVariants as mark
use Rattle.cql_lex.specs.declared.token.TokenKind.TheVariants as kind

-- the rules give a name at the front of the text, and this is what it means: of `Ab_1 c` it is `ab_1`
pub record IsNameAt (text name : List ℕ) : Type 0 where
  pub piece : piece_at text ≡ Some (token kind.Name (length name))
  pub value : name_value (take (length name) text) ≡ Some name

-- one of the marks ( ) * + ,
abbrev pub is_plain_mark : Mark → Bool
is_plain_mark mark.OpenParen = true
is_plain_mark mark.CloseParen = true
is_plain_mark mark.Star = true
is_plain_mark mark.Plus = true
is_plain_mark mark.Comma = true
is_plain_mark _ = false

-- the rules give this mark at the front of the text
pub record IsPlainMarkAt (text : List ℕ) (m : Mark) : Type 0 where
  pub piece : piece_at text ≡ Some (token (kind.Mark m) 1)
  pub plain : is_plain_mark m ≡ true
