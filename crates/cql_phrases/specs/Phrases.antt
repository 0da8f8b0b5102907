-- The grammar of what CQL statements are made of: words, names, lists, constants, terms and literals. A phrase goes from the lexemes that
-- come to those that are left after it: `IsName n l r` says that l is the name n, spelt out, and then r. In the comments `[x]` is x or nothing,
-- `{x}` is x any number of times, `x | y` is one of them.
-- CQL documentation, "Definitions: identifiers, constants, terms" and "Data types: collections".
use Rattle.std.specs.Prelude.{◌≡◌, ℕ, ℤ, ◌⊎◌, Bool, true, false, List, [], ◌∷◌, Option, None, Some}
use Rattle.cql_phrases.specs.declared.lexeme.Lexeme.{Lexeme}
use Rattle.cql_phrases.specs.declared.lexeme.Lexeme.TheVariants as lexeme
use Rattle.cql_phrases.specs.declared.keyword.Keyword.{Keyword}
use Rattle.cql_phrases.specs.declared.keyword.Keyword.TheVariants as word
use Rattle.cql_lex.specs.declared.token.Mark.TheVariants as mark
use Rattle.cql_phrases.specs.declared.lists.Separator.TheVariants as separator
use Rattle.cql_phrases.specs.declared.term.Constant.{Constant}
use Rattle.cql_phrases.specs.declared.term.Literal.{Literal}
use Rattle.cql_phrases.specs.declared.term.Term.{Term}
use Rattle.cql_phrases.specs.declared.term.Term.TheVariants as term
use Rattle.cql_phrases.specs.declared.lists.Separator.{Separator}
use Rattle.cql_lex.specs.declared.token.Mark.{Mark}
use Rattle.cql_phrases.specs.declared.term.Constant.TheVariants as constant
use Rattle.cql_phrases.specs.declared.term.Literal.TheVariants as literal
use Rattle.cql_phrases.specs.declared.term.Element.{Element}
use Rattle.cql_phrases.specs.declared.term.Element.TheVariants as element
use Rattle.cql_phrases.specs.declared.term.Entry.{Entry}
use Rattle.cql_phrases.specs.declared.term.Setting.{Setting}
use Rattle.cql_phrases.specs.declared.term.Setting.TheVariants as setting
use Rattle.cql_phrases.specs.Symbols.{spelling, is_reserved}

-- what comes, and what is left after it
abbrev pub Phrase : Type 1
Phrase = List Lexeme → List Lexeme → Type 0

infixr 20 ◌▸◌
-- one phrase, and then the other
abbrev pub ◌▸◌ : Phrase → Phrase → Phrase
p ▸ q = λ l r. (m : List Lexeme) × p l m × q m r

infixr 15 ◌∣◌
-- one phrase or the other
abbrev pub ◌∣◌ : Phrase → Phrase → Phrase
p ∣ q = λ l r. p l r ⊎ q l r

-- no lexeme
abbrev pub nothing : Phrase
nothing l r = l ≡ r

-- no text at all
abbrev pub nowhere : Phrase
nowhere l r = ⊥

-- one lexeme
abbrev pub one : Lexeme → Phrase
one x l r = l ≡ x ∷ r

-- a word of the grammar, which ignores case: `select` and `SELECT`
abbrev pub keyword : Keyword → Phrase
keyword k = one (lexeme.Word (spelling k))

-- a mark, as `,`
abbrev pub sign : Mark → Phrase
sign m = one (lexeme.Mark m)

-- `{`, at any place of the source
abbrev pub open_brace : Phrase
open_brace l r = (at : ℕ) × one (lexeme.OpenBrace at) l r

-- `}`, at any place
abbrev pub close_brace : Phrase
close_brace l r = (at : ℕ) × one (lexeme.CloseBrace at) l r

-- `[`, at any place
abbrev pub open_bracket : Phrase
open_bracket l r = (at : ℕ) × one (lexeme.OpenBracket at) l r

-- `]`, at any place
abbrev pub close_bracket : Phrase
close_bracket l r = (at : ℕ) × one (lexeme.CloseBracket at) l r

-- a word that isn't reserved, or anything in quotes: `Name` is the name `name`, `"Name"` the name `Name`, `"select"` a
-- name and `select` none
abbrev pub IsName : List ℕ → Phrase
IsName n l r = (one (lexeme.Word n) l r × (is_reserved n ≡ false)) ⊎ one (lexeme.Quoted n) l r

-- ---- lists and options

-- what stands between the things of a list: `,` or AND
abbrev pub between : Separator → Phrase
between separator.Comma = sign mark.Comma
between separator.And = keyword word.And

-- {separator x}: `, 2, 3`
abbrev pub More : {A : Type 0} → Separator → (A → Phrase) → List A → Phrase
More s P [] = nothing
More s P (x ∷ xs) = between s ▸ P x ▸ More s P xs

-- x {separator x}: `1, 2, 3`
abbrev pub Some_of : {A : Type 0} → Separator → (A → Phrase) → List A → Phrase
Some_of s P [] = nowhere
Some_of s P (x ∷ xs) = P x ▸ More s P xs

-- [first x {separator x}]: `USING TTL 5 AND TIMESTAMP 7`, or nothing
abbrev pub Behind : {A : Type 0} → Phrase → Separator → (A → Phrase) → List A → Phrase
Behind first s P [] = nothing
Behind first s P (x ∷ xs) = first ▸ Some_of s P (x ∷ xs)

-- "(" x {"," x} ")": `(k, c, v)`
abbrev pub InParens : {A : Type 0} → (A → Phrase) → List A → Phrase
InParens P xs = sign mark.OpenParen ▸ Some_of separator.Comma P xs ▸ sign mark.CloseParen

-- [first x]: `LIMIT 5`, or nothing
abbrev pub Maybe : {A : Type 0} → Phrase → (A → Phrase) → Option A → Phrase
Maybe first P None = nothing
Maybe first P (Some x) = first ▸ P x

-- [x], by whether it is there: `STATIC`, or nothing
abbrev pub If : Phrase → Bool → Phrase
If p true = p
If p false = nothing

-- ---- constants and terms

-- a whole number: `-12`
abbrev pub IsNumber : ℤ → Phrase
IsNumber n = one (lexeme.Number n)

-- a blob: `0x00ff`
abbrev pub IsBlob : List ℕ → Phrase
IsBlob b = one (lexeme.Blob b)

-- TRUE or FALSE
abbrev pub Truth : Bool → Phrase
Truth true = keyword word.True
Truth false = keyword word.False

-- string | number | blob | uuid | TRUE | FALSE: `'it''s'`, `5`, `0x00ff`
abbrev pub IsConstant : Constant → Phrase
IsConstant (constant.Text t) = one (lexeme.Text t)
IsConstant (constant.Number n) = IsNumber n
IsConstant (constant.Blob b) = IsBlob b
IsConstant (constant.Uuid u) = one (lexeme.Uuid u)
IsConstant (constant.Boolean b) = Truth b

-- what stands within a literal's brackets, whatever its depth
pub data Part : Type 0 where
  one_term : Part
  some_terms : Part
  some_pairs : Part
  -- with the places of its first byte and after its last
  a_literal : ℕ → ℕ → Part

-- A literal within a literal, at any depth: the lexemes are this part, and then what is left. `[1, {2: []}]` is a literal
-- within `[[1, {2: []}]]`.
pub data Nests : Part → List Lexeme → List Lexeme → Type 0 where
  -- term = constant | NULL | literal
  constant_there : {l r : List Lexeme} (c : Constant) → IsConstant c l r → Nests one_term l r
  null_there : {l r : List Lexeme} → keyword word.Null l r → Nests one_term l r
  literal_there : {l r : List Lexeme} (start end : ℕ) → Nests (a_literal start end) l r → Nests one_term l r
  -- term {"," term}
  last_term : {l r : List Lexeme} → Nests one_term l r → Nests some_terms l r
  next_term : {l m r : List Lexeme} → Nests one_term l (lexeme.Mark mark.Comma ∷ m) → Nests some_terms m r → Nests some_terms l r
  -- term ":" term {"," term ":" term}
  last_pair : {l m r : List Lexeme} → Nests one_term l (lexeme.Mark mark.Colon ∷ m) → Nests one_term m r → Nests some_pairs l r
  next_pair : {l m n r : List Lexeme} → Nests one_term l (lexeme.Mark mark.Colon ∷ m) → Nests one_term m (lexeme.Mark mark.Comma ∷ n)
      → Nests some_pairs n r → Nests some_pairs l r
  -- "{" "}" | "{" terms "}" | "{" pairs "}" | "[" "]" | "[" terms "]"
  empty_braces : {r : List Lexeme} (start end : ℕ) → Nests (a_literal start end) (lexeme.OpenBrace start ∷ lexeme.CloseBrace end ∷ r) r
  set_there : {l r : List Lexeme} (start end : ℕ) → Nests some_terms l (lexeme.CloseBrace end ∷ r) → Nests (a_literal start end) (lexeme.OpenBrace start ∷ l) r
  map_there : {l r : List Lexeme} (start end : ℕ) → Nests some_pairs l (lexeme.CloseBrace end ∷ r) → Nests (a_literal start end) (lexeme.OpenBrace start ∷ l) r
  empty_brackets : {r : List Lexeme} (start end : ℕ) → Nests (a_literal start end) (lexeme.OpenBracket start ∷ lexeme.CloseBracket end ∷ r) r
  list_there : {l r : List Lexeme} (start end : ℕ) → Nests some_terms l (lexeme.CloseBracket end ∷ r)
      → Nests (a_literal start end) (lexeme.OpenBracket start ∷ l) r

-- constant | NULL | a literal, of which the span is kept: in `{[1, 2], 3}` the list is kept as the span from its `[` to
-- after its `]`
abbrev pub IsElement : Element → Phrase
IsElement element.Null = keyword word.Null
IsElement (element.Constant c) = IsConstant c
IsElement (element.Nested n) = Nests (a_literal n.start n.end)

-- term ":" term: `'a': 1`
abbrev pub IsEntry : Entry → Phrase
IsEntry e = IsElement e.key ▸ sign mark.Colon ▸ IsElement e.value

-- "{" "}" | "{" terms "}" | "[" [terms] "]" | "{" pairs "}": `{}`, `{1, 2}`, `[]`, `[1, 2]`, `{'a': 1}`
abbrev pub IsLiteral : Literal → Phrase
IsLiteral literal.Braces = open_brace ▸ close_brace
IsLiteral (literal.SetOf xs) = open_brace ▸ Some_of separator.Comma IsElement xs ▸ close_brace
IsLiteral (literal.ListOf []) = open_bracket ▸ close_bracket
IsLiteral (literal.ListOf (x ∷ xs)) = open_bracket ▸ Some_of separator.Comma IsElement (x ∷ xs) ▸ close_bracket
IsLiteral (literal.MapOf es) = open_brace ▸ Some_of separator.Comma IsEntry es ▸ close_brace

-- constant | literal | NULL: what a column is given, or compared with
abbrev pub IsTerm : Term → Phrase
IsTerm term.Null = keyword word.Null
IsTerm (term.Constant c) = IsConstant c
IsTerm (term.Literal x) = IsLiteral x

-- string | number | ratio: `'LZ4Compressor'`, `64`, `0.5`
abbrev pub IsSetting : Setting → Phrase
IsSetting (setting.Text t) = one (lexeme.Text t)
IsSetting (setting.Number n) = one (lexeme.Number n)
IsSetting (setting.Ratio n) = one (lexeme.Ratio n)
