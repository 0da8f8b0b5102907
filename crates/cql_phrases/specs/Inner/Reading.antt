-- Reading from left to right: each reader answers what it read and the lexemes after it. That this is reading by the
-- grammar is proved apart.
use Rattle.std.specs.Prelude.{◌≡◌, ℕ, ℤ, zero, suc, ◌==◌, Bool, true, false, List, [], ◌∷◌, ◌++◌, length, Option, None, Some, Result, Ok, Err, if◌then◌else◌}
use Rattle.std.specs.Str.{bytes_eq}
use Rattle.cql_phrases.specs.declared.fault.ParseFault.{ParseFault}
use Rattle.cql_phrases.specs.declared.fault.ParseFault.TheVariants as faults
use Rattle.cql_phrases.specs.declared.lexeme.Lexeme.{Lexeme}
use Rattle.cql_phrases.specs.declared.lexeme.Lexeme.TheVariants as lexeme
use Rattle.cql_phrases.specs.declared.keyword.Keyword.{Keyword}
use Rattle.cql_phrases.specs.declared.keyword.Keyword.TheVariants as word
use Rattle.cql_lex.specs.declared.token.Mark.{Mark}
use Rattle.cql_lex.specs.declared.token.Mark.TheVariants as mark
use Rattle.cql_phrases.specs.declared.lists.Separator.{Separator}
use Rattle.cql_phrases.specs.declared.lists.Separator.TheVariants as separator
use Rattle.cql_phrases.specs.Symbols.{spelling, is_reserved}

abbrev pub Reader : Type 0 → Type 0
Reader A = List Lexeme → Option (A × List Lexeme)

abbrev pub done : {A : Type 0} → A → Reader A
done x = λ l. Some (x, l)

abbrev pub and_then : {A B : Type 0} → Option (A × List Lexeme) → (A → Reader B) → Option (B × List Lexeme)
and_then None f = None
and_then (Some p) f = f p.0 p.1

infixl 10 ◌>>=◌
abbrev pub ◌>>=◌ : {A B : Type 0} → Reader A → (A → Reader B) → Reader B
p >>= f = λ l. and_then (p l) f

-- where the first is there, the reader after it; else the other answer
abbrev pub chosen : {B : Type 0} → Option (List Lexeme) → Reader B → Option (B × List Lexeme) → Option (B × List Lexeme)
chosen None f other = other
chosen (Some r) f other = f r

abbrev pub passed : Option (List Lexeme) → Option (Unit {0} × List Lexeme)
passed None = None
passed (Some r) = Some (tt, r)

-- What a function returned is what reading gives, unless memory ran out.
abbrev pub Fails : {Y : Type 0} → ParseFault → Option Y → Type 0
Fails faults.Mem read = Unit {0}
Fails faults.Syntax read = read ≡ None

abbrev pub Gives : {X Y : Type 0} → (X → Y) → Result X ParseFault → Option Y → Type 0
Gives view (Ok x) read = read ≡ Some (view x)
Gives view (Err e) read = Fails e read

-- ---- words, marks, names

-- a number for each mark, by which two are compared
unfoldable pub place : Mark → ℕ
place mark.AtMost = 0
place mark.AtLeast = 1
place mark.OpenParen = 2
place mark.CloseParen = 3
place mark.OpenBracket = 4
place mark.CloseBracket = 5
place mark.OpenBrace = 6
place mark.CloseBrace = 7
place mark.Less = 8
place mark.Greater = 9
place mark.Equals = 10
place mark.Comma = 11
place mark.Semicolon = 12
place mark.Colon = 13
place mark.Dot = 14
place mark.Plus = 15
place mark.Minus = 16
place mark.Star = 17

unfoldable pub after_word : Keyword → List Lexeme → Option (List Lexeme)
after_word k (lexeme.Word text ∷ r) = if bytes_eq text (spelling k) then Some r else None
after_word k _ = None

unfoldable pub after_mark : Mark → List Lexeme → Option (List Lexeme)
after_mark m (lexeme.Mark n ∷ r) = if place n == place m then Some r else None
after_mark m _ = None

unfoldable pub after_close_brace : List Lexeme → Option (List Lexeme)
after_close_brace (lexeme.CloseBrace at ∷ r) = Some r
after_close_brace _ = None

unfoldable pub after_open_bracket : List Lexeme → Option (List Lexeme)
after_open_bracket (lexeme.OpenBracket at ∷ r) = Some r
after_open_bracket _ = None

unfoldable pub after_close_bracket : List Lexeme → Option (List Lexeme)
after_close_bracket (lexeme.CloseBracket at ∷ r) = Some r
after_close_bracket _ = None

abbrev pub word_at : Keyword → Reader (Unit {0})
word_at k = λ l. passed (after_word k l)

abbrev pub mark_at : Mark → Reader (Unit {0})
mark_at m = λ l. passed (after_mark m l)

abbrev pub close_brace_at : Reader (Unit {0})
close_brace_at = λ l. passed (after_close_brace l)

abbrev pub close_bracket_at : Reader (Unit {0})
close_bracket_at = λ l. passed (after_close_bracket l)

unfoldable pub name_at : Reader (List ℕ)
name_at (lexeme.Word text ∷ r) = if is_reserved text then None else Some (text, r)
name_at (lexeme.Quoted text ∷ r) = Some (text, r)
name_at _ = None

unfoldable pub whole_number_at : Reader ℤ
whole_number_at (lexeme.Number n ∷ r) = Some (n, r)
whole_number_at _ = None

unfoldable pub blob_at : Reader (List ℕ)
blob_at (lexeme.Blob b ∷ r) = Some (b, r)
blob_at _ = None

unfoldable pub after_separator : Separator → List Lexeme → Option (List Lexeme)
after_separator separator.Comma l = after_mark mark.Comma l
after_separator separator.And l = after_word word.And l

-- ---- lists

unfoldable pub more_at : {A : Type 0} → Separator → Reader A → ℕ → Reader (List A)
more_at s read zero l = Some ([], l)
more_at s read (suc n) l =
    chosen (after_separator s l) (do
      x ← read
      xs ← more_at s read n
      done (x ∷ xs)) (Some ([], l))

-- some are read already
unfoldable pub from_at : {A : Type 0} → Separator → Reader A → List A → Reader (List A)
from_at s read front = λ l. and_then (more_at s read (length l) l) (λ xs. done (front ++ xs))

unfoldable pub list_at : {A : Type 0} → Separator → Reader A → Reader (List A)
list_at s read = do
  first ← read
  from_at s read (first ∷ [])

unfoldable pub in_parens : {A : Type 0} → Reader A → Reader (List A)
in_parens read = do
  _ ← mark_at mark.OpenParen
  xs ← list_at separator.Comma read
  _ ← mark_at mark.CloseParen
  done xs

-- a list after a word, or none
unfoldable pub list_behind : {A : Type 0} → Keyword → Separator → Reader A → Reader (List A)
list_behind k s read l = chosen (after_word k l) (list_at s read) (Some ([], l))

unfoldable pub number_behind : Keyword → Reader (Option ℤ)
number_behind k l =
    chosen (after_word k l) (do
      n ← whole_number_at
      done (Some n)) (Some (None, l))

unfoldable pub blob_behind : Keyword → Reader (Option (List ℕ))
blob_behind k l =
    chosen (after_word k l) (do
      b ← blob_at
      done (Some b)) (Some (None, l))

unfoldable pub flag_at : Keyword → Reader Bool
flag_at k l = chosen (after_word k l) (done true) (Some (false, l))
