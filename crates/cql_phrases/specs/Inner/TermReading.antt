-- Reading constants, terms and literals.
use Rattle.std.specs.Prelude.{ℕ, Bool, true, false, ◌||◌, List, [], ◌∷◌, Option, None, Some, if◌then◌else◌}
use Rattle.std.specs.Str.{bytes_eq}
use Rattle.cql_phrases.specs.declared.lexeme.Lexeme.{Lexeme}
use Rattle.cql_phrases.specs.declared.lexeme.Lexeme.TheVariants as lexeme
use Rattle.cql_phrases.specs.declared.keyword.Keyword.TheVariants as word
use Rattle.cql_lex.specs.declared.token.Mark.TheVariants as mark
use Rattle.cql_phrases.specs.declared.lists.Separator.TheVariants as separator
use Rattle.cql_phrases.specs.declared.nested.Frame.{Frame}
use Rattle.cql_phrases.specs.declared.nested.Frame.TheVariants as frame
use Rattle.cql_phrases.specs.declared.nested.Wants.{Wants}
use Rattle.cql_phrases.specs.declared.nested.Wants.TheVariants as wants
use Rattle.cql_phrases.specs.declared.nested.Move.{Move}
use Rattle.cql_phrases.specs.declared.nested.Move.TheVariants as move
use Rattle.cql_phrases.specs.declared.term.Constant.{Constant}
use Rattle.cql_phrases.specs.declared.term.Constant.TheVariants as constant
use Rattle.cql_phrases.specs.declared.term.Term.{Term}
use Rattle.cql_phrases.specs.declared.term.Term.TheVariants as term
use Rattle.cql_phrases.specs.declared.term.Literal.{Literal}
use Rattle.cql_phrases.specs.declared.term.Literal.TheVariants as literal
use Rattle.cql_phrases.specs.declared.term.Element.{Element}
use Rattle.cql_phrases.specs.declared.term.Element.TheVariants as element
use Rattle.cql_phrases.specs.declared.term.Nested.{Nested}
use Rattle.cql_phrases.specs.declared.term.Entry.{Entry}
use Rattle.cql_phrases.specs.declared.term.Setting.{Setting}
use Rattle.cql_phrases.specs.declared.term.Setting.TheVariants as setting
use Rattle.cql_phrases.specs.Symbols.{spelling}
use Rattle.cql_phrases.specs.Inner.Reading.{Reader, done, and_then, ◌>>=◌, chosen, after_word, after_mark, after_close_brace, after_close_bracket}
use Rattle.cql_phrases.specs.Inner.Reading.{close_brace_at, close_bracket_at, mark_at, from_at, list_at}

unfoldable pub truth_of : List ℕ → Option Bool
truth_of text =
    if bytes_eq text (spelling word.True) then Some true
    else if bytes_eq text (spelling word.False) then Some false
    else None

abbrev pub boolean : Option Bool → Reader Constant
boolean None l = None
boolean (Some b) l = Some (constant.Boolean b, l)

unfoldable pub constant_at : Reader Constant
constant_at (lexeme.Text text ∷ r) = Some (constant.Text text, r)
constant_at (lexeme.Number n ∷ r) = Some (constant.Number n, r)
constant_at (lexeme.Blob b ∷ r) = Some (constant.Blob b, r)
constant_at (lexeme.Uuid u ∷ r) = Some (constant.Uuid u, r)
constant_at (lexeme.Word text ∷ r) = boolean (truth_of text) r
constant_at _ = None

-- ---- a literal within a literal: the brackets that are open, with what stands before in the innermost

-- constants and NULL
unfoldable pub stands_alone : Lexeme → Bool
stands_alone (lexeme.Text text) = true
stands_alone (lexeme.Number n) = true
stands_alone (lexeme.Blob b) = true
stands_alone (lexeme.Uuid u) = true
stands_alone (lexeme.Word text) = bytes_eq text (spelling word.Null) || bytes_eq text (spelling word.True) || bytes_eq text (spelling word.False)
stands_alone _ = false

unfoldable pub opening : Lexeme → Move
opening (lexeme.OpenBracket at) = move.Open frame.List
opening (lexeme.OpenBrace at) = move.Open frame.Braces
opening _ = move.Wrong

unfoldable pub starts : Frame → Lexeme → Move
starts f x = if stands_alone x then move.Go wants.Next f else opening x

unfoldable pub bracket_closes : Frame → ℕ → Move
bracket_closes frame.List at = move.Close at
bracket_closes _ at = move.Wrong

unfoldable pub brace_closes : Frame → ℕ → Move
brace_closes frame.Braces at = move.Close at
brace_closes frame.Set at = move.Close at
brace_closes frame.Value at = move.Close at
brace_closes _ at = move.Wrong

unfoldable pub closing : Frame → Lexeme → Move
closing f (lexeme.CloseBracket at) = bracket_closes f at
closing f (lexeme.CloseBrace at) = brace_closes f at
closing f _ = move.Wrong

unfoldable pub comma : Frame → Move
comma frame.List = move.Go wants.Term frame.List
comma frame.Braces = move.Go wants.Term frame.Set
comma frame.Set = move.Go wants.Term frame.Set
comma frame.Key = move.Wrong
comma frame.Value = move.Go wants.Term frame.Key

unfoldable pub colon : Frame → Move
colon frame.Braces = move.Go wants.Term frame.Value
colon frame.Key = move.Go wants.Term frame.Value
colon _ = move.Wrong

unfoldable pub follows : Frame → Lexeme → Move
follows f (lexeme.Mark mark.Comma) = comma f
follows f (lexeme.Mark mark.Colon) = colon f
follows f x = closing f x

abbrev pub closes : Move → Bool
closes (move.Close at) = true
closes (move.Go w f) = false
closes (move.Open f) = false
closes move.Wrong = false

unfoldable pub step : Wants → Frame → Lexeme → Move
step wants.First f x = if closes (closing f x) then closing f x else starts f x
step wants.Term f x = starts f x
step wants.Next f x = follows f x

-- the innermost bracket, those around it from the inside, and the lexemes that come
unfoldable pub walk : Wants → Frame → List Frame → Reader ℕ
walk w f fs [] = None
walk w f fs (x ∷ l) =
    elim (step w f x) [
      | move.Wrong ↦ None
      | move.Go v g ↦ walk v g fs l
      | move.Open g ↦ walk wants.First g (f ∷ fs) l
      | move.Close at ↦ elim fs [ [] ↦ Some (at, l) | g ∷ gs ↦ walk wants.Next g gs l ]
    ]

abbrev pub span_from : ℕ → Option (ℕ × List Lexeme) → Option (Nested × List Lexeme)
span_from start read = and_then read (λ at. done (record { start = start; end = at }))

unfoldable pub nested_at : Reader Nested
nested_at (lexeme.OpenBracket at ∷ l) = span_from at (walk wants.First frame.List [] l)
nested_at (lexeme.OpenBrace at ∷ l) = span_from at (walk wants.First frame.Braces [] l)
nested_at _ = None

-- ---- terms and literals

-- the next lexeme opens a literal
unfoldable pub opens : List Lexeme → Bool
opens (lexeme.OpenBracket at ∷ l) = true
opens (lexeme.OpenBrace at ∷ l) = true
opens _ = false

abbrev pub nested_element : Reader Element
nested_element = do
  n ← nested_at
  done (element.Nested n)

abbrev pub constant_element : Reader Element
constant_element = do
  c ← constant_at
  done (element.Constant c)

unfoldable pub element_at : Reader Element
element_at l = chosen (after_word word.Null l) (done element.Null) (if opens l then nested_element l else constant_element l)

unfoldable pub pair_at : Reader Entry
pair_at = do
  key ← element_at
  _ ← mark_at mark.Colon
  value ← element_at
  done (record { key = key; value = value })

-- the elements after the first one, and the closing bracket
unfoldable pub set_from : Element → Reader Literal
set_from first = do
  elements ← from_at separator.Comma element_at (first ∷ [])
  _ ← close_brace_at
  done (literal.SetOf elements)

unfoldable pub map_from : Element → Reader Literal
map_from key = do
  value ← element_at
  entries ← from_at separator.Comma pair_at (record { key = key; value = value } ∷ [])
  _ ← close_brace_at
  done (literal.MapOf entries)

unfoldable pub set_or_map : Reader Literal
set_or_map = do
  first ← element_at
  λ l. chosen (after_mark mark.Colon l) (map_from first) (set_from first l)

unfoldable pub braces_at : Reader Literal
braces_at l = chosen (after_close_brace l) (done literal.Braces) (set_or_map l)

unfoldable pub some_elements : Reader Literal
some_elements = do
  elements ← list_at separator.Comma element_at
  _ ← close_bracket_at
  done (literal.ListOf elements)

unfoldable pub brackets_at : Reader Literal
brackets_at l = chosen (after_close_bracket l) (done (literal.ListOf [])) (some_elements l)

unfoldable pub literal_at : Reader Literal
literal_at (lexeme.OpenBracket at ∷ l) = brackets_at l
literal_at (lexeme.OpenBrace at ∷ l) = braces_at l
literal_at _ = None

abbrev pub literal_term : Reader Term
literal_term = do
  x ← literal_at
  done (term.Literal x)

abbrev pub constant_term : Reader Term
constant_term = do
  c ← constant_at
  done (term.Constant c)

unfoldable pub term_at : Reader Term
term_at l = chosen (after_word word.Null l) (done term.Null) (if opens l then literal_term l else constant_term l)

unfoldable pub setting_at : Reader Setting
setting_at (lexeme.Text text ∷ r) = Some (setting.Text text, r)
setting_at (lexeme.Number n ∷ r) = Some (setting.Number n, r)
setting_at (lexeme.Ratio n ∷ r) = Some (setting.Ratio n, r)
setting_at _ = None
