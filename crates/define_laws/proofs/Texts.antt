-- Names that stand in a statement are UTF-8, whatever the tokens of its source.
use Rattle.std.proofs.Common.{◌≡◌, ℕ, ◌<◌, nat_le, ◌&&◌, Bool, true, false, cond, List, [], ◌∷◌, map, Option, None, Some, option_map, refl, sym, ap, subst, ◌∙◌, arith}
use Rattle.std.specs.Prelude.{IsAscii, length, slice_range, option_and_then}
use Rattle.std.specs.Char.{is_ascii_alphabetic, to_ascii_lowercase}
use Rattle.std.specs.List.{AllByRecursion, list_all}
use Rattle.std.specs.Str.{is_utf8}
use Rattle.std.proofs.lemmas.Bool.{and_parts}
use Rattle.std.proofs.lemmas.Bool.Decides.{nat_tests}
use Rattle.std.proofs.lemmas.Str.{IsUtf8-from_ascii, is_utf8-from_IsUtf8}
use Rattle.std.proofs.lemmas.Str.Ascii.{IsAscii-nil, IsAscii-cons}
use Rattle.cql_lex.specs.Characters.{is_word, first_is}
use Rattle.cql_lex.specs.Constants.{is_name, name_value, uuid_value, blob_value}
use Rattle.cql_lex.specs.Numbers.{number_value, ratio_value}
use Rattle.cql_lex.specs.Quotes.{quoted_text, quoted_value, name_quote, string_quote}
use Rattle.cql_lex.specs.declared.token.Mark.{Mark}
use Rattle.cql_lex.specs.declared.token.Mark.TheVariants as mark
use Rattle.cql_lex.specs.declared.token.Token.{Token}
use Rattle.cql_lex.specs.declared.token.TokenKind.{TokenKind}
use Rattle.cql_lex.specs.declared.token.TokenKind.TheVariants as kind
use Rattle.cql_parse.specs.declared.lexeme.Lexeme.{Lexeme}
use Rattle.cql_parse.specs.declared.lexeme.Lexeme.TheVariants as lexeme
use Rattle.cql_parse.specs.Lexemes.{mark_lexeme, lexeme_of, lexeme_at, lexemes_of}

-- ---- lexemes

-- a word or a quoted name is UTF-8
abbrev pub IsText : Lexeme → Type 0
IsText (lexeme.Word n) = is_utf8 n ≡ true
IsText (lexeme.Quoted n) = is_utf8 n ≡ true
IsText _ = Unit {0}

abbrev pub AreText : List Lexeme → Type 0
AreText l = AllByRecursion IsText l

lowered : (c : ℕ) → is_word c ≡ true → to_ascii_lowercase c < 128
lowered c e = grind (arith, nat_tests)

small_letters : (text : List ℕ) → list_all is_word text ≡ true → IsAscii (map to_ascii_lowercase text)
small_letters [] e = IsAscii-nil
small_letters (c ∷ cs) e =
    let both = and_parts (is_word c) (list_all is_word cs) e in
    IsAscii-cons (to_ascii_lowercase c) (map to_ascii_lowercase cs) (lowered c both.0) (small_letters cs both.1)

word_text : (text n : List ℕ) → name_value text ≡ Some n → is_utf8 n ≡ true
word_text text n e =
    elim (is_name text) as (λ b. is_name text ≡ b → cond b (Some (map to_ascii_lowercase text)) None ≡ Some n → is_utf8 n ≡ true) [
      | true ↦ λ is f.
          let same : map to_ascii_lowercase text ≡ n = cc in
          ap is_utf8 (sym same)
          ∙ is_utf8-from_IsUtf8 _ (IsUtf8-from_ascii _ (small_letters text (and_parts (first_is is_ascii_alphabetic text) (list_all is_word text) is).1))
      | false ↦ λ is f. cc
    ] refl e

inner_text : (o : Option (List ℕ)) (n : List ℕ) → option_and_then (λ inner. cond (is_utf8 inner) (Some inner) None) o ≡ Some n → is_utf8 n ≡ true
inner_text None n e = cc
inner_text (Some inner) n e =
    elim (is_utf8 inner) as (λ b. is_utf8 inner ≡ b → cond b (Some inner) None ≡ Some n → is_utf8 n ≡ true) [
      | true ↦ λ is f. let same : inner ≡ n = cc in ap is_utf8 (sym same) ∙ is
      | false ↦ λ is f. cc
    ] refl e

mapped : {A : Type 0} (make : A → Lexeme) (o : Option A) (x : Lexeme) → ((a : A) → o ≡ Some a → IsText (make a)) → option_map make o ≡ Some x → IsText x
mapped make None x is e = cc
mapped make (Some a) x is e = let same : make a ≡ x = cc in subst IsText same (is a refl)

mark_text : (m : Mark) (start end : ℕ) → IsText (mark_lexeme m start end)
mark_text mark.AtMost start end = tt
mark_text mark.AtLeast start end = tt
mark_text mark.OpenParen start end = tt
mark_text mark.CloseParen start end = tt
mark_text mark.OpenBracket start end = tt
mark_text mark.CloseBracket start end = tt
mark_text mark.OpenBrace start end = tt
mark_text mark.CloseBrace start end = tt
mark_text mark.Less start end = tt
mark_text mark.Greater start end = tt
mark_text mark.Equals start end = tt
mark_text mark.Comma start end = tt
mark_text mark.Semicolon start end = tt
mark_text mark.Colon start end = tt
mark_text mark.Dot start end = tt
mark_text mark.Plus start end = tt
mark_text mark.Minus start end = tt
mark_text mark.Star start end = tt

lexeme_text : (k : TokenKind) (start end : ℕ) (text : List ℕ) (x : Lexeme) → lexeme_of k start end text ≡ Some x → IsText x
unfolding lexeme_of
lexeme_text kind.Uuid start end text x e = mapped lexeme.Uuid (uuid_value text) x (λ a f. tt) e
lexeme_text kind.Blob start end text x e = mapped lexeme.Blob (blob_value text) x (λ a f. tt) e
lexeme_text kind.Number start end text x e = mapped lexeme.Number (number_value text) x (λ a f. tt) e
lexeme_text kind.Ratio start end text x e = mapped lexeme.Ratio (ratio_value text) x (λ a f. tt) e
lexeme_text kind.Name start end text x e = mapped lexeme.Word (name_value text) x (λ n f. word_text text n f) e
lexeme_text kind.QuotedName start end text x e = mapped lexeme.Quoted (quoted_text name_quote text) x (λ n f. inner_text (quoted_value name_quote text) n f) e
lexeme_text kind.String start end text x e = mapped lexeme.Text (quoted_text string_quote text) x (λ a f. tt) e
lexeme_text (kind.Mark m) start end text x e = let same : mark_lexeme m start end ≡ x = cc in subst IsText same (mark_text m start end)

token_text : (source : List ℕ) (t : Token) (x : Lexeme) → lexeme_at source t ≡ Some x → IsText x
unfolding lexeme_at
token_text source t x e = chosen (nat_le t.start t.end && nat_le t.end (length source)) e
  where
    chosen : (b : Bool) → cond b (lexeme_of t.kind t.start t.end (slice_range source t.start t.end)) None ≡ Some x → IsText x
    chosen true f = lexeme_text t.kind t.start t.end (slice_range source t.start t.end) x f
    chosen false f = cc

put : (o : Option Lexeme) (p : Option (List Lexeme)) (xs : List Lexeme) → ((x : Lexeme) → o ≡ Some x → IsText x) → ((ys : List Lexeme) → p ≡ Some ys → AreText ys)
    → option_and_then (λ x. option_map (λ ys. x ∷ ys) p) o ≡ Some xs → AreText xs
put None p xs one more e = cc
put (Some x) None xs one more e = cc
put (Some x) (Some ys) xs one more e = let same : x ∷ ys ≡ xs = cc in subst AreText same (one x refl, more ys refl)

pub lexemes_text : (source : List ℕ) (ts : List Token) (xs : List Lexeme) → lexemes_of source ts ≡ Some xs → AreText xs
unfolding lexemes_of
lexemes_text source [] xs e = let same : ◌≡◌ {A = List Lexeme} [] xs = cc in subst AreText same tt
lexemes_text source (t ∷ ts) xs e = put (lexeme_at source t) (lexemes_of source ts) xs (token_text source t) (λ ys f. lexemes_text source ts ys f) e
