-- Words, marks, brackets, names and numbers.
use Rattle.std.proofs.Common.{◌≡◌, ℕ, ℤ, Bool, true, false, cond, eqb, List, [], ◌∷◌, length, Option, None, Some, refl, sym, ap, ◌∙◌, inl, inr, arith}
use Rattle.std.specs.Str.{bytes_eq}
use Rattle.std.proofs.lemmas.Slice.Eq.{bytes_eq-Decides}
use Rattle.std.proofs.lemmas.Bool.{eqb-true}
use Rattle.cql_phrases.specs.declared.lexeme.Lexeme.{Lexeme}
use Rattle.cql_phrases.specs.declared.lexeme.Lexeme.TheVariants as lexeme
use Rattle.cql_phrases.specs.declared.keyword.Keyword.{Keyword}
use Rattle.cql_lex.specs.declared.token.Mark.{Mark}
use Rattle.cql_lex.specs.declared.token.Mark.TheVariants as mark
use Rattle.cql_phrases.specs.Symbols.{spelling, is_reserved}
use Rattle.cql_phrases.specs.Inner.Reading.{after_word, after_mark, after_close_brace, after_open_bracket, after_close_bracket, word_at, mark_at, close_brace_at, close_bracket_at, name_at, whole_number_at, blob_at, place}
use Rattle.cql_phrases.specs.Phrases.{one, keyword, sign, close_brace, open_bracket, close_bracket, IsName, IsNumber, IsBlob}
use Rattle.cql_phrases.proofs.Agree.{Agrees, Anything, Shrinks, some_is, unpass, pass, same, phrase_at}

-- which way a test went, by its answer
tested : (b : Bool) (l r : List Lexeme) → cond b (Some l) None ≡ Some r → (b ≡ true) × (l ≡ r)
tested true l r e = (refl, some_is l r e)
tested false l r e = absurd cc

-- ---- words

pub word_sound : (k : Keyword) (l r : List Lexeme) → after_word k l ≡ Some r → keyword k l r
unfolding after_word
word_sound k [] r e = absurd cc
word_sound k (lexeme.Word text ∷ l) r e =
    let t = tested (bytes_eq text (spelling k)) l r e in
    let w : text ≡ spelling k = (bytes_eq-Decides text (spelling k)).0 t.0 in
    rw (w, t.1) refl
word_sound k (lexeme.Quoted text ∷ l) r e = absurd cc
word_sound k (lexeme.Text text ∷ l) r e = absurd cc
word_sound k (lexeme.Number n ∷ l) r e = absurd cc
word_sound k (lexeme.Ratio n ∷ l) r e = absurd cc
word_sound k (lexeme.Blob b ∷ l) r e = absurd cc
word_sound k (lexeme.Uuid u ∷ l) r e = absurd cc
word_sound k (lexeme.Mark m ∷ l) r e = absurd cc
word_sound k (lexeme.OpenBracket at ∷ l) r e = absurd cc
word_sound k (lexeme.CloseBracket at ∷ l) r e = absurd cc
word_sound k (lexeme.OpenBrace at ∷ l) r e = absurd cc
word_sound k (lexeme.CloseBrace at ∷ l) r e = absurd cc

pub same_text : (t : List ℕ) → bytes_eq t t ≡ true
same_text t = (bytes_eq-Decides t t).1 refl

pub word_full : (k : Keyword) (l r : List Lexeme) → keyword k l r → after_word k l ≡ Some r
unfolding after_word
word_full k l r e = ap (after_word k) e ∙ rw (same_text (spelling k)) refl

-- another word
pub other_word : (k j : Keyword) (l r : List Lexeme) → bytes_eq (spelling j) (spelling k) ≡ false → keyword j l r → after_word k l ≡ None
unfolding after_word
other_word k j l r n e = ap (after_word k) e ∙ rw n refl

-- ---- marks

abbrev numbered : ℕ → Mark
numbered n = cond (eqb n 0) mark.AtMost (cond (eqb n 1) mark.AtLeast (cond (eqb n 2) mark.OpenParen (cond (eqb n 3) mark.CloseParen (cond (eqb n 4) mark.OpenBracket (cond (eqb n 5) mark.CloseBracket (cond (eqb n 6) mark.OpenBrace (cond (eqb n 7) mark.CloseBrace (cond (eqb n 8) mark.Less (cond (eqb n 9) mark.Greater (cond (eqb n 10) mark.Equals (cond (eqb n 11) mark.Comma (cond (eqb n 12) mark.Semicolon (cond (eqb n 13) mark.Colon (cond (eqb n 14) mark.Dot (cond (eqb n 15) mark.Plus (cond (eqb n 16) mark.Minus (mark.Star)))))))))))))))))

numbered_place : (m : Mark) → numbered (place m) ≡ m
unfolding place
numbered_place mark.AtMost = refl
numbered_place mark.AtLeast = refl
numbered_place mark.OpenParen = refl
numbered_place mark.CloseParen = refl
numbered_place mark.OpenBracket = refl
numbered_place mark.CloseBracket = refl
numbered_place mark.OpenBrace = refl
numbered_place mark.CloseBrace = refl
numbered_place mark.Less = refl
numbered_place mark.Greater = refl
numbered_place mark.Equals = refl
numbered_place mark.Comma = refl
numbered_place mark.Semicolon = refl
numbered_place mark.Colon = refl
numbered_place mark.Dot = refl
numbered_place mark.Plus = refl
numbered_place mark.Minus = refl
numbered_place mark.Star = refl

same_mark : (m n : Mark) → eqb (place m) (place n) ≡ true → m ≡ n
same_mark m n e = sym (numbered_place m) ∙ ap numbered (eqb-true _ _ e) ∙ numbered_place n

pub mark_sound : (m : Mark) (l r : List Lexeme) → after_mark m l ≡ Some r → sign m l r
unfolding after_mark
mark_sound m [] r e = absurd cc
mark_sound m (lexeme.Mark n ∷ l) r e =
    let t = tested (eqb (place n) (place m)) l r e in
    let w : n ≡ m = same_mark n m t.0 in
    rw (w, t.1) refl
mark_sound m (lexeme.Word text ∷ l) r e = absurd cc
mark_sound m (lexeme.Quoted text ∷ l) r e = absurd cc
mark_sound m (lexeme.Text text ∷ l) r e = absurd cc
mark_sound m (lexeme.Number n ∷ l) r e = absurd cc
mark_sound m (lexeme.Ratio n ∷ l) r e = absurd cc
mark_sound m (lexeme.Blob b ∷ l) r e = absurd cc
mark_sound m (lexeme.Uuid u ∷ l) r e = absurd cc
mark_sound m (lexeme.OpenBracket at ∷ l) r e = absurd cc
mark_sound m (lexeme.CloseBracket at ∷ l) r e = absurd cc
mark_sound m (lexeme.OpenBrace at ∷ l) r e = absurd cc
mark_sound m (lexeme.CloseBrace at ∷ l) r e = absurd cc

same_place : (n : ℕ) → eqb n n ≡ true
same_place n = search arith

pub mark_full : (m : Mark) (l r : List Lexeme) → sign m l r → after_mark m l ≡ Some r
unfolding after_mark
mark_full m l r e = ap (after_mark m) e ∙ rw (same_place (place m)) refl

pub other_mark : (m n : Mark) (l r : List Lexeme) → eqb (place n) (place m) ≡ false → sign n l r → after_mark m l ≡ None
unfolding after_mark
other_mark m n l r d e = ap (after_mark m) e ∙ rw d refl

-- ---- as readers

pub word_at_sound : (k : Keyword) (l r : List Lexeme) (u : Unit {0}) → word_at k l ≡ Some (u, r) → keyword k l r
word_at_sound k l r u e = word_sound k l r (unpass _ u r e)

pub word_at_full : (k : Keyword) (l r : List Lexeme) → keyword k l r → word_at k l ≡ Some (tt, r)
word_at_full k l r e = pass _ r (word_full k l r e)

pub mark_at_sound : (m : Mark) (l r : List Lexeme) (u : Unit {0}) → mark_at m l ≡ Some (u, r) → sign m l r
mark_at_sound m l r u e = mark_sound m l r (unpass _ u r e)

pub mark_at_full : (m : Mark) (l r : List Lexeme) → sign m l r → mark_at m l ≡ Some (tt, r)
mark_at_full m l r e = pass _ r (mark_full m l r e)

-- ---- brackets

pub close_brace_sound : (l r : List Lexeme) → after_close_brace l ≡ Some r → close_brace l r
unfolding after_close_brace
close_brace_sound [] r e = absurd cc
close_brace_sound (lexeme.Word text ∷ l) r e = absurd cc
close_brace_sound (lexeme.Quoted text ∷ l) r e = absurd cc
close_brace_sound (lexeme.Text text ∷ l) r e = absurd cc
close_brace_sound (lexeme.Number n ∷ l) r e = absurd cc
close_brace_sound (lexeme.Ratio n ∷ l) r e = absurd cc
close_brace_sound (lexeme.Blob b ∷ l) r e = absurd cc
close_brace_sound (lexeme.Uuid u ∷ l) r e = absurd cc
close_brace_sound (lexeme.Mark m ∷ l) r e = absurd cc
close_brace_sound (lexeme.OpenBracket at ∷ l) r e = absurd cc
close_brace_sound (lexeme.CloseBracket at ∷ l) r e = absurd cc
close_brace_sound (lexeme.OpenBrace at ∷ l) r e = absurd cc
close_brace_sound (lexeme.CloseBrace at ∷ l) r e = (at, ap (λ (x : List Lexeme). lexeme.CloseBrace at ∷ x) (some_is l r e))

pub close_brace_full : (l r : List Lexeme) → close_brace l r → after_close_brace l ≡ Some r
unfolding after_close_brace
close_brace_full l r h = ap after_close_brace h.1

pub open_bracket_sound : (l r : List Lexeme) → after_open_bracket l ≡ Some r → open_bracket l r
unfolding after_open_bracket
open_bracket_sound [] r e = absurd cc
open_bracket_sound (lexeme.Word text ∷ l) r e = absurd cc
open_bracket_sound (lexeme.Quoted text ∷ l) r e = absurd cc
open_bracket_sound (lexeme.Text text ∷ l) r e = absurd cc
open_bracket_sound (lexeme.Number n ∷ l) r e = absurd cc
open_bracket_sound (lexeme.Ratio n ∷ l) r e = absurd cc
open_bracket_sound (lexeme.Blob b ∷ l) r e = absurd cc
open_bracket_sound (lexeme.Uuid u ∷ l) r e = absurd cc
open_bracket_sound (lexeme.Mark m ∷ l) r e = absurd cc
open_bracket_sound (lexeme.OpenBracket at ∷ l) r e = (at, ap (λ (x : List Lexeme). lexeme.OpenBracket at ∷ x) (some_is l r e))
open_bracket_sound (lexeme.CloseBracket at ∷ l) r e = absurd cc
open_bracket_sound (lexeme.OpenBrace at ∷ l) r e = absurd cc
open_bracket_sound (lexeme.CloseBrace at ∷ l) r e = absurd cc

pub open_bracket_full : (l r : List Lexeme) → open_bracket l r → after_open_bracket l ≡ Some r
unfolding after_open_bracket
open_bracket_full l r h = ap after_open_bracket h.1

pub close_bracket_sound : (l r : List Lexeme) → after_close_bracket l ≡ Some r → close_bracket l r
unfolding after_close_bracket
close_bracket_sound [] r e = absurd cc
close_bracket_sound (lexeme.Word text ∷ l) r e = absurd cc
close_bracket_sound (lexeme.Quoted text ∷ l) r e = absurd cc
close_bracket_sound (lexeme.Text text ∷ l) r e = absurd cc
close_bracket_sound (lexeme.Number n ∷ l) r e = absurd cc
close_bracket_sound (lexeme.Ratio n ∷ l) r e = absurd cc
close_bracket_sound (lexeme.Blob b ∷ l) r e = absurd cc
close_bracket_sound (lexeme.Uuid u ∷ l) r e = absurd cc
close_bracket_sound (lexeme.Mark m ∷ l) r e = absurd cc
close_bracket_sound (lexeme.OpenBracket at ∷ l) r e = absurd cc
close_bracket_sound (lexeme.CloseBracket at ∷ l) r e = (at, ap (λ (x : List Lexeme). lexeme.CloseBracket at ∷ x) (some_is l r e))
close_bracket_sound (lexeme.OpenBrace at ∷ l) r e = absurd cc
close_bracket_sound (lexeme.CloseBrace at ∷ l) r e = absurd cc

pub close_bracket_full : (l r : List Lexeme) → close_bracket l r → after_close_bracket l ≡ Some r
unfolding after_close_bracket
close_bracket_full l r h = ap after_close_bracket h.1

pub close_brace_at_sound : (l r : List Lexeme) (u : Unit {0}) → close_brace_at l ≡ Some (u, r) → close_brace l r
close_brace_at_sound l r u e = close_brace_sound l r (unpass _ u r e)

pub close_brace_at_full : (l r : List Lexeme) → close_brace l r → close_brace_at l ≡ Some (tt, r)
close_brace_at_full l r h = pass _ r (close_brace_full l r h)

pub close_bracket_at_sound : (l r : List Lexeme) (u : Unit {0}) → close_bracket_at l ≡ Some (u, r) → close_bracket l r
close_bracket_at_sound l r u e = close_bracket_sound l r (unpass _ u r e)

pub close_bracket_at_full : (l r : List Lexeme) → close_bracket l r → close_bracket_at l ≡ Some (tt, r)
close_bracket_at_full l r h = pass _ r (close_bracket_full l r h)

-- ---- names, numbers, blobs

named : (b : Bool) (text n : List ℕ) (l r : List Lexeme) → cond {A = Option (List ℕ × List Lexeme)} b None (Some (text, l)) ≡ Some (n, r) → (b ≡ false) × (text ≡ n) × (l ≡ r)
named true text n l r e = absurd cc
named false text n l r e = let s = same text n l r e in (refl, s.value, s.rest)

name_sound : (l r : List Lexeme) (n : List ℕ) → name_at l ≡ Some (n, r) → IsName n l r
unfolding name_at
name_sound [] r n e = absurd cc
name_sound (lexeme.Word text ∷ l) r n e =
    let t = named (is_reserved text) text n l r e in
    inl (rw (t.1, t.2) refl, ap is_reserved (sym t.1) ∙ t.0)
name_sound (lexeme.Quoted text ∷ l) r n e = inr (phrase_at (λ x. one (lexeme.Quoted x)) text n (lexeme.Quoted text ∷ l) l r e refl)
name_sound (lexeme.Text text ∷ l) r n e = absurd cc
name_sound (lexeme.Number x ∷ l) r n e = absurd cc
name_sound (lexeme.Ratio x ∷ l) r n e = absurd cc
name_sound (lexeme.Blob b ∷ l) r n e = absurd cc
name_sound (lexeme.Uuid u ∷ l) r n e = absurd cc
name_sound (lexeme.Mark m ∷ l) r n e = absurd cc
name_sound (lexeme.OpenBracket at ∷ l) r n e = absurd cc
name_sound (lexeme.CloseBracket at ∷ l) r n e = absurd cc
name_sound (lexeme.OpenBrace at ∷ l) r n e = absurd cc
name_sound (lexeme.CloseBrace at ∷ l) r n e = absurd cc

name_full : (l r : List Lexeme) (n : List ℕ) → IsName n l r → Anything r → name_at l ≡ Some (n, r)
unfolding name_at
name_full l r n (inl h) a = ap name_at h.0 ∙ rw h.1 refl
name_full l r n (inr h) a = ap name_at h

pub name_agrees : Agrees name_at IsName Anything
name_agrees = record { sound = name_sound; full = name_full }

pub name_shrinks : Shrinks IsName
name_shrinks n l r (inl h) = omega (arith, ap length h.0)
name_shrinks n l r (inr h) = omega (arith, ap length h)

-- a name is no reserved word
pub no_word : (k : Keyword) (n : List ℕ) (l r : List Lexeme) → is_reserved (spelling k) ≡ true → IsName n l r → after_word k l ≡ None
unfolding after_word
no_word k n l r w (inl h) = ap (after_word k) h.0 ∙ no_match (bytes_eq n (spelling k)) refl where
  no_match : (b : Bool) → bytes_eq n (spelling k) ≡ b → cond b (Some r) None ≡ None
  no_match true e = let same : n ≡ spelling k = (bytes_eq-Decides n (spelling k)).0 e in let c : is_reserved n ≡ true = ap is_reserved same ∙ w in absurd cc
  no_match false e = refl
no_word k n l r w (inr h) = ap (after_word k) h

pub no_mark : (m : Mark) (n : List ℕ) (l r : List Lexeme) → IsName n l r → after_mark m l ≡ None
unfolding after_mark
no_mark m n l r (inl h) = ap (after_mark m) h.0
no_mark m n l r (inr h) = ap (after_mark m) h

pub word_no_mark : (m : Mark) (k : Keyword) (l r : List Lexeme) → keyword k l r → after_mark m l ≡ None
unfolding after_mark
word_no_mark m k l r h = ap (after_mark m) h

number_sound : (l r : List Lexeme) (n : ℤ) → whole_number_at l ≡ Some (n, r) → IsNumber n l r
unfolding whole_number_at
number_sound [] r n e = absurd cc
number_sound (lexeme.Number x ∷ l) r n e = phrase_at IsNumber x n (lexeme.Number x ∷ l) l r e refl
number_sound (lexeme.Word text ∷ l) r n e = absurd cc
number_sound (lexeme.Quoted text ∷ l) r n e = absurd cc
number_sound (lexeme.Text text ∷ l) r n e = absurd cc
number_sound (lexeme.Ratio x ∷ l) r n e = absurd cc
number_sound (lexeme.Blob b ∷ l) r n e = absurd cc
number_sound (lexeme.Uuid u ∷ l) r n e = absurd cc
number_sound (lexeme.Mark m ∷ l) r n e = absurd cc
number_sound (lexeme.OpenBracket at ∷ l) r n e = absurd cc
number_sound (lexeme.CloseBracket at ∷ l) r n e = absurd cc
number_sound (lexeme.OpenBrace at ∷ l) r n e = absurd cc
number_sound (lexeme.CloseBrace at ∷ l) r n e = absurd cc

number_full : (l r : List Lexeme) (n : ℤ) → IsNumber n l r → Anything r → whole_number_at l ≡ Some (n, r)
unfolding whole_number_at
number_full l r n h a = ap whole_number_at h

pub number_agrees : Agrees whole_number_at IsNumber Anything
number_agrees = record { sound = number_sound; full = number_full }

blob_sound : (l r : List Lexeme) (n : List ℕ) → blob_at l ≡ Some (n, r) → IsBlob n l r
unfolding blob_at
blob_sound [] r n e = absurd cc
blob_sound (lexeme.Blob x ∷ l) r n e = phrase_at IsBlob x n (lexeme.Blob x ∷ l) l r e refl
blob_sound (lexeme.Word text ∷ l) r n e = absurd cc
blob_sound (lexeme.Quoted text ∷ l) r n e = absurd cc
blob_sound (lexeme.Text text ∷ l) r n e = absurd cc
blob_sound (lexeme.Number x ∷ l) r n e = absurd cc
blob_sound (lexeme.Ratio x ∷ l) r n e = absurd cc
blob_sound (lexeme.Uuid u ∷ l) r n e = absurd cc
blob_sound (lexeme.Mark m ∷ l) r n e = absurd cc
blob_sound (lexeme.OpenBracket at ∷ l) r n e = absurd cc
blob_sound (lexeme.CloseBracket at ∷ l) r n e = absurd cc
blob_sound (lexeme.OpenBrace at ∷ l) r n e = absurd cc
blob_sound (lexeme.CloseBrace at ∷ l) r n e = absurd cc

blob_full : (l r : List Lexeme) (n : List ℕ) → IsBlob n l r → Anything r → blob_at l ≡ Some (n, r)
unfolding blob_at
blob_full l r n h a = ap blob_at h

pub blob_agrees : Agrees blob_at IsBlob Anything
blob_agrees = record { sound = blob_sound; full = blob_full }
