-- Each token of a line is a lexeme.
use Rattle.std.proofs.Common.{◌≡◌, ℕ, ◌≤◌, nat_le, true, List, [], ◌∷◌, length, Option, None, Some, refl, arith}
use Rattle.std.specs.Prelude.{IsTrue, is_some, option_map, option_and_then}
use Rattle.std.proofs.lemmas.Bool.Decides.{nat_tests}
use Rattle.cql_lex.specs.Laws.{Ascend, HasForm, HaveForms, text_of}
use Rattle.cql_lex.specs.declared.token.Token.{Token}
use Rattle.cql_lex.specs.declared.token.TokenKind.{TokenKind}
use Rattle.cql_lex.specs.declared.token.TokenKind.TheVariants as kind
use Rattle.cql_lex.proofs.Spans.{well_placed}
use Rattle.cql_phrases.specs.Lexemes.{lexeme_of, lexeme_at, lexemes_of, TokensHaveLexemes}

mapped : {A B : Type 0} (f : A → B) (o : Option A) → IsTrue (is_some o) → IsTrue (is_some (option_map f o))
mapped f None h = h
mapped f (Some x) h = h

pub of_kind : (k : TokenKind) (start end : ℕ) (text : List ℕ) → HasForm k text → IsTrue (is_some (lexeme_of k start end text))
unfolding lexeme_of
of_kind kind.Uuid start end text h = mapped _ _ h
of_kind kind.Blob start end text h = mapped _ _ h
of_kind kind.Number start end text h = mapped _ _ h
of_kind kind.Ratio start end text h = mapped _ _ (mapped _ _ h)
of_kind kind.Name start end text h = mapped _ _ h
of_kind kind.QuotedName start end text h = mapped _ _ h
of_kind kind.String start end text h = mapped _ _ h
of_kind (kind.Mark m) start end text h = refl

of_token : (source : List ℕ) (t : Token) → t.start ≤ t.end → t.end ≤ length source → HasForm t.kind (text_of source t) → IsTrue (is_some (lexeme_at source t))
unfolding lexeme_at
of_token source t a b h =
    let first : nat_le t.start t.end ≡ true = grind (arith, nat_tests) in
    let second : nat_le t.end (length source) ≡ true = grind (arith, nat_tests) in
    rw (first, second) (of_kind t.kind t.start t.end (text_of source t) h)

ends_after : (from end : ℕ) (ts : List Token) → Ascend from ts end → from ≤ end
ends_after from end [] a = a
ends_after from end (t ∷ ts) a = omega (arith, a.0, a.1, ends_after t.end end ts a.2)

both : {A B C : Type 0} (f : A → B → C) (o : Option A) (p : Option B) → IsTrue (is_some o) → IsTrue (is_some p) → IsTrue (is_some (option_and_then (λ x. option_map (f x) p) o))
both f None p h g = absurd cc
both f (Some x) p h g = mapped (f x) p g

of_tokens : (source : List ℕ) (from : ℕ) (ts : List Token) → Ascend from ts (length source) → HaveForms source ts → IsTrue (is_some (lexemes_of source ts))
unfolding lexemes_of
of_tokens source from [] a h = refl
of_tokens source from (t ∷ ts) a h =
    both (λ x xs. x ∷ xs) (lexeme_at source t) (lexemes_of source ts)
    (of_token source t (omega (arith, a.1)) (ends_after t.end (length source) ts a.2) h.0)
    (of_tokens source t.end ts a.2 h.1)

pub tokens_have_lexemes : TokensHaveLexemes
tokens_have_lexemes source tokens u lexes = let p = well_placed source tokens u lexes in of_tokens source 0 tokens p.spans p.forms
