-- A text is scanned piece by piece, with its lexemes.
use Rattle.std.proofs.Common.{◌≡◌, ℕ, ◌+◌, ◌-◌, ◌≤◌, ◌&&◌, nat_le, true, false, List, [], ◌∷◌, ◌++◌, length, take, drop, Option, None, Some, refl, sym, subst, ap, ◌∙◌, arith, length-append, append_assoc}
use Rattle.std.proofs.lemmas.Bool.Decides.{nat_tests}
use Rattle.std.proofs.Math.Seq.{take-append_seam, drop-append_seam}
use Rattle.cql_lex.specs.Rules.{piece_at, token, gap}
use Rattle.cql_lex.specs.declared.token.Token.{Token}
use Rattle.cql_lex.specs.declared.token.TokenKind.{TokenKind}
use Rattle.cql_lex.proofs.Scans.{Cut, cut_end, cut_token, cut_gap}
use Rattle.cql_phrases.specs.declared.lexeme.Lexeme.{Lexeme}
use Rattle.cql_phrases.specs.Lexemes.{lexeme_of, lexeme_at, lexemes_of}

-- behind this front the text has these lexemes
pub record Scanned (front text : List ℕ) (lexemes : List Lexeme) : Type 0 where
  pub tokens : List Token
  pub cut : Cut text (length front) tokens
  pub found : lexemes_of (front ++ text) tokens ≡ Some lexemes

pub scan_end : (front : List ℕ) → Scanned front [] []
unfolding lexemes_of
scan_end front = record { tokens = []; cut = cut_end (length front); found = refl }

-- the span of a piece behind a front
span_is : (front x rest : List ℕ) → take ((length front + length x) - length front) (drop (length front) (front ++ (x ++ rest))) ≡ x
span_is front x rest =
    let n : (length front + length x) - length front ≡ length x = omega arith in
    (λ i. take (n i) (drop-append_seam front (x ++ rest) i)) ∙ take-append_seam x rest

one_token : (front x rest : List ℕ) (k : TokenKind) (y : Lexeme) → lexeme_of k (length front) (length front + length x) x ≡ Some y
    → lexeme_at (front ++ (x ++ rest)) (record { kind = k; start = length front; end = length front + length x }) ≡ Some y
unfolding lexeme_at
one_token front x rest k y e =
    let first : nat_le (length front) (length front + length x) ≡ true = grind (arith, nat_tests) in
    let long : length (front ++ (x ++ rest)) ≡ length front + (length x + length rest) = simp length-append refl in
    let second : nat_le (length front + length x) (length (front ++ (x ++ rest))) ≡ true = rw long (grind (arith, nat_tests)) in
    rw (first, second, span_is front x rest) e

pub scan_token : (front x rest : List ℕ) (k : TokenKind) (y : Lexeme) (ys : List Lexeme) → piece_at (x ++ rest) ≡ Some (token k (length x))
    → lexeme_of k (length front) (length front + length x) x ≡ Some y → Scanned (front ++ x) rest ys → Scanned front (x ++ rest) (y ∷ ys)
unfolding lexemes_of
scan_token front x rest k y ys p e h =
    let later : lexemes_of (front ++ (x ++ rest)) h.tokens ≡ Some ys = ap (λ s. lexemes_of s h.tokens) (sym (append_assoc front x rest)) ∙ h.found in
    record {
      tokens = record { kind = k; start = length front; end = length front + length x } ∷ h.tokens;
      cut = cut_token x rest (length front) k h.tokens p (subst (λ n. Cut rest n h.tokens) (length-append front x) h.cut);
      found = rw (one_token front x rest k y e, later) refl;
    }

pub scan_gap : (front x rest : List ℕ) (ys : List Lexeme) → piece_at (x ++ rest) ≡ Some (gap (length x)) → Scanned (front ++ x) rest ys → Scanned front (x ++ rest) ys
scan_gap front x rest ys p h = record {
  tokens = h.tokens;
  cut = cut_gap x rest (length front) h.tokens p (subst (λ n. Cut rest n h.tokens) (length-append front x) h.cut);
  found = ap (λ s. lexemes_of s h.tokens) (sym (append_assoc front x rest)) ∙ h.found;
}
