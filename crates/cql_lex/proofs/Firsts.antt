-- What a text can't begin as, by its first character.
use Rattle.std.proofs.Common.{◌≡◌, ℕ, Bool, true, false, cond, List, [], ◌∷◌, drop, Option, Some, None, refl, sym, ap, ◌∙◌, subst, arith, get_or, eqb, ◌&&◌, ◌||◌, ◌⊎◌, inl, inr, IfSome}
use Rattle.std.specs.Option.{option_map}
use Rattle.cql_lex.specs.declared.token.Mark.{Mark}
use Rattle.std.specs.Prelude.{is_some}
use Rattle.std.specs.Char.{is_ascii_digit, is_ascii_alphabetic}
use Rattle.std.proofs.lemmas.Bool.{false≢true}
use Rattle.std.proofs.lemmas.Bool.Decides.{nat_tests}
use Rattle.cql_lex.specs.Characters.{first_is, begins_pair, word_size, hex_pairs_size}
use Rattle.cql_lex.specs.Constants.{begins_blob}
use Rattle.cql_lex.specs.Gaps.{is_blank}
use Rattle.cql_lex.specs.Names.{IsPlainMarkAt, is_plain_mark}
use Rattle.cql_lex.specs.Numbers.{is_negative}
use Rattle.cql_lex.specs.Quotes.{name_quote, string_quote}
use Rattle.cql_lex.specs.Rules.{token_at, token, begins_uuid, begins_number, number_at, piece_at, quoted_at, symbol, symbol_at, single_at}
use Rattle.cql_lex.specs.Inner.Fronts.{is_plain}
use Rattle.cql_lex.specs.declared.piece.Piece.{Piece}
use Rattle.cql_lex.specs.declared.token.TokenKind.TheVariants as kind

-- no character but this one begins a pair with it
no_pair : (a b c : ℕ) (cs : List ℕ) → eqb c a ≡ false → begins_pair a b (c ∷ cs) ≡ false
no_pair a b c [] e = refl
no_pair a b c (d ∷ cs) e = ap (λ x. x && eqb d b) e

no_blob : (c : ℕ) (cs : List ℕ) → eqb c 48 ≡ false → begins_blob (c ∷ cs) ≡ false
no_blob c cs e = rw (no_pair 48 120 c cs e, no_pair 48 88 c cs e) refl

no_number : (c : ℕ) (cs : List ℕ) → eqb c 45 ≡ false → is_ascii_digit c ≡ false → begins_number (c ∷ cs) ≡ false
no_number c cs e d = ap (λ b. first_is is_ascii_digit (cond b cs (c ∷ cs))) e ∙ d

-- where the text begins neither as a blob nor as a number
past_numbers : (text : List ℕ) → begins_uuid text ≡ false → begins_blob text ≡ false → begins_number text ≡ false
    → token_at text ≡ cond (first_is is_ascii_alphabetic text) (Some (token kind.Name (word_size text)))
    (cond (first_is (λ c. eqb c name_quote) text) (quoted_at kind.QuotedName name_quote text)
    (cond (first_is (λ c. eqb c string_quote) text) (quoted_at kind.String string_quote text) (symbol_at text)))
unfolding token_at
past_numbers text u b n = rw (u, b, n) refl

letter_is : (c : ℕ) → is_ascii_alphabetic c ≡ true → (eqb c 48 ≡ false) × (eqb c 45 ≡ false) × (is_ascii_digit c ≡ false)
letter_is c e = (grind (arith, nat_tests), grind (arith, nat_tests), grind (arith, nat_tests))

-- a letter begins a name, where it begins no uuid
pub letter_first : (text : List ℕ) → begins_uuid text ≡ false → first_is is_ascii_alphabetic text ≡ true → token_at text ≡ Some (token kind.Name (word_size text))
letter_first [] u e = absurd (false≢true e)
letter_first (c ∷ cs) u e =
    let h = letter_is c e in
    past_numbers (c ∷ cs) u (no_blob c cs h.0) (no_number c cs h.1 h.2)
    ∙ ap (λ b. cond b (Some (token kind.Name (word_size (c ∷ cs)))) (cond (eqb c name_quote) (quoted_at kind.QuotedName name_quote (c ∷ cs)) (cond (eqb c string_quote) (quoted_at kind.String string_quote (c ∷ cs)) (symbol_at (c ∷ cs))))) e

record IsPlain (c : ℕ) : Type 0 where
  zero : eqb c 48 ≡ false
  minus : eqb c 45 ≡ false
  digit : is_ascii_digit c ≡ false
  letter : is_ascii_alphabetic c ≡ false
  double : eqb c name_quote ≡ false
  simple : eqb c string_quote ≡ false
  less : eqb c 60 ≡ false
  greater : eqb c 62 ≡ false

plain_is : (c : ℕ) → is_plain c ≡ true → IsPlain c
plain_is c e = record {
  zero = grind (arith, nat_tests);
  minus = grind (arith, nat_tests);
  digit = grind (arith, nat_tests);
  letter = grind (arith, nat_tests);
  double = grind (arith, nat_tests);
  simple = grind (arith, nat_tests);
  less = grind (arith, nat_tests);
  greater = grind (arith, nat_tests);
}

-- a plain mark is a token of one character
pub plain_first : (text : List ℕ) → begins_uuid text ≡ false → first_is is_plain text ≡ true → token_at text ≡ single_at text
plain_first [] u e = absurd (false≢true e)
plain_first (c ∷ cs) u e =
    let h = plain_is c e in
    past_numbers (c ∷ cs) u (no_blob c cs h.zero) (no_number c cs h.minus h.digit)
    ∙ rw (h.letter, h.double, h.simple, no_pair 60 61 c cs h.less, no_pair 62 61 c cs h.greater) refl

no_gap : (text : List ℕ) → first_is is_blank text ≡ false → begins_pair 45 45 text ≡ false → begins_pair 47 47 text ≡ false → begins_pair 47 42 text ≡ false → piece_at text ≡ token_at text
unfolding piece_at
no_gap text b x y z = rw (b, x, y, z) refl

letter_no_gap : (c : ℕ) → is_ascii_alphabetic c ≡ true → (is_blank c ≡ false) × (eqb c 45 ≡ false) × (eqb c 47 ≡ false)
letter_no_gap c e = (grind (arith, nat_tests), grind (arith, nat_tests), grind (arith, nat_tests))

-- a name, where the text begins with a letter and with no uuid
pub letter_piece : (text : List ℕ) → begins_uuid text ≡ false → first_is is_ascii_alphabetic text ≡ true → piece_at text ≡ Some (token kind.Name (word_size text))
letter_piece [] u e = absurd (false≢true e)
letter_piece (c ∷ cs) u e =
    let h = letter_no_gap c e in
    no_gap (c ∷ cs) h.0 (no_pair 45 45 c cs h.1) (no_pair 47 47 c cs h.2) (no_pair 47 42 c cs h.2) ∙ letter_first (c ∷ cs) u e

plain_no_gap : (c : ℕ) → is_plain c ≡ true → (is_blank c ≡ false) × (eqb c 45 ≡ false) × (eqb c 47 ≡ false)
plain_no_gap c e = (grind (arith, nat_tests), grind (arith, nat_tests), grind (arith, nat_tests))

plain_piece : (c : ℕ) (cs : List ℕ) → begins_uuid (c ∷ cs) ≡ false → is_plain c ≡ true → piece_at (c ∷ cs) ≡ option_map (λ m. token (kind.Mark m) 1) (symbol c)
plain_piece c cs u e =
    let h = plain_no_gap c e in
    no_gap (c ∷ cs) h.0 (no_pair 45 45 c cs h.1) (no_pair 47 47 c cs h.2) (no_pair 47 42 c cs h.2) ∙ plain_first (c ∷ cs) u e

five : (c : ℕ) → is_plain c ≡ true → (c ≡ 40) ⊎ (c ≡ 41) ⊎ (c ≡ 42) ⊎ (c ≡ 43) ⊎ (c ≡ 44)
five c e = grind (arith, nat_tests)

plain_symbol : (c : ℕ) → is_plain c ≡ true → IfSome (symbol c) (λ m. is_plain_mark m ≡ true)
plain_symbol c e =
    let P = λ (n : ℕ). IfSome (symbol n) (λ m. is_plain_mark m ≡ true) in
    elim (five c e) [
      | inl h ↦ subst P (sym h) refl
      | inr (inl h) ↦ subst P (sym h) refl
      | inr (inr (inl h)) ↦ subst P (sym h) refl
      | inr (inr (inr (inl h))) ↦ subst P (sym h) refl
      | inr (inr (inr (inr h))) ↦ subst P (sym h) refl
    ]

plain_mark : (text : List ℕ) (c : ℕ) (cs : List ℕ) (o : Option Mark) → text ≡ c ∷ cs → begins_uuid text ≡ false → first_is is_plain text ≡ true → o ≡ symbol c → IfSome o (λ m. IsPlainMarkAt text m)
plain_mark text c cs None e u p is = tt
plain_mark text c cs (Some m) e u p is =
    let uuid : begins_uuid (c ∷ cs) ≡ false = ap begins_uuid (sym e) ∙ u in
    let plain : is_plain c ≡ true = ap (first_is is_plain) (sym e) ∙ p in
    record {
      piece = ap piece_at e ∙ plain_piece c cs uuid plain ∙ ap (option_map (λ m. token (kind.Mark m) 1)) (sym is);
      plain = subst (λ o. IfSome o (λ m. is_plain_mark m ≡ true)) (sym is) (plain_symbol c plain);
    }

pub plain_mark_first : (text : List ℕ) (o : Option Mark) → begins_uuid text ≡ false → first_is is_plain text ≡ true → o ≡ symbol (get_or text 0 0) → IfSome o (λ m. IsPlainMarkAt text m)
plain_mark_first [] o u p is = absurd (false≢true p)
plain_mark_first (c ∷ cs) o u p is = plain_mark (c ∷ cs) c cs o refl u p is
