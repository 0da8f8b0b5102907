-- The word that a text begins with, letter by letter.
use Rattle.std.proofs.Common.{◌≡◌, ◌≢◌, ℕ, suc, ◌+◌, ◌<◌, ◌≤◌, Bool, true, false, cond, List, [], ◌∷◌, ◌++◌, length, map, get_or, set, take, drop, Some, None, refl, sym, ap, ◌∙◌, subst, arith, ◌&&◌, eqb, ◌||◌}
use Rattle.std.specs.List.{range_with_len, list_all}
use Rattle.std.specs.Char.{is_ascii_alphabetic, to_ascii_lowercase}
use Rattle.std.proofs.lemmas.Bool.{false≢true}
use Rattle.std.proofs.lemmas.Bool.Decides.{nat_tests}
use Rattle.std.proofs.lemmas.List.{drop_more, drop_all, length-map, length-set, length-take-le}
use Rattle.std.proofs.lemmas.List.FromFn.{get_or-map-range_with_len}
use Rattle.cql_lex.specs.Characters.{is_word, first_is, word_size}
use Rattle.cql_lex.specs.Constants.{is_name, name_value}
use Rattle.cql_lex.specs.Names.{IsNameAt}
use Rattle.cql_lex.specs.Rules.{piece_at, token, begins_uuid}
use Rattle.cql_lex.specs.Inner.Fronts.{folded}
use Rattle.cql_lex.specs.declared.names.TheConstants.{FOLDED, IN_PLACE}
use Rattle.cql_lex.specs.declared.token.TokenKind.TheVariants as kind
use Rattle.cql_lex.proofs.Firsts.{letter_piece}
use Rattle.cql_lex.proofs.Fronts.{all_front}
use Rattle.cql_lex.proofs.Sizes.{words_within}
use Rattle.cql_lex.proofs.Spelled.{one_lowered}

table_is : FOLDED ≡ map folded (range_with_len 0 256)
table_is = refl

pub folded_is : (c : ℕ) → c < 256 → get_or FOLDED c 0 ≡ folded c
folded_is c h = ap (λ t. get_or t c 0) table_is ∙ get_or-map-range_with_len folded 0 256 c c 0 h (omega arith)

-- what is not folded to 0 is of a word
folds : (c : ℕ) → folded c ≢ 0 → (is_word c ≡ true) × (folded c ≡ to_ascii_lowercase c)
folds c h = by (is_word c) refl h
  where
    by : (b : Bool) → is_word c ≡ b → (cond b (to_ascii_lowercase c) 0 ≢ 0) → (is_word c ≡ true) × (folded c ≡ to_ascii_lowercase c)
    by true e n = (e, ap (λ b. cond b (to_ascii_lowercase c) 0) e)
    by false e n = absurd (n refl)

positive : (c : ℕ) → is_word c ≡ true → to_ascii_lowercase c ≢ 0
positive c e = grind (arith, nat_tests)

-- and what is folded to 0 isn't
ends : (c : ℕ) → folded c ≡ 0 → is_word c ≡ false
ends c h = by (is_word c) refl h
  where
    by : (b : Bool) → is_word c ≡ b → cond b (to_ascii_lowercase c) 0 ≡ 0 → is_word c ≡ false
    by true e z = absurd (positive c e z)
    by false e z = e

-- a front of the text, of this size, is of the word that the text begins with, and these are its letters as small ones
pub record Front (text places : List ℕ) (at : ℕ) : Type 0 where
  pub long : length places ≡ IN_PLACE
  pub within : at ≤ length text
  pub word : at + word_size (drop at text) ≡ word_size text
  pub small : take at places ≡ map to_ascii_lowercase (take at text)

first_word : (c : ℕ) (cs : List ℕ) → is_word c ≡ true → word_size (c ∷ cs) ≡ 1 + word_size cs
first_word c cs e = ap (λ b. cond b (1 + word_size cs) 0) e

no_word : (c : ℕ) (cs : List ℕ) → is_word c ≡ false → word_size (c ∷ cs) ≡ 0
no_word c cs e = ap (λ b. cond b (1 + word_size cs) 0) e

pub front_begins : (text places : List ℕ) → length places ≡ IN_PLACE → Front text places 0
front_begins text places h = let all : 0 + word_size text ≡ word_size text = omega arith in record { long = h; within = omega arith; word = all; small = refl }

pub front_more : (text places next : List ℕ) (at n c : ℕ) → Front text places at → n ≡ at + 1 → at < IN_PLACE → at < length text → c ≡ folded (get_or text at 0) → c ≢ 0 → next ≡ set places at c → Front text next n
front_more text places next at n c f e here within is some now =
    let letter = folds (get_or text at 0) (λ z. some (is ∙ z)) in
    let rest : word_size (drop at text) ≡ 1 + word_size (drop (at + 1) text) = ap word_size (drop_more text at 0 within) ∙ first_word (get_or text at 0) (drop (at + 1) text) letter.0 in
    let size : word_size (drop (at + 1) text) ≡ word_size (drop n text) = ap (λ k. word_size (drop k text)) (sym e) in
    let before = f.word in
    record {
      long = ap length now ∙ length-set places at c ∙ f.long;
      within = omega arith;
      word = omega arith;
      small = ap (take n) now ∙ one_lowered text places at n c e (omega (arith, f.long)) within (is ∙ letter.1) f.small;
    }

lowered : (text places : List ℕ) (at : ℕ) → Front text places at → at ≡ word_size text → take at places ≡ map to_ascii_lowercase (take (word_size text) text)
lowered text places at f e = f.small ∙ ap (λ n. map to_ascii_lowercase (take n text)) e

-- the word ends where the text does
pub ends_with : (text places : List ℕ) (at : ℕ) → Front text places at → length text ≤ at → take at places ≡ map to_ascii_lowercase (take (word_size text) text)
ends_with text places at f h =
    let none : word_size (drop at text) ≡ 0 = ap word_size (drop_all at text h) in
    let all = f.word in
    lowered text places at f (omega arith)

-- or before what is of no word
pub ends_before : (text places : List ℕ) (at c : ℕ) → Front text places at → at < length text → c ≡ folded (get_or text at 0) → c ≡ 0 → take at places ≡ map to_ascii_lowercase (take (word_size text) text)
ends_before text places at c f h is z =
    let none : word_size (drop at text) ≡ 0 = ap word_size (drop_more text at 0 h) ∙ no_word (get_or text at 0) (drop (at + 1) text) (ends (get_or text at 0) (sym is ∙ z)) in
    let all = f.word in
    lowered text places at f (omega arith)

letter_is_word : (c : ℕ) → is_ascii_alphabetic c ≡ true → is_word c ≡ true
letter_is_word c e = grind (arith, nat_tests)

-- the word that a text with a letter first begins with is a name
pub begins_name : (text : List ℕ) → first_is is_ascii_alphabetic text ≡ true → is_name (take (word_size text) text) ≡ true
begins_name [] e = absurd (false≢true e)
begins_name (c ∷ cs) e =
    let first = first_word c cs (letter_is_word c e) in
    let more : word_size (c ∷ cs) ≡ suc (word_size cs) = omega arith in
    let passes = all_front is_word (word_size (c ∷ cs)) (c ∷ cs) (omega arith) in
    let begun : first_is is_ascii_alphabetic (take (word_size (c ∷ cs)) (c ∷ cs)) ≡ true = ap (λ n. first_is is_ascii_alphabetic (take n (c ∷ cs))) more ∙ e in
    ap (λ b. b && list_all is_word (take (word_size (c ∷ cs)) (c ∷ cs))) begun ∙ passes

pub is_name_at : (text name : List ℕ) → begins_uuid text ≡ false → first_is is_ascii_alphabetic text ≡ true → name ≡ map to_ascii_lowercase (take (word_size text) text) → IsNameAt text name
is_name_at text name u e is =
    let size : length name ≡ word_size text = ap length is ∙ length-map (take (word_size text) text) to_ascii_lowercase ∙ length-take-le (word_size text) text (words_within text) in
    record {
      piece = letter_piece text u e ∙ ap (λ n. Some (token kind.Name n)) (sym size);
      value = ap (λ n. name_value (take n text)) size ∙ ap (λ b. cond b (Some (map to_ascii_lowercase (take (word_size text) text))) None) (begins_name text e) ∙ ap (λ t. Some t) (sym is);
    }
