-- What stands at the front of a text, told by its first characters.
use Rattle.std.proofs.Common.{◌≡◌, ℕ, zero, suc, ◌+◌, ◌-◌, ◌<◌, ◌≤◌, ◌==◌, ◌&&◌, ◌||◌, not, nat_lt, nat_le, Bool, true, false, cond, List, [], ◌∷◌, ◌++◌, length, take, drop, get_or, Option, None, Some, refl, sym, subst, ap, ◌∙◌, arith, inl, inr}
use Rattle.std.specs.Prelude.{is_some, option_map, IsTrue}
use Rattle.std.specs.List.{list_all, prefix_len}
use Rattle.std.specs.Char.{is_ascii_digit, is_ascii_alphabetic, is_ascii_hexdigit}
use Rattle.std.proofs.lemmas.Bool.{cases_lt, and_parts}
use Rattle.std.proofs.lemmas.Bool.Decides.{nat_tests}
use Rattle.std.proofs.lemmas.List.{get_or-take, get_or_past}
use Rattle.std.proofs.Math.Seq.{take-append_seam, drop-append_seam}
use Rattle.uuid.specs.Text.{hex_digit_value, hyphen_place, digits_of, has_hyphens, parsed_simple}
use Rattle.uuid.proofs.TextLemmas.{by_index_length, by_index_at, simple_none}
use Rattle.cql_lex.specs.Characters.{is_word, first_is, begins_pair, word_size, digits_size}
use Rattle.cql_lex.specs.Gaps.{gap_size}
use Rattle.cql_lex.specs.Constants.{uuid_value, begins_blob}
use Rattle.cql_lex.specs.Numbers.{unsigned, number_value}
use Rattle.cql_lex.specs.Rules.{piece_at, token_at, token, begins_uuid, begins_number, whole_size, fraction_size, number_of_sizes, number_at, symbol, symbol_at, single_at}
use Rattle.cql_lex.specs.declared.token.Mark.{Mark}
use Rattle.cql_lex.specs.declared.token.TokenKind.{TokenKind}
use Rattle.cql_lex.specs.declared.token.TokenKind.TheVariants as kind

and_false : (b : Bool) → (b && false) ≡ false
and_false true = refl
and_false false = refl

-- ---- what may follow a printed constant

pub data Ending : Type 0 where
  nothing : Ending
  comma : Ending
  colon : Ending
  bracket : Ending
  brace : Ending

abbrev pub after : Ending → List ℕ → List ℕ
after nothing s = []
after comma s = 44 ∷ s
after colon s = 58 ∷ s
after bracket s = 93 ∷ s
after brace s = 125 ∷ s

pub no_word_after : (e : Ending) (s : List ℕ) → first_is is_word (after e s) ≡ false
no_word_after nothing s = refl
no_word_after comma s = refl
no_word_after colon s = refl
no_word_after bracket s = refl
no_word_after brace s = refl

pub word_ends : (e : Ending) (s : List ℕ) → prefix_len is_word (after e s) ≡ 0
word_ends nothing s = refl
word_ends comma s = refl
word_ends colon s = refl
word_ends bracket s = refl
word_ends brace s = refl

pub digits_end : (e : Ending) (s : List ℕ) → prefix_len is_ascii_digit (after e s) ≡ 0
digits_end nothing s = refl
digits_end comma s = refl
digits_end colon s = refl
digits_end bracket s = refl
digits_end brace s = refl

pub hex_ends : (e : Ending) (s : List ℕ) → prefix_len is_ascii_hexdigit (after e s) ≡ 0
hex_ends nothing s = refl
hex_ends comma s = refl
hex_ends colon s = refl
hex_ends bracket s = refl
hex_ends brace s = refl

other_fraction : (c : ℕ) (s : List ℕ) → (c == 46) ≡ false → fraction_size (c ∷ s) ≡ 0
other_fraction c [] e = refl
other_fraction c (d ∷ s) e = rw e refl

pub no_fraction : (e : Ending) (s : List ℕ) → fraction_size (after e s) ≡ 0
no_fraction nothing s = refl
no_fraction comma s = other_fraction 44 s refl
no_fraction colon s = other_fraction 58 s refl
no_fraction bracket s = other_fraction 93 s refl
no_fraction brace s = other_fraction 125 s refl

-- the first place after a constant has neither a hexadecimal digit nor a hyphen
pub no_hex_after : (e : Ending) (s : List ℕ) → hex_digit_value (get_or (after e s) 0 0) ≡ None
no_hex_after nothing s = refl
no_hex_after comma s = refl
no_hex_after colon s = refl
no_hex_after bracket s = refl
no_hex_after brace s = refl

pub no_hyphen_after : (e : Ending) (s : List ℕ) → (get_or (after e s) 0 0 == 45) ≡ false
no_hyphen_after nothing s = refl
no_hyphen_after comma s = refl
no_hyphen_after colon s = refl
no_hyphen_after bracket s = refl
no_hyphen_after brace s = refl

pub no_x_after : (c : ℕ) (e : Ending) (s : List ℕ) → (begins_pair 48 120 (c ∷ after e s) || begins_pair 48 88 (c ∷ after e s)) ≡ false
no_x_after c nothing s = refl
no_x_after c comma s = rw (and_false (c == 48)) refl
no_x_after c colon s = rw (and_false (c == 48)) refl
no_x_after c bracket s = rw (and_false (c == 48)) refl
no_x_after c brace s = rw (and_false (c == 48)) refl

-- ---- pairs and gaps

pub other_pair : (a b c : ℕ) (cs : List ℕ) → (c == a) ≡ false → begins_pair a b (c ∷ cs) ≡ false
other_pair a b c [] e = refl
other_pair a b c (d ∷ cs) e = rw e refl

pub second_other : (a b c d : ℕ) (cs : List ℕ) → (d == b) ≡ false → begins_pair a b (c ∷ d ∷ cs) ≡ false
second_other a b c d cs e = rw (e, and_false (c == a)) refl

-- neither a blank nor the beginning of a comment
pub no_gap : (c : ℕ) (cs : List ℕ) → ((c == 32) || (c == 9)) ≡ false → (c == 45) ≡ false → (c == 47) ≡ false → gap_size (c ∷ cs) ≡ None
no_gap c cs b m s = rw (b, other_pair 45 45 c cs m, other_pair 47 47 c cs s, other_pair 47 42 c cs s) refl

pub token_found : (text : List ℕ) (k : TokenKind) (n : ℕ) → gap_size text ≡ None → token_at text ≡ Some (token k n) → piece_at text ≡ Some (token k n)
unfolding piece_at
token_found text k n g t = rw (g, t) refl

-- ---- uuids

none_anyway : {X : Type 0} (b : Bool) (o : Option X) → o ≡ None → cond b o None ≡ None
none_anyway true o e = e
none_anyway false o e = refl

pub no_uuid_at : (s : List ℕ) (i : ℕ) → i < 32 → hex_digit_value (get_or s (hyphen_place i) 0) ≡ None → uuid_value s ≡ None
no_uuid_at s i lt e =
    let here : get_or (digits_of s) i 0 ≡ get_or s (hyphen_place i) 0 = by_index_at 32 (λ j. get_or s (hyphen_place j) 0) i 0 lt in
    let long : length (digits_of s) ≡ 32 = by_index_length 32 _ in
    let simple : None ≡ parsed_simple (digits_of s) = simple_none (digits_of s) i (omega arith) (ap hex_digit_value here ∙ e) in
    none_anyway _ _ (sym simple)

pub no_uuid_hyphen : (s : List ℕ) → (get_or s 8 0 == 45) ≡ false → uuid_value s ≡ None
no_uuid_hyphen s e = rw (e, and_false (length s == 36)) refl

pub no_uuid : (text : List ℕ) → uuid_value (take 36 text) ≡ None → begins_uuid text ≡ false
no_uuid text e = rw e refl

-- by a character among the first eight, and by the ninth
pub no_uuid_before : (text : List ℕ) (i : ℕ) → i < 8 → hex_digit_value (get_or text i 0) ≡ None → begins_uuid text ≡ false
no_uuid_before text i lt e =
    let place : hyphen_place i ≡ i = grind (arith, nat_tests) in
    no_uuid text (no_uuid_at (take 36 text) i (omega arith) (rw (place, get_or-take 36 text i 0 (omega arith)) e))

pub no_uuid_ninth : (text : List ℕ) → (get_or text 8 0 == 45) ≡ false → begins_uuid text ≡ false
no_uuid_ninth text e = no_uuid text (no_uuid_hyphen (take 36 text) (rw (get_or-take 36 text 8 0 (omega arith)) e))

-- ---- marks

pub mark_piece : (c : ℕ) (m : Mark) (s : List ℕ) → ((c == 32) || (c == 9)) ≡ false → (c == 45) ≡ false → (c == 47) ≡ false → hex_digit_value c ≡ None → (c == 48) ≡ false
    → is_ascii_digit c ≡ false → is_ascii_alphabetic c ≡ false → (c == 34) ≡ false → (c == 39) ≡ false → (c == 60) ≡ false → (c == 62) ≡ false → symbol c ≡ Some m
    → piece_at (c ∷ s) ≡ Some (token (kind.Mark m) 1)
unfolding token_at
mark_piece c m s blank minus slash hex nul digit letter name string less greater is =
    token_found (c ∷ s) (kind.Mark m) 1 (no_gap c s blank minus slash)
    (rw (is, no_uuid_before (c ∷ s) 0 (omega arith) hex, other_pair 48 120 c s nul, other_pair 48 88 c s nul, minus, digit, letter, name, string, other_pair 60 61 c s less, other_pair 62 61 c s greater) refl)

-- ---- names

-- the digits, letters or whatever at the front are all counted, where what follows is none
pub counted : {X : Type 0} (p : X → Bool) (xs ys : List X) → list_all p xs ≡ true → prefix_len p ys ≡ 0 → prefix_len p (xs ++ ys) ≡ length xs
counted p [] ys all none = none
counted p (x ∷ xs) ys all none =
    let parts = and_parts (p x) (list_all p xs) all in
    rw (parts.0, counted p xs ys parts.1 none) (omega arith)

-- a name, of which a character among the first eight isn't hexadecimal
pub name_piece : (c : ℕ) (cs : List ℕ) (i : ℕ) (e : Ending) (s : List ℕ) → is_ascii_alphabetic c ≡ true → list_all is_word (c ∷ cs) ≡ true → i < 8
    → hex_digit_value (get_or (c ∷ cs ++ after e s) i 0) ≡ None → piece_at (c ∷ cs ++ after e s) ≡ Some (token kind.Name (length (c ∷ cs)))
unfolding token_at
name_piece c cs i e s letter words lt hex =
    let blank : ((c == 32) || (c == 9)) ≡ false = grind (arith, nat_tests) in
    let minus : (c == 45) ≡ false = grind (arith, nat_tests) in
    let slash : (c == 47) ≡ false = grind (arith, nat_tests) in
    let nul : (c == 48) ≡ false = grind (arith, nat_tests) in
    let digit : is_ascii_digit c ≡ false = grind (arith, nat_tests) in
    let size : word_size (c ∷ cs ++ after e s) ≡ length (c ∷ cs) = counted is_word (c ∷ cs) (after e s) words (word_ends e s) in
    token_found (c ∷ cs ++ after e s) kind.Name (length (c ∷ cs)) (no_gap c (cs ++ after e s) blank minus slash)
    (rw (size, no_uuid_before (c ∷ cs ++ after e s) i lt hex, other_pair 48 120 c (cs ++ after e s) nul, other_pair 48 88 c (cs ++ after e s) nul, minus, digit, letter) refl)

-- ---- numbers

-- digits, and what follows them, are no uuid
at_digits : (n : ℕ) (ds : List ℕ) (e : Ending) (s : List ℕ) → list_all is_ascii_digit ds ≡ true → n ≤ length ds → (get_or (ds ++ after e s) n 0 == 45) ≡ false
at_digits zero [] e s all le = no_hyphen_after e s
at_digits (suc n) [] e s all le = absurd (omega arith)
at_digits zero (d ∷ ds) e s all le = let digit = (and_parts (is_ascii_digit d) (list_all is_ascii_digit ds) all).0 in grind (arith, nat_tests)
at_digits (suc n) (d ∷ ds) e s all le = at_digits n ds e s (and_parts (is_ascii_digit d) (list_all is_ascii_digit ds) all).1 (omega arith)

past_digits : (ds : List ℕ) (e : Ending) (s : List ℕ) → hex_digit_value (get_or (ds ++ after e s) (length ds) 0) ≡ None
past_digits [] e s = no_hex_after e s
past_digits (d ∷ ds) e s = past_digits ds e s

digits_no_uuid : (ds : List ℕ) (e : Ending) (s : List ℕ) → list_all is_ascii_digit ds ≡ true → begins_uuid (ds ++ after e s) ≡ false
digits_no_uuid ds e s all =
    elim (cases_lt (length ds) 8) [
      | inl lt ↦ no_uuid_before (ds ++ after e s) (length ds) lt (past_digits ds e s)
      | inr le ↦ no_uuid_ninth (ds ++ after e s) (at_digits 8 ds e s all le)
    ]

digits_no_blob : (d : ℕ) (ds : List ℕ) (e : Ending) (s : List ℕ) → list_all is_ascii_digit ds ≡ true → begins_blob (d ∷ ds ++ after e s) ≡ false
digits_no_blob d [] e s all = no_x_after d e s
digits_no_blob d (c ∷ ds) e s all =
    let digit = (and_parts (is_ascii_digit c) (list_all is_ascii_digit ds) all).0 in
    let small : (c == 120) ≡ false = grind (arith, nat_tests) in
    let large : (c == 88) ≡ false = grind (arith, nat_tests) in
    rw (second_other 48 120 d c (ds ++ after e s) small, second_other 48 88 d c (ds ++ after e s) large) refl

sized : (text : List ℕ) (whole fraction : ℕ) → fraction ≡ 0 → first_is is_word (drop whole text) ≡ false → is_some (number_value (take whole text)) ≡ true
    → number_of_sizes text whole fraction ≡ Some (token kind.Number whole)
sized text whole fraction none apart number =
    let sum : whole + fraction ≡ whole = omega arith in
    let tested : nat_lt 0 fraction ≡ false = grind (arith, nat_tests) in
    rw (sum, apart, tested, number) refl

measured : (text : List ℕ) (n : ℕ) → whole_size text ≡ n → fraction_size (drop n text) ≡ 0 → first_is is_word (drop n text) ≡ false → is_some (number_value (take n text)) ≡ true
    → number_at text ≡ Some (token kind.Number n)
measured text n e none apart number = ap (λ m. number_of_sizes text m (fraction_size (drop m text))) e ∙ sized text n (fraction_size (drop n text)) none apart number

-- what follows a number, and the number's own text
split : (x : List ℕ) (e : Ending) (s : List ℕ) → whole_size (x ++ after e s) ≡ length x → is_some (number_value x) ≡ true → number_at (x ++ after e s) ≡ Some (token kind.Number (length x))
split x e s whole number =
    let rest = drop-append_seam x (after e s) in
    measured (x ++ after e s) (length x) whole (ap fraction_size rest ∙ no_fraction e s) (ap (first_is is_word) rest ∙ no_word_after e s)
    (ap (λ t. is_some (number_value t)) (take-append_seam x (after e s)) ∙ number)

pub digits_piece : (d : ℕ) (ds : List ℕ) (e : Ending) (s : List ℕ) → list_all is_ascii_digit (d ∷ ds) ≡ true → is_some (number_value (d ∷ ds)) ≡ true
    → piece_at (d ∷ ds ++ after e s) ≡ Some (token kind.Number (length (d ∷ ds)))
unfolding token_at
digits_piece d ds e s all number =
    let parts = and_parts (is_ascii_digit d) (list_all is_ascii_digit ds) all in
    let digit = parts.0 in
    let blank : ((d == 32) || (d == 9)) ≡ false = grind (arith, nat_tests) in
    let minus : (d == 45) ≡ false = grind (arith, nat_tests) in
    let slash : (d == 47) ≡ false = grind (arith, nat_tests) in
    let size : digits_size (d ∷ ds ++ after e s) ≡ length (d ∷ ds) = counted is_ascii_digit (d ∷ ds) (after e s) all (digits_end e s) in
    let whole : whole_size (d ∷ ds ++ after e s) ≡ length (d ∷ ds) = rw (minus, size) (omega arith) in
    let is = split (d ∷ ds) e s whole number in
    token_found (d ∷ ds ++ after e s) kind.Number (length (d ∷ ds)) (no_gap d (ds ++ after e s) blank minus slash)
    (rw (is, digits_no_uuid (d ∷ ds) e s all, digits_no_blob d ds e s parts.1, minus, digit) refl)

pub signed_piece : (d : ℕ) (ds : List ℕ) (e : Ending) (s : List ℕ) → list_all is_ascii_digit (d ∷ ds) ≡ true → is_some (number_value (45 ∷ d ∷ ds)) ≡ true
    → piece_at (45 ∷ d ∷ ds ++ after e s) ≡ Some (token kind.Number (length (45 ∷ d ∷ ds)))
unfolding token_at
signed_piece d ds e s all number =
    let digit = (and_parts (is_ascii_digit d) (list_all is_ascii_digit ds) all).0 in
    let minus : (d == 45) ≡ false = grind (arith, nat_tests) in
    let none : gap_size (45 ∷ d ∷ ds ++ after e s) ≡ None = rw minus refl in
    let size : digits_size (d ∷ ds ++ after e s) ≡ length (d ∷ ds) = counted is_ascii_digit (d ∷ ds) (after e s) all (digits_end e s) in
    let whole : whole_size (45 ∷ d ∷ ds ++ after e s) ≡ length (45 ∷ d ∷ ds) = rw size (omega arith) in
    let is = split (45 ∷ d ∷ ds) e s whole number in
    token_found (45 ∷ d ∷ ds ++ after e s) kind.Number (length (45 ∷ d ∷ ds)) none
    (rw (is, no_uuid_before (45 ∷ d ∷ ds ++ after e s) 0 (omega arith) refl, digit) refl)
