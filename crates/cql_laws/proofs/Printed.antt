-- A printed constant is one token, which is the constant.
use Rattle.std.proofs.Common.{◌≡◌, ℕ, zero, suc, ◌+◌, ◌-◌, ◌*◌, ◌/◌, ◌^◌, ◌<◌, ◌≤◌, ◌==◌, ◌&&◌, ◌||◌, eqb, nat_lt, nat_le, Bool, true, false, cond, List, [], ◌∷◌, ◌++◌, length, take, drop, get_or, flat_map, fold, Option, None, Some, Ok, refl, sym, subst, ap, ◌∙◌, arith, inl, inr, codes, All}
use Rattle.std.specs.Prelude.{is_some, option_map, ℤ, pos, negsuc, unsigned_abs}
use Rattle.std.specs.Fmt.{decimal, signed_decimal}
use Rattle.std.specs.List.{list_all, prefix_len}
use Rattle.std.specs.Result.{result_ok}
use Rattle.std.specs.Str.{is_utf8}
use Rattle.std.specs.Char.{is_ascii_digit, is_ascii_alphabetic, is_ascii_hexdigit}
use Rattle.std.proofs.lemmas.Bool.{cases_lt, and_parts, leb-true, le-leb}
use Rattle.std.proofs.lemmas.Bool.Decides.{nat_tests}
use Rattle.std.proofs.lemmas.List.{get_or_past}
use Rattle.std.proofs.lemmas.List.Sums.{list_all-from_AllPass}
use Rattle.std.proofs.lemmas.Fmt.{digits_decimal, digits_value-decimal, decimal_nonempty}
use Rattle.std.proofs.lemmas.Str.Parse.{IsDigitsTest, FoldsDigits, IsNumeralModel, numerals_by_fold}
use Rattle.std.proofs.Math.Seq.{take-append_seam, drop-append_seam}
use Rattle.hex.specs.Hex.{encode_lower, decode_of, is_hex_digit, IsBytes, lower_digits}
use Rattle.hex.proofs.HexLemmas.{decode_of-encode_lower, decode_of-ok, length-encode_with}
use Rattle.uuid.specs.Text.{hyphenated_text, lower, hex_digit, nibble, digit_place, is_hyphen_place, IsLetter, parsed_hyphenated}
use Rattle.uuid.proofs.TextLemmas.{by_index_length, by_index_at, nibble_small}
use Rattle.uuid.proofs.RoundTrips.{parses_hyphenated_text}
use Rattle.cql_lex.specs.Characters.{is_word, first_is, hex_pairs_size}
use Rattle.cql_lex.specs.Gaps.{gap_size}
use Rattle.cql_lex.specs.Constants.{uuid_value, blob_value, name_value}
use Rattle.cql_lex.specs.Numbers.{decimal_value, number_value}
use Rattle.cql_lex.specs.Quotes.{doubled, in_quotes, closing_size, quoted_value, quoted_text, string_quote}
use Rattle.cql_lex.specs.Rules.{piece_at, token_at, token, begins_uuid}
use Rattle.cql_lex.specs.declared.token.TokenKind.{TokenKind}
use Rattle.cql_lex.specs.declared.token.TokenKind.TheVariants as kind
use Rattle.cql_lex.proofs.RoundTrip.{quotes_round_trip}
use Rattle.cql_lex.proofs.Fronts.{all_weaker}
use Rattle.cql_phrases.specs.declared.lexeme.Lexeme.{Lexeme}
use Rattle.cql_phrases.specs.declared.lexeme.Lexeme.TheVariants as lexeme
use Rattle.cql_phrases.specs.declared.term.Constant.{Constant}
use Rattle.cql_phrases.specs.declared.term.Constant.TheVariants as constant
use Rattle.cql_phrases.specs.Phrases.{IsConstant}
use Rattle.cql_phrases.specs.Lexemes.{lexeme_of}
use Rattle.cql_phrases.specs.Symbols.{spelling}
use Rattle.cql_laws.proofs.Fronts.{Ending, after, nothing, comma, colon, bracket, brace, no_word_after, hex_ends, other_pair, no_gap, token_found, no_uuid_before, counted, name_piece, digits_piece, signed_piece}

-- the text is the constant's, whatever follows a constant
pub record Printed (text : List ℕ) (c : Constant) : Type 0 where
  pub kind : TokenKind
  pub lexeme : Lexeme
  pub piece : (e : Ending) (s : List ℕ) → piece_at (text ++ after e s) ≡ Some (token kind (length text))
  pub means : (start end : ℕ) → lexeme_of kind start end text ≡ Some lexeme
  pub grammar : (r : List Lexeme) → IsConstant c (lexeme ∷ r) r

pub as_cons : (xs : List ℕ) → 0 < length xs → (x : ℕ) × (ys : List ℕ) × (xs ≡ x ∷ ys)
as_cons [] h = absurd (omega arith)
as_cons (x ∷ xs) h = (x, xs, refl)

-- ---- booleans

pub printed_true : Printed (codes "true") (constant.Boolean true)
unfolding lexeme_of spelling
printed_true = record {
  kind = kind.Name;
  lexeme = lexeme.Word (codes "true");
  piece = λ e s. name_piece 116 (codes "rue") 0 e s refl refl (omega arith) refl;
  means = λ start end. refl;
  grammar = λ r. refl;
}

pub printed_false : Printed (codes "false") (constant.Boolean false)
unfolding lexeme_of spelling
printed_false = record {
  kind = kind.Name;
  lexeme = lexeme.Word (codes "false");
  piece = λ e s. name_piece 102 (codes "alse") 2 e s refl refl (omega arith) refl;
  means = λ start end. refl;
  grammar = λ r. refl;
}

-- ---- numbers

digits_test : IsDigitsTest (λ ds. list_all is_ascii_digit ds ≡ true)
digits_test = record {
  empty = refl;
  parts = λ c cs e. let k = and_parts (is_ascii_digit c) (list_all is_ascii_digit cs) e in let m = and_parts (nat_le 48 c) (nat_le c 57) k.0 in ((leb-true 48 c m.0, leb-true c 57 m.1), k.1);
  more = λ c cs k e i. (le-leb 48 c k.0 i && le-leb c 57 k.1 i) && e i;
}

folds : FoldsDigits (λ n ds. fold (λ m c. m * 10 + (c - 48)) n ds)
folds = record { empty = λ n. refl; more = λ n c cs r. refl }

model : IsNumeralModel (λ ds. list_all is_ascii_digit ds ≡ true) decimal_value
model = numerals_by_fold (λ ds. list_all is_ascii_digit ds ≡ true) digits_test (λ n ds. fold (λ m c. m * 10 + (c - 48)) n ds) folds

record Digits (m : ℕ) : Type 0 where
  first : ℕ
  others : List ℕ
  are : decimal m ≡ first ∷ others
  all : list_all is_ascii_digit (first ∷ others) ≡ true
  value : decimal_value (first ∷ others) ≡ m

digits_of : (m : ℕ) → m < 2 ^ 64 → Digits m
digits_of m h =
    let c = as_cons (decimal m) (decimal_nonempty m h) in
    record {
      first = c.0;
      others = c.1;
      are = c.2;
      all = subst (λ ds. list_all is_ascii_digit ds ≡ true) c.2 (digits_decimal model m h);
      value = subst (λ ds. decimal_value ds ≡ m) c.2 (digits_value-decimal model m h);
    }

plain_value : (m : ℕ) → m < 2 ^ 64 → (d : Digits m) → number_value (d.first ∷ d.others) ≡ Some (pos m)
plain_value m h d =
    let digit = (and_parts (is_ascii_digit d.first) (list_all is_ascii_digit d.others) d.all).0 in
    let minus : (d.first == 45) ≡ false = grind (arith, nat_tests) in
    let some : nat_lt 0 (length (d.first ∷ d.others)) ≡ true = grind (arith, nat_tests) in
    let small : nat_lt m (2 ^ 127) ≡ true = grind (arith, nat_tests) in
    rw (minus, some, d.all, d.value, small) refl

signed_value : (m : ℕ) → suc m < 2 ^ 64 → (d : Digits (suc m)) → number_value (45 ∷ d.first ∷ d.others) ≡ Some (negsuc m)
signed_value m h d =
    let some : nat_lt 0 (length (d.first ∷ d.others)) ≡ true = grind (arith, nat_tests) in
    let small : nat_le (suc m) (2 ^ 127) ≡ true = grind (arith, nat_tests) in
    rw (some, d.all, d.value, small) refl

some_is : {X : Type 0} (o : Option X) (x : X) → o ≡ Some x → is_some o ≡ true
some_is o x e = rw e refl

pub printed_number : (n : ℤ) → unsigned_abs n < 2 ^ 64 → Printed (signed_decimal n) (constant.Number n)
unfolding lexeme_of
printed_number (pos m) h =
    let d = digits_of m h in
    let value = plain_value m h d in
    subst (λ text. Printed text (constant.Number (pos m))) (sym d.are) (record {
      kind = kind.Number;
      lexeme = lexeme.Number (pos m);
      piece = λ e s. digits_piece d.first d.others e s d.all (some_is _ _ value);
      means = λ start end. ap (option_map lexeme.Number) value;
      grammar = λ r. refl;
    })
printed_number (negsuc m) h =
    let d = digits_of (suc m) h in
    let value = signed_value m h d in
    subst (λ ds. Printed (45 ∷ ds) (constant.Number (negsuc m))) (sym d.are) (record {
      kind = kind.Number;
      lexeme = lexeme.Number (negsuc m);
      piece = λ e s. signed_piece d.first d.others e s d.all (some_is _ _ value);
      means = λ start end. ap (option_map lexeme.Number) value;
      grammar = λ r. refl;
    })

-- ---- texts

other_closing : (c : ℕ) (cs : List ℕ) → (c == 39) ≡ false → closing_size 39 (c ∷ cs) ≡ option_map (λ n. 1 + n) (closing_size 39 cs)
other_closing c [] e = rw e refl
other_closing c (d ∷ cs) e = rw e refl

abbrev closing : List ℕ → List ℕ
closing v = flat_map (doubled 39) v ++ 39 ∷ []

no_quote_after : (e : Ending) (s : List ℕ) → closing_size 39 (39 ∷ after e s) ≡ Some 1
no_quote_after nothing s = refl
no_quote_after comma s = refl
no_quote_after colon s = refl
no_quote_after bracket s = refl
no_quote_after brace s = refl

closes : (v : List ℕ) (e : Ending) (s : List ℕ) → closing_size 39 (closing v ++ after e s) ≡ Some (length (closing v))
closes [] e s = no_quote_after e s
closes (c ∷ cs) e s = by (eqb c 39) refl (closes cs e s)
  where
    by : (b : Bool) → eqb c 39 ≡ b → closing_size 39 (closing cs ++ after e s) ≡ Some (length (closing cs))
        → closing_size 39 (((cond b (c ∷ c ∷ []) (c ∷ []) ++ flat_map (doubled 39) cs) ++ 39 ∷ []) ++ after e s) ≡ Some (length ((cond b (c ∷ c ∷ []) (c ∷ []) ++ flat_map (doubled 39) cs) ++ 39 ∷ []))
    by true t h = rw (t, h) (ap Some (omega arith))
    by false t h = other_closing c (closing cs ++ after e s) t ∙ rw h (ap Some (omega arith))

pub printed_text : (v : List ℕ) → is_utf8 v ≡ true → Printed (in_quotes 39 v) (constant.Text v)
unfolding lexeme_of token_at
printed_text v utf8 =
    let read : quoted_value 39 (in_quotes 39 v) ≡ Some v = (quotes_round_trip 39 (in_quotes 39 v) v).1 refl in
    let text : quoted_text string_quote (in_quotes 39 v) ≡ Some v = rw (read, utf8) refl in
    record {
      kind = kind.String;
      lexeme = lexeme.Text v;
      piece = λ e s.
          let t = closing v ++ after e s in
          token_found (39 ∷ t) kind.String (length (in_quotes 39 v)) (no_gap 39 t refl refl refl)
          (rw (no_uuid_before (39 ∷ t) 0 (omega arith) refl, other_pair 48 120 39 t refl, closes v e s) (ap (λ n. Some (token kind.String n)) (omega arith)));
      means = λ start end. ap (option_map lexeme.Text) text;
      grammar = λ r. refl;
    }

-- ---- blobs

ascii_hex : (c : ℕ) → is_hex_digit c ≡ true → is_ascii_hexdigit c ≡ true
ascii_hex c e = grind (arith, nat_tests)

pub printed_blob : (v : List ℕ) → IsBytes v → Printed (48 ∷ 120 ∷ encode_lower v) (constant.Blob v)
unfolding lexeme_of token_at
printed_blob v bytes =
    let hex = encode_lower v in
    let read : decode_of hex ≡ Ok v = decode_of-encode_lower v bytes in
    let long : length hex ≡ 2 * length v = length-encode_with lower_digits v in
    let all : list_all is_ascii_hexdigit hex ≡ true = all_weaker is_hex_digit is_ascii_hexdigit ascii_hex hex (list_all-from_AllPass is_hex_digit hex (decode_of-ok hex v read).1) in
    record {
      kind = kind.Blob;
      lexeme = lexeme.Blob v;
      piece = λ e s.
          let t = hex ++ after e s in
          let size : prefix_len is_ascii_hexdigit t ≡ length hex = counted is_ascii_hexdigit hex (after e s) all (hex_ends e s) in
          let pairs : 2 * (prefix_len is_ascii_hexdigit t / 2) ≡ length hex = rw (size, long) (omega arith) in
          token_found (48 ∷ 120 ∷ t) kind.Blob (length (48 ∷ 120 ∷ hex)) (no_gap 48 (120 ∷ t) refl refl refl)
          (rw (no_uuid_before (48 ∷ 120 ∷ t) 1 (omega arith) refl, pairs) (ap (λ n. Some (token kind.Blob n)) (omega arith)));
      means = λ start end. ap (λ r. option_map lexeme.Blob (result_ok r)) read;
      grammar = λ r. refl;
    }

-- ---- uuids

take_exactly : (x rest : List ℕ) (n : ℕ) → length x ≡ n → take n (x ++ rest) ≡ x
take_exactly x rest n e = ap (λ k. take k (x ++ rest)) (sym e) ∙ take-append_seam x rest

drop_exactly : (x rest : List ℕ) (n : ℕ) → length x ≡ n → drop n (x ++ rest) ≡ rest
drop_exactly x rest n e = ap (λ k. drop k (x ++ rest)) (sym e) ∙ drop-append_seam x rest

digit_low : (d : ℕ) → d < 16 → (47 < hex_digit 97 d) × (hex_digit 97 d < 128)
digit_low d h = grind (arith, nat_tests)

pub printed_uuid : (v : List ℕ) → length v ≡ 16 → All (λ b. b < 256) v → Printed (hyphenated_text lower v) (constant.Uuid v)
unfolding lexeme_of token_at
printed_uuid v size bytes =
    let text = hyphenated_text lower v in
    let long : length text ≡ 36 = by_index_length 36 _ in
    let read : uuid_value text ≡ Some v = sym (parses_hyphenated_text lower v (inl refl) size bytes) in
    let c = as_cons text (omega arith) in
    let first : get_or text 0 0 ≡ hex_digit 97 (nibble v 0) = by_index_at 36 (λ k. cond (is_hyphen_place k) 45 (hex_digit 97 (nibble v (digit_place k)))) 0 0 (omega arith) in
    let low = digit_low (nibble v 0) (nibble_small v 0) in
    let same : c.0 ≡ hex_digit 97 (nibble v 0) = ap (λ xs. get_or xs 0 0) (sym c.2) ∙ first in
    let blank : ((c.0 == 32) || (c.0 == 9)) ≡ false = rw same (grind (arith, nat_tests, low.0)) in
    let minus : (c.0 == 45) ≡ false = rw same (grind (arith, nat_tests, low.0)) in
    let slash : (c.0 == 47) ≡ false = rw same (grind (arith, nat_tests, low.0)) in
    record {
      kind = kind.Uuid;
      lexeme = lexeme.Uuid v;
      piece = λ e s.
          let none : gap_size (text ++ after e s) ≡ None = subst (λ xs. gap_size (xs ++ after e s) ≡ None) (sym c.2) (no_gap c.0 (c.1 ++ after e s) blank minus slash) in
          let begins : begins_uuid (text ++ after e s) ≡ true = rw (take_exactly text (after e s) 36 long, drop_exactly text (after e s) 36 long, read, no_word_after e s) refl in
          token_found (text ++ after e s) kind.Uuid (length text) none (rw begins (ap (λ n. Some (token kind.Uuid n)) (sym long)));
      means = λ start end. ap (option_map lexeme.Uuid) read;
      grammar = λ r. refl;
    }
