-- What the rules give is within the text, and is a token of its kind.
use Rattle.std.proofs.Common.{◌≡◌, ℕ, suc, ◌+◌, ◌-◌, ◌<◌, ◌≤◌, Bool, true, false, cond, not, List, [], ◌∷◌, ◌++◌, length, map, take, drop, Option, Some, None, refl, sym, ap, ◌∙◌, subst, arith, eqb, ltb, ◌&&◌, ◌||◌, IfSome, length-drop}
use Rattle.std.specs.Prelude.{is_some, IsUtf8}
use Rattle.std.specs.Option.{option_map, option_or}
use Rattle.std.specs.List.{list_all}
use Rattle.std.specs.Result.{result_ok}
use Rattle.std.specs.Char.{is_ascii_digit, is_ascii_alphabetic, to_ascii_lowercase}
use Rattle.std.proofs.lemmas.Bool.{false≢true, eqb-true, ltb-true, and_parts}
use Rattle.std.proofs.lemmas.Bool.Decides.{nat_tests}
use Rattle.std.proofs.lemmas.List.{length-take, drop-take, take-append-drop}
use Rattle.hex.specs.Hex.{decode_of}
use Rattle.cql_lex.specs.Characters.{is_word, first_is, begins_pair, word_size, digits_size, hex_pairs_size}
use Rattle.cql_lex.specs.Numbers.{unsigned, number_value, hundredths, ratio_digits, is_ratio}
use Rattle.cql_lex.specs.Quotes.{closing_size, closed, quoted_value, quoted_text, name_quote, string_quote}
use Rattle.cql_lex.specs.Constants.{uuid_value, begins_blob, blob_value, is_name}
use Rattle.cql_lex.specs.Gaps.{is_blank, gap_size, close_size}
use Rattle.cql_lex.specs.Rules.{piece_at, token_at, token, gap, begins_uuid, begins_number, whole_size, fraction_size, number_of_sizes, number_at, quoted_at, symbol, single_at, symbol_at}
use Rattle.cql_lex.specs.Laws.{HasForm, is_wordlike}
use Rattle.cql_lex.specs.declared.piece.Piece.{Piece}
use Rattle.cql_lex.specs.declared.token.TokenKind.{TokenKind}
use Rattle.cql_lex.specs.declared.token.TokenKind.TheVariants.{Uuid, Blob, Number, Ratio, Name, QuotedName, String}
use Rattle.cql_lex.specs.declared.token.TokenKind.TheVariants as kind
use Rattle.cql_lex.specs.declared.token.Mark.{Mark}
use Rattle.cql_lex.specs.declared.token.Mark.TheVariants as mark
use Rattle.cql_lex.proofs.Symbols.{IsSymbol, symbol_is}
use Rattle.std.proofs.lemmas.Option.{none-some}
use Rattle.cql_lex.proofs.Fronts.{all_front, pairs_decode, uuid_long, front_again, run_stops}
use Rattle.cql_lex.proofs.Longest.{IsPast, uuid_longest, name_longest, blob_longest, number_longest, ratio_longest, past_closing, quoted_longest}
use Rattle.cql_lex.proofs.Inner.{text_in_quotes, value_from_text}
use Rattle.cql_lex.proofs.Sizes.{IsWithin, whole_within, words_within, hex_within, fraction_within, closing_within, close_within}
use Rattle.cql_lex.proofs.Turns.{closed_other, closed_second}

pub record Good (text : List ℕ) (p : Piece) : Type 0 where
  pub positive : 0 < p.size
  pub within : p.size ≤ length text
  pub form : (before : List ℕ) → IsUtf8 (before ++ text) → (kind : TokenKind) → p.kind ≡ Some kind → HasForm kind (take p.size text)
  pub longest : (kind : TokenKind) → p.kind ≡ Some kind → (m : ℕ) → p.size < m → m ≤ length text → HasForm kind (take m text) → ⊥
  pub apart : (kind : TokenKind) → p.kind ≡ Some kind → is_wordlike kind ≡ true → first_is is_word (drop p.size text) ≡ false

abbrev Goods : List ℕ → Option Piece → Type 0
Goods text o = IfSome o (Good text)

choose : (text : List ℕ) (b : Bool) (x y : Option Piece) → (b ≡ true → Goods text x) → (b ≡ false → Goods text y) → Goods text (cond b x y)
choose text true x y f g = f refl
choose text false x y f g = g refl

same_kind : (a b : TokenKind) → Some a ≡ Some b → a ≡ b
same_kind a b e = cc

token_good : (kind : TokenKind) (size : ℕ) (text : List ℕ) → 0 < size → size ≤ length text → ((before : List ℕ) → IsUtf8 (before ++ text) → HasForm kind (take size text)) → ((m : ℕ) → size < m → m ≤ length text → HasForm kind (take m text) → ⊥) → (is_wordlike kind ≡ true → first_is is_word (drop size text) ≡ false) → Good text (token kind size)
token_good kind size text positive within form longest apart = record {
  positive = positive;
  within = within;
  form = λ before u k e. subst (λ k. HasForm k (take size text)) (same_kind kind k e) (form before u);
  longest = λ k e m h l f. longest m h l (subst (λ k. HasForm k (take m text)) (sym (same_kind kind k e)) f);
  apart = λ k e w. apart (ap is_wordlike (same_kind kind k e) ∙ w);
}

gap_good : (size : ℕ) (text : List ℕ) → 0 < size → size ≤ length text → Good text (gap size)
gap_good size text positive within = record {
  positive = positive;
  within = within;
  form = λ before u k e. cc;
  longest = λ k e m h l f. none-some k e;
  apart = λ k e w. cc;
}

not_true : (b : Bool) → not b ≡ true → b ≡ false
not_true true e = sym e
not_true false e = refl

-- a uuid
uuid_good : (text : List ℕ) → begins_uuid text ≡ true → Good text (token Uuid 36)
uuid_good text e =
    let parts = and_parts (is_some (uuid_value (take 36 text))) (not (first_is is_word (drop 36 text))) e in
    let long = uuid_long (take 36 text) parts.0 in
    token_good Uuid 36 text (omega arith) (omega (arith, length-take 36 text)) (λ _ _. parts.0) (uuid_longest text) (λ _. not_true (first_is is_word (drop 36 text)) parts.1)

-- a blob
blob_good : (text : List ℕ) → begins_blob text ≡ true → Good text (token Blob (2 + hex_pairs_size (drop 2 text)))
blob_good [] e = absurd (false≢true e)
blob_good (c ∷ []) e = absurd (false≢true e)
blob_good (c ∷ d ∷ cs) e =
    let h = hex_within cs in
    let two : 2 + hex_pairs_size cs ≡ suc (suc (hex_pairs_size cs)) = omega arith in
    let decodes : is_some (blob_value (c ∷ d ∷ take (hex_pairs_size cs) cs)) ≡ true =
    ap (λ b. is_some (cond b (result_ok (decode_of (take (hex_pairs_size cs) cs))) None)) e ∙ pairs_decode cs in
    token_good Blob (2 + hex_pairs_size cs) (c ∷ d ∷ cs) (omega arith) (omega arith) (λ _ _. ap (λ n. is_some (blob_value (take n (c ∷ d ∷ cs)))) two ∙ decodes) (blob_longest (c ∷ d ∷ cs)) (λ w. absurd (false≢true w))

-- a name
letter_is_word : (c : ℕ) → is_ascii_alphabetic c ≡ true → is_word c ≡ true
letter_is_word c e = grind (arith, nat_tests)

name_good : (text : List ℕ) → first_is is_ascii_alphabetic text ≡ true → Good text (token Name (word_size text))
name_good [] e = absurd (false≢true e)
name_good (c ∷ cs) e =
    let first : word_size (c ∷ cs) ≡ 1 + word_size cs = ap (λ b. cond b (1 + word_size cs) 0) (letter_is_word c e) in
    let more : word_size (c ∷ cs) ≡ suc (word_size cs) = omega arith in
    let passes = all_front is_word (word_size (c ∷ cs)) (c ∷ cs) (omega arith) in
    let begun : first_is is_ascii_alphabetic (take (word_size (c ∷ cs)) (c ∷ cs)) ≡ true = ap (λ n. first_is is_ascii_alphabetic (take n (c ∷ cs))) more ∙ e in
    let named : is_name (take (word_size (c ∷ cs)) (c ∷ cs)) ≡ true = ap (λ b. b && list_all is_word (take (word_size (c ∷ cs)) (c ∷ cs))) begun ∙ passes in
    token_good Name (word_size (c ∷ cs)) (c ∷ cs) (omega arith) (words_within (c ∷ cs)) (λ _ _. ap (λ b. is_some (cond b (Some (map to_ascii_lowercase (take (word_size (c ∷ cs)) (c ∷ cs)))) None)) named) (name_longest (c ∷ cs)) (λ _. run_stops is_word (c ∷ cs))

-- a text in quotes
some_map : {X Y : Type 0} (f : X → Y) (o : Option X) → is_some o ≡ true → is_some (option_map f o) ≡ true
some_map f None e = e
some_map f (Some x) e = refl

abbrev IsClosed : ℕ → List ℕ → Option ℕ → Type 0
IsClosed q text o = IfSome o (λ n. is_some (closed q (take n text)) ≡ true)

closed_two : (q c d : ℕ) (cs : List ℕ) (o : Option ℕ) → eqb c q ≡ true → eqb d q ≡ true → IsClosed q cs o → IsClosed q (c ∷ d ∷ cs) (option_map (λ n. 2 + n) o)
closed_two q c d cs None e f h = tt
closed_two q c d cs (Some n) e f h =
    let two : 2 + n ≡ suc (suc n) = omega arith in
    ap (λ k. is_some (closed q (take k (c ∷ d ∷ cs)))) two
    ∙ ap is_some (closed_second q c d (take n cs) e)
    ∙ ap (λ b. is_some (cond b (option_map (λ rest. c ∷ rest) (closed q (take n cs))) None)) f
    ∙ some_map (λ rest. c ∷ rest) (closed q (take n cs)) h

closed_one : (q c : ℕ) (cs : List ℕ) (o : Option ℕ) → eqb c q ≡ false → IsClosed q cs o → IsClosed q (c ∷ cs) (option_map (λ n. 1 + n) o)
closed_one q c cs None e h = tt
closed_one q c cs (Some n) e h =
    let one : 1 + n ≡ suc n = omega arith in
    ap (λ k. is_some (closed q (take k (c ∷ cs)))) one
    ∙ ap is_some (closed_other q c (take n cs) e)
    ∙ some_map (λ rest. c ∷ rest) (closed q (take n cs)) h

closed_here : (q c : ℕ) (cs : List ℕ) → eqb c q ≡ true → IsClosed q (c ∷ cs) (Some 1)
closed_here q c cs e = ap (λ b. is_some {T = List ℕ} (cond b (Some []) None)) e

closed_front : (q : ℕ) (text : List ℕ) → IsClosed q text (closing_size q text)
closed_front q [] = tt
closed_front q (c ∷ []) = by (eqb c q) refl
  where
    by : (b : Bool) → eqb c q ≡ b → IsClosed q (c ∷ []) (cond b (Some 1) None)
    by true e = closed_here q c [] e
    by false e = tt
closed_front q (c ∷ d ∷ cs) = by (eqb c q) (eqb d q) refl refl (closed_front q cs) (closed_front q (d ∷ cs))
  where
    by : (b t : Bool) → eqb c q ≡ b → eqb d q ≡ t → IsClosed q cs (closing_size q cs) → IsClosed q (d ∷ cs) (closing_size q (d ∷ cs)) → IsClosed q (c ∷ d ∷ cs) (cond b (cond t (option_map (λ n. 2 + n) (closing_size q cs)) (Some 1)) (option_map (λ n. 1 + n) (closing_size q (d ∷ cs))))
    by true true e f x y = closed_two q c d cs (closing_size q cs) e f x
    by true false e f x y = closed_here q c (d ∷ cs) e
    by false t e f x y = closed_one q c (d ∷ cs) (closing_size q (d ∷ cs)) e y

quoted_size : (q c : ℕ) (cs : List ℕ) (n : ℕ) → eqb c q ≡ true → is_some (closed q (take n cs)) ≡ true → is_some (quoted_value q (take (1 + n) (c ∷ cs))) ≡ true
quoted_size q c cs n e h =
    let one : 1 + n ≡ suc n = omega arith in
    ap (λ k. is_some (quoted_value q (take k (c ∷ cs)))) one ∙ ap (λ b. is_some (cond b (closed q (take n cs)) None)) e ∙ h

-- what a kind of text in quotes is
pub record IsQuoted (kind : TokenKind) (q : ℕ) : Type 0 where
  pub ascii : q < 128
  pub to : (text : List ℕ) → is_some (quoted_text q text) ≡ true → HasForm kind text
  pub from : (text : List ℕ) → HasForm kind text → is_some (quoted_text q text) ≡ true
  pub plain : is_wordlike kind ≡ false

quoted_by : (kind : TokenKind) (q c : ℕ) (cs : List ℕ) → IsQuoted kind q → eqb c q ≡ true → (o : Option ℕ) → IsWithin (length cs) o → IsClosed q cs o → IsPast q cs o → Goods (c ∷ cs) (option_map (λ n. token kind (1 + n)) o)
quoted_by kind q c cs is e None h x past = tt
quoted_by kind q c cs is e (Some n) h x past =
    let text = take (1 + n) (c ∷ cs) in
    token_good kind (1 + n) (c ∷ cs) (omega arith) (omega (arith, h.1))
    (λ before u. is.to text (text_in_quotes q is.ascii before text (drop (1 + n) (c ∷ cs)) (subst (λ t. IsUtf8 (before ++ t)) (sym (take-append-drop (1 + n) (c ∷ cs))) u) (quoted_size q c cs n e x)))
    (λ m more l f. quoted_longest q c cs n past m more l (value_from_text q (take m (c ∷ cs)) (is.from (take m (c ∷ cs)) f)))
    (λ w. absurd (false≢true (sym is.plain ∙ w)))

quoted_good : (kind : TokenKind) (q : ℕ) (text : List ℕ) → IsQuoted kind q → first_is (λ c. eqb c q) text ≡ true → Goods text (quoted_at kind q text)
quoted_good kind q [] is e = absurd (false≢true e)
quoted_good kind q (c ∷ cs) is e = quoted_by kind q c cs is e (closing_size q cs) (closing_within q cs) (closed_front q cs) (past_closing q cs)

names_quoted : IsQuoted QuotedName name_quote
names_quoted = record { ascii = omega arith; to = λ t h. h; from = λ t h. h; plain = refl }

strings_quoted : IsQuoted String string_quote
strings_quoted = record { ascii = omega arith; to = λ t h. h; from = λ t h. h; plain = refl }

-- a symbol
longer : (text : List ℕ) (m n : ℕ) → n < m → m ≤ length text → length (take m text) ≡ n → ⊥
longer text m n h l e = omega (arith, length-take m text)

pair_good : (kind : TokenKind) (a b : ℕ) (text : List ℕ) → ((text : List ℕ) → text ≡ a ∷ b ∷ [] → HasForm kind text) → ((text : List ℕ) → HasForm kind text → length text ≡ 2) → is_wordlike kind ≡ false → begins_pair a b text ≡ true → Good text (token kind 2)
pair_good kind a b [] form short plain e = absurd (false≢true e)
pair_good kind a b (c ∷ []) form short plain e = absurd (false≢true e)
pair_good kind a b (c ∷ d ∷ cs) form short plain e =
    let parts = and_parts (eqb c a) (eqb d b) e in
    token_good kind 2 (c ∷ d ∷ cs) (omega arith) (omega arith)
    (λ _ _. form (c ∷ d ∷ []) (λ i. eqb-true c a parts.0 i ∷ eqb-true d b parts.1 i ∷ []))
    (λ m h l f. longer (c ∷ d ∷ cs) m 2 h l (short (take m (c ∷ d ∷ cs)) f))
    (λ w. absurd (false≢true (sym plain ∙ w)))

single_by : (c : ℕ) (cs : List ℕ) (o : Option Mark) → IfSome o (IsSymbol c) → Goods (c ∷ cs) (option_map (λ m. token (kind.Mark m) 1) o)
single_by c cs None h = tt
single_by c cs (Some m) h =
    token_good (kind.Mark m) 1 (c ∷ cs) (omega arith) (omega arith)
    (λ _ _. h.form)
    (λ m more l f. longer (c ∷ cs) m 1 more l (h.short (take m (c ∷ cs)) f))
    (λ w. absurd (false≢true (sym h.plain ∙ w)))

single_good : (text : List ℕ) → Goods text (single_at text)
single_good [] = tt
single_good (c ∷ cs) = single_by c cs (symbol c) (symbol_is c)

symbol_good : (text : List ℕ) → Goods text (symbol_at text)
symbol_good text =
    choose text (begins_pair 60 61 text) _ _ (pair_good (kind.Mark mark.AtMost) 60 61 text (λ t e. e) (λ t h. ap length h) refl) (λ _.
    choose text (begins_pair 62 61 text) _ _ (pair_good (kind.Mark mark.AtLeast) 62 61 text (λ t e. e) (λ t h. ap length h) refl) (λ _. single_good text))

-- a blank or a comment
begun : (test : ℕ → Bool) (text : List ℕ) → first_is test text ≡ true → 0 < length text
begun test [] e = absurd (false≢true e)
begun test (c ∷ cs) e = omega arith

begun_pair : (a b : ℕ) (text : List ℕ) → begins_pair a b text ≡ true → 2 ≤ length text
begun_pair a b [] e = absurd (false≢true e)
begun_pair a b (c ∷ []) e = absurd (false≢true e)
begun_pair a b (c ∷ d ∷ cs) e = omega arith

either : (a b : Bool) {P : Type 0} → (a || b) ≡ true → (a ≡ true → P) → (b ≡ true → P) → P
either true b e f g = f refl
either false b e f g = g e

abbrev GapGood : List ℕ → Option ℕ → Type 0
GapGood text o = Goods text (option_map gap o)

choose_gap : (text : List ℕ) (b : Bool) (x y : Option ℕ) → (b ≡ true → GapGood text x) → (b ≡ false → GapGood text y) → GapGood text (cond b x y)
choose_gap text true x y f g = f refl
choose_gap text false x y f g = g refl

closed_gap : (text : List ℕ) (o : Option ℕ) → 2 ≤ length text → IsWithin (length (drop 2 text)) o → GapGood text (option_map (λ n. 2 + n) o)
closed_gap text None long h = tt
closed_gap text (Some n) long h = gap_good (2 + n) text (omega arith) (omega (arith, h.1, length-drop 2 text))

gaps_good : (text : List ℕ) → GapGood text (gap_size text)
gaps_good text =
    choose_gap text (first_is is_blank text) _ _ (λ e. let h = begun is_blank text e in gap_good 1 text (omega arith) (omega arith)) (λ _.
    choose_gap text (begins_pair 45 45 text || begins_pair 47 47 text) _ _ (λ e.
    let h : 2 ≤ length text = either (begins_pair 45 45 text) (begins_pair 47 47 text) e (begun_pair 45 45 text) (begun_pair 47 47 text) in
    gap_good (length text) text (omega arith) (omega arith)) (λ _.
    choose_gap text (begins_pair 47 42 text) _ _ (λ e. closed_gap text (close_size (drop 2 text)) (begun_pair 47 42 text e) (close_within (drop 2 text))) (λ _. tt)))

-- a number
no_fraction : (f : ℕ) → ltb 0 f ≡ false → f ≡ 0
no_fraction f e = grind (arith, nat_tests)

sizes_good : (text : List ℕ) (w f : ℕ) → 0 < w → w + f ≤ length text → (0 < f → is_ratio (take (w + f) text) ≡ true) → ((m : ℕ) → w + f < m → m ≤ length text → is_ratio (take m text) ≡ true → ⊥) → ((m : ℕ) → w < m → m ≤ length text → is_some (number_value (take m text)) ≡ true → ⊥) → Goods text (number_of_sizes text w f)
sizes_good text w f some within ratio no_ratio no_number =
    choose text (first_is is_word (drop (w + f) text)) _ _ (λ _. tt) (λ stops.
    choose text (ltb 0 f) _ _ (λ h. token_good Ratio (w + f) text (omega arith) within (λ _ _. ratio (ltb-true 0 f h)) no_ratio (λ _. stops)) (λ none.
    let bare : w + f ≡ w = let zero_f = no_fraction f none in omega arith in
    choose text (is_some (number_value (take w text))) _ _ (λ h. token_good Number w text some (omega arith) (λ _ _. h) no_number (λ _. ap (λ k. first_is is_word (drop k text)) (sym bare) ∙ stops)) (λ _. tt)))

two_some : (p d : ℕ) → (eqb p 46 && is_ascii_digit d) ≡ true → is_some (hundredths (p ∷ d ∷ [])) ≡ true
two_some p d e = ap (λ b. is_some (cond b (Some (d ∷ 48 ∷ [])) None)) e

three_some : (p d c : ℕ) → (eqb p 46 && is_ascii_digit d) ≡ true → is_ascii_digit c ≡ true → is_some (hundredths (p ∷ d ∷ c ∷ [])) ≡ true
three_some p d c e f =
    let parts = and_parts (eqb p 46) (is_ascii_digit d) e in
    (λ i. is_some (cond (parts.0 i && (parts.1 i && f i)) (Some (d ∷ c ∷ [])) None))

fraction_by : (p d : ℕ) (cs : List ℕ) (b : Bool) → (eqb p 46 && is_ascii_digit d) ≡ b → 0 < cond b (cond (first_is is_ascii_digit cs) 3 2) 0 → is_some (hundredths (take (cond b (cond (first_is is_ascii_digit cs) 3 2) 0) (p ∷ d ∷ cs))) ≡ true
fraction_by p d cs false e h = absurd (omega arith)
fraction_by p d [] true e h = two_some p d e
fraction_by p d (c ∷ cs) true e h = by (is_ascii_digit c) refl
  where
    by : (t : Bool) → is_ascii_digit c ≡ t → is_some (hundredths (take (cond t 3 2) (p ∷ d ∷ c ∷ cs))) ≡ true
    by true f = three_some p d c e f
    by false f = two_some p d e

fraction_some : (r : List ℕ) → 0 < fraction_size r → is_some (hundredths (take (fraction_size r) r)) ≡ true
fraction_some [] h = absurd (omega arith)
fraction_some (p ∷ []) h = absurd (omega arith)
fraction_some (p ∷ d ∷ cs) h = fraction_by p d cs (eqb p 46 && is_ascii_digit d) refl h

bare_ratio : (t : List ℕ) (f : ℕ) → 0 < digits_size t → f ≡ fraction_size (drop (digits_size t) t) → 0 < f → is_some (ratio_digits (take (digits_size t + f) t)) ≡ true
bare_ratio t f some size positive =
    let u = take (digits_size t + f) t in
    let again : digits_size u ≡ digits_size t = front_again is_ascii_digit f t in
    let rest : drop (digits_size u) u ≡ take f (drop (digits_size t) t) = ap (λ k. drop k u) again ∙ drop-take (digits_size t) f t in
    let read : is_some (hundredths (take f (drop (digits_size t) t))) ≡ true =
    ap (λ k. is_some (hundredths (take k (drop (digits_size t) t)))) size ∙ fraction_some (drop (digits_size t) t) (subst (λ k. 0 < k) size positive) in
    let digits : ltb 0 (digits_size u) ≡ true = ap (ltb 0) again ∙ positive_test (digits_size t) some in
    ap (λ b. is_some (cond b (option_map (λ after. take (digits_size u) u ++ after) (hundredths (drop (digits_size u) u))) None)) digits
    ∙ some_map (λ after. take (digits_size u) u ++ after) (hundredths (drop (digits_size u) u)) (ap (λ r. is_some (hundredths r)) rest ∙ read)
  where
    positive_test : (n : ℕ) → 0 < n → ltb 0 n ≡ true
    positive_test n h = grind (arith, nat_tests)

ratio_by : (c : ℕ) (cs : List ℕ) (b : Bool) → eqb c 45 ≡ b → (f : ℕ) → 0 < digits_size (cond b cs (c ∷ cs)) → f ≡ fraction_size (drop (cond b 1 0 + digits_size (cond b cs (c ∷ cs))) (c ∷ cs)) → 0 < f → is_ratio (take ((cond b 1 0 + digits_size (cond b cs (c ∷ cs))) + f) (c ∷ cs)) ≡ true
ratio_by c cs true e f some size positive =
    let one : 1 + digits_size cs ≡ suc (digits_size cs) = omega arith in
    let grown : (1 + digits_size cs) + f ≡ suc (digits_size cs + f) = omega arith in
    ap (λ k. is_ratio (take k (c ∷ cs))) grown
    ∙ ap (λ b. is_some (ratio_digits (cond b (take (digits_size cs + f) cs) (c ∷ take (digits_size cs + f) cs)))) e
    ∙ bare_ratio cs f some (size ∙ ap (λ k. fraction_size (drop k (c ∷ cs))) one) positive
ratio_by c cs false e f some size positive =
    let bare : 0 + digits_size (c ∷ cs) ≡ digits_size (c ∷ cs) = omega arith in
    let shown : (0 + digits_size (c ∷ cs)) + f ≡ suc ((digits_size (c ∷ cs) + f) - 1) = omega arith in
    let whole : suc ((digits_size (c ∷ cs) + f) - 1) ≡ digits_size (c ∷ cs) + f = omega arith in
    let rest = take ((digits_size (c ∷ cs) + f) - 1) cs in
    ap (λ k. is_ratio (take k (c ∷ cs))) shown
    ∙ ap (λ b. is_some (ratio_digits (cond b rest (c ∷ rest)))) e
    ∙ ap (λ k. is_some (ratio_digits (take k (c ∷ cs)))) whole
    ∙ bare_ratio (c ∷ cs) f some (size ∙ ap (λ k. fraction_size (drop k (c ∷ cs))) bare) positive

digits_some : (t : List ℕ) → first_is is_ascii_digit t ≡ true → 0 < digits_size t
digits_some [] e = absurd (false≢true e)
digits_some (c ∷ cs) e =
    let first : digits_size (c ∷ cs) ≡ 1 + digits_size cs = ap (λ b. cond b (1 + digits_size cs) 0) e in
    omega arith

number_good : (text : List ℕ) → begins_number text ≡ true → Goods text (number_at text)
number_good [] e = absurd (false≢true e)
number_good (c ∷ cs) e =
    let some = digits_some (unsigned (c ∷ cs)) e in
    let whole = whole_within (c ∷ cs) in
    let fraction = fraction_within (drop (whole_size (c ∷ cs)) (c ∷ cs)) in
    let room : whole_size (c ∷ cs) + fraction_size (drop (whole_size (c ∷ cs)) (c ∷ cs)) ≤ length (c ∷ cs) = omega (arith, length-drop (whole_size (c ∷ cs)) (c ∷ cs)) in
    sizes_good (c ∷ cs) (whole_size (c ∷ cs)) (fraction_size (drop (whole_size (c ∷ cs)) (c ∷ cs))) (omega arith) room (ratio_by c cs (eqb c 45) refl (fraction_size (drop (whole_size (c ∷ cs)) (c ∷ cs))) some refl) (ratio_longest (c ∷ cs)) (number_longest (c ∷ cs))

token_goods : (text : List ℕ) → Goods text (token_at text)
unfolding token_at
token_goods text =
    choose text (begins_uuid text) _ _ (uuid_good text) (λ _.
    choose text (begins_blob text) _ _ (blob_good text) (λ _.
    choose text (begins_number text) _ _ (number_good text) (λ _.
    choose text (first_is is_ascii_alphabetic text) _ _ (name_good text) (λ _.
    choose text (first_is (λ c. eqb c name_quote) text) _ _ (quoted_good QuotedName name_quote text names_quoted) (λ _.
    choose text (first_is (λ c. eqb c string_quote) text) _ _ (quoted_good String string_quote text strings_quoted) (λ _. symbol_good text))))))

first_or : (text : List ℕ) (x y : Option Piece) → Goods text x → Goods text y → Goods text (option_or x y)
first_or text None y f g = g
first_or text (Some p) y f g = f

pub piece_good : (text : List ℕ) → IfSome (piece_at text) (Good text)
unfolding piece_at
piece_good text = first_or text (option_map gap (gap_size text)) (token_at text) (gaps_good text) (token_goods text)

sized_by : (text : List ℕ) (o : Option Piece) → Goods text o → IfSome o (λ p. (0 < p.size) × (p.size ≤ length text))
sized_by text None h = tt
sized_by text (Some p) h = (h.positive, h.within)

pub token_sized : (text : List ℕ) (o : Option Piece) → o ≡ token_at text → IfSome o (λ p. (0 < p.size) × (p.size ≤ length text))
token_sized text o e = sized_by text o (subst (Goods text) (sym e) (token_goods text))
