-- No longer front of a text has the form of the token that the text begins with.
use Rattle.std.proofs.Common.{◌≡◌, ℕ, zero, suc, ◌+◌, ◌-◌, ◌%◌, ◌<◌, ◌≤◌, inl, inr, Bool, true, false, cond, List, [], ◌∷◌, ◌++◌, length, map, take, drop, Option, Some, None, Result, Ok, Err, refl, sym, ap, ◌∙◌, arith, eqb, ltb, ◌&&◌, IfSome, length-drop}
use Rattle.std.specs.Prelude.{is_some}
use Rattle.std.specs.Option.{option_map}
use Rattle.std.specs.Result.{result_ok}
use Rattle.std.specs.List.{prefix_len, list_all}
use Rattle.std.specs.Char.{is_ascii_digit, is_ascii_hexdigit, is_ascii_alphabetic, to_ascii_lowercase}
use Rattle.std.proofs.lemmas.Bool.{false≢true, and_parts, cases_lt}
use Rattle.std.proofs.lemmas.Bool.Decides.{nat_tests}
use Rattle.std.proofs.lemmas.List.{length-take, length-take-le, drop-take}
use Rattle.std.proofs.lemmas.List.Sums.{list_all-from_AllPass}
use Rattle.hex.specs.Hex.{decode_of, is_hex_digit}
use Rattle.hex.specs.declared.error.FromHexError.{FromHexError}
use Rattle.hex.proofs.HexLemmas.{decode_of-ok}
use Rattle.cql_lex.specs.Characters.{is_word, first_is, word_size, digits_size, hex_pairs_size}
use Rattle.cql_lex.specs.Numbers.{is_negative, unsigned, is_digits, signed, decimal_value, number_value, hundredths, ratio_digits, is_ratio}
use Rattle.cql_lex.specs.Quotes.{closing_size, closed, quoted_value}
use Rattle.cql_lex.specs.Constants.{uuid_value, begins_blob, blob_value, is_name, name_value}
use Rattle.cql_lex.specs.Rules.{whole_size, fraction_size}
use Rattle.cql_lex.proofs.Fronts.{all_weaker, uuid_long, front_again}
use Rattle.cql_lex.proofs.Turns.{closed_other, closed_second}

all_stop : {X : Type 0} (p : X → Bool) (m : ℕ) (xs : List X) → m ≤ length xs → list_all p (take m xs) ≡ true → m ≤ prefix_len p xs
all_stop p zero xs h e = omega arith
all_stop p (suc m) [] h e = absurd (omega arith)
all_stop p (suc m) (x ∷ xs) h e =
    let parts = and_parts (p x) (list_all p (take m xs)) e in
    let rest = all_stop p m xs (omega arith) parts.1 in
    let first : prefix_len p (x ∷ xs) ≡ 1 + prefix_len p xs = ap (λ b. cond b (1 + prefix_len p xs) 0) parts.0 in
    omega arith

only_if : {X : Type 0} (b : Bool) (o : Option X) → is_some (cond b o None) ≡ true → (b ≡ true) × (is_some o ≡ true)
only_if true o e = (refl, e)
only_if false o e = absurd (false≢true e)

some_from : {X Y : Type 0} (f : X → Y) (o : Option X) → is_some (option_map f o) ≡ true → is_some o ≡ true
some_from f None e = e
some_from f (Some x) e = refl

ok_from : (r : Result (List ℕ) FromHexError) → is_some (result_ok r) ≡ true → (bytes : List ℕ) × (r ≡ Ok bytes)
ok_from (Ok bytes) e = (bytes, refl)
ok_from (Err f) e = absurd (false≢true e)

pub uuid_longest : (text : List ℕ) (m : ℕ) → 36 < m → m ≤ length text → is_some (uuid_value (take m text)) ≡ true → ⊥
uuid_longest text m h l e = let long = uuid_long (take m text) e in omega (arith, length-take m text)

pub name_longest : (text : List ℕ) (m : ℕ) → word_size text < m → m ≤ length text → is_some (name_value (take m text)) ≡ true → ⊥
name_longest text m h l e =
    let named = (only_if (is_name (take m text)) (Some (map to_ascii_lowercase (take m text))) e).0 in
    let words = (and_parts (first_is is_ascii_alphabetic (take m text)) (list_all is_word (take m text)) named).1 in
    let stop = all_stop is_word m text l words in
    omega arith

ascii_hex : (c : ℕ) → is_hex_digit c ≡ true → is_ascii_hexdigit c ≡ true
ascii_hex c e = grind (arith, nat_tests)

pub blob_longest : (text : List ℕ) (m : ℕ) → 2 + hex_pairs_size (drop 2 text) < m → m ≤ length text → is_some (blob_value (take m text)) ≡ true → ⊥
blob_longest [] m h l e = omega arith
blob_longest (c ∷ []) m h l e = omega arith
blob_longest (c ∷ d ∷ cs) m h l e =
    let two : m ≡ suc (suc (m - 2)) = omega arith in
    let ds = take (m - 2) cs in
    let shown : is_some (blob_value (c ∷ d ∷ ds)) ≡ true = ap (λ k. is_some (blob_value (take k (c ∷ d ∷ cs)))) (sym two) ∙ e in
    let decoded = ok_from (decode_of ds) (only_if (begins_blob (c ∷ d ∷ ds)) (result_ok (decode_of ds)) shown).1 in
    let facts = decode_of-ok ds decoded.0 decoded.1 in
    let digits = all_weaker is_hex_digit is_ascii_hexdigit ascii_hex ds (list_all-from_AllPass is_hex_digit ds facts.1) in
    let stop = all_stop is_ascii_hexdigit (m - 2) cs (omega arith) digits in
    let size : length ds ≡ m - 2 = length-take-le (m - 2) cs (omega arith) in
    let even : length ds % 2 ≡ 0 = facts.0 in
    omega arith

number_by : (c : ℕ) (cs : List ℕ) (m : ℕ) (b : Bool) → eqb c 45 ≡ b → suc m ≤ length (c ∷ cs) → is_digits (cond b (take m cs) (c ∷ take m cs)) ≡ true → suc m ≤ cond b 1 0 + digits_size (cond b cs (c ∷ cs))
number_by c cs m true f l e =
    let stop = all_stop is_ascii_digit m cs (omega arith) (and_parts (ltb 0 (length (take m cs))) (list_all is_ascii_digit (take m cs)) e).1 in
    omega arith
number_by c cs m false f l e =
    let stop = all_stop is_ascii_digit (suc m) (c ∷ cs) l (and_parts (ltb 0 (length (c ∷ take m cs))) (list_all is_ascii_digit (c ∷ take m cs)) e).1 in
    omega arith

pub number_longest : (text : List ℕ) (m : ℕ) → whole_size text < m → m ≤ length text → is_some (number_value (take m text)) ≡ true → ⊥
number_longest [] m h l e = omega arith
number_longest (c ∷ cs) m h l e =
    let one : m ≡ suc (m - 1) = omega arith in
    let ys = c ∷ take (m - 1) cs in
    let shown : is_some (number_value ys) ≡ true = ap (λ k. is_some (number_value (take k (c ∷ cs)))) (sym one) ∙ e in
    let digits = (only_if (is_digits (unsigned ys)) (signed (is_negative ys) (decimal_value (unsigned ys))) shown).0 in
    let stop = number_by c cs (m - 1) (eqb c 45) refl (omega arith) digits in
    omega arith

hundredths_longest : (r : List ℕ) (i : ℕ) → i ≤ length r → is_some (hundredths (take i r)) ≡ true → i ≤ fraction_size r
hundredths_longest r zero l e = omega arith
hundredths_longest [] (suc i) l e = absurd (omega arith)
hundredths_longest (p ∷ []) (suc zero) l e = absurd (false≢true e)
hundredths_longest (p ∷ []) (suc (suc i)) l e = absurd (omega arith)
hundredths_longest (p ∷ d ∷ cs) (suc zero) l e = absurd (false≢true e)
hundredths_longest (p ∷ d ∷ cs) (suc (suc zero)) l e =
    let test = (only_if (eqb p 46 && is_ascii_digit d) (Some (d ∷ 48 ∷ [])) e).0 in
    by (eqb p 46 && is_ascii_digit d) (first_is is_ascii_digit cs) test
  where
    by : (b t : Bool) → b ≡ true → 2 ≤ cond b (cond t 3 2) 0
    by true true f = omega arith
    by true false f = omega arith
    by false t f = absurd (false≢true f)
hundredths_longest (p ∷ d ∷ []) (suc (suc (suc i))) l e = absurd (omega arith)
hundredths_longest (p ∷ d ∷ c ∷ cs) (suc (suc (suc zero))) l e =
    let test = (only_if (eqb p 46 && (is_ascii_digit d && is_ascii_digit c)) (Some (d ∷ c ∷ [])) e).0 in
    by (eqb p 46) (is_ascii_digit d) (is_ascii_digit c) test
  where
    by : (a b t : Bool) → (a && (b && t)) ≡ true → 3 ≤ cond (a && b) (cond t 3 2) 0
    by true true true f = omega arith
    by true true false f = absurd (false≢true f)
    by true false t f = absurd (false≢true f)
    by false b t f = absurd (false≢true f)
hundredths_longest (p ∷ d ∷ c ∷ []) (suc (suc (suc (suc i)))) l e = absurd (omega arith)
hundredths_longest (p ∷ d ∷ c ∷ g ∷ cs) (suc (suc (suc (suc i)))) l e = absurd (false≢true e)

after_digits : (t : List ℕ) (i : ℕ) → digits_size t + i ≤ length t → is_some (ratio_digits (take (digits_size t + i) t)) ≡ true → i ≤ fraction_size (drop (digits_size t) t)
after_digits t i l e =
    let u = take (digits_size t + i) t in
    let again : digits_size u ≡ digits_size t = front_again is_ascii_digit i t in
    let rest : drop (digits_size u) u ≡ take i (drop (digits_size t) t) = ap (λ k. drop k u) again ∙ drop-take (digits_size t) i t in
    let read = some_from (λ after. take (digits_size u) u ++ after) (hundredths (drop (digits_size u) u)) (only_if (ltb 0 (digits_size u)) (option_map (λ after. take (digits_size u) u ++ after) (hundredths (drop (digits_size u) u))) e).1 in
    hundredths_longest (drop (digits_size t) t) i (simp length-drop (omega arith)) (ap (λ r. is_some (hundredths r)) (sym rest) ∙ read)

bare_longest : (t : List ℕ) (j : ℕ) → j ≤ length t → is_some (ratio_digits (take j t)) ≡ true → j ≤ digits_size t + fraction_size (drop (digits_size t) t)
bare_longest t j l e =
    elim (cases_lt j (digits_size t)) [
      | inl h ↦ omega arith
      | inr h ↦
          let split : j ≡ digits_size t + (j - digits_size t) = omega arith in
          let more = after_digits t (j - digits_size t) (omega arith) (ap (λ k. is_some (ratio_digits (take k t))) (sym split) ∙ e) in
          omega arith
    ]

ratio_by : (c : ℕ) (cs : List ℕ) (m : ℕ) (b : Bool) → eqb c 45 ≡ b → suc m ≤ length (c ∷ cs) → is_some (ratio_digits (cond b (take m cs) (c ∷ take m cs))) ≡ true → suc m ≤ (cond b 1 0 + digits_size (cond b cs (c ∷ cs))) + fraction_size (drop (cond b 1 0 + digits_size (cond b cs (c ∷ cs))) (c ∷ cs))
ratio_by c cs m true f l e =
    let stop = bare_longest cs m (omega arith) e in
    let one : suc (digits_size cs) ≡ 1 + digits_size cs = omega arith in
    let same : fraction_size (drop (digits_size cs) cs) ≡ fraction_size (drop (1 + digits_size cs) (c ∷ cs)) = ap (λ k. fraction_size (drop k (c ∷ cs))) one in
    omega arith
ratio_by c cs m false f l e =
    let stop = bare_longest (c ∷ cs) (suc m) l e in
    let bare : digits_size (c ∷ cs) ≡ 0 + digits_size (c ∷ cs) = omega arith in
    let same : fraction_size (drop (digits_size (c ∷ cs)) (c ∷ cs)) ≡ fraction_size (drop (0 + digits_size (c ∷ cs)) (c ∷ cs)) = ap (λ k. fraction_size (drop k (c ∷ cs))) bare in
    omega arith

pub ratio_longest : (text : List ℕ) (m : ℕ) → whole_size text + fraction_size (drop (whole_size text) text) < m → m ≤ length text → is_ratio (take m text) ≡ true → ⊥
ratio_longest [] m h l e = omega arith
ratio_longest (c ∷ cs) m h l e =
    let one : m ≡ suc (m - 1) = omega arith in
    let shown : is_ratio (c ∷ take (m - 1) cs) ≡ true = ap (λ k. is_ratio (take k (c ∷ cs))) (sym one) ∙ e in
    let stop = ratio_by c cs (m - 1) (eqb c 45) refl (omega arith) shown in
    omega arith

-- a text that is closed isn't closed again further on
abbrev pub IsPast : ℕ → List ℕ → Option ℕ → Type 0
IsPast q text o = IfSome o (λ n. (k : ℕ) → n < k → k ≤ length text → is_some (closed q (take k text)) ≡ true → ⊥)

past_two : (q c d : ℕ) (cs : List ℕ) (o : Option ℕ) → eqb c q ≡ true → eqb d q ≡ true → IsPast q cs o → IsPast q (c ∷ d ∷ cs) (option_map (λ n. 2 + n) o)
past_two q c d cs None e f h = tt
past_two q c d cs (Some n) e f h = λ k more l read.
    let two : k ≡ suc (suc (k - 2)) = omega arith in
    let ys = take (k - 2) cs in
    let shown = ap is_some (sym (closed_second q c d ys e ∙ ap (λ b. cond b (option_map (λ rest. c ∷ rest) (closed q ys)) None) f)) ∙ ap (λ j. is_some (closed q (take j (c ∷ d ∷ cs)))) (sym two) ∙ read in
    h (k - 2) (omega arith) (omega arith) (some_from (λ rest. c ∷ rest) (closed q ys) shown)

past_one : (q c : ℕ) (cs : List ℕ) (o : Option ℕ) → eqb c q ≡ false → IsPast q cs o → IsPast q (c ∷ cs) (option_map (λ n. 1 + n) o)
past_one q c cs None e h = tt
past_one q c cs (Some n) e h = λ k more l read.
    let one : k ≡ suc (k - 1) = omega arith in
    let ys = take (k - 1) cs in
    let shown = ap is_some (sym (closed_other q c ys e)) ∙ ap (λ j. is_some (closed q (take j (c ∷ cs)))) (sym one) ∙ read in
    h (k - 1) (omega arith) (omega arith) (some_from (λ rest. c ∷ rest) (closed q ys) shown)

past_here : (q c d : ℕ) (cs : List ℕ) → eqb c q ≡ true → eqb d q ≡ false → IsPast q (c ∷ d ∷ cs) (Some 1)
past_here q c d cs e f = λ k more l read.
    let two : k ≡ suc (suc (k - 2)) = omega arith in
    let ys = take (k - 2) cs in
    let none = closed_second q c d ys e ∙ ap (λ b. cond b (option_map (λ rest. c ∷ rest) (closed q ys)) None) f in
    false≢true (sym (ap is_some none) ∙ ap (λ j. is_some (closed q (take j (c ∷ d ∷ cs)))) (sym two) ∙ read)

pub past_closing : (q : ℕ) (text : List ℕ) → IsPast q text (closing_size q text)
past_closing q [] = tt
past_closing q (c ∷ []) = by (eqb c q)
  where
    by : (b : Bool) → IsPast q (c ∷ []) (cond b (Some 1) None)
    by true = λ k more l read. omega arith
    by false = tt
past_closing q (c ∷ d ∷ cs) = by (eqb c q) (eqb d q) refl refl (past_closing q cs) (past_closing q (d ∷ cs))
  where
    by : (b t : Bool) → eqb c q ≡ b → eqb d q ≡ t → IsPast q cs (closing_size q cs) → IsPast q (d ∷ cs) (closing_size q (d ∷ cs)) → IsPast q (c ∷ d ∷ cs) (cond b (cond t (option_map (λ n. 2 + n) (closing_size q cs)) (Some 1)) (option_map (λ n. 1 + n) (closing_size q (d ∷ cs))))
    by true true e f x y = past_two q c d cs (closing_size q cs) e f x
    by true false e f x y = past_here q c d cs e f
    by false t e f x y = past_one q c (d ∷ cs) (closing_size q (d ∷ cs)) e y

pub quoted_longest : (q c : ℕ) (cs : List ℕ) (n : ℕ) → ((k : ℕ) → n < k → k ≤ length cs → is_some (closed q (take k cs)) ≡ true → ⊥) → (m : ℕ) → 1 + n < m → m ≤ length (c ∷ cs) → is_some (quoted_value q (take m (c ∷ cs))) ≡ true → ⊥
quoted_longest q c cs n past m h l e =
    let one : m ≡ suc (m - 1) = omega arith in
    let shown : is_some (quoted_value q (c ∷ take (m - 1) cs)) ≡ true = ap (λ k. is_some (quoted_value q (take k (c ∷ cs)))) (sym one) ∙ e in
    past (m - 1) (omega arith) (omega arith) (only_if (eqb c q) (closed q (take (m - 1) cs)) shown).1
