-- What the sizes are at most.
use Rattle.std.proofs.Common.{◌≡◌, ℕ, ◌+◌, ◌<◌, ◌≤◌, Bool, true, false, cond, List, [], ◌∷◌, length, Option, Some, None, subst, not, arith, IfSome, eqb, ◌&&◌}
use Rattle.std.specs.Option.{option_map}
use Rattle.std.specs.List.{position_or_len}
use Rattle.std.specs.Char.{is_ascii_digit, is_ascii_hexdigit}
use Rattle.std.proofs.lemmas.List.Sums.{prefix_len-le-length}
use Rattle.cql_lex.specs.Characters.{is_word, first_is, word_size, digits_size, hex_pairs_size}
use Rattle.cql_lex.specs.Rules.{whole_size, fraction_size}
use Rattle.cql_lex.specs.Quotes.{closing_size}
use Rattle.cql_lex.specs.Gaps.{close_size}

-- what a number in an option is at most
abbrev pub IsWithin : ℕ → Option ℕ → Type 0
IsWithin most o = IfSome o (λ n. (0 < n) × (n ≤ most))

pub digits_within : (text : List ℕ) → digits_size text ≤ length text
digits_within text = prefix_len-le-length is_ascii_digit text

pub words_within : (text : List ℕ) → word_size text ≤ length text
words_within text = prefix_len-le-length is_word text

pub plain_within : (quote : ℕ) (text : List ℕ) → position_or_len (λ c. eqb c quote) text ≤ length text
plain_within quote text = prefix_len-le-length (λ c. not (eqb c quote)) text

pub hex_within : (text : List ℕ) → hex_pairs_size text ≤ length text
hex_within text = let h = prefix_len-le-length is_ascii_hexdigit text in omega arith

whole_by : (c : ℕ) (cs : List ℕ) (b : Bool) → cond b 1 0 + digits_size (cond b cs (c ∷ cs)) ≤ length (c ∷ cs)
whole_by c cs true = let h = digits_within cs in omega arith
whole_by c cs false = let h = digits_within (c ∷ cs) in omega arith

pub whole_within : (text : List ℕ) → whole_size text ≤ length text
whole_within [] = omega arith
whole_within (c ∷ cs) = whole_by c cs (eqb c 45)

fraction_by : (p d : ℕ) (cs : List ℕ) (b : Bool) → cond b (cond (first_is is_ascii_digit cs) 3 2) 0 ≤ length (p ∷ d ∷ cs)
fraction_by p d cs false = omega arith
fraction_by p d [] true = omega arith
fraction_by p d (e ∷ cs) true = elim (is_ascii_digit e) as (λ t. cond t 3 2 ≤ length (p ∷ d ∷ e ∷ cs)) [ true ↦ omega arith | false ↦ omega arith ]

pub fraction_within : (text : List ℕ) → fraction_size text ≤ length text
fraction_within [] = omega arith
fraction_within (p ∷ []) = omega arith
fraction_within (p ∷ d ∷ cs) = fraction_by p d cs (eqb p 46 && is_ascii_digit d)

more : (k m : ℕ) (o : Option ℕ) → IsWithin m o → IsWithin (k + m) (option_map (λ n. k + n) o)
more k m None h = h
more k m (Some n) h = (omega (arith, h.0), omega (arith, h.1))

sized : (o : Option ℕ) (m n : ℕ) → m ≡ n → IsWithin m o → IsWithin n o
sized o m n e h = subst (λ k. IsWithin k o) e h

pub closing_within : (q : ℕ) (text : List ℕ) → IsWithin (length text) (closing_size q text)
closing_within q [] = tt
closing_within q (c ∷ []) = elim (eqb c q) as (λ b. IsWithin 1 (cond b (Some 1) None)) [ true ↦ (omega arith, omega arith) | false ↦ tt ]
closing_within q (c ∷ d ∷ cs) =
    let two = sized _ (2 + length cs) (length (c ∷ d ∷ cs)) (omega arith) (more 2 (length cs) (closing_size q cs) (closing_within q cs)) in
    let one = sized _ (1 + length (d ∷ cs)) (length (c ∷ d ∷ cs)) (omega arith) (more 1 (length (d ∷ cs)) (closing_size q (d ∷ cs)) (closing_within q (d ∷ cs))) in
    by (eqb c q) (eqb d q) two one
  where
    by : (b t : Bool) → IsWithin (length (c ∷ d ∷ cs)) (option_map (λ n. 2 + n) (closing_size q cs)) → IsWithin (length (c ∷ d ∷ cs)) (option_map (λ n. 1 + n) (closing_size q (d ∷ cs))) → IsWithin (length (c ∷ d ∷ cs)) (cond b (cond t (option_map (λ n. 2 + n) (closing_size q cs)) (Some 1)) (option_map (λ n. 1 + n) (closing_size q (d ∷ cs))))
    by true true x y = x
    by true false x y = (omega arith, omega arith)
    by false t x y = y

pub close_within : (text : List ℕ) → IsWithin (length text) (close_size text)
close_within [] = tt
close_within (c ∷ []) = tt
close_within (c ∷ d ∷ cs) =
    by (eqb c 42 && eqb d 47) (sized _ (1 + length (d ∷ cs)) (length (c ∷ d ∷ cs)) (omega arith) (more 1 (length (d ∷ cs)) (close_size (d ∷ cs)) (close_within (d ∷ cs))))
  where
    by : (b : Bool) → IsWithin (length (c ∷ d ∷ cs)) (option_map (λ n. 1 + n) (close_size (d ∷ cs))) → IsWithin (length (c ∷ d ∷ cs)) (cond b (Some 2) (option_map (λ n. 1 + n) (close_size (d ∷ cs))))
    by true x = (omega arith, omega arith)
    by false x = x
