-- Fronts of a text that pass a test.
use Rattle.std.proofs.Common.{◌≡◌, ℕ, zero, suc, ◌+◌, ◌%◌, ◌≤◌, Bool, true, false, cond, List, [], ◌∷◌, length, take, drop, None, refl, sym, ap, ◌∙◌, arith, eqb, ◌&&◌}
use Rattle.std.specs.Prelude.{is_some}
use Rattle.std.specs.Result.{result_ok}
use Rattle.std.specs.List.{prefix_len, list_all}
use Rattle.std.specs.Char.{is_ascii_hexdigit}
use Rattle.std.proofs.lemmas.Bool.{false≢true, eqb-true, and_parts}
use Rattle.std.proofs.lemmas.Bool.Decides.{nat_tests}
use Rattle.std.proofs.lemmas.List.{length-take-le, take_all}
use Rattle.std.proofs.lemmas.List.Sums.{AllPass-from_list_all, prefix_len-le-length}
use Rattle.hex.specs.Hex.{decode_of, is_hex_digit}
use Rattle.hex.proofs.HexLemmas.{decode_of-digits}
use Rattle.uuid.specs.Text.{parsed_simple, digits_of, has_hyphens}
use Rattle.cql_lex.specs.Characters.{first_is, hex_pairs_size}
use Rattle.cql_lex.specs.Constants.{uuid_value}

front_by : {X : Type 0} (p : X → Bool) (b : Bool) (n m : ℕ) → suc n ≤ cond b (1 + m) 0 → (b ≡ true) × (n ≤ m)
front_by p true n m h = (refl, omega arith)
front_by p false n m h = absurd (omega arith)

pub all_front : {X : Type 0} (p : X → Bool) (n : ℕ) (xs : List X) → n ≤ prefix_len p xs → list_all p (take n xs) ≡ true
all_front p zero xs h = refl
all_front p (suc n) [] h = refl
all_front p (suc n) (x ∷ xs) h =
    let parts = front_by p (p x) n (prefix_len p xs) h in
    ap (λ b. b && list_all p (take n xs)) parts.0 ∙ all_front p n xs parts.1

pub all_weaker : {X : Type 0} (p q : X → Bool) → ((x : X) → p x ≡ true → q x ≡ true) → (xs : List X) → list_all p xs ≡ true → list_all q xs ≡ true
all_weaker p q f [] h = refl
all_weaker p q f (x ∷ xs) h =
    let parts = and_parts (p x) (list_all p xs) h in
    ap (λ b. b && list_all q xs) (f x parts.0) ∙ all_weaker p q f xs parts.1

stopped : {X : Type 0} (p : X → Bool) (f : ℕ) (x : X) (xs : List X) → p x ≡ false → prefix_len p (take f (x ∷ xs)) ≡ 0
stopped p zero x xs e = refl
stopped p (suc f) x xs e = ap (λ b. cond b (1 + prefix_len p (take f xs)) 0) e

again_by : {X : Type 0} (p : X → Bool) (f : ℕ) (x : X) (xs : List X) (b : Bool) → p x ≡ b → prefix_len p (take (prefix_len p xs + f) xs) ≡ prefix_len p xs → prefix_len p (take (cond b (1 + prefix_len p xs) 0 + f) (x ∷ xs)) ≡ cond b (1 + prefix_len p xs) 0
again_by p f x xs true e h =
    let grown : (1 + prefix_len p xs) + f ≡ suc (prefix_len p xs + f) = omega arith in
    ap (λ k. prefix_len p (take k (x ∷ xs))) grown
    ∙ ap (λ b. cond b (1 + prefix_len p (take (prefix_len p xs + f) xs)) 0) e
    ∙ ap (λ n. 1 + n) h
again_by p f x xs false e h =
    let bare : 0 + f ≡ f = omega arith in
    ap (λ k. prefix_len p (take k (x ∷ xs))) bare ∙ stopped p f x xs e

-- what follows a run doesn't change it
pub front_again : {X : Type 0} (p : X → Bool) (f : ℕ) (xs : List X) → prefix_len p (take (prefix_len p xs + f) xs) ≡ prefix_len p xs
front_again p f [] = ap (prefix_len p) (take_all (0 + f) [] (omega arith))
front_again p f (x ∷ xs) = again_by p f x xs (p x) refl (front_again p f xs)

stops_by : (p : ℕ → Bool) (x : ℕ) (xs : List ℕ) (b : Bool) → p x ≡ b → first_is p (drop (prefix_len p xs) xs) ≡ false → first_is p (drop (cond b (1 + prefix_len p xs) 0) (x ∷ xs)) ≡ false
stops_by p x xs true e h = let one : 1 + prefix_len p xs ≡ suc (prefix_len p xs) = omega arith in ap (λ k. first_is p (drop k (x ∷ xs))) one ∙ h
stops_by p x xs false e h = e

-- a run ends where no character of it follows
pub run_stops : (p : ℕ → Bool) (xs : List ℕ) → first_is p (drop (prefix_len p xs) xs) ≡ false
run_stops p [] = refl
run_stops p (x ∷ xs) = stops_by p x xs (p x) refl (run_stops p xs)

hex_digit : (c : ℕ) → is_ascii_hexdigit c ≡ true → is_hex_digit c ≡ true
hex_digit c e = grind (arith, nat_tests)

pub pairs_decode : (cs : List ℕ) → is_some (result_ok (decode_of (take (hex_pairs_size cs) cs))) ≡ true
pairs_decode cs =
    let whole = prefix_len-le-length is_ascii_hexdigit cs in
    let size : length (take (hex_pairs_size cs) cs) ≡ hex_pairs_size cs = length-take-le (hex_pairs_size cs) cs (omega arith) in
    let even : length (take (hex_pairs_size cs) cs) % 2 ≡ 0 = rw size (omega arith) in
    let digits = AllPass-from_list_all is_hex_digit (take (hex_pairs_size cs) cs) (all_weaker is_ascii_hexdigit is_hex_digit hex_digit (take (hex_pairs_size cs) cs) (all_front is_ascii_hexdigit (hex_pairs_size cs) cs (omega arith))) in
    let decoded = decode_of-digits (take (hex_pairs_size cs) cs) even digits in
    ap (λ r. is_some (result_ok r)) decoded.1

long_by : (s : List ℕ) (b : Bool) → eqb (length s) 36 ≡ b → is_some (uuid_value s) ≡ true → length s ≡ 36
long_by s true e h = eqb-true (length s) 36 e
long_by s false e h = absurd (false≢true (sym (ap (λ b. is_some (cond (b && has_hyphens s) (parsed_simple (digits_of s)) None)) e) ∙ h))

pub uuid_long : (s : List ℕ) → is_some (uuid_value s) ≡ true → length s ≡ 36
uuid_long s h = long_by s (eqb (length s) 36) refl h
