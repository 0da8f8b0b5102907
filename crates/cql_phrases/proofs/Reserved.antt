-- Only the reserved words of a text's own length need be compared with it.
use Rattle.std.proofs.Common.{◌≡◌, ◌≢◌, ℕ, Bool, true, false, cond, eqb, List, [], ◌∷◌, length, refl, sym, ap, ◌∙◌, ◌||◌, arith}
use Rattle.std.specs.Str.{bytes_eq}
use Rattle.std.specs.List.{list_any, list_all}
use Rattle.std.proofs.lemmas.Slice.Eq.{bytes_eq-Decides}
use Rattle.std.proofs.lemmas.Bool.{ne_eqb, eqb-true, and_parts}
use Rattle.cql_phrases.specs.declared.keyword.Keyword.{Keyword}
use Rattle.cql_phrases.specs.Symbols.{spelling, reserved_words, is_reserved}

-- the words of this length
abbrev pub of_size : ℕ → List Keyword → List Keyword
of_size n [] = []
of_size n (k ∷ ks) = cond (eqb (length (spelling k)) n) (k ∷ of_size n ks) (of_size n ks)

abbrev any_is : List ℕ → List Keyword → Bool
any_is text ks = list_any (λ k. bytes_eq text (spelling k)) ks

another_size : (xs ys : List ℕ) (b : Bool) → bytes_eq xs ys ≡ b → eqb (length ys) (length xs) ≡ false → bytes_eq xs ys ≡ false
another_size xs ys false e n = e
another_size xs ys true e n = absurd (same (length xs) (ap length ((bytes_eq-Decides xs ys).0 e)) n) where
  same : (m : ℕ) → m ≡ length ys → eqb (length ys) m ≡ false → ⊥
  same m h f = grind arith

skip : (text : List ℕ) (k : Keyword) (ks : List Keyword) (b : Bool) → eqb (length (spelling k)) (length text) ≡ b → any_is text ks ≡ any_is text (of_size (length text) ks)
    → any_is text (k ∷ ks) ≡ any_is text (cond b (k ∷ of_size (length text) ks) (of_size (length text) ks))
skip text k ks true e h = ap (λ r. bytes_eq text (spelling k) || r) h
skip text k ks false e h = ap (λ t. t || any_is text ks) (another_size text (spelling k) (bytes_eq text (spelling k)) refl e) ∙ h

sized : (text : List ℕ) (ks : List Keyword) → any_is text ks ≡ any_is text (of_size (length text) ks)
sized text [] = refl
sized text (k ∷ ks) = skip text k ks (eqb (length (spelling k)) (length text)) refl (sized text ks)

pub of_its_size : (text : List ℕ) (n : ℕ) → length text ≡ n → is_reserved text ≡ any_is text (of_size n reserved_words)
unfolding is_reserved
of_its_size text n e = sized text reserved_words ∙ ap (λ m. any_is text (of_size m reserved_words)) e

-- the lengths of reserved words
abbrev from_7 : ℕ → Bool
from_7 m = eqb m 7

abbrev from_6 : ℕ → Bool
from_6 m = eqb m 6 || from_7 m

abbrev from_5 : ℕ → Bool
from_5 m = eqb m 5 || from_6 m

abbrev from_4 : ℕ → Bool
from_4 m = eqb m 4 || from_5 m

abbrev from_3 : ℕ → Bool
from_3 m = eqb m 3 || from_4 m

abbrev from_2 : ℕ → Bool
from_2 m = eqb m 2 || from_3 m

pick_by : (m k n : ℕ) (b c : Bool) → eqb m k ≡ c → (c || b) ≡ true → eqb k n ≡ false → (b ≡ true → eqb m n ≡ false) → eqb m n ≡ false
pick_by m k n b true h e d other = ap (λ (x : ℕ). eqb x n) (eqb-true m k h) ∙ d
pick_by m k n b false h e d other = other e

none_of_size : (n : ℕ) (ks : List Keyword) → list_all (λ k. from_2 (length (spelling k))) ks ≡ true → ((m : ℕ) → from_2 m ≡ true → eqb m n ≡ false) → of_size n ks ≡ []
none_of_size n [] e h = refl
none_of_size n (k ∷ ks) e h =
    let p = and_parts (from_2 (length (spelling k))) (list_all (λ j. from_2 (length (spelling j))) ks) e in
    ap (λ b. cond b (k ∷ of_size n ks) (of_size n ks)) (h (length (spelling k)) p.0) ∙ none_of_size n ks p.1 h

differs : (n : ℕ) → n ≢ 2 → n ≢ 3 → n ≢ 4 → n ≢ 5 → n ≢ 6 → n ≢ 7 → (m : ℕ) → from_2 m ≡ true → eqb m n ≡ false
differs n n2 n3 n4 n5 n6 n7 m e =
    pick_by m 2 n (from_3 m) (eqb m 2) refl e (ne_eqb 2 n (λ h. n2 (sym h))) (λ e3.
    pick_by m 3 n (from_4 m) (eqb m 3) refl e3 (ne_eqb 3 n (λ h. n3 (sym h))) (λ e4.
    pick_by m 4 n (from_5 m) (eqb m 4) refl e4 (ne_eqb 4 n (λ h. n4 (sym h))) (λ e5.
    pick_by m 5 n (from_6 m) (eqb m 5) refl e5 (ne_eqb 5 n (λ h. n5 (sym h))) (λ e6.
    pick_by m 6 n (from_7 m) (eqb m 6) refl e6 (ne_eqb 6 n (λ h. n6 (sym h))) (λ e7.
    ap (λ (x : ℕ). eqb x n) (eqb-true m 7 e7) ∙ ne_eqb 7 n (λ h. n7 (sym h)))))))

all_known : list_all (λ k. from_2 (length (spelling k))) reserved_words ≡ true
unfolding spelling
all_known = refl

pub of_no_size : (text : List ℕ) (n : ℕ) → n ≡ length text → n ≢ 2 → n ≢ 3 → n ≢ 4 → n ≢ 5 → n ≢ 6 → n ≢ 7 → false ≡ is_reserved text
of_no_size text n e n2 n3 n4 n5 n6 n7 =
    sym (of_its_size text n (sym e) ∙ ap (any_is text) (none_of_size n reserved_words all_known (differs n n2 n3 n4 n5 n6 n7)))
