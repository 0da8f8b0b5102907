-- What `parse` gives of a numeral.
use Rattle.std.proofs.Common.{◌≡◌, ℕ, ◌<◌, ◌≤◌, ◌^◌, length, List, [], ◌∷◌, refl, rules, arith, true, false, Bool, inl, inr}
use Rattle.std.specs.Prelude.{Err, None, ◌&&◌, not, ◌==◌}
use Rattle.std.specs.Str.Parse.{ParsesUnsigned, digits_value}
use Rattle.std.specs.Char.{is_ascii_digit}
use Rattle.std.specs.List.{list_all}
use Rattle.std.proofs.lemmas.Bool.{cases_lt, false≢true}
use Rattle.std.proofs.lemmas.Bool.Decides.{nat_tests}
use Rattle.std.proofs.lemmas.Str.Parse.{IsNumeralModel, numerals_by_value, parse_digits}
use Rattle.cas_words.specs.Words.{number_between, is_numeral, number_in}

digits_model : IsNumeralModel (λ ds. list_all is_ascii_digit ds ≡ true) (digits_value 10)
digits_model = numerals_by_value _ (search rules)

numeral_digits : (bs : List ℕ) → is_numeral bs ≡ true → list_all is_ascii_digit bs ≡ true
numeral_digits [] e = absurd (false≢true e)
numeral_digits (a ∷ []) e = rw e refl
numeral_digits (a ∷ b ∷ bs) e = go (not (a == 48)) _ e
  where
    go : (x y : Bool) → (x && y) ≡ true → y ≡ true
    go true y h = h
    go false y h = absurd (false≢true h)

numeral_some : (bs : List ℕ) → is_numeral bs ≡ true → 0 < length bs
numeral_some [] e = absurd (false≢true e)
numeral_some (a ∷ bs) e = omega arith

beyond : (least most n : ℕ) → most < n → None ≡ number_between least most n
beyond least most n h = grind (arith, nat_tests)

-- a numeral that isn't read lies beyond each range
pub unread_numeral : {E : Type 0} (bs : List ℕ) (e : E) (least most : ℕ) → is_numeral bs ≡ true → most < 2 ^ 64
    → ParsesUnsigned 64 10 bs (Err e) → None ≡ number_in least most bs
unread_numeral bs e least most numeral fits h =
    let unread = parse_digits digits_model 64 bs (Err e) h (numeral_digits bs numeral) in
    let large : 2 ^ 64 ≤ digits_value 10 bs = elim (cases_lt (digits_value 10 bs) (2 ^ 64)) [ inl lt ↦ absurd (unread (numeral_some bs numeral, lt)) | inr le ↦ le ] in
    rw numeral (beyond least most (digits_value 10 bs) (omega arith))
