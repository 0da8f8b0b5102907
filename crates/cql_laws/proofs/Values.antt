-- A value's text is a constant, and the constant is the value.
use Rattle.std.proofs.Common.{◌≡◌, ℕ, zero, suc, ◌+◌, ◌-◌, ◌*◌, ◌/◌, ◌%◌, ◌^◌, ◌<◌, ◌≤◌, ◌==◌, ◌&&◌, ◌||◌, eqb, nat_lt, nat_le, Bool, true, false, cond, List, [], ◌∷◌, ◌++◌, length, get_or, flat_map, Option, None, Some, refl, sym, subst, ap, ◌∙◌, arith, inl, inr, codes, All}
use Rattle.std.specs.Prelude.{is_some, ℤ, pos, negsuc, unsigned_abs, ◌-ℤ◌, IsTrue, FitsSigned, IsAscii}
use Rattle.std.specs.Bool.{then_some}
use Rattle.std.specs.Int.{Width, w8, w16, w32, w64, byte_len, from_be_bytes, to_be_bytes, cast_signed, cast_unsigned}
use Rattle.std.specs.Fmt.{decimal, signed_decimal}
use Rattle.std.specs.List.{list_all}
use Rattle.std.specs.Str.{is_utf8}
use Rattle.std.proofs.lemmas.Bool.{cases_lt, and_parts, eqb-true, leb-true}
use Rattle.std.proofs.lemmas.Bool.Decides.{nat_tests}
use Rattle.std.proofs.lemmas.List.{get_or_past}
use Rattle.std.proofs.lemmas.Int.{of_z-to_z}
use Rattle.std.proofs.lemmas.Nat.{be_bytes_2, be_bytes_4, be_bytes_8}
use Rattle.std.proofs.lemmas.Str.{IsUtf8-from_ascii, is_utf8-from_IsUtf8}
use Rattle.std.proofs.lemmas.Str.Ascii.{IsAscii-nil, IsAscii-cons}
use Rattle.std.proofs.Math.Facts.{sfits_to_z, Fits-of_lt}
use Rattle.hex.specs.Hex.{encode_lower, IsBytes}
use Rattle.cas_types.specs.declared.limits.TheConstants.{LAST_NANOSECOND}
use Rattle.cas_types.specs.declared.tag.TypeTag.{TypeTag}
use Rattle.cas_types.specs.declared.tag.TypeTag.TheVariants as tag
use Rattle.cas_types.specs.Values.{is_value, is_ascii_text, is_boolean, is_version_one, uuid_version, signed_number}
use Rattle.cas_render.specs.Text.{value_text, constant_text, quoted_byte, number_text}
use Rattle.cas_terms.specs.Constants.{is_in_range, signed_bytes, text_bytes, number_bytes, blob_bytes, uuid_bytes, boolean_bytes, constant_bytes}
use Rattle.cql_lex.specs.Quotes.{doubled, in_quotes}
use Rattle.cql_phrases.specs.declared.term.Constant.{Constant}
use Rattle.cql_phrases.specs.declared.term.Constant.TheVariants as constant
use Rattle.cql_laws.specs.ReadsBack.{IsValue}
use Rattle.cql_laws.proofs.Printed.{Printed, printed_true, printed_false, printed_number, printed_text, printed_blob, printed_uuid}

pub record Shown (t : TypeTag) (v : List ℕ) : Type 0 where
  pub constant : Constant
  pub printed : Printed (value_text t v) constant
  pub bytes : constant_bytes t constant ≡ Some v

-- from the text of the type's constants
shown_by : (t : TypeTag) (v : List ℕ) (c : Constant) → is_value t v ≡ true → Printed (constant_text t v) c → constant_bytes t c ≡ Some v → Shown t v
unfolding value_text
shown_by t v c is p b =
    let same : constant_text t v ≡ value_text t v = rw is refl in
    record { constant = c; printed = subst (λ text. Printed text c) same p; bytes = b }

below_256 : (v : List ℕ) → All (λ b. b < 256) v → (i : ℕ) → get_or v i 0 < 256
below_256 v are i =
    elim (cases_lt i (length v)) [
      | inl lt ↦ are i 0 lt
      | inr le ↦ rw (get_or_past v i 0 le) (omega arith)
    ]

len_is : (n m : ℕ) → (n == m) ≡ true → n ≡ m
len_is n m e = eqb-true n m e

-- ---- texts

same_quoted : (v : List ℕ) → flat_map (doubled 39) v ≡ flat_map quoted_byte v
same_quoted [] = refl
same_quoted (b ∷ bs) = by (eqb b 39) refl (same_quoted bs)
  where
    by : (t : Bool) → eqb b 39 ≡ t → flat_map (doubled 39) bs ≡ flat_map quoted_byte bs
        → (cond t (b ∷ b ∷ []) (b ∷ []) ++ flat_map (doubled 39) bs) ≡ (cond t (39 ∷ 39 ∷ []) (b ∷ []) ++ flat_map quoted_byte bs)
    by true e h = let same = eqb-true b 39 e in λ i. same i ∷ same i ∷ h i
    by false e h = λ i. b ∷ h i

text_printed : (v : List ℕ) → is_utf8 v ≡ true → Printed (39 ∷ (flat_map quoted_byte v ++ 39 ∷ [])) (constant.Text v)
text_printed v u = subst (λ ds. Printed (39 ∷ (ds ++ 39 ∷ [])) (constant.Text v)) (same_quoted v) (printed_text v u)

ascii : (v : List ℕ) → is_ascii_text v ≡ true → IsAscii v
ascii [] e = IsAscii-nil
ascii (b ∷ bs) e =
    let parts = and_parts (nat_lt b 128) (is_ascii_text bs) e in
    let low : b < 128 = grind (arith, nat_tests, parts.0) in
    IsAscii-cons b bs low (ascii bs parts.1)

-- ---- numbers

-- of the bytes of a signed number
record IsSigned (w : Width) (half : ℕ) (v : List ℕ) : Type 0 where
  back : to_be_bytes w (from_be_bytes w v) ≡ v
  below : from_be_bytes w v < half + half

in_range_8 : (z : ℤ) → FitsSigned w8 z → is_in_range (pos 0 -ℤ pos (2 ^ 7)) (pos (2 ^ 7) -ℤ pos 1) z ≡ true
in_range_8 (pos n) h = let m = h.sfits in grind (arith, nat_tests)
in_range_8 (negsuc n) h = let m = h.sfits in grind (arith, nat_tests)

in_range_16 : (z : ℤ) → FitsSigned w16 z → is_in_range (pos 0 -ℤ pos (2 ^ 15)) (pos (2 ^ 15) -ℤ pos 1) z ≡ true
in_range_16 (pos n) h = let m = h.sfits in grind (arith, nat_tests)
in_range_16 (negsuc n) h = let m = h.sfits in grind (arith, nat_tests)

in_range_32 : (z : ℤ) → FitsSigned w32 z → is_in_range (pos 0 -ℤ pos (2 ^ 31)) (pos (2 ^ 31) -ℤ pos 1) z ≡ true
in_range_32 (pos n) h = let m = h.sfits in grind (arith, nat_tests)
in_range_32 (negsuc n) h = let m = h.sfits in grind (arith, nat_tests)

in_range_64 : (z : ℤ) → FitsSigned w64 z → is_in_range (pos 0 -ℤ pos (2 ^ 63)) (pos (2 ^ 63) -ℤ pos 1) z ≡ true
in_range_64 (pos n) h = let m = h.sfits in grind (arith, nat_tests)
in_range_64 (negsuc n) h = let m = h.sfits in grind (arith, nat_tests)

pub small_8 : (z : ℤ) → FitsSigned w8 z → unsigned_abs z < 2 ^ 64
small_8 (pos n) h = let m = h.sfits in omega arith
small_8 (negsuc n) h = let m = h.sfits in omega arith

pub small_16 : (z : ℤ) → FitsSigned w16 z → unsigned_abs z < 2 ^ 64
small_16 (pos n) h = let m = h.sfits in omega arith
small_16 (negsuc n) h = let m = h.sfits in omega arith

pub small_32 : (z : ℤ) → FitsSigned w32 z → unsigned_abs z < 2 ^ 64
small_32 (pos n) h = let m = h.sfits in omega arith
small_32 (negsuc n) h = let m = h.sfits in omega arith

pub small_64 : (z : ℤ) → FitsSigned w64 z → unsigned_abs z < 2 ^ 64
small_64 (pos n) h = let m = h.sfits in omega arith
small_64 (negsuc n) h = let m = h.sfits in omega arith

-- a signed number's bytes, where it is in its range
signed_again : (w : Width) (half : ℕ) (v : List ℕ) → is_in_range (pos 0 -ℤ pos half) (pos half -ℤ pos 1) (cast_signed w (from_be_bytes w v)) ≡ true
    → cast_unsigned w (cast_signed w (from_be_bytes w v)) ≡ from_be_bytes w v → to_be_bytes w (from_be_bytes w v) ≡ v → signed_bytes w half (cast_signed w (from_be_bytes w v)) ≡ Some v
signed_again w half v range same back = rw (range, same, back) refl

one_byte : (v : List ℕ) → length v ≡ 1 → get_or v 0 0 ∷ [] ≡ v
one_byte [] e = absurd (omega arith)
one_byte (b ∷ []) e = refl
one_byte (b ∷ c ∷ bs) e = absurd (omega arith)

tiny : (v : List ℕ) → IsValue tag.TinyInt v → Shown tag.TinyInt v
unfolding constant_bytes number_bytes
tiny v h =
    let size = len_is (length v) 1 h.0 in
    let fits = below_256 v h.1 in
    let low : get_or v 0 0 % 256 ≡ get_or v 0 0 = omega (arith, fits 0) in
    let n = cast_signed w8 (from_be_bytes w8 v) in
    let is : signed_number w8 v ≡ Some n = rw size refl in
    let f : FitsSigned w8 n = sfits_to_z (Fits-of_lt (fits 0)) in
    shown_by tag.TinyInt v (constant.Number n) h.0 (subst (λ o. Printed (number_text o) (constant.Number n)) (sym is) (printed_number n (small_8 n f)))
    (signed_again w8 (2 ^ 7) v (in_range_8 n f) (of_z-to_z w8 (from_be_bytes w8 v) (fits 0)) (ap (λ b. b ∷ []) low ∙ one_byte v size))

small : (v : List ℕ) → IsValue tag.SmallInt v → Shown tag.SmallInt v
unfolding constant_bytes number_bytes
small v h =
    let size = len_is (length v) 2 h.0 in
    let fits = below_256 v h.1 in
    let n = cast_signed w16 (from_be_bytes w16 v) in
    let is : signed_number w16 v ≡ Some n = rw size refl in
    let f : FitsSigned w16 n = sfits_to_z (Fits-of_lt (omega (arith, fits 0, fits 1))) in
    shown_by tag.SmallInt v (constant.Number n) h.0 (subst (λ o. Printed (number_text o) (constant.Number n)) (sym is) (printed_number n (small_16 n f)))
    (signed_again w16 (2 ^ 15) v (in_range_16 n f) (of_z-to_z w16 (from_be_bytes w16 v) (omega (arith, fits 0, fits 1))) (be_bytes_2 v _ size fits refl))

int : (v : List ℕ) → IsValue tag.Int v → Shown tag.Int v
unfolding constant_bytes number_bytes
int v h =
    let size = len_is (length v) 4 h.0 in
    let fits = below_256 v h.1 in
    let n = cast_signed w32 (from_be_bytes w32 v) in
    let is : signed_number w32 v ≡ Some n = rw size refl in
    let f : FitsSigned w32 n = sfits_to_z (Fits-of_lt (omega (arith, fits 0, fits 1, fits 2, fits 3))) in
    shown_by tag.Int v (constant.Number n) h.0 (subst (λ o. Printed (number_text o) (constant.Number n)) (sym is) (printed_number n (small_32 n f)))
    (signed_again w32 (2 ^ 31) v (in_range_32 n f) (of_z-to_z w32 (from_be_bytes w32 v) (omega (arith, fits 0, fits 1, fits 2, fits 3))) (be_bytes_4 v _ size fits refl))

-- the number that eight bytes are
record Eight (v : List ℕ) : Type 0 where
  size : length v ≡ 8
  below : from_be_bytes w64 v < 2 ^ 64
  back : to_be_bytes w64 (from_be_bytes w64 v) ≡ v

eight : (v : List ℕ) → (length v == 8) ≡ true → All (λ b. b < 256) v → Eight v
eight v e are =
    let size = len_is (length v) 8 e in
    let fits = below_256 v are in
    record { size = size; below = omega (arith, fits 0, fits 1, fits 2, fits 3, fits 4, fits 5, fits 6, fits 7); back = be_bytes_8 v _ size fits refl }

big_printed : (v : List ℕ) → Eight v → Printed (number_text (signed_number w64 v)) (constant.Number (cast_signed w64 (from_be_bytes w64 v)))
big_printed v g =
    let n = cast_signed w64 (from_be_bytes w64 v) in
    let is : signed_number w64 v ≡ Some n = rw (g.size) refl in
    subst (λ o. Printed (number_text o) (constant.Number n)) (sym is) (printed_number n (small_64 n (sfits_to_z (Fits-of_lt g.below))))

big_bytes : (v : List ℕ) → Eight v → signed_bytes w64 (2 ^ 63) (cast_signed w64 (from_be_bytes w64 v)) ≡ Some v
big_bytes v g =
    signed_again w64 (2 ^ 63) v (in_range_64 _ (sfits_to_z (Fits-of_lt g.below))) (of_z-to_z w64 (from_be_bytes w64 v) g.below) g.back

big : (v : List ℕ) → IsValue tag.BigInt v → Shown tag.BigInt v
unfolding constant_bytes number_bytes
big v h = let g = eight v h.0 h.1 in shown_by tag.BigInt v (constant.Number (cast_signed w64 (from_be_bytes w64 v))) h.0 (big_printed v g) (big_bytes v g)

moment : (v : List ℕ) → IsValue tag.Timestamp v → Shown tag.Timestamp v
unfolding constant_bytes number_bytes
moment v h = let g = eight v h.0 h.1 in shown_by tag.Timestamp v (constant.Number (cast_signed w64 (from_be_bytes w64 v))) h.0 (big_printed v g) (big_bytes v g)

day : (v : List ℕ) → IsValue tag.Date v → Shown tag.Date v
unfolding constant_bytes number_bytes
day v h =
    let size = len_is (length v) 4 h.0 in
    let fits = below_256 v h.1 in
    let n = from_be_bytes w32 v in
    let below : n < 2 ^ 32 = omega (arith, fits 0, fits 1, fits 2, fits 3) in
    let range : is_in_range (pos 0) (pos (2 ^ 32 - 1)) (pos n) ≡ true = grind (arith, nat_tests, below) in
    shown_by tag.Date v (constant.Number (pos n)) h.0 (rw h.0 (printed_number (pos n) (omega arith))) (rw (range, be_bytes_4 v n size fits refl) refl)

time : (v : List ℕ) → IsValue tag.Time v → Shown tag.Time v
unfolding constant_bytes number_bytes
time v h =
    let parts = and_parts (length v == 8) (nat_le (from_be_bytes w64 v) LAST_NANOSECOND) h.0 in
    let g = eight v parts.0 h.1 in
    let n = from_be_bytes w64 v in
    let low : nat_lt n (2 ^ 63) ≡ true = grind (arith, nat_tests, parts.1) in
    let is : cast_signed w64 n ≡ pos n = rw low refl in
    let printed : Printed (number_text (signed_number w64 v)) (constant.Number (pos n)) = subst (λ z. Printed (number_text (signed_number w64 v)) (constant.Number z)) is (big_printed v g) in
    let range : is_in_range (pos 0) (pos LAST_NANOSECOND) (pos n) ≡ true = grind (arith, nat_tests, parts.1) in
    shown_by tag.Time v (constant.Number (pos n)) h.0 printed (rw (range, g.back) refl)

-- ---- booleans

truth : (v : List ℕ) → IsValue tag.Boolean v → Shown tag.Boolean v
unfolding constant_bytes boolean_bytes
truth [] h = absurd cc
truth (b ∷ []) h = by (eqb b 0) (eqb b 1) refl refl h.0
  where
    by : (x y : Bool) → eqb b 0 ≡ x → eqb b 1 ≡ y → (x || y) ≡ true → Shown tag.Boolean (b ∷ [])
    by true y e f o = subst (λ c. Shown tag.Boolean (c ∷ [])) (sym (eqb-true b 0 e)) (shown_by tag.Boolean (0 ∷ []) (constant.Boolean false) refl printed_false refl)
    by false true e f o = subst (λ c. Shown tag.Boolean (c ∷ [])) (sym (eqb-true b 1 f)) (shown_by tag.Boolean (1 ∷ []) (constant.Boolean true) refl printed_true refl)
    by false false e f o = absurd cc
truth (b ∷ c ∷ bs) h = absurd cc

-- ---- uuids

versioned : (v : List ℕ) → is_version_one (uuid_version v) ≡ true → length v ≡ 16
versioned v e = by (length v == 16) refl e
  where
    by : (b : Bool) → (length v == 16) ≡ b → is_version_one (cond b (Some (get_or v 6 0 / 16)) None) ≡ true → length v ≡ 16
    by true t f = len_is (length v) 16 t
    by false t f = absurd cc

-- ---- each type

pub shown : (t : TypeTag) (v : List ℕ) → IsValue t v → Shown t v
unfolding constant_bytes text_bytes blob_bytes uuid_bytes
shown tag.Ascii v h = shown_by tag.Ascii v (constant.Text v) h.0 (text_printed v (is_utf8-from_IsUtf8 v (IsUtf8-from_ascii v (ascii v h.0)))) (rw h.0 refl)
shown tag.BigInt v h = big v h
shown tag.Blob v h = shown_by tag.Blob v (constant.Blob v) h.0 (printed_blob v (below_256 v h.1)) refl
shown tag.Boolean v h = truth v h
shown tag.Date v h = day v h
shown tag.Int v h = int v h
shown tag.SmallInt v h = small v h
shown tag.Text v h = shown_by tag.Text v (constant.Text v) h.0 (text_printed v h.0) (rw h.0 refl)
shown tag.Time v h = time v h
shown tag.Timestamp v h = moment v h
shown tag.TimeUuid v h = shown_by tag.TimeUuid v (constant.Uuid v) h.0 (printed_uuid v (versioned v h.0) h.1) (rw h.0 refl)
shown tag.TinyInt v h = tiny v h
shown tag.Uuid v h = shown_by tag.Uuid v (constant.Uuid v) h.0 (printed_uuid v (len_is (length v) 16 h.0) h.1) (rw h.0 refl)
