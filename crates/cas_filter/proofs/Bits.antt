-- The bits of bytes, one by one.
use Rattle.std.proofs.Common.{◌≡◌, ℕ, zero, suc, ◌+◌, ◌*◌, ◌/◌, ◌%◌, ◌^◌, ◌<◌, ◌≤◌, ◌⊎◌, Bool, true, false, cond, eqb, ◌||◌, List, length, get_or, set, inl, inr, refl, sym, ap, subst, ◌∙◌, arith}
use Rattle.std.specs.Prelude.{bit_or}
use Rattle.std.specs.Int.{bit_at, w8}
use Rattle.std.proofs.lemmas.Bool.{eq-eqb, ne_eqb, cases_eq}
use Rattle.std.proofs.lemmas.List.{get_or-set_same, get_or-set_other, get_or_read}
use Rattle.std.proofs.lemmas.Nat.Bits.{bit_at_set_same, bit_at_set_other}
use Rattle.cas_filter.specs.Filters.{is_set, byte_of}

abbrev bit : Bool → ℕ
bit b = cond b 1 0

bit_most : (b : Bool) → bit b ≤ 1
bit_most true = omega arith
bit_most false = omega arith

bit_test : (b : Bool) → eqb (bit b) 1 ≡ b
bit_test true = refl
bit_test false = refl

weighed : (b : Bool) (w : ℕ) → cond b w 0 ≡ w * bit b
weighed true w = omega arith
weighed false w = omega arith

pub byte_below : (test : ℕ → Bool) → byte_of test < 256
unfolding byte_of
byte_below test =
    omega (
      arith,
      weighed (test 0) 1,
      weighed (test 1) 2,
      weighed (test 2) 4,
      weighed (test 3) 8,
      weighed (test 4) 16,
      weighed (test 5) 32,
      weighed (test 6) 64,
      weighed (test 7) 128,
      bit_most (test 0),
      bit_most (test 1),
      bit_most (test 2),
      bit_most (test 3),
      bit_most (test 4),
      bit_most (test 5),
      bit_most (test 6),
      bit_most (test 7),
    )

weights : (a b c d e f g h : ℕ) → a ≤ 1 → b ≤ 1 → c ≤ 1 → d ≤ 1 → e ≤ 1 → f ≤ 1 → g ≤ 1 → h ≤ 1 → (n : ℕ)
    → n ≡ a + 2 * b + 4 * c + 8 * d + 16 * e + 32 * f + 64 * g + 128 * h
    → (bit_at n 0 ≡ a) × (bit_at n 1 ≡ b) × (bit_at n 2 ≡ c) × (bit_at n 3 ≡ d) × (bit_at n 4 ≡ e) × (bit_at n 5 ≡ f) × (bit_at n 6 ≡ g) × (bit_at n 7 ≡ h)
weights a b c d e f g h la lb lc ld le lf lg lh n is =
    (omega arith, omega arith, omega arith, omega arith, omega arith, omega arith, omega arith, omega arith)

-- one of eight
byte_bit_of : (test : ℕ → Bool) (n : ℕ)
    → (bit_at n 0 ≡ bit (test 0)) × (bit_at n 1 ≡ bit (test 1)) × (bit_at n 2 ≡ bit (test 2)) × (bit_at n 3 ≡ bit (test 3)) × (bit_at n 4 ≡ bit (test 4))
    × (bit_at n 5 ≡ bit (test 5)) × (bit_at n 6 ≡ bit (test 6)) × (bit_at n 7 ≡ bit (test 7))
    → (j : ℕ) → j < 8 → bit_at n j ≡ bit (test j)
byte_bit_of test n w zero below = w.0
byte_bit_of test n w (suc zero) below = w.1
byte_bit_of test n w (suc (suc zero)) below = w.2
byte_bit_of test n w (suc (suc (suc zero))) below = w.3
byte_bit_of test n w (suc (suc (suc (suc zero)))) below = w.4
byte_bit_of test n w (suc (suc (suc (suc (suc zero))))) below = w.5
byte_bit_of test n w (suc (suc (suc (suc (suc (suc zero)))))) below = w.6
byte_bit_of test n w (suc (suc (suc (suc (suc (suc (suc zero))))))) below = w.7
byte_bit_of test n w (suc (suc (suc (suc (suc (suc (suc (suc j)))))))) below = absurd (omega arith)

-- the bit j of the byte is what the test says of j
pub byte_bit : (test : ℕ → Bool) (j : ℕ) → j < 8 → bit_at (byte_of test) j ≡ bit (test j)
unfolding byte_of
byte_bit test j below =
    let w = weights (bit (test 0)) (bit (test 1)) (bit (test 2)) (bit (test 3)) (bit (test 4)) (bit (test 5)) (bit (test 6)) (bit (test 7))
    (bit_most (test 0)) (bit_most (test 1)) (bit_most (test 2)) (bit_most (test 3)) (bit_most (test 4)) (bit_most (test 5)) (bit_most (test 6)) (bit_most (test 7))
    (byte_of test) (omega (
      arith,
      weighed (test 0) 1,
      weighed (test 1) 2,
      weighed (test 2) 4,
      weighed (test 3) 8,
      weighed (test 4) 16,
      weighed (test 5) 32,
      weighed (test 6) 64,
      weighed (test 7) 128,
    )) in
    byte_bit_of test (byte_of test) w j below

-- a test of a bit
pub bit_is : (test : ℕ → Bool) (j : ℕ) → j < 8 → eqb (bit_at (byte_of test) j) 1 ≡ test j
bit_is test j below = ap (λ (n : ℕ). eqb n 1) (byte_bit test j below) ∙ bit_test (test j)

-- two bits of which the same is said
pub same_bit : (x y : ℕ) → x < 2 → y < 2 → eqb x 1 ≡ eqb y 1 → x ≡ y
same_bit zero zero p q e = refl
same_bit zero (suc zero) p q e = absurd cc
same_bit zero (suc (suc y)) p q e = absurd (omega arith)
same_bit (suc zero) zero p q e = absurd cc
same_bit (suc zero) (suc zero) p q e = refl
same_bit (suc zero) (suc (suc y)) p q e = absurd (omega arith)
same_bit (suc (suc x)) y p q e = absurd (omega arith)

-- ---- setting a bit

or_self : (b : Bool) → b || true ≡ true
or_self true = refl
or_self false = refl

pub or_none : (b : Bool) → b || false ≡ b
or_none true = refl
or_none false = refl

-- the same byte, at its bits
set_here : (byte j i : ℕ) → j < 8 → (i ≡ j) ⊎ (i ≡ j → ⊥) → (b : Bool) → ((i ≡ j) → b ≡ true) → ((i ≡ j → ⊥) → b ≡ false)
    → eqb (bit_at (bit_or byte (1 * 2 ^ j % 256)) i) 1 ≡ (eqb (bit_at byte i) 1 || b)
set_here byte j i below (inl same) b so not_so =
    ap (λ (k : ℕ). eqb (bit_at (bit_or byte (1 * 2 ^ j % 256)) k) 1) same ∙ ap (λ (n : ℕ). eqb n 1) (bit_at_set_same w8 byte j below)
    ∙ sym (rw (so same) (or_self (eqb (bit_at byte i) 1)))
set_here byte j i below (inr other) b so not_so =
    ap (λ (n : ℕ). eqb n 1) (bit_at_set_other w8 byte j below i other) ∙ sym (rw (not_so other) (or_none (eqb (bit_at byte i) 1)))

set_by : (filter : List ℕ) (q p : ℕ) → q < 8 * length filter → (p / 8 ≡ q / 8) ⊎ (p / 8 ≡ q / 8 → ⊥)
    → is_set (set filter (q / 8) (bit_or (get_or filter (q / 8) 0) (1 * 2 ^ (q % 8) % 256))) p ≡ (is_set filter p || eqb q p)
unfolding is_set
set_by filter q p within (inl same) =
    let here : q / 8 < length filter = omega arith in
    ap (λ (k : ℕ). eqb (bit_at (get_or (set filter (q / 8) (bit_or (get_or filter (q / 8) 0) (1 * 2 ^ (q % 8) % 256))) k 0) (p % 8)) 1) same
    ∙ ap (λ (n : ℕ). eqb (bit_at n (p % 8)) 1) (get_or-set_same filter (q / 8) (bit_or (get_or filter (q / 8) 0) (1 * 2 ^ (q % 8) % 256)) 0 here)
    ∙ set_here (get_or filter (q / 8) 0) (q % 8) (p % 8) (omega arith) (cases_eq (p % 8) (q % 8)) (eqb q p)
    (λ e. eq-eqb q p (omega arith)) (λ e. ne_eqb q p (λ f. e (omega arith)))
    ∙ ap (λ (k : ℕ). eqb (bit_at (get_or filter k 0) (p % 8)) 1 || eqb q p) (sym same)
set_by filter q p within (inr other) =
    let apart : eqb q p ≡ false = ne_eqb q p (λ f. other (omega arith)) in
    ap (λ (n : ℕ). eqb (bit_at n (p % 8)) 1) (get_or-set_other filter (q / 8) (p / 8) _ 0 other)
    ∙ sym (rw apart (or_none _))

-- after a bit was set, it is, and the others are as they were
pub set_bit : (filter : List ℕ) (q : ℕ) (byte p : ℕ) → q < 8 * length filter → byte ≡ get_or filter (q / 8) byte
    → is_set (set filter (q / 8) (bit_or byte (1 * 2 ^ (q % 8) % 256))) p ≡ (is_set filter p || eqb q p)
set_bit filter q byte p within is =
    let here : q / 8 < length filter = omega arith in
    let known : byte ≡ get_or filter (q / 8) 0 = get_or_read filter (q / 8) byte here is 0 in
    subst (λ (b : ℕ). is_set (set filter (q / 8) (bit_or b (1 * 2 ^ (q % 8) % 256))) p ≡ (is_set filter p || eqb q p)) (sym known)
    (set_by filter q p within (cases_eq (p / 8) (q / 8)))
