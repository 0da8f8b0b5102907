-- The test of ASCII, byte by byte.
use Rattle.std.proofs.Common.{◌≡◌, ◌<◌, ◌≤◌, ◌&&◌, ℕ, zero, suc, Bool, true, false, List, [], ◌∷◌, sym, refl, arith}
use Rattle.std.specs.Prelude.{nat_lt, slice_index}
use Rattle.std.specs.Bool.{MatchBool}
use Rattle.std.proofs.lemmas.Bool.Decides.{nat_tests}
use Rattle.std.specs.Str.{IsAscii, IsNotAscii}
use Rattle.cas_types.specs.Values.{is_ascii_text}

is_low : (b : ℕ) → b < 128 → nat_lt b 128 ≡ true
is_low b low = grind (arith, nat_tests, low)

is_high : (b : ℕ) → 128 ≤ b → nat_lt b 128 ≡ false
is_high b high = grind (arith, nat_tests, high)

and_false : (x : Bool) → (x && false) ≡ false
and_false true = refl
and_false false = refl

all_low : (bs : List ℕ) → IsAscii bs → is_ascii_text bs ≡ true
all_low [] low = refl
all_low (b ∷ bs) low = rw (is_low b (low 0)) (all_low bs (λ i. low (suc i)))

one_high : (bs : List ℕ) (i : ℕ) → 128 ≤ slice_index bs i → is_ascii_text bs ≡ false
one_high [] i high = absurd (omega arith)
one_high (b ∷ bs) zero high = rw (is_high b high) refl
one_high (b ∷ bs) (suc i) high = rw (one_high bs i high) (and_false (nat_lt b 128))

pub told_ascii : (bs : List ℕ) (r : Bool) → MatchBool r (IsAscii bs) (IsNotAscii bs) → r ≡ is_ascii_text bs
told_ascii bs true low = sym (all_low bs low)
told_ascii bs false high = sym (one_high bs high.0 high.1)
