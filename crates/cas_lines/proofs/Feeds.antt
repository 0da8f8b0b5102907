-- Where the first line feed stands.
use Rattle.std.proofs.Common.{◌≡◌, ℕ, Bool, true, false, List, length, refl, sym, arith}
use Rattle.std.specs.Prelude.{◌==◌}
use Rattle.std.specs.List.{position_or_len}
use Rattle.std.proofs.lemmas.List.Sums.{position_or_len_is}
use Rattle.memchr.specs.Find.{is_byte, Nowhere, NoneBefore, Passes}

fails : (b : Bool) → ¬ (b ≡ true) → b ≡ false
fails true h = absurd (h refl)
fails false h = refl

pub feed_found : (text : List ℕ) (k : ℕ) → NoneBefore (Passes (is_byte 10) text) 0 (length text) k → Passes (is_byte 10) text k
    → k ≡ position_or_len (λ b. b == 10) text
feed_found text k h passes = let high = h.high in
    sym (position_or_len_is (λ (b : ℕ). b == 10) text k 0 (omega arith) (λ i before. fails _ (h.before i (omega arith) before)) (λ within. passes))

pub feed_missing : (text : List ℕ) → Nowhere (Passes (is_byte 10) text) 0 (length text) → length text ≡ position_or_len (λ b. b == 10) text
feed_missing text h =
    sym (position_or_len_is (λ (b : ℕ). b == 10) text (length text) 0 (omega arith) (λ i before. fails _ (h i (omega arith) before)) (λ within. absurd (omega arith)))
