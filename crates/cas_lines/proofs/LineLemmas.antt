-- The first line of a text, and the lines after it.
use Rattle.std.proofs.Common.{◌≡◌, ℕ, ◌+◌, ◌-◌, ◌<◌, ◌≤◌, false, List, [], ◌∷◌, length, take, drop, refl, ap, ◌∙◌, arith, suc}
use Rattle.std.specs.Prelude.{◌==◌}
use Rattle.std.specs.List.{position_or_len, after_first, slice_split, All}
use Rattle.std.specs.Str.Lines.{lines, lines_of_parts, strip_carriage_return}
use Rattle.std.proofs.lemmas.Bool.{cond-false}
use Rattle.std.proofs.lemmas.Bool.Decides.{nat_tests}
use Rattle.std.proofs.lemmas.List.{take_rest}
use Rattle.std.proofs.lemmas.List.Splits.{slice_split_first, slice_split_none, length-slice_split}
use Rattle.std.proofs.lemmas.List.Sums.{fails_before_first}

more_lines : (x : List ℕ) (parts : List (List ℕ)) → 0 < length parts → lines_of_parts (x ∷ parts) ≡ strip_carriage_return x ∷ lines_of_parts parts
more_lines x [] h = absurd (omega arith)
more_lines x (y ∷ parts) h = refl

pub lines_first : (text : List ℕ) → position_or_len (λ b. b == 10) text < length text
    → lines text ≡ strip_carriage_return (take (position_or_len (λ b. b == 10) text) text) ∷ lines (drop (position_or_len (λ b. b == 10) text + 1) text)
lines_first text h =
    let some : 0 < length (slice_split (λ b. b == 10) (after_first (λ b. b == 10) text)) = omega (arith, length-slice_split (λ b. b == 10) (after_first (λ b. b == 10) text)) in
    ap lines_of_parts (slice_split_first (λ b. b == 10) text 0 h) ∙ more_lines _ _ some

pub lines_at : (text line : List ℕ) (at : ℕ) → at ≡ position_or_len (λ b. b == 10) text → at < length text → line ≡ strip_carriage_return (take at text)
    → lines text ≡ line ∷ lines (take (length text - (at + 1)) (drop (at + 1) text))
lines_at text line at e h l = rw (l, take_rest, e) (lines_first text (rw (← e) h))

no_feed : (text : List ℕ) → length text ≤ position_or_len (λ b. b == 10) text → All (λ b. (b == 10) ≡ false) text
no_feed text h = λ k d lt. fails_before_first (λ b. b == 10) text k d (omega arith)

one_line : (text : List ℕ) → 0 < length text → lines_of_parts (text ∷ []) ≡ text ∷ []
one_line [] h = absurd (omega arith)
one_line (x ∷ xs) h = cond-false (suc (length xs) == 0) [] ((x ∷ xs) ∷ []) (grind (arith, nat_tests))

pub lines_last : (text : List ℕ) → 0 < length text → length text ≤ position_or_len (λ b. b == 10) text → lines text ≡ text ∷ []
lines_last text h n = ap lines_of_parts (slice_split_none (λ b. b == 10) text (no_feed text n)) ∙ one_line text h
