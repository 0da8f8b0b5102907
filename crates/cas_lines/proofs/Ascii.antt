-- Bytes of ASCII, by the greatest of them.
use Rattle.std.proofs.Common.{◌≡◌, ℕ, ◌+◌, ◌<◌, ◌≤◌, List, length, take, get_or, subst, sym, arith}
use Rattle.std.specs.Prelude.{IsUtf8, IsAscii}
use Rattle.std.proofs.lemmas.List.{take_all}
use Rattle.std.proofs.lemmas.Str.{IsUtf8-from_ascii}
use Rattle.std.proofs.lemmas.Str.Ascii.{IsAscii-more}

pub ascii_more : (text : List ℕ) (i n most next : ℕ) → n ≡ i + 1 → i < length text → most ≤ next → get_or text i 0 ≤ next → (most < 128 → IsAscii (take i text)) → next < 128 → IsAscii (take n text)
ascii_more text i n most next e h a b before small = subst (λ m. IsAscii (take m text)) (sym e) (IsAscii-more text i h (before (omega arith)) (omega arith))

pub all_ascii : (text : List ℕ) (i : ℕ) → length text ≤ i → IsAscii (take i text) → IsUtf8 text
all_ascii text i h a = IsUtf8-from_ascii text (subst IsAscii (take_all i text h) a)
