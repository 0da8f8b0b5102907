-- A result that tells of UTF-8 is the test of it.
use Rattle.std.proofs.Common.{◌≡◌, ℕ, Bool, true, false, List, sym, refl}
use Rattle.std.specs.Prelude.{is_ok, MatchResult}
use Rattle.std.specs.declared.result.Result.{Result}
use Rattle.std.specs.declared.result.Result.TheVariants.{Ok, Err}
use Rattle.std.specs.Str.{is_utf8, IsUtf8}
use Rattle.std.proofs.lemmas.Str.{IsUtf8-from_is_utf8, is_utf8-from_IsUtf8}

refused : (bs : List ℕ) (t : Bool) → is_utf8 bs ≡ t → ¬ (IsUtf8 bs) → false ≡ t
refused bs true e n = absurd (n (IsUtf8-from_is_utf8 bs e))
refused bs false e n = refl

pub told : {T E : Type 0} (bs : List ℕ) (P : T → Type 0) (Q : E → Type 0) (r : Result T E) → MatchResult r (λ s. P s × IsUtf8 bs) (λ e. (¬ (IsUtf8 bs)) × Q e) → is_ok r ≡ is_utf8 bs
told bs P Q (Ok s) m = sym (is_utf8-from_IsUtf8 bs m.1)
told bs P Q (Err e) m = refused bs (is_utf8 bs) refl m.0
