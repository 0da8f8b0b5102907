-- A text of the code is UTF-8.
use Rattle.std.proofs.Common.{◌≡◌, ℕ, List, Option, Some, sym, ap, ◌∙◌}
use Rattle.std.specs.Bool.{then_some}
use Rattle.std.specs.Str.{IsUtf8}
use Rattle.std.proofs.lemmas.Str.{is_utf8-from_IsUtf8}
use Rattle.cas_types.specs.declared.tag.TypeTag.{TypeTag}
use Rattle.cas_types.specs.declared.tag.TypeTag.TheVariants.{Text}
use Rattle.cas_terms.specs.Constants.{text_bytes}

pub text_is_itself : (tag : TypeTag) (bytes text : List ℕ) → tag ≡ Text → bytes ≡ text → IsUtf8 text → Some bytes ≡ text_bytes tag text
unfolding text_bytes
text_is_itself tag bytes text is e utf8 =
    ap (λ b. Some b) e ∙ sym (ap (λ t. then_some t text) (is_utf8-from_IsUtf8 text utf8)) ∙ sym (ap (λ t. text_bytes t text) is)
