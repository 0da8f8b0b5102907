use Rattle.std.proofs.Common.{◌≡◌, ◌∷◌, Some, Err, ap, subst}
use Rattle.cas_types.specs.Keys.{key_of}
use Rattle.cas_effects.specs.TooLarge.{too_large}
use Rattle.cas_effects.specs.declared.refusal.Refusal.TheVariants.{TooLarge}
use Rattle.cas_keys.proofs.KeyLemmas.{too_long}
use Rattle.cas_keys.proofs.key_terms.joined_key.Goals as goal

pub returns-in-Err-TooLong : goal.returns-in-Err-TooLong
returns-in-Err-TooLong c = λ others.
    subst (λ vs. too_large (key_of vs ∷ others) ≡ Some (TooLarge c.in-Err-TooLong.length 65535)) c.in_ok-builder.ensures.1
    (too_long (key_of c.in_ok-builder.field-0.values) c.in-Err-TooLong.length _ (ap (λ f. Err f) c.in-Err-TooLong.field-0-is) c.in-Err-TooLong.ensures.refused c.in-Err-TooLong.ensures.memory others)
