use Rattle.std.proofs.Common.{◌≡◌, [], ◌∷◌, Some}
use Rattle.cas_effects.specs.TooLarge.{too_large}
use Rattle.cas_keys.proofs.KeyLemmas.{first_too_large}
use Rattle.cas_keys.proofs.key_terms.sole_key.Goals as goal

pub returns-in-Some : goal.returns-in-Some
returns-in-Some c =
    let told : too_large (c.args.value ∷ []) ≡ Some c.in-Some.refusal = cc (c.one_too_large.ensures, c.in-Some.ensures, c.in-Some.is, c.as_slice.ensures) in
    first_too_large c.args.value c.in-Some.refusal told
