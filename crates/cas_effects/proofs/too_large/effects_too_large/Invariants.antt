use Rattle.std.proofs.Common.{◌≡◌, drop}
use Rattle.std.specs.List.{flat_map}
use Rattle.cas_effects.specs.TooLarge.{limited_values, too_large}
use Rattle.cas_effects.proofs.too_large.effects_too_large.Given as goal

abbrev pub invariant-loop-effect : goal.invariant-loop-effect
invariant-loop-effect l = too_large (flat_map limited_values (drop l.effect-index l.effects)) ≡ too_large (flat_map limited_values l.effects)
