use Rattle.std.proofs.Common.{◌≡◌}
use Rattle.std.specs.List.{flat_map}
use Rattle.cas_effects.specs.AtomsOf.{effect_atoms}
use Rattle.cas_effects.proofs.atoms.all_atoms.Given as goal

abbrev pub invariant-loop-effect : goal.invariant-loop-effect
invariant-loop-effect l = l.atoms.items ≡ flat_map (effect_atoms l.stamp) l.yielded
