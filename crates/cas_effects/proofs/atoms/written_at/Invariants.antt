use Rattle.std.proofs.Common.{◌≡◌, map}
use Rattle.cas_effects.specs.AtomsOf.{element_atom}
use Rattle.cas_effects.proofs.atoms.written_at.Given as goal

abbrev pub invariant-loop-element : goal.invariant-loop-element
invariant-loop-element l = l.atoms.items ≡ map (element_atom l.stamp l.row l.column) l.yielded
