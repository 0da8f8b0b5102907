use Rattle.std.proofs.Common.{◌≡◌, take, flat_map}
use Rattle.cas_reference.specs.Kept.{atoms_if}
use Rattle.cas_reference.proofs.accepted.atoms_in.Given as goal

abbrev pub invariant-loop-mutation : goal.invariant-loop-mutation
invariant-loop-mutation l = l.atoms.items ≡ flat_map (atoms_if l.table l.key) (take l.mutation-index l.mutations)
