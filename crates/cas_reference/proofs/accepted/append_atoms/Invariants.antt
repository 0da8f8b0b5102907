use Rattle.std.proofs.Common.{◌≡◌, ◌++◌, take}
use Rattle.cas_reference.proofs.accepted.append_atoms.Given as goal

abbrev pub invariant-loop-atom : goal.invariant-loop-atom
invariant-loop-atom l = l.into.items ≡ l.initial.into.items ++ take l.atom-index l.atoms
