use Rattle.std.proofs.Common.{◌≡◌, ◌-◌, ◌^◌, min, take}
use Rattle.std.specs.List.{sum_by}
use Rattle.cas_atoms.specs.LogLength.{atom_length}
use Rattle.cas_atoms.proofs.log_length.atoms_len.Given as goal

abbrev pub invariant-loop-a : goal.invariant-loop-a
invariant-loop-a l = l.total ≡ min (sum_by atom_length (take l.a-index l.atoms)) (2 ^ 64 - 1)
