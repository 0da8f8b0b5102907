use Rattle.std.proofs.Common.{◌≡◌, ◌+◌, ◌-◌, ◌^◌, min, take}
use Rattle.std.specs.List.{sum_by}
use Rattle.cas_atoms.specs.LogLength.{short_length}
use Rattle.cas_records.proofs.bounds.values_len.Given as goal

abbrev pub invariant-loop-value : goal.invariant-loop-value
invariant-loop-value l = l.total ≡ min (1 + sum_by short_length (take l.value-index l.values)) (2 ^ 64 - 1)
