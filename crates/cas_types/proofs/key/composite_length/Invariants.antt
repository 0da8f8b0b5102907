use Rattle.std.proofs.Common.{◌≡◌, take, length, min, ◌^◌, ◌-◌}
use Rattle.cas_types.specs.Keys.{composite_key}
use Rattle.cas_types.proofs.key.composite_length.Given as goal

abbrev pub invariant-loop-value : goal.invariant-loop-value
invariant-loop-value l = l.total ≡ min (length (composite_key (take l.value-index l.values))) (2 ^ 64 - 1)
