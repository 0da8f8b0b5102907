use Rattle.std.proofs.Common.{◌≡◌, take}
use Rattle.cas_types.specs.Keys.{composite_key}
use Rattle.cas_types.proofs.key.encode_composite.Given as goal

abbrev pub invariant-loop-value : goal.invariant-loop-value
invariant-loop-value l = l.key.items ≡ composite_key (take l.value-index l.values)
