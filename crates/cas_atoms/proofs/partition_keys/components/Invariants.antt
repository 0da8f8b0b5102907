use Rattle.std.proofs.Common.{◌≡◌, ◌-◌, ◌++◌}
use Rattle.cas_atoms.specs.PartitionKeys.{components}
use Rattle.cas_atoms.proofs.partition_keys.components.Given as goal

abbrev pub invariant-loop-column : goal.invariant-loop-column
invariant-loop-column l = l.values.items ++ components (l.count - l._column) l.rest ≡ components l.count l.fn.key
