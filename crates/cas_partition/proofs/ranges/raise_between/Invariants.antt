use Rattle.std.proofs.Common.{◌≡◌}
use Rattle.cas_partition.specs.Inner.Slots.{raised_at, between}
use Rattle.cas_partition.proofs.ranges.raise_between.Given as goal

abbrev pub invariant-loop-slot : goal.invariant-loop-slot
invariant-loop-slot l = raised_at l.fn.d l.inside l.forces.items ≡ raised_at l.fn.d (between l.fn.from l.fn.to l.fn.cuts.entries) l.fn.forces.items
