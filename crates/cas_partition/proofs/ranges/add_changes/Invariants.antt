use Rattle.std.proofs.Common.{◌≡◌, ◌++◌, map, length}
use Rattle.cas_partition.specs.Partitions.{marker}
use Rattle.cas_partition.specs.Inner.Passing.{lent_marker}
use Rattle.cas_partition.specs.Inner.Slots.{changes_of, last_force}
use Rattle.cas_partition.proofs.ranges.add_changes.Given as goal

abbrev pub invariant-loop-key : goal.invariant-loop-key
invariant-loop-key l = record {
  added : map lent_marker l.marks.items ++ map marker (changes_of l.rest l.forces) ≡ map lent_marker l.fn.marks.items ++ map marker (changes_of l.fn.cuts l.fn.forces);
  behind : last_force l.last l.rest l.forces ≡ last_force l.fn.before l.fn.cuts l.fn.forces;
}

abbrev pub decreases-loop-key : goal.decreases-loop-key
decreases-loop-key l = length l.rest
