use Rattle.std.proofs.Common.{◌≡◌, ◌++◌, length}
use Rattle.cas_partition.proofs.body.move_few.Given as goal

abbrev pub invariant-loop-last : goal.invariant-loop-last
invariant-loop-last l = l.few.items ++ l.many.entries ≡ l.fn.few.items ++ l.fn.many.entries

abbrev pub decreases-loop-last : goal.decreases-loop-last
decreases-loop-last l = length l.few.items
