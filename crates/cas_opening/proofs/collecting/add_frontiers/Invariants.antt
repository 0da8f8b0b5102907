use Rattle.std.proofs.Common.{◌≡◌, ◌++◌}
use Rattle.cas_opening.specs.Inner.Counting.{frontiers_in}
use Rattle.cas_opening.proofs.collecting.add_frontiers.Given as goal

abbrev pub invariant-loop-shard : goal.invariant-loop-shard
invariant-loop-shard l = l.out.items ≡ l.fn.out.items ++ frontiers_in l.said l.table l.shard
