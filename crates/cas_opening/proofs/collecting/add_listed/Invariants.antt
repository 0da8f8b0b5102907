use Rattle.std.proofs.Common.{◌≡◌, ◌++◌}
use Rattle.cas_opening.specs.Inner.Counting.{listed_in}
use Rattle.cas_opening.proofs.collecting.add_listed.Given as goal

abbrev pub invariant-loop-shard : goal.invariant-loop-shard
invariant-loop-shard l = l.out.items ≡ l.fn.out.items ++ listed_in l.said l.table l.shard
