use Rattle.std.proofs.Common.{◌≡◌}
use Rattle.cas_opening.specs.Inner.Counting.{frontiers_below}
use Rattle.cas_opening.proofs.collecting.frontiers.Given as goal

abbrev pub invariant-loop-table : goal.invariant-loop-table
invariant-loop-table l = l.out.items ≡ frontiers_below l.said l.table
