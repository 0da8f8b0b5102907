use Rattle.std.proofs.Common.{◌≡◌}
use Rattle.cas_opening.specs.Inner.Counting.{listed_below}
use Rattle.cas_opening.proofs.collecting.listed_tables.Given as goal

abbrev pub invariant-loop-table : goal.invariant-loop-table
invariant-loop-table l = l.out.items ≡ listed_below l.said l.table
