use Rattle.std.proofs.Common.{◌≡◌, length}
use Rattle.cas_partition.specs.Inner.Passing.{all_hidden}
use Rattle.cas_partition.proofs.passing.all_hidden.Given as goal

abbrev pub invariant-loop-content : goal.invariant-loop-content
invariant-loop-content l = all_hidden l.fn.over l.rest ≡ all_hidden l.fn.over l.fn.body

abbrev pub decreases-loop-content : goal.decreases-loop-content
decreases-loop-content l = length l.rest
