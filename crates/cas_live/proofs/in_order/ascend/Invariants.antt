use Rattle.std.proofs.Common.{◌≡◌, length}
use Rattle.cas_live.specs.Inner.InOrder.{ascend}
use Rattle.cas_live.proofs.in_order.ascend.Given as goal

abbrev pub invariant-loop-rest : goal.invariant-loop-rest
invariant-loop-rest l = ascend l.tag l.rest ≡ ascend l.tag l.cells

abbrev pub decreases-loop-rest : goal.decreases-loop-rest
decreases-loop-rest l = length l.rest
