use Rattle.std.proofs.Common.{◌≡◌, take, fold}
use Rattle.cas_reference.specs.Kept.{IsTail, no_tail, tail_after}
use Rattle.cas_reference.proofs.tail.tail_of.Given as goal

abbrev pub invariant-loop-mutation : goal.invariant-loop-mutation
invariant-loop-mutation l = (l.tail ≡ fold (tail_after l.shard) no_tail (take l.mutation-index l.mutations)) × IsTail l.tail
