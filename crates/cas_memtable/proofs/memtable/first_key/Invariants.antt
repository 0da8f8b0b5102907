use Rattle.std.proofs.Common.{◌≡◌, length}
use Rattle.cas_memtable.specs.Inner.Steps.{first_key as first_of}
use Rattle.cas_memtable.proofs.memtable.first_key.Given as goal

abbrev pub invariant-loop-key : goal.invariant-loop-key
invariant-loop-key l = first_of l.rest ≡ first_of l.fn.partitions

abbrev pub decreases-loop-key : goal.decreases-loop-key
decreases-loop-key l = length l.rest
