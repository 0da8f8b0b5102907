use Rattle.std.proofs.Common.{◌≡◌, take}
use Rattle.cas_recovery.specs.Restored.{greatest_of}
use Rattle.cas_recovery.proofs.memory.greatest_of.Given as goal

abbrev pub invariant-loop-number : goal.invariant-loop-number
invariant-loop-number l = l.greatest ≡ greatest_of (take l.number-index l.numbers)
