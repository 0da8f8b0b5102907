use Rattle.std.proofs.Common.{◌≡◌, take}
use Rattle.cas_skips.specs.Inner.Passing.{seen}
use Rattle.cas_skips.proofs.blocks.borrowed.Given as goal

abbrev pub invariant-loop-value : goal.invariant-loop-value
invariant-loop-value l = seen l.all.items ≡ take l.value-index l.values
