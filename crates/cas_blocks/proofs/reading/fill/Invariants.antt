use Rattle.std.proofs.Common.{◌≡◌, ◌-◌, ◌≤◌, ℕ, List, Some, length}
use Rattle.cas_blocks.specs.Inner.Ranges.{IsFront}
use Rattle.cas_blocks.proofs.reading.fill.Given as goal

abbrev pub invariant-loop-filled : goal.invariant-loop-filled
invariant-loop-filled g l = record {
  within : l.filled ≤ length l.fn.bytes;
  front : (b : List ℕ) → g.F.Sealed.contents l.file ≡ Some b → IsFront b l.at l.filled l.bytes;
  faults : g.F.Tally.Count.number l.fn.tally ≤ g.F.Tally.Count.number l.tally;
}

abbrev pub decreases-loop-filled : goal.decreases-loop-filled
decreases-loop-filled g l = length l.fn.bytes - l.filled
