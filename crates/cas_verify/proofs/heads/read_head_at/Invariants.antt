use Rattle.std.proofs.Common.{◌-◌, ◌≤◌}
use Rattle.cas_verify.proofs.heads.read_head_at.Given as goal

abbrev pub invariant-loop-long : goal.invariant-loop-long
invariant-loop-long g l = record {
  some : 1 ≤ l.long;
  faults : g.F.Tally.Count.number l.fn.tally ≤ g.F.Tally.Count.number l.tally;
}

abbrev pub decreases-loop-long : goal.decreases-loop-long
decreases-loop-long g l = l.room - l.long
