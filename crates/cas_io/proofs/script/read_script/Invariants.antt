use Rattle.std.proofs.Common.{◌≤◌, length, ◌-◌}
use Rattle.std.specs.Io.KnownBytes.{Consumes}
use Rattle.cas_io.proofs.script.read_script.Given as goal

abbrev pub invariant-loop-count : goal.invariant-loop-count
invariant-loop-count g l = record {
  taken : Consumes (g.S.Source.left l.initial.source) (g.S.Source.left l.source) l.script.items;
  faults : g.S.Source.faults l.initial.source ≤ g.S.Source.faults l.source;
  short : length l.script.items ≤ l.limit;
}

abbrev pub decreases-loop-count : goal.decreases-loop-count
decreases-loop-count g l = l.limit - length l.script.items
