use Rattle.std.proofs.Common.{◌≡◌}
use Rattle.std.specs.Prelude.{replicate}
use Rattle.cas_changes.specs.Saying.{no_times}
use Rattle.cas_changes.proofs.taking.first_times.Given as goal

abbrev pub invariant-loop-shard : goal.invariant-loop-shard
invariant-loop-shard l = l.times.items ≡ replicate l._shard no_times
