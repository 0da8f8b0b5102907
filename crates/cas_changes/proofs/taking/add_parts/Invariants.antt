use Rattle.std.proofs.Common.{◌≡◌, ◌++◌}
use Rattle.std.specs.Prelude.{replicate}
use Rattle.cas_changes.specs.Saying.{no_part}
use Rattle.cas_changes.proofs.taking.add_parts.Given as goal

abbrev pub invariant-loop-shard : goal.invariant-loop-shard
invariant-loop-shard l = l.parts.items ≡ l.fn.parts.items ++ replicate l._shard no_part
