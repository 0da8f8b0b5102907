use Rattle.std.proofs.Common.{◌≡◌, ◌≤◌, ◌+◌, ◌++◌, vec_capacity, vec_len}
use Rattle.std.specs.Prelude.{replicate}
use Rattle.cas_sessions.proofs.defining.begin_frontiers.Given as goal

abbrev pub invariant-loop-shard : goal.invariant-loop-shard
invariant-loop-shard l = record {
  items : l.frontiers.items ≡ l.fn.frontiers.items ++ replicate l._shard 0;
  room : vec_len l.frontiers + l.shards ≤ vec_capacity l.frontiers + l._shard;
}
