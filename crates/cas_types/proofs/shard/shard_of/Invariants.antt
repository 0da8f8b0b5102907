use Rattle.std.proofs.Common.{◌≡◌, take, ◌*◌, ◌≤◌}
use Rattle.std.specs.List.{sum}
use Rattle.cas_types.proofs.shard.shard_of.Given as goal

abbrev pub invariant-loop-byte : goal.invariant-loop-byte
invariant-loop-byte l = (l.total ≡ sum (take l.byte-index l.key)) × (l.total ≤ 255 * l.byte-index)
