use Rattle.std.proofs.Common.{◌≡◌, length}
use Rattle.cas_types.specs.Values.{bytes_cmp}
use Rattle.cas_types.proofs.bytes.compare_bytes.Given as goal

abbrev pub invariant-loop-x : goal.invariant-loop-x
invariant-loop-x l = bytes_cmp l.x l.y ≡ bytes_cmp l.a l.b

abbrev pub decreases-loop-x : goal.decreases-loop-x
decreases-loop-x l = length l.x
