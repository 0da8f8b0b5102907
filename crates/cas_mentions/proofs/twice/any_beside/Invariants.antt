use Rattle.std.proofs.Common.{◌≡◌, length}
use Rattle.cas_mentions.specs.Inner.Spots.{same_spot}
use Rattle.cas_terms.specs.Inner.Beside.{any_beside}
use Rattle.cas_mentions.proofs.twice.any_beside.Given as goal

abbrev pub invariant-loop-rest : goal.invariant-loop-rest
invariant-loop-rest l = any_beside same_spot l.rest ≡ any_beside same_spot l.spots

abbrev pub decreases-loop-rest : goal.decreases-loop-rest
decreases-loop-rest l = length l.rest
