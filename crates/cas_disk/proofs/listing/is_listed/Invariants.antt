use Rattle.std.proofs.Common.{◌≡◌, length}
use Rattle.cas_disk.specs.Inner.Listed.{is_listed}
use Rattle.cas_disk.proofs.listing.is_listed.Given as goal

abbrev pub invariant-loop-rest : goal.invariant-loop-rest
invariant-loop-rest l = is_listed l.n l.rest ≡ is_listed l.n l.entries

abbrev pub decreases-loop-rest : goal.decreases-loop-rest
decreases-loop-rest l = length l.rest
