use Rattle.std.proofs.Common.{◌≡◌, length}
use Rattle.std.specs.Str.{bytes_eq}
use Rattle.cas_terms.specs.Inner.Beside.{any_beside}
use Rattle.cas_terms.proofs.names.any_beside.Given as goal

abbrev pub invariant-loop-rest : goal.invariant-loop-rest
invariant-loop-rest l = any_beside bytes_eq l.rest ≡ any_beside bytes_eq l.names

abbrev pub decreases-loop-rest : goal.decreases-loop-rest
decreases-loop-rest l = length l.rest
