use Rattle.std.proofs.Common.{◌≡◌, length}
use Rattle.cas_live.specs.Inner.OwnRow.{none_of_key}
use Rattle.cas_live.proofs.own_row.none_of_key.Given as goal

abbrev pub invariant-loop-rest : goal.invariant-loop-rest
invariant-loop-rest l = none_of_key l.rest ≡ none_of_key l.columns

abbrev pub decreases-loop-rest : goal.decreases-loop-rest
decreases-loop-rest l = length l.rest
