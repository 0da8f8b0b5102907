use Rattle.std.proofs.Common.{◌≡◌, length}
use Rattle.cas_live.specs.Inner.OwnRow.{some_shows}
use Rattle.cas_live.proofs.own_cells.some_shows.Given as goal

abbrev pub invariant-loop-rest : goal.invariant-loop-rest
invariant-loop-rest l = some_shows l.now l.over l.rest ≡ some_shows l.now l.over l.cells

abbrev pub decreases-loop-rest : goal.decreases-loop-rest
decreases-loop-rest l = length l.rest
