use Rattle.std.proofs.Common.{◌↔◌, length}
use Rattle.std.specs.List.{AllByRecursion}
use Rattle.cas_fragments.specs.Allowed.{CellHasRoom}
use Rattle.cas_sstwrite.proofs.rooms.cells_have_room.Given as goal

abbrev pub invariant-loop-rest : goal.invariant-loop-rest
invariant-loop-rest l = AllByRecursion CellHasRoom l.fn.cells ↔ AllByRecursion CellHasRoom l.rest

abbrev pub decreases-loop-rest : goal.decreases-loop-rest
decreases-loop-rest l = length l.rest
