use Rattle.std.proofs.Common.{◌≡◌, ◌+◌, ◌-◌, ◌^◌, min, take}
use Rattle.std.specs.List.{sum_by}
use Rattle.cas_fragments.specs.Lengths.{path_cell_length}
use Rattle.cas_fragments.proofs.lengths.cells_len.Given as goal

abbrev pub invariant-loop-cell : goal.invariant-loop-cell
invariant-loop-cell l = l.total ≡ min (4 + sum_by path_cell_length (take l.cell-index l.cells)) (2 ^ 64 - 1)
