use Rattle.std.proofs.Common.{◌≡◌, ◌+◌, ◌≤◌, ◌++◌, length, vec_len}
use Rattle.std.specs.List.{AllByRecursion, flat_map, sum_by}
use Rattle.std.specs.Vec.{vec_capacity}
use Rattle.cas_fragments.specs.Spelling.{path_cell_bytes}
use Rattle.cas_fragments.specs.Lengths.{path_cell_length}
use Rattle.cas_fragments.specs.Allowed.{CellHasRoom}
use Rattle.cas_fragments.proofs.writing.put_each_cell.Given as goal

abbrev pub invariant-loop-rest : goal.invariant-loop-rest
invariant-loop-rest l = record {
  room : AllByRecursion CellHasRoom l.rest;
  written : l.out.items ++ flat_map path_cell_bytes l.rest ≡ l.fn.out.items ++ flat_map path_cell_bytes l.cells;
  long : vec_len l.out + sum_by path_cell_length l.rest ≡ vec_len l.fn.out + sum_by path_cell_length l.cells;
  capacity : vec_capacity l.fn.out ≤ vec_capacity l.out;
}

abbrev pub decreases-loop-rest : goal.decreases-loop-rest
decreases-loop-rest l = length l.rest
