use Rattle.std.proofs.Common.{◌≡◌, ◌+◌, ◌≤◌, ◌++◌, length, vec_len}
use Rattle.std.specs.List.{AllByRecursion, flat_map, sum_by}
use Rattle.std.specs.Vec.{vec_capacity}
use Rattle.cas_fragments.specs.Spelling.{column_bytes}
use Rattle.cas_fragments.specs.Lengths.{column_length}
use Rattle.cas_fragments.specs.Allowed.{ColumnHasRoom}
use Rattle.cas_fragments.proofs.writing.put_each_column.Given as goal

abbrev pub invariant-loop-rest : goal.invariant-loop-rest
invariant-loop-rest l = record {
  room : AllByRecursion ColumnHasRoom l.rest;
  written : l.out.items ++ flat_map column_bytes l.rest ≡ l.fn.out.items ++ flat_map column_bytes l.columns;
  long : vec_len l.out + sum_by column_length l.rest ≡ vec_len l.fn.out + sum_by column_length l.columns;
  capacity : vec_capacity l.fn.out ≤ vec_capacity l.out;
}

abbrev pub decreases-loop-rest : goal.decreases-loop-rest
decreases-loop-rest l = length l.rest
