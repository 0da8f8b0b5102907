use Rattle.std.proofs.Common.{◌≡◌, ◌+◌, ◌-◌, ◌^◌, min, take}
use Rattle.std.specs.List.{sum_by}
use Rattle.cas_fragments.specs.Lengths.{column_length}
use Rattle.cas_fragments.proofs.lengths.columns_len.Given as goal

abbrev pub invariant-loop-column : goal.invariant-loop-column
invariant-loop-column l = l.total ≡ min (2 + sum_by column_length (take l.column-index l.columns)) (2 ^ 64 - 1)
