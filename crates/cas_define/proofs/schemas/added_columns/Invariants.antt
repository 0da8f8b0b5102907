use Rattle.std.proofs.Common.{◌≡◌, take, map}
use Rattle.cas_define.specs.Schemas.{added_column}
use Rattle.cas_define.proofs.schemas.added_columns.Given as goal

abbrev pub invariant-loop-column : goal.invariant-loop-column
invariant-loop-column l = l.columns.items ≡ map added_column (take l.column-index l.added)
