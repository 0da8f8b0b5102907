use Rattle.std.proofs.Common.{◌≡◌, take}
use Rattle.std.specs.List.{filter_map}
use Rattle.cas_define.specs.Schemas.{other_column}
use Rattle.cas_define.proofs.schemas.other_columns.Given as goal

abbrev pub invariant-loop-column : goal.invariant-loop-column
invariant-loop-column l = l.others.items ≡ filter_map (other_column l.key) (take l.column-index l.columns)
