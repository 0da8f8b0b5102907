use Rattle.std.proofs.Common.{◌≡◌, take}
use Rattle.std.specs.List.{filter_map}
use Rattle.cas_define.specs.Schemas.{key_column}
use Rattle.cas_define.proofs.schemas.key_columns.Given as goal

abbrev pub invariant-loop-name : goal.invariant-loop-name
invariant-loop-name l = l.found.items ≡ filter_map (key_column l.options l.columns l.key) (take l.name-index l.names)
