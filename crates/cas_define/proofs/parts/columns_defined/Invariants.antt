use Rattle.std.proofs.Common.{◌≡◌, take}
use Rattle.std.specs.List.{filter_map}
use Rattle.cas_define.specs.Schemas.{column_item}
use Rattle.cas_define.proofs.parts.columns_defined.Given as goal

abbrev pub invariant-loop-item : goal.invariant-loop-item
invariant-loop-item l = l.columns.items ≡ filter_map column_item (take l.item-index l.items)
