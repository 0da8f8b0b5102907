use Rattle.std.proofs.Common.{◌≡◌, take}
use Rattle.std.specs.List.{filter_map}
use Rattle.cas_define.specs.Schemas.{key_item}
use Rattle.cas_define.proofs.parts.keys_said.Given as goal

abbrev pub invariant-loop-item : goal.invariant-loop-item
invariant-loop-item l = l.keys.items ≡ filter_map key_item (take l.item-index l.items)
