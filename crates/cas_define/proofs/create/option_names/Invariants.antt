use Rattle.std.proofs.Common.{◌≡◌, take}
use Rattle.std.specs.List.{filter_map}
use Rattle.cas_define.specs.CreateTests.{option_name}
use Rattle.cas_define.proofs.create.option_names.Given as goal

abbrev pub invariant-loop-option : goal.invariant-loop-option
invariant-loop-option l = l.names.items ≡ filter_map option_name (take l.option-index l.options)
