use Rattle.std.proofs.Common.{◌≡◌, map, take}
use Rattle.std.specs.Option.{option_copied}
use Rattle.cas_atoms.specs.Coordinates.{row_key}
use Rattle.cas_atoms.specs.Picks.{picked}
use Rattle.cas_atoms.proofs.answers.row_shown.Given as goal

abbrev pub invariant-loop-pick : goal.invariant-loop-pick
invariant-loop-pick l = l.values.items ≡ map (picked l.query l.partition.atoms.now l.partition.now (row_key (option_copied l.row))) (take l.pick-index l.query.picks)
