use Rattle.std.proofs.Common.{◌≡◌, ◌++◌, take}
use Rattle.std.specs.List.{flat_map}
use Rattle.cas_writes.specs.Changes.{change_effects}
use Rattle.cas_mentions.specs.Mentions.{deletes}
use Rattle.cas_writes.proofs.effects.push_deleted.Given as goal

abbrev pub invariant-loop-target : goal.invariant-loop-target
invariant-loop-target l = l.effects.items ≡ l.initial.effects.items ++ flat_map (λ x. change_effects l.columns l.row (x.column, deletes x.key)) (take l.target-index l.targets)
