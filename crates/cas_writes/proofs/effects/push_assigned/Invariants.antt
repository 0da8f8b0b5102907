use Rattle.std.proofs.Common.{◌≡◌, ◌++◌, take}
use Rattle.std.specs.List.{flat_map}
use Rattle.cas_writes.specs.Changes.{change_effects}
use Rattle.cas_mentions.specs.Mentions.{assigns}
use Rattle.cas_writes.proofs.effects.push_assigned.Given as goal

abbrev pub invariant-loop-assignment : goal.invariant-loop-assignment
invariant-loop-assignment l = l.effects.items ≡ l.initial.effects.items ++ flat_map (λ x. change_effects l.columns l.row (x.column, assigns x.value)) (take l.assignment-index l.assignments)
