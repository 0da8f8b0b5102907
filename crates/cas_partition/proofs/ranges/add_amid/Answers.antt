use Rattle.std.proofs.Common.{◌≡◌, ◌++◌, map, IfOk, OnOk, subst}
use Rattle.cas_partition.specs.Partitions.{marker}
use Rattle.cas_partition.specs.Inner.Passing.{lent_marker}
use Rattle.cas_partition.specs.Inner.Slots.{changes_of, last_force}
use Rattle.cas_partition.proofs.ranges.add_amid.Goals as goal

pub returns-clause-added : goal.returns-clause-added
returns-clause-added c =
    subst (λ es. OnOk c.add_changes.result (map lent_marker c.add_changes.new.marks.items ≡ map lent_marker c.args.marks.now.items ++ map marker (changes_of es c.args.forces.now)))
    (c.range.ensures.between tt) c.add_changes.ensures.added

pub returns-clause-behind : goal.returns-clause-behind
returns-clause-behind c =
    subst (λ es. IfOk c.add_changes.result (λ d. d ≡ last_force c.args.before es c.args.forces.now))
    (c.range.ensures.between tt) c.add_changes.ensures.behind
