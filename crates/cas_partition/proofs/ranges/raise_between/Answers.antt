use Rattle.std.proofs.Common.{sym, ◌∙◌}
use Rattle.cas_partition.proofs.Slots.{nothing_raised}
use Rattle.cas_partition.proofs.ranges.raise_between.Goals as goal

pub returns-else-lt : goal.returns-else-lt
returns-else-lt c = sym (nothing_raised c.args.from.now c.args.to.now c.args.d c.args.cuts.now.entries c.args.forces.now.items (sym c.lt.ensures ∙ c.if-lt.false))
