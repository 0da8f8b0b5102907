use Rattle.std.proofs.Common.{None, not, sym, ap, ◌∙◌}
use Rattle.std.specs.Ordering.{is_lt}
use Rattle.cas_bounds.specs.Keys.{key_cmp}
use Rattle.cas_partition.specs.Inner.Slots.{last_force}
use Rattle.cas_partition.proofs.Slots.{by_last}
use Rattle.cas_partition.proofs.ranges.force_behind.Goals as goal

pub returns : goal.returns
returns c =
    c.last_force.ensures ∙ ap (λ l. last_force None l c.args.forces.now) (c.range.ensures.between tt)
    ∙ sym (by_last (λ k. not (is_lt (key_cmp c.args.key.now k))) None c.args.cuts.now.entries c.args.forces.now)
