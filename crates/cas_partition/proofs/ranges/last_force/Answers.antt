use Rattle.std.proofs.Common.{None, sym, ap, ◌∙◌}
use Rattle.cas_partition.specs.Inner.Slots.{last_force as force_of_last}
use Rattle.cas_partition.proofs.Slots.{of_last}
use Rattle.cas_partition.proofs.ranges.last_force.Goals as goal

pub returns-in-Some : goal.returns-in-Some
returns-in-Some c =
    c.force_at.ensures
    ∙ sym (ap (λ l. force_of_last None l c.args.forces.now) c.in-Some.ensures.steps ∙ of_last None c.next_back.new.self (c.in-Some.field-0-0.now, c.in-Some.slot.now) c.args.forces.now)
