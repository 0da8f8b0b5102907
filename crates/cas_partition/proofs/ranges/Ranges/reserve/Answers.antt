use Rattle.std.proofs.Common.{None, sym, ap, ◌∙◌}
use Rattle.cas_partition.specs.Ranges.{with_cut}
use Rattle.cas_partition.specs.Inner.Slots.{force_below}
use Rattle.cas_partition.proofs.Slots.{already, more_whole, more_same, put_whole, put_in, on_err}
use Rattle.cas_partition.proofs.ranges.Ranges.reserve.Goals as goal

pub returns-then-contains_key-clause-there : goal.returns-then-contains_key-clause-there
returns-then-contains_key-clause-there c =
    sym c.self.view_is
    ∙ already c.args.cut c.of-key.result c.self.inside.cuts.entries c.self.inside.forces.items c.of-key.ensures c.self.invariant.cuts (sym c.contains_key.ensures ∙ c.if-contains_key.true)
    ∙ ap (with_cut c.args.cut) c.self.view_is

pub invariant_of-self-in_err-insert : goal.invariant_of-self-in_err-insert
invariant_of-self-in_err-insert c =
    more_whole c.self.inside.cuts.entries c.insert.new.self.entries c.self.inside.forces.items c.push.new.self.items c.force_below-force.result c.in_err-insert.ensures.err c.in_ok-push.ensures.items c.self.invariant

pub returns-in_err-insert-clause-err : goal.returns-in_err-insert-clause-err
returns-in_err-insert-clause-err c =
    on_err c.from_residual-in_err-insert.result _
    (more_same c.self.inside.cuts.entries c.insert.new.self.entries c.self.inside.forces.items c.push.new.self.items c.force_below-force.result c.in_err-insert.ensures.err c.in_ok-push.ensures.items c.self.invariant
    ∙ c.self.view_is)

pub invariant_of-self-2 : goal.invariant_of-self-2
invariant_of-self-2 c =
    put_whole c.args.cut c.of-key.result c.self.inside.cuts.entries c.insert.new.self.entries c.self.inside.forces.items c.push.new.self.items c.force_below-force.result c.len-slot.result c.of-key.ensures (c.len-slot.ensures ∙ c.self.inside.forces.ok.0)
    c.in_ok-insert.ensures.entries c.in_ok-push.ensures.items c.in_ok-insert.ensures.ordered c.self.invariant

pub returns-clause-there : goal.returns-clause-there
returns-clause-there c =
    put_in c.args.cut c.of-key.result c.self.inside.cuts.entries c.insert.new.self.entries c.self.inside.forces.items c.push.new.self.items c.force_below-force.result c.len-slot.result c.of-key.ensures (c.len-slot.ensures ∙ c.self.inside.forces.ok.0)
    c.in_ok-insert.ensures.entries c.in_ok-push.ensures.items (c.force_below-force.ensures ∙ ap (force_below c.of-key.result None c.self.inside.cuts.entries) c.deref.ensures.value)
    (sym c.contains_key.ensures ∙ c.if-contains_key.false) c.self.invariant
    ∙ ap (with_cut c.args.cut) c.self.view_is
