use Rattle.std.proofs.Common.{sym, ap, ◌∙◌, subst}
use Rattle.cas_partition.specs.Ranges.{lies, raised}
use Rattle.cas_partition.specs.Inner.Slots.{changes_of, IsWhole, between}
use Rattle.cas_partition.proofs.Slots.{raised_between, still_whole}
use Rattle.cas_partition.proofs.ranges.Ranges.raise.Goals as goal

pub invariant_of-self : goal.invariant_of-self
invariant_of-self c =
    subst (IsWhole c.self.inside.cuts.entries) (sym c.raise_between.ensures) (still_whole c.args.d (between c.of-from.result c.of-to.result c.self.inside.cuts.entries) c.self.inside.cuts.entries c.self.inside.forces.items c.self.invariant)

pub returns : goal.returns
returns c =
    ap (changes_of c.self.inside.cuts.entries) c.raise_between.ensures
    ∙ raised_between c.args.lo c.args.hi c.of-from.result c.of-to.result c.args.d c.self.inside.cuts.entries c.self.inside.forces.items c.of-from.ensures c.of-to.ensures c.self.invariant
    ∙ ap (raised (lies c.args.lo c.args.hi) c.args.d) c.self.view_is
