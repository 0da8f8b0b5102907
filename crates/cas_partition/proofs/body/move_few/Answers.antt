use Rattle.std.proofs.Common.{◌++◌, ap, ◌∙◌}
use Rattle.cas_partition.proofs.FewPlaces.{is_moved}
use Rattle.cas_partition.proofs.body.move_few.Goals as goal

pub loop-last-preserved : goal.loop-last-preserved
loop-last-preserved c =
    ap (λ l. c.pop.new.self.items ++ l) c.in_default-put.ensures.ok
    ∙ is_moved c.loop-last.few.items c.pop.new.self.items c.loop-last.many.entries (c.args.few.now.items ++ c.args.many.now.entries) c.in-Some.last c.in-Some.ensures.items c.loop-last.invariant c.requires
