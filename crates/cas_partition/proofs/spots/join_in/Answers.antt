use Rattle.std.proofs.Common.{◌∷◌, sym, ap, ◌∙◌}
use Rattle.std.specs.Vec.Iter.{into_iter_items}
use Rattle.cas_partition.specs.Inner.Firsts.{with_first}
use Rattle.cas_partition.proofs.RunLists.{one_more_joined}
use Rattle.cas_partition.proofs.spots.join_in.Goals as goal

pub loop-next-preserved : goal.loop-next-preserved
loop-next-preserved c =
    one_more_joined c.args.row.now (into_iter_items c.args.rest.now) (with_first c.loop-next.next (into_iter_items c.loop-next.rest)) (with_first c.first_of-next-in-Some.result (into_iter_items c.first_of-next-in-Some.new.rest))
    c.in-Some.atom _ c.loop-next.body c.join_atom.new.body
    (ap (λ n. with_first n (into_iter_items c.loop-next.rest)) c.in-Some.is ∙ ap (λ l. c.in-Some.atom ∷ l) (sym c.first_of-next-in-Some.ensures)) (c.is_in_row.ensures c.if-not-is_in_row.false)
    c.loop-next.invariant c.join_atom.ensures
