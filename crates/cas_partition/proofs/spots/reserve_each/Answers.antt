use Rattle.cas_partition.proofs.RunLists.{one_placed}
use Rattle.cas_partition.proofs.spots.reserve_each.Goals as goal

pub loop-rest-preserved : goal.loop-rest-preserved
loop-rest-preserved c =
    one_placed c.args.atoms.now c.loop-rest.rest.now c.atom-item.result c.atom-item.result c.in_ok-place_of.field-0 c.tag_of.result _ c.loop-rest.body c.reserve.new.self
    c.in-len1-up.len_at_least c.atom-item.is c.loop-rest.invariant c.in_ok-place_of.ensures c.tag_of.ensures c.in_ok-reserve.ensures.ok
