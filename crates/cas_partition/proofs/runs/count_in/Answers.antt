use Rattle.cas_partition.proofs.RunLists.{one_counted}
use Rattle.cas_partition.proofs.runs.count_in.Goals as goal

pub loop-rest-preserved : goal.loop-rest-preserved
loop-rest-preserved c =
    one_counted c.args.row.now c.args.atoms.now c.loop-rest.rest.now c.atom-item.result c.atom-item.result c.loop-rest.count c.in-len1-up.len_at_least c.atom-item.is
    (c.is_in_row.ensures c.if-not-is_in_row.false) c.loop-rest.invariant
