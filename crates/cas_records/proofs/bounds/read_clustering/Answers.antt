use Rattle.cas_records.proofs.BoundLaws.{clustering_answer}
use Rattle.cas_records.proofs.bounds.read_clustering.Goals as goal

pub returns : goal.returns
returns c =
    clustering_answer c.args.order.now _ _ _ _ _ _ _ _ _ c.len.ensures c.len-2.ensures c.as_slice.ensures c.in_ok-clone.ensures.cases
    c.in_ok-read_count.ensures.exact c.in_ok-values.ensures
