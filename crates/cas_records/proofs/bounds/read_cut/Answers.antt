use Rattle.cas_records.proofs.BoundLaws.{cut_answer}
use Rattle.cas_records.proofs.bounds.read_cut.Goals as goal

pub returns-clause-order : goal.returns-clause-order
returns-clause-order c = c.in_ok-clone.ensures.cases

pub returns-clause-exact : goal.returns-clause-exact
returns-clause-exact c =
    cut_answer c.args.order.now _ _ _ _ _ _ _ _ _ _ c.len.ensures c.as_slice.ensures c.in_ok-clone.ensures.cases
    c.in_ok-after.ensures.exact c.in_ok-count.ensures.exact c.in_ok-prefix.ensures
