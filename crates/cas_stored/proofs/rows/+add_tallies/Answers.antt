use Rattle.cas_stored.proofs.Tallying.{both_count}
use Rattle.cas_stored.proofs.rows.+add_tallies.Goals as goal

pub returns-in-Pair-clause-count : goal.returns-in-Pair-clause-count
returns-in-Pair-clause-count g t c =
    rw c.in-Pair.is (both_count _ _ _ _ _ (rw c.into_inner.ensures at c.add_tallies.ensures.count) (rw c.into_inner-in-Pair.ensures at c.add_tallies-in-Pair.ensures.count))
