use Rattle.std.proofs.Common.{rules, is_lt}
use Rattle.std.proofs.lemmas.Result.{on_ok_weaker}
use Rattle.std.proofs.lemmas.List.Sorted.{ranks_by}
use Rattle.std.proofs.lemmas.Fn.{always_returns_same}
use Rattle.cas_mentions.specs.Inner.Spots.{in_spot, spot_cmp}
use Rattle.cas_mentions.proofs.Sorting.{changed_total}
use Rattle.cas_mentions.proofs.twice.sort.Goals as goal

pub returns-clause-sorted : goal.returns-clause-sorted
returns-clause-sorted c =
    on_ok_weaker c.sort_by.result
    (λ sorted. sorted (λ a b. is_lt (spot_cmp a b)) (ranks_by changed_total in_spot) (always_returns_same _ _ _ (λ a r f k. search rules)))
    c.sort_by.ensures.sorted
