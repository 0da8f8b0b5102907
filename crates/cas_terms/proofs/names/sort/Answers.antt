use Rattle.std.proofs.Common.{rules, is_lt, ℕ, List}
use Rattle.std.proofs.lemmas.Cmp.{nat_list_cmp_total}
use Rattle.std.proofs.lemmas.Result.{on_ok_weaker}
use Rattle.std.proofs.lemmas.List.Sorted.{ranks_by}
use Rattle.std.proofs.lemmas.Fn.{always_returns_same}
use Rattle.cas_types.specs.Values.{bytes_cmp}
use Rattle.cas_terms.proofs.names.sort.Goals as goal

pub returns-clause-sorted : goal.returns-clause-sorted
returns-clause-sorted c =
    on_ok_weaker c.sort_by.result
    (λ sorted. sorted (λ a b. is_lt (bytes_cmp a b)) (ranks_by nat_list_cmp_total (λ (n : List ℕ). n)) (always_returns_same _ _ _ (λ a r f k. search rules)))
    c.sort_by.ensures.sorted
