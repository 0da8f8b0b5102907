use Rattle.std.proofs.Common.{rules, is_lt}
use Rattle.std.proofs.lemmas.Result.{on_ok_weaker}
use Rattle.std.proofs.lemmas.List.Sorted.{ranks_by}
use Rattle.std.proofs.lemmas.Fn.{always_returns_same}
use Rattle.cas_render.specs.Listing.{listed_cmp}
use Rattle.cas_render.specs.declared.reply.Listed.{Listed}
use Rattle.cas_render.proofs.InOrder.{listed_are, listed_total}
use Rattle.cas_render.proofs.listing.sort.Goals as goal

pub returns : goal.returns
returns c =
    on_ok_weaker c.sort_by.result
    (λ sorted. listed_are c.args.listed.now.items c.sort_by.new.self.items c.sort_by.ensures.permutation
    (sorted (λ a b. is_lt (listed_cmp a b)) (ranks_by listed_total (λ (l : Listed). l)) (always_returns_same _ _ _ (λ a r f k. search rules))))
    c.sort_by.ensures.sorted
