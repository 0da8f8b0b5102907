use Rattle.std.proofs.lemmas.Result.{on_ok_weaker}
use Rattle.cas_render.proofs.InOrder.{numbers_are}
use Rattle.cas_render.proofs.listing.sort_numbers.Goals as goal

pub returns : goal.returns
returns c =
    on_ok_weaker c.sort.result
    (λ sorted. numbers_are c.args.numbers.now.items c.sort.new.self.items c.sort.ensures.permutation sorted)
    c.sort.ensures.sorted
