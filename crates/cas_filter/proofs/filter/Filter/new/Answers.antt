use Rattle.std.proofs.Common.{◌∙◌, arith}
use Rattle.cas_filter.proofs.FilterLaws.{no_keys}
use Rattle.cas_filter.proofs.filter.Filter.new.Goals as goal

pub returns : goal.returns
returns c = c.in_ok-vec.ensures.items_if_clones_equal (λ y e. e) ∙ no_keys _ _ (omega arith)
