use Rattle.std.proofs.Common.{ap, ◌∙◌}
use Rattle.cas_mentions.specs.Inner.Spots.{same_spot}
use Rattle.cas_terms.specs.Inner.Beside.{any_beside}
use Rattle.cas_mentions.proofs.Sorting.{sorted_tells}
use Rattle.cas_mentions.proofs.twice.any_two.Goals as goal

pub returns : goal.returns
returns c =
    c.any_beside.ensures ∙ ap (any_beside same_spot) c.as_slice.ensures.value
    ∙ sorted_tells c.args.spots.items c.sort.new.spots.items c.sort.ensures.same c.in_ok-sort.ensures.sorted
