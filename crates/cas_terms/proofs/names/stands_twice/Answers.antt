use Rattle.std.proofs.Common.{ap, ◌∙◌}
use Rattle.std.specs.Str.{bytes_eq}
use Rattle.cas_terms.specs.Inner.Beside.{any_beside}
use Rattle.cas_terms.proofs.SortedLists.{sorted_names}
use Rattle.cas_terms.proofs.names.stands_twice.Goals as goal

pub returns : goal.returns
returns c =
    c.any_beside.ensures ∙ ap (any_beside bytes_eq) c.as_slice.ensures.value
    ∙ sorted_names c.args.names.items c.sort.new.names.items c.sort.ensures.same c.in_ok-sort.ensures.sorted
