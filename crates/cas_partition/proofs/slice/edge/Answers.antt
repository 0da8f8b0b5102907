use Rattle.std.proofs.Common.{Some, ap, ◌∙◌}
use Rattle.cas_partition.specs.Ranges.{key_of}
use Rattle.cas_partition.proofs.Slots.{as_key}
use Rattle.cas_partition.proofs.slice.edge.Goals as goal

pub returns : goal.returns
returns c = c.of.ensures ∙ ap Some (as_key c.of_cut.result c.in_ok-copied.field-0 c.of_cut.ensures.point c.of_cut.ensures.order ∙ ap key_of c.in_ok-copied.ensures)
