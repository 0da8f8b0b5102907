use Rattle.cas_partition.proofs.Slots.{as_key}
use Rattle.cas_partition.proofs.cut_key.CutKey.of.Goals as goal

pub returns : goal.returns
returns c = as_key c.of_cut-key.result c.args.cut c.of_cut-key.ensures.point c.of_cut-key.ensures.order
