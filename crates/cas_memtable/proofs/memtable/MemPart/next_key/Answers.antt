use Rattle.std.proofs.Common.{ap, ◌∙◌}
use Rattle.std.specs.Option.{option_copied}
use Rattle.cas_memtable.specs.Inner.Steps.{first_key as first_of}
use Rattle.cas_memtable.proofs.Nexts.{next_is, behind_only}
use Rattle.cas_memtable.proofs.memtable.MemPart.next_key.Goals as goal

pub returns : goal.returns
returns c =
    next_is c.args.self.now (option_copied c.args.after) (option_copied c.first_key.result) c.range.ensures.ordered
    (c.first_key.ensures ∙ ap first_of (c.range.ensures.between tt ∙ behind_only _ (option_copied c.args.after) c.behind.ensures c.args.self.now.partitions.entries))
