use Rattle.std.proofs.Common.{refl}
use Rattle.cas_sstwrite.proofs.Partitions.{nothing_taken}
use Rattle.cas_sstwrite.proofs.partition.begun.Goals as goal

pub returns : goal.returns
returns c start = nothing_taken start c.args.seen.facts c.args.top _ c.new.ensures.items c.new-2.ensures.items refl c.see_top.ensures
