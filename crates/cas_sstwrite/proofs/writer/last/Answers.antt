use Rattle.std.proofs.Common.{◌∙◌}
use Rattle.cas_index.proofs.Following.{last_get}
use Rattle.cas_sstwrite.proofs.writer.last.Goals as goal

pub returns : goal.returns
returns c = c.last.ensures.value ∙ last_get c.args.entries.now
