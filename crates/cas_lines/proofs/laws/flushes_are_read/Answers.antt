use Rattle.cas_lines.proofs.FlushLines.{flush_said}
use Rattle.cas_lines.proofs.laws.flushes_are_read.Goals as goal

pub returns : goal.returns
returns c = flush_said
