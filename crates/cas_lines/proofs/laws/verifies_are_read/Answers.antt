use Rattle.cas_lines.proofs.FlushLines.{verify_said}
use Rattle.cas_lines.proofs.laws.verifies_are_read.Goals as goal

pub returns : goal.returns
returns c = verify_said
