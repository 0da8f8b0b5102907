use Rattle.cas_lines.proofs.StatusLines.{status_said}
use Rattle.cas_lines.proofs.laws.status_is_read.Goals as goal

pub returns : goal.returns
returns c = status_said
