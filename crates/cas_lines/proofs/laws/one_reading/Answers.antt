use Rattle.cas_lines.proofs.OneLine.{one_line}
use Rattle.cas_lines.proofs.laws.one_reading.Goals as goal

pub returns : goal.returns
returns c = one_line
