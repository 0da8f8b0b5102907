-- The line that asks for the status.
use Rattle.std.proofs.Common.{refl}
use Rattle.cas_lines.specs.Laws.{StatusIsRead}
use Rattle.cas_lines.specs.Lines.{asks_status}

pub status_said : StatusIsRead
unfolding asks_status
status_said = (refl, refl)
