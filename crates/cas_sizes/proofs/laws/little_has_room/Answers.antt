use Rattle.cas_sizes.proofs.Little.{little_has_room}
use Rattle.cas_sizes.proofs.laws.little_has_room.Goals as goal

pub returns : goal.returns
returns c = little_has_room
