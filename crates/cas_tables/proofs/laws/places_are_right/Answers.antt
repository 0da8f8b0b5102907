use Rattle.cas_tables.proofs.Standing.{places_are_right}
use Rattle.cas_tables.proofs.laws.places_are_right.Goals as goal

pub returns : goal.returns
returns c = places_are_right
