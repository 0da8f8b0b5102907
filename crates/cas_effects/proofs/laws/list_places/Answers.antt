use Rattle.cas_effects.proofs.Places.{list_places}
use Rattle.cas_effects.proofs.laws.list_places.Goals as goal

pub returns : goal.returns
returns c = list_places
