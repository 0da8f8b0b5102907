use Rattle.cas_stored.proofs.Loaded.{loaded_stands}
use Rattle.cas_stored.proofs.laws.loaded_stands.Goals as goal

pub returns : goal.returns
returns c = loaded_stands
