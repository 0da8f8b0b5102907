use Rattle.cas_stored.proofs.LoadedLaws.{loaded_is_of}
use Rattle.cas_stored.proofs.laws.loaded_is_of.Goals as goal

pub returns : goal.returns
returns c = loaded_is_of
