use Rattle.cas_lasting.proofs.NothingMuch.{nothing_is_too_much}
use Rattle.cas_lasting.proofs.laws.nothing_is_too_much.Goals as goal

pub returns : goal.returns
returns c = nothing_is_too_much
