use Rattle.cas_lasting.proofs.LittleMuch.{little_is_never_too_much}
use Rattle.cas_lasting.proofs.laws.little_is_never_too_much.Goals as goal

pub returns : goal.returns
returns c = little_is_never_too_much
