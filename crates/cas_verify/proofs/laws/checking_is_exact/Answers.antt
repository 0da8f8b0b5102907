use Rattle.cas_verify.proofs.CheckLaws.{checking_is_exact}
use Rattle.cas_verify.proofs.laws.checking_is_exact.Goals as goal

pub returns : goal.returns
returns c = checking_is_exact
