use Rattle.cas_info.proofs.InfoLaws.{info_exact}
use Rattle.cas_info.proofs.laws.infos_are_exact.Goals as goal

pub returns : goal.returns
returns c = info_exact
