use Rattle.cas_streams.proofs.Halves.{merge_invents_nothing}
use Rattle.cas_streams.proofs.laws.merge_invents_nothing.Goals as goal

pub returns : goal.returns
returns c = merge_invents_nothing
