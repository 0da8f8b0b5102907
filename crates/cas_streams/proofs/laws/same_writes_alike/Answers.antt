use Rattle.cas_streams.proofs.Halves.{same_writes_alike}
use Rattle.cas_streams.proofs.laws.same_writes_alike.Goals as goal

pub returns : goal.returns
returns c = same_writes_alike
