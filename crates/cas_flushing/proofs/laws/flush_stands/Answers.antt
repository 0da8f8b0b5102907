use Rattle.cas_flushing.proofs.Files.{flush_stands}
use Rattle.cas_flushing.proofs.laws.flush_stands.Goals as goal

pub returns : goal.returns
returns g c = flush_stands g.D.Draft.number g.D.Draft.written
