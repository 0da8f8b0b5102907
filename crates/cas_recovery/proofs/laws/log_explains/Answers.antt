use Rattle.cas_recovery.proofs.Explained.{log_explains}
use Rattle.cas_recovery.proofs.laws.log_explains.Goals as goal

pub returns : goal.returns
returns g c = log_explains (g.F.Folder.disk c.args.folder.now)
