use Rattle.cas_recovery.proofs.Refusing.{never_bad}
use Rattle.cas_recovery.proofs.laws.explained_is_taken.Goals as goal

pub returns : goal.returns
returns g c entries mutations openings name at may bad = never_bad entries mutations (g.F.Folder.disk c.args.folder.now) openings name at may bad
