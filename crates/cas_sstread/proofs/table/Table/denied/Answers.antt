use Rattle.cas_sstread.proofs.Within.{denied}
use Rattle.cas_sstread.proofs.table.Table.denied.Goals as goal

pub returns-clause-exact : goal.returns-clause-exact
returns-clause-exact g c = λ own. denied c.args.self.now.kept c.args.key.now own c.requires
