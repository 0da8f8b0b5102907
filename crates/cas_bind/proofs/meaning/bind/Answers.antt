use Rattle.cas_bind.proofs.FitBound.{bound_fits}
use Rattle.cas_bind.proofs.meaning.bind.Goals as goal

pub returns-clause-fits : goal.returns-clause-fits
returns-clause-fits c =
    bound_fits c.args.limits.now.shards c.args.tables.now c.requires.shards c.requires.tables c.args.statement.now c.bind_statement.result c.bind_statement.ensures.means
