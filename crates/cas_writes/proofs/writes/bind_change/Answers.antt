use Rattle.cas_writes.proofs.Bound.{change_within, change_fits}
use Rattle.cas_writes.proofs.writes.bind_change.Goals as goal

pub returns-clause-within : goal.returns-clause-within
returns-clause-within c = change_within c.args.shards c.args.table.now c.args.statement.now c.requires.shards c.change_meant.result c.change_meant.ensures

pub returns-clause-fits : goal.returns-clause-fits
returns-clause-fits c = change_fits c.args.shards c.args.table.now c.args.statement.now c.requires.shards c.change_meant.result c.requires.narrow c.change_meant.ensures
