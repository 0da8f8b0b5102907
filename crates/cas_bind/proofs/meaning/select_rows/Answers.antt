use Rattle.cas_bind.proofs.Kept.{read_keeps, select_within}
use Rattle.cas_bind.proofs.meaning.select_rows.Goals as goal

pub returns-in-Ok-clause-kept : goal.returns-in-Ok-clause-kept
returns-in-Ok-clause-kept c = read_keeps c.args.tables.now c.in-Ok.read c.requires.tables

pub returns-in-Ok-clause-within : goal.returns-in-Ok-clause-within
returns-in-Ok-clause-within c =
    select_within c.args.shards c.in-Some.table.now c.args.select.now c.in-Ok.read c.requires.shards c.in-Some.ensures.narrow c.in-Ok.ensures
