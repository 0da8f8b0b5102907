use Rattle.cas_bind.proofs.Kept.{create_keeps}
use Rattle.cas_bind.proofs.meaning.create_table.Goals as goal

pub returns-in-Ok-clause-kept : goal.returns-in-Ok-clause-kept
returns-in-Ok-clause-kept c = create_keeps c.args.tables.now c.in-Ok.table c.requires c.in-Ok.ensures.narrow c.in-Ok.ensures.numbered c.in-Ok.ensures.table
