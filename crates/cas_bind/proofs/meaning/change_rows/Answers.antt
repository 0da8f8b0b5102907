use Rattle.cas_bind.proofs.Kept.{write_keeps}
use Rattle.cas_bind.proofs.meaning.change_rows.Goals as goal

pub returns-in-Ok-clause-kept : goal.returns-in-Ok-clause-kept
returns-in-Ok-clause-kept c = write_keeps c.args.tables.now c.in-Ok.write c.requires.tables
