use Rattle.cas_atoms.proofs.ListSteps.{limited_keys}
use Rattle.cas_atoms.proofs.answers.limited.Goals as goal

pub returns-in-Some : goal.returns-in-Some
returns-in-Some c = limited_keys c.args.limit c.in-Some.count c.args.rows.items _ c.in-Some.is c.truncate.ensures.items
