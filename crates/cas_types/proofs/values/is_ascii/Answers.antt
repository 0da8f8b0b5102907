use Rattle.cas_types.proofs.Ascii.{told_ascii}
use Rattle.cas_types.proofs.values.is_ascii.Goals as goal

pub returns : goal.returns
returns c = told_ascii c.args.bytes.now c.is_ascii.result c.is_ascii.ensures.cases
