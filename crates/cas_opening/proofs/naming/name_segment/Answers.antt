use Rattle.cas_opening.proofs.Names.{short_name}
use Rattle.cas_opening.proofs.naming.name_segment.Goals as goal

pub append-requires-clause-short : goal.append-requires-clause-short
append-requires-clause-short g c = short_name c.args.number
