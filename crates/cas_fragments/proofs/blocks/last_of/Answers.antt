use Rattle.std.specs.Option.{option_copied}
use Rattle.cas_fragments.proofs.BlockLoop.{last_some, last_none}
use Rattle.cas_fragments.proofs.blocks.last_of.Goals as goal

pub returns-in-Some : goal.returns-in-Some
returns-in-Some c = last_some (option_copied c.args.before) c.args.fragments.now c.in-Some.last.now c.in-Some.ensures.value

pub returns-in-None : goal.returns-in-None
returns-in-None c = last_none (option_copied c.args.before) c.args.fragments.now c.in-None.ensures.value
