use Rattle.std.proofs.Common.{sym}
use Rattle.cas_options.specs.Options.{options_of}
use Rattle.cas_options.proofs.options.options_of.Goals as goal

pub returns-clause-given : goal.returns-clause-given
unfolding options_of
returns-clause-given c = rw (sym c.compaction_given-given.ensures) (cc)
