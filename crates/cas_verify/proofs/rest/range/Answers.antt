use Rattle.std.proofs.Common.{◌∙◌}
use Rattle.std.specs.Option.{option_copied}
use Rattle.cas_verify.proofs.Ranges.{last_is}
use Rattle.cas_verify.proofs.rest.range.Goals as goal

pub returns-clause-last : goal.returns-clause-last
returns-clause-last c = c.in_ok-last.ensures.key ∙ last_is c.args.entries.now (option_copied c.last.result) c.last.ensures.value
