use Rattle.std.proofs.Common.{sym, ◌∙◌}
use Rattle.cas_manifest.proofs.Listings.{others_listed, none_listed}
use Rattle.cas_manifest.proofs.finding.has_others.Goals as goal

pub returns-clause-some : goal.returns-clause-some
returns-clause-some c image listing some = others_listed image c.args.files.now listing (sym c.any_beside.ensures ∙ some)

pub returns-clause-none : goal.returns-clause-none
returns-clause-none c image listing none = none_listed image c.args.files.now listing (sym c.any_beside.ensures ∙ none)
