use Rattle.std.proofs.Common.{◌∙◌}
use Rattle.cas_manifest.proofs.Listings.{manifest_listed}
use Rattle.cas_manifest.proofs.finding.has_manifest.Goals as goal

pub returns : goal.returns
returns c image listing = c.any_manifest.ensures ∙ manifest_listed image c.args.files.now listing
