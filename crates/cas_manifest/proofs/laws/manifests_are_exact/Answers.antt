use Rattle.cas_manifest.proofs.ManifestLaws.{manifest_found}
use Rattle.cas_manifest.proofs.ManifestAgain.{manifest_again}
use Rattle.cas_manifest.proofs.laws.manifests_are_exact.Goals as goal

pub returns : goal.returns
returns c = record { found = manifest_found; again = manifest_again }
