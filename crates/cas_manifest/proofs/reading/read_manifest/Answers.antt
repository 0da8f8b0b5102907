use Rattle.cas_manifest.proofs.Opens.{found_by}
use Rattle.cas_manifest.proofs.reading.read_manifest.Goals as goal

pub returns-in-Ok-clause-found : goal.returns-in-Ok-clause-found
returns-in-Ok-clause-found c = found_by c.args.file.now c.new-reader.ensures.are_bytes _ _ _ _ c.new-reader.ensures.bytes c.new-reader.ensures.at c.in-Ok.ensures
