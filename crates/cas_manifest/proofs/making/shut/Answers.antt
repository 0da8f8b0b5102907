use Rattle.std.proofs.lemmas.Result.{on_ok_weaker}
use Rattle.cas_manifest.proofs.Begins.{shut_by}
use Rattle.cas_manifest.proofs.making.shut.Goals as goal

pub returns-clause-shut : goal.returns-clause-shut
returns-clause-shut g c = on_ok_weaker c.create_shut.result (λ kept. shut_by (g.F.Folder.disk c.create_shut.new.folder) kept) c.create_shut.ensures.kept
