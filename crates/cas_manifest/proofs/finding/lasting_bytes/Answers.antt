use Rattle.std.proofs.lemmas.Result.{IfOk-weaker}
use Rattle.cas_files.proofs.Files.{same_more, reads_more}
use Rattle.cas_manifest.proofs.Opens.{read_lasts, read_before}
use Rattle.cas_manifest.proofs.finding.lasting_bytes.Goals as goal

pub returns-clause-kept : goal.returns-clause-kept
returns-clause-kept g c =
    let disk = g.F.Folder.disk in
    IfOk-weaker c.read_file.result _ _ (λ v is.
    read_lasts (disk c.args.folder.now) (disk c.sync.new.self) (disk c.read_file.new.folder) c.requires c.sync.ensures.during c.sync.ensures.reads v.items is
    c.in_ok-sync.ensures.synced c.read_file.ensures.during) c.read_file.ensures.bytes

pub returns-clause-read : goal.returns-clause-read
returns-clause-read g c =
    let disk = g.F.Folder.disk in
    IfOk-weaker c.read_file.result _ _ (λ v is.
    read_before (disk c.args.folder.now) (disk c.sync.new.self) (disk c.read_file.new.folder) c.requires c.sync.ensures.during c.sync.ensures.reads v.items is)
    c.read_file.ensures.bytes

pub returns-clause-during : goal.returns-clause-during
returns-clause-during g c =
    let disk = g.F.Folder.disk in
    same_more (disk c.args.folder.now) (disk c.sync.new.self) (disk c.read_file.new.folder) c.sync.ensures.during c.read_file.ensures.during

pub returns-clause-reads : goal.returns-clause-reads
returns-clause-reads g c =
    let disk = g.F.Folder.disk in
    reads_more (disk c.args.folder.now) (disk c.sync.new.self) (disk c.read_file.new.folder) c.sync.ensures.reads c.read_file.ensures.reads
