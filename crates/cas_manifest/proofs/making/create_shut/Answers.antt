use Rattle.cas_disk.proofs.WrittenLasts.{make_kept}
use Rattle.cas_disk.specs.declared.name.Name.TheVariants.{Manifest as manifest_name}
use Rattle.cas_manifest.proofs.Begins.{created, written, synced}
use Rattle.cas_manifest.proofs.making.create_shut.Goals as goal

pub returns-in_err-create-clause-during : goal.returns-in_err-create-clause-during
returns-in_err-create-clause-during g c = created _ _ c.create.ensures.during

pub returns-in_err-write_at-clause-during : goal.returns-in_err-write_at-clause-during
returns-in_err-write_at-clause-during g c = written _ _ _ (created _ _ c.create.ensures.during) c.in_ok-create.ensures.fresh c.write_at.ensures.during

pub returns-in_err-sync-clause-during : goal.returns-in_err-sync-clause-during
returns-in_err-sync-clause-during g c =
    synced _ _ _ (written _ _ _ (created _ _ c.create.ensures.during) c.in_ok-create.ensures.fresh c.write_at.ensures.during) c.sync.ensures.during

pub returns-clause-during : goal.returns-clause-during
returns-clause-during g c =
    synced _ _ _ (written _ _ _ (created _ _ c.create.ensures.during) c.in_ok-create.ensures.fresh c.write_at.ensures.during) c.sync.ensures.during

pub returns-clause-kept : goal.returns-clause-kept
returns-clause-kept g c =
    let disk = g.F.Folder.disk in
    make_kept manifest_name _ (disk c.args.folder.now) (disk c.create.new.self) (disk c.write_at.new.self) (disk c.sync.new.self) c.in_ok-create.ensures.made c.in_ok-write_at.ensures.written c.sync.ensures.reads c.in_ok-sync.ensures.synced
