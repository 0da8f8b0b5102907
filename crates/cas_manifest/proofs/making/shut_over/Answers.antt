use Rattle.std.proofs.Common.{List, ℕ, subst, arith}
use Rattle.cas_disk.specs.declared.name.Name.TheVariants.{Manifest as manifest_name}
use Rattle.cas_disk.specs.Disk.{IsKept}
use Rattle.cas_manifest.proofs.Begins.{found_shut, short_put, shut_by, overwritten}
use Rattle.cas_manifest.proofs.making.shut_over.Goals as goal

pub returns-then-file-ge2-clause-shut : goal.returns-then-file-ge2-clause-shut
returns-then-file-ge2-clause-shut g c = found_shut c.args.file.now (g.F.Folder.disk c.args.folder.now) c.if-file-ge2.true c.requires.unmade c.requires.kept

pub returns-clause-shut : goal.returns-clause-shut
returns-clause-shut g c =
    let last = g.F.Folder.disk c.put.new.folder in
    shut_by last (subst (λ (f : List ℕ). IsKept manifest_name f last) (short_put c.args.file.now (omega (arith, c.if-file-ge2.false)))
    (c.in_ok-put.ensures.kept c.args.file.now (omega arith) c.requires.kept))

pub returns-in_err-put-clause-during : goal.returns-in_err-put-clause-during
returns-in_err-put-clause-during g c =
    overwritten c.args.file.now (g.F.Folder.disk c.args.folder.now) (g.F.Folder.disk c.put.new.folder) (omega (arith, c.if-file-ge2.false)) c.requires.kept c.put.ensures.during

pub returns-clause-during : goal.returns-clause-during
returns-clause-during g c =
    overwritten c.args.file.now (g.F.Folder.disk c.args.folder.now) (g.F.Folder.disk c.put.new.folder) (omega (arith, c.if-file-ge2.false)) c.requires.kept c.put.ensures.during
