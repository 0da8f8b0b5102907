use Rattle.cas_disk.proofs.Moments.{leaves_file_twice}
use Rattle.cas_disk.proofs.WrittenLasts.{then_still, make_kept}
use Rattle.cas_disk.proofs.lasting.make.Goals as goal

-- until the sync a crash may leave anything of the file
pub returns-in_err-write_at-clause-during : goal.returns-in_err-write_at-clause-during
returns-in_err-write_at-clause-during g c =
    leaves_file_twice c.args.n _ _ (λ file. Unit {0}) _ _ _ c.create.ensures.during c.write_at.ensures.during (λ d x was made. tt) (λ d x was torn. tt)

pub returns-in_err-sync-clause-during : goal.returns-in_err-sync-clause-during
returns-in_err-sync-clause-during g c =
    then_still c.args.n _ _ _ _ (λ file. tt)
    (leaves_file_twice c.args.n _ _ (λ file. Unit {0}) _ _ _ c.create.ensures.during c.write_at.ensures.during (λ d x was made. tt) (λ d x was torn. tt)) c.sync.ensures.during

pub returns-clause-during : goal.returns-clause-during
returns-clause-during g c =
    then_still c.args.n _ _ _ _ (λ file. tt)
    (leaves_file_twice c.args.n _ _ (λ file. Unit {0}) _ _ _ c.create.ensures.during c.write_at.ensures.during (λ d x was made. tt) (λ d x was torn. tt)) c.sync.ensures.during

pub returns-clause-kept : goal.returns-clause-kept
returns-clause-kept g c =
    let begun = g.F.Folder.disk c.args.folder.now in
    let last = g.F.Folder.disk c.sync.new.self in
    make_kept c.args.n c.args.bytes.now begun (g.F.Folder.disk c.create.new.self) (g.F.Folder.disk c.write_at.new.self) last
    c.in_ok-create.ensures.made c.in_ok-write_at.ensures.written c.sync.ensures.reads c.in_ok-sync.ensures.synced
