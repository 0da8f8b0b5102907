use Rattle.cas_disk.proofs.Settling.{on_ok}
use Rattle.cas_disk.proofs.WrittenLasts.{may_not_tear, then_still, put_kept, Syncs}
use Rattle.cas_disk.proofs.lasting.put.Goals as goal

pub returns-clause-during : goal.returns-clause-during
returns-clause-during g c = then_still c.args.n _ _ _ _ (may_not_tear _ _) c.write_at.ensures.during c.sync.ensures.during

pub returns-clause-kept : goal.returns-clause-kept
returns-clause-kept g c file within kept =
    let old = g.F.Folder.disk c.args.folder.now in
    let new = g.F.Folder.disk c.sync.new.self in
    on_ok c.sync.result c.sync.ensures.synced (λ (synced : Syncs c.args.n new). put_kept c.args.n c.args.at c.args.bytes.now old (g.F.Folder.disk c.write_at.new.self) new c.in_ok-write_at.ensures.written c.sync.ensures.reads file within kept synced)
