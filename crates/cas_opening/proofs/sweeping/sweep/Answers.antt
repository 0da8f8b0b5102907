use Rattle.std.proofs.Common.{ℕ, List, sym, subst}
use Rattle.cas_disk.specs.declared.name.Entry.{Entry}
use Rattle.cas_disk.specs.Disk.{IsListing}
use Rattle.cas_opening.specs.Inner.Sweeping.{HasOnlyListed}
use Rattle.cas_opening.proofs.Sweeps.{listing_on, only_listed, all_spared, still_spared}
use Rattle.cas_opening.proofs.sweeping.sweep.Goals as goal

pub sweep_files-requires : goal.sweep_files-requires
sweep_files-requires g c =
    let disk = g.F.Folder.disk in
    listing_on (disk c.args.folder.now) (disk c.list.new.self) c.deref.result.now c.list.ensures.reads
    (λ image read. subst (λ (l : List Entry). IsListing image l) (sym c.deref.ensures.value) (c.in-Ok-list.ensures.listed image read))

pub returns-in-Err-sweep_files-clause-during : goal.returns-in-Err-sweep_files-clause-during
returns-in-Err-sweep_files-clause-during g c =
    let disk = g.F.Folder.disk in
    all_spared c.args.said.now c.in-Ok.tables.items c.segments.result.now c.deref-2.result.now (disk c.args.folder.now) (disk c.list.new.self) (disk c.sweep_files.new.folder)
    c.in-Ok.ensures c.deref-2.ensures.value c.segments.ensures c.list.ensures.during c.sweep_files.ensures.during

pub returns-in-Ok-sync-clause-during : goal.returns-in-Ok-sync-clause-during
returns-in-Ok-sync-clause-during g c =
    let disk = g.F.Folder.disk in
    still_spared c.args.said.now (disk c.args.folder.now) (disk c.sweep_files.new.folder) (disk c.sync.new.self)
    (all_spared c.args.said.now c.in-Ok.tables.items c.segments.result.now c.deref-2.result.now (disk c.args.folder.now) (disk c.list.new.self) (disk c.sweep_files.new.folder)
    c.in-Ok.ensures c.deref-2.ensures.value c.segments.ensures c.list.ensures.during c.sweep_files.ensures.during)
    c.sync.ensures.during

pub returns-in-Ok-sync-clause-gone : goal.returns-in-Ok-sync-clause-gone
returns-in-Ok-sync-clause-gone g c =
    let disk = g.F.Folder.disk in
    subst (λ (l : List ℕ). HasOnlyListed l (disk c.sync.new.self)) c.segments.ensures
    (only_listed c.segments.result.now c.deref-2.result.now (disk c.sweep_files.new.folder) (disk c.sync.new.self) c.in_default.ensures.gone c.sync.ensures.reads c.in-Ok-sync.ensures.synced)

pub returns-clause-during : goal.returns-clause-during
returns-clause-during g c =
    let disk = g.F.Folder.disk in
    still_spared c.args.said.now (disk c.args.folder.now) (disk c.sweep_files.new.folder) (disk c.sync.new.self)
    (all_spared c.args.said.now c.in-Ok.tables.items c.segments.result.now c.deref-2.result.now (disk c.args.folder.now) (disk c.list.new.self) (disk c.sweep_files.new.folder)
    c.in-Ok.ensures c.deref-2.ensures.value c.segments.ensures c.list.ensures.during c.sweep_files.ensures.during)
    c.sync.ensures.during
