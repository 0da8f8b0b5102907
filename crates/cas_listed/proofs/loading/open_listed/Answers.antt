use Rattle.std.proofs.Common.{sym, ◌∙◌}
use Rattle.cas_disk.specs.declared.name.Name.TheVariants.{Table as table_name}
use Rattle.cas_disk.proofs.Moments.{reads_on}
use Rattle.cas_files.proofs.Files.{reads_more, same_more}
use Rattle.cas_listed.proofs.loading.open_listed.Goals as goal

pub returns-in-Ok-clause-holds : goal.returns-in-Ok-clause-holds
returns-in-Ok-clause-holds g c image read =
    let disk = g.F.Folder.disk in
    let (d, still, same) = reads_on (disk c.args.folder.now) (disk c.is_empty.new.folder) c.is_empty.ensures.during c.is_empty.ensures.reads image read in
    let (bytes, told) = c.in-Ok.ensures.told d still in
    (bytes, told, sym (same (table_name c.args.number)) ∙ c.in-Ok.ensures.holds d still bytes told)

pub returns-in-Ok-clause-reads : goal.returns-in-Ok-clause-reads
returns-in-Ok-clause-reads g c =
    let disk = g.F.Folder.disk in reads_more (disk c.args.folder.now) (disk c.is_empty.new.folder) (disk c.sealed.new.self) c.is_empty.ensures.reads c.sealed.ensures.reads

pub returns-in-Ok-clause-during : goal.returns-in-Ok-clause-during
returns-in-Ok-clause-during g c = same_more _ _ _ c.is_empty.ensures.during c.sealed.ensures.during

pub returns-in-Err-Failed-sealed-clause-reads : goal.returns-in-Err-Failed-sealed-clause-reads
returns-in-Err-Failed-sealed-clause-reads g c =
    let disk = g.F.Folder.disk in reads_more (disk c.args.folder.now) (disk c.is_empty.new.folder) (disk c.sealed.new.self) c.is_empty.ensures.reads c.sealed.ensures.reads

pub returns-in-Err-Failed-sealed-clause-during : goal.returns-in-Err-Failed-sealed-clause-during
returns-in-Err-Failed-sealed-clause-during g c = same_more _ _ _ c.is_empty.ensures.during c.sealed.ensures.during

pub returns-in-Err-Mem-sealed-clause-reads : goal.returns-in-Err-Mem-sealed-clause-reads
returns-in-Err-Mem-sealed-clause-reads g c =
    let disk = g.F.Folder.disk in reads_more (disk c.args.folder.now) (disk c.is_empty.new.folder) (disk c.sealed.new.self) c.is_empty.ensures.reads c.sealed.ensures.reads

pub returns-in-Err-Mem-sealed-clause-during : goal.returns-in-Err-Mem-sealed-clause-during
returns-in-Err-Mem-sealed-clause-during g c = same_more _ _ _ c.is_empty.ensures.during c.sealed.ensures.during
