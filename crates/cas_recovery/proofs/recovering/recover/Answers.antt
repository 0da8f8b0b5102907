use Rattle.std.proofs.Common.{◌≡◌, inr, [], None, sym, subst}
use Rattle.cas_disk.specs.Disk.{Image}
use Rattle.cas_bind.specs.Tables.{AreTables}
use Rattle.cas_journal.specs.Journals.{AreFree}
use Rattle.cas_journal.specs.declared.journal.Journal.{Journal}
use Rattle.cas_recovery.specs.Inner.Filling.{IsBadOfShard}
use Rattle.cas_recovery.specs.declared.fault.RecoveryFault.TheVariants as fault
use Rattle.define_laws.proofs.Told.{told_tables_are_tables}
use Rattle.cas_recovery.proofs.Afterwards.{if_all, if_one, made_then, of_err, opened_then, same_then, stays_free}
use Rattle.cas_recovery.proofs.Refusing.{bad_table}
use Rattle.cas_recovery.proofs.Returning.{may_be_read, read_within, recovered, tables_said}
use Rattle.cas_recovery.proofs.Starting.{opened_lasts}
use Rattle.cas_recovery.proofs.recovering.recover.Goals as goal

pub brought_back-requires : goal.brought_back-requires
brought_back-requires g c =
    let (entries, ms, handed, has, reads, tells) = c.in-Ok-open_to.ensures.read [] c.in-Ok.ensures in
    record { within = read_within entries ms handed c.in-Ok-open_to.opened reads }

pub returns-clause-recovered : goal.returns-clause-recovered
returns-clause-recovered g c =
    let (entries, ms, handed, has, reads, tells) = c.in-Ok-open_to.ensures.read [] c.in-Ok.ensures in
    let old = g.F.Folder.disk c.args.folder.now in
    let mid = g.F.Folder.disk c.open_to.new.folder in
    if_all c.brought_back.result _ _ _ _ (c.brought_back.ensures.back handed has) c.brought_back.ensures.journal c.brought_back.ensures.files
    (λ s back same files.
    recovered entries ms handed c.in-Ok-open_to.opened reads c.args.limits.now s.limits s.tables.items s.shards.items s.frontiers.items s.last_file s.live s.journal old mid (g.F.Folder.disk c.brought_back.new.folder) back tells
    (λ d read bytes store. c.open_to.ensures.stays d read bytes entries ms store) same
    (λ d read bytes.
    let (given, took, ends) = c.in-Ok-open_to.ensures.opens [] c.in-Ok.ensures d read bytes entries ms (tells d read bytes) in
    opened_lasts entries ms given c.in-Ok-open_to.opened mid ends)
    c.brought_back.ensures.during files.0 files.1 files.2)

pub returns-clause-readable : goal.returns-clause-readable
returns-clause-readable g c =
    let (entries, ms, handed, has, reads, tells) = c.in-Ok-open_to.ensures.read [] c.in-Ok.ensures in
    let o = c.in-Ok-open_to.opened in
    let good : AreTables o.said.tables = subst AreTables (sym (tables_said entries ms handed o reads)) (told_tables_are_tables entries reads.follow) in
    if_one c.brought_back.result _ _ (c.brought_back.ensures.back handed has)
    (λ s back. may_be_read c.args.limits.now s.limits handed o.said (g.F.Folder.disk c.open_to.new.folder) s.tables.items s.shards.items good back)

pub returns-clause-runs : goal.returns-clause-runs
returns-clause-runs g c =
    let o = c.in-Ok-open_to.opened in
    let free = stays_free (g.F.Folder.disk c.open_to.new.folder) (g.F.Folder.disk c.brought_back.new.folder) c.brought_back.ensures.during o.journal.last_segment c.in-Ok-open_to.ensures.free in
    if_one c.brought_back.result _ _ c.brought_back.ensures.journal
    (λ s same.
    subst (λ (j : Journal). (j.first ≡ None) × (j.size ≡ c.args.limits.now.segment) × AreFree j (g.F.Folder.disk c.brought_back.new.folder)) (sym same)
    (c.in-Ok-open_to.ensures.runs.0, c.in-Ok-open_to.ensures.runs.1, free))

pub returns-clause-refused : goal.returns-clause-refused
returns-clause-refused g c name at is image read bytes =
    let (entries, ms, handed, has, reads, tells) = c.in-Ok-open_to.ensures.read [] c.in-Ok.ensures in
    let old = g.F.Folder.disk c.args.folder.now in
    let mid = g.F.Folder.disk c.open_to.new.folder in
    inr (
      entries,
      ms,
      tells image read bytes,
      bad_table entries ms handed c.in-Ok-open_to.opened reads c.args.limits.now.shards old mid image name at read (tells image read bytes)
          (λ store. c.open_to.ensures.stays image read bytes entries ms store) (λ new. c.open_to.ensures.made image read bytes new)
          (of_err c.brought_back.result (fault.Bad name at) (λ f. (d : Image) → mid.reads d → IsBadOfShard c.in-Ok-open_to.opened.said d f) is c.brought_back.ensures.bad),
    )

pub returns-clause-stays : goal.returns-clause-stays
returns-clause-stays g c image read bytes entries ms store =
    opened_then (g.F.Folder.disk c.args.folder.now) (g.F.Folder.disk c.open_to.new.folder) (g.F.Folder.disk c.brought_back.new.folder) c.brought_back.ensures.during entries ms
    (c.open_to.ensures.stays image read bytes entries ms store)

pub returns-clause-made : goal.returns-clause-made
returns-clause-made g c image read bytes new =
    made_then (g.F.Folder.disk c.args.folder.now) (g.F.Folder.disk c.open_to.new.folder) (g.F.Folder.disk c.brought_back.new.folder) c.brought_back.ensures.during c.args.limits.now.shards
    (c.open_to.ensures.made image read bytes new)

pub returns-clause-untouched : goal.returns-clause-untouched
returns-clause-untouched g c image read bytes old none =
    same_then (g.F.Folder.disk c.args.folder.now) (g.F.Folder.disk c.open_to.new.folder) (g.F.Folder.disk c.brought_back.new.folder) c.brought_back.ensures.during
    (c.open_to.ensures.untouched image read bytes old none)
