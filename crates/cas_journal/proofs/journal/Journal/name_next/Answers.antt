-- The next segment is named, by the clauses of the append.
use Rattle.std.proofs.Common.{◌<◌, ◌∙◌, ℕ, subst}
use Rattle.cas_disk.specs.Disk.{MayBeAnything, Changed}
use Rattle.cas_disk.specs.declared.name.Name.TheVariants.{Manifest as manifest_name}
use Rattle.cas_changes.specs.declared.entry.Entry.TheVariants.{NewSegment}
use Rattle.cas_journal.specs.Stores.{appended}
use Rattle.cas_journal.proofs.Moving.{still_free, manifest_changed, lasting}
use Rattle.cas_journal.proofs.Telling.{leaves_going, fault_lasts}
use Rattle.cas_changes.specs.Saying.{said_by}
use Rattle.cas_journal.proofs.Noting.{named_noted}
use Rattle.cas_journal.proofs.Naming.{some_log, name_fits, name_has, name_goes}
use Rattle.cas_journal.proofs.journal.Journal.name_next.Goals as goal

pub returns-in-Ok-clause-free : goal.returns-in-Ok-clause-free
returns-in-Ok-clause-free g c x left n above =
    let disk = g.F.Folder.disk in
    still_free (Changed manifest_name MayBeAnything) (disk c.args.folder.now) (disk c.append.new.folder) c.append.ensures.others c.args.self.now.last_segment
    (λ d y made m high. manifest_changed MayBeAnything d y made m) c.requires.free x left n (subst (λ (l : ℕ). l < n) c.append.ensures.last above)

pub returns-in-Ok-clause-lasts : goal.returns-in-Ok-clause-lasts
returns-in-Ok-clause-lasts g c t lasts all =
    let disk = g.F.Folder.disk in
    let j = c.args.self.now in
    let (next, is) = some_log j.spare c.requires.begun in
    let goes = lasts.goes c.requires.going in
    lasting _ (disk c.append.new.folder) (appended (NewSegment j.last_segment) t)
    (name_goes j (disk c.args.folder.now) t goes next is _ (disk c.append.new.folder) c.append.ensures.others
    (c.in-Ok.ensures.appended t.entries goes.manifest (name_fits j (disk c.args.folder.now) t goes next is)) all
    (c.take.ensures.value ∙ c.append.ensures.spare ∙ is) c.take.ensures.after c.append.ensures.last
    (named_noted j.notes c.append.new.self.notes c.begin.new.self t.found (said_by t.entries) j.last_segment c.append.ensures.notes c.begin.ensures.shards c.begin.ensures.know))

pub returns-in-Ok-clause-during : goal.returns-in-Ok-clause-during
returns-in-Ok-clause-during g c t lasts =
    let disk = g.F.Folder.disk in
    let j = c.args.self.now in
    let (next, is) = some_log j.spare c.requires.begun in
    leaves_going j c.append.new.self (disk c.args.folder.now) (disk c.append.new.folder) t (NewSegment j.last_segment) lasts tt
    (λ goes. (name_fits j (disk c.args.folder.now) t goes next is, name_has j (disk c.args.folder.now) t goes next is)) 0 0 c.append.ensures.during c.requires.going

pub returns-clause-free : goal.returns-clause-free
returns-clause-free g c x left n above =
    let disk = g.F.Folder.disk in
    still_free (Changed manifest_name MayBeAnything) (disk c.args.folder.now) (disk c.append.new.folder) c.append.ensures.others c.args.self.now.last_segment
    (λ d y made m high. manifest_changed MayBeAnything d y made m) c.requires.free x left n (subst (λ (l : ℕ). l < n) c.append.ensures.last above)

pub returns-clause-lasts : goal.returns-clause-lasts
returns-clause-lasts g c t lasts all =
    let disk = g.F.Folder.disk in
    let j = c.args.self.now in
    let (next, is) = some_log j.spare c.requires.begun in
    fault_lasts j c.append.new.self (disk c.args.folder.now) (disk c.append.new.folder) t (NewSegment j.last_segment) lasts tt
    (λ goes. (name_fits j (disk c.args.folder.now) t goes next is, name_has j (disk c.args.folder.now) t goes next is)) _ _ c.append.ensures.during _
    c.in-Err.ensures.outcome c.in-Err.ensures.untouched c.in-Err.ensures.stays c.append.ensures.log c.append.ensures.spare c.append.ensures.last c.append.ensures.notes

pub returns-clause-during : goal.returns-clause-during
returns-clause-during g c t lasts =
    let disk = g.F.Folder.disk in
    let j = c.args.self.now in
    let (next, is) = some_log j.spare c.requires.begun in
    leaves_going j c.append.new.self (disk c.args.folder.now) (disk c.append.new.folder) t (NewSegment j.last_segment) lasts tt
    (λ goes. (name_fits j (disk c.args.folder.now) t goes next is, name_has j (disk c.args.folder.now) t goes next is)) 0 0 c.append.ensures.during c.requires.going
