-- An entry that is told, by the clauses of the append.
use Rattle.std.proofs.Common.{◌<◌, ℕ, subst}
use Rattle.cas_disk.specs.Disk.{MayBeAnything, Changed}
use Rattle.cas_disk.specs.declared.name.Name.TheVariants.{Manifest as manifest_name}
use Rattle.cas_journal.proofs.Moving.{still_free, manifest_changed}
use Rattle.cas_journal.proofs.Reaching.{told_over}
use Rattle.cas_journal.proofs.Telling.{tell_leaves, tell_lasts}
use Rattle.cas_journal.proofs.journal.Journal.tell.Goals as goal

pub returns-clause-free : goal.returns-clause-free
returns-clause-free g c x left n above =
    let disk = g.F.Folder.disk in
    still_free (Changed manifest_name MayBeAnything) (disk c.args.folder.now) (disk c.append.new.folder) c.append.ensures.others c.args.self.now.last_segment
    (λ d y made m high. manifest_changed MayBeAnything d y made m) c.requires.free x left n (subst (λ (l : ℕ). l < n) c.append.ensures.last above)

pub returns-clause-lasts : goal.returns-clause-lasts
returns-clause-lasts g c t lasts fits =
    let disk = g.F.Folder.disk in
    tell_lasts c.args.self.now c.append.new.self (disk c.args.folder.now) (disk c.append.new.folder) t c.args.entry.now lasts c.requires.told fits _ _
    c.append.ensures.during c.append.result c.append.ensures.outcome c.append.ensures.untouched c.append.ensures.stays c.append.ensures.appended c.append.ensures.others
    c.append.ensures.log c.append.ensures.spare c.append.ensures.last c.append.ensures.notes

pub returns-clause-during : goal.returns-clause-during
returns-clause-during g c t lasts fits =
    let disk = g.F.Folder.disk in
    tell_leaves c.args.self.now c.append.new.self (disk c.args.folder.now) (disk c.append.new.folder) t c.args.entry.now lasts c.requires.told fits _ _
    c.append.ensures.during c.append.result c.append.ensures.outcome c.append.ensures.untouched

pub returns-clause-full : goal.returns-clause-full
returns-clause-full g c what most is = told_over c.args.self.now c.args.entry.now c.append.result c.append.ensures.limits what most is
