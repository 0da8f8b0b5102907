-- A segment that is dropped: the append, and then the removal.
use Rattle.std.proofs.Common.{◌<◌, ◌∙◌, ℕ, drop, refl, ap, subst, arith}
use Rattle.cas_disk.specs.Disk.{MayBeAnything, Changed}
use Rattle.cas_disk.specs.declared.name.Name.TheVariants.{Manifest as manifest_name}
use Rattle.cas_journal.specs.declared.notes.Notes.{Notes}
use Rattle.cas_journal.proofs.Moving.{still_free, manifest_changed}
use Rattle.cas_journal.proofs.Telling.{none_where_ok}
use Rattle.cas_journal.proofs.Lowest.{append_words, drop_fault, drop_lasts, both_leave, drop_tables, removed_free}
use Rattle.cas_journal.proofs.journal.Journal.drop_segment.Goals as goal

pub returns-in-Err-clause-free : goal.returns-in-Err-clause-free
returns-in-Err-clause-free g c x left n above =
    let disk = g.F.Folder.disk in
    still_free (Changed manifest_name MayBeAnything) (disk c.args.folder.now) (disk c.append.new.folder) c.append.ensures.others c.args.self.now.last_segment
    (λ d y made m high. manifest_changed MayBeAnything d y made m) c.requires.free x left n (subst (λ (l : ℕ). l < n) c.append.ensures.last above)

pub returns-in-Err-clause-lasts : goal.returns-in-Err-clause-lasts
returns-in-Err-clause-lasts g c t lasts lowest =
    let disk = g.F.Folder.disk in
    drop_fault c.args.self.now c.append.new.self (disk c.args.folder.now) (disk c.append.new.folder) t c.args.number lasts lowest (omega (arith, c.ranges.number.fits)) _ _
    c.append.ensures.during _ c.in-Err.ensures.outcome c.in-Err.ensures.untouched c.in-Err.ensures.stays c.append.ensures.log c.append.ensures.spare c.append.ensures.last c.append.ensures.notes

pub returns-in-Err-clause-during : goal.returns-in-Err-clause-during
returns-in-Err-clause-during g c t lasts lowest =
    let disk = g.F.Folder.disk in
    append_words c.args.self.now c.append.new.self (disk c.args.folder.now) (disk c.append.new.folder) t c.args.number lasts lowest (omega (arith, c.ranges.number.fits)) _ _
    c.append.ensures.during c.args.self.now.first refl c.append.result c.append.ensures.outcome c.append.ensures.untouched

pub returns-clause-free : goal.returns-clause-free
returns-clause-free g c =
    let disk = g.F.Folder.disk in
    let mid = still_free (Changed manifest_name MayBeAnything) (disk c.args.folder.now) (disk c.append.new.folder) c.append.ensures.others c.args.self.now.last_segment
    (λ d y made m high. manifest_changed MayBeAnything d y made m) c.requires.free in
    λ x left n above.
    removed_free c.args.self.now.last_segment c.args.number (disk c.append.new.folder) (disk c.remove.new.self) c.remove.ensures.during mid x left n
    (subst (λ (l : ℕ). l < n) c.append.ensures.last above)

pub returns-clause-lasts : goal.returns-clause-lasts
returns-clause-lasts g c t lasts lowest =
    let disk = g.F.Folder.disk in
    drop_lasts c.args.self.now _ (disk c.args.folder.now) (disk c.append.new.folder) t c.args.number lasts lowest (omega (arith, c.ranges.number.fits)) 0 0
    c.append.ensures.during (none_where_ok c.args.self.now.first c.append.new.self.first _ _ _ c.in_default.ensures.outcome) (disk c.remove.new.self) c.append.ensures.others
    c.in_default.ensures.appended c.append.ensures.log c.append.ensures.spare c.append.ensures.last
    (c.drop_first.ensures.shards ∙ ap (λ (n : Notes). n.shards) c.append.ensures.notes)
    (c.drop_first.ensures.list ∙ ap (λ (n : Notes). drop 1 n.list.items) c.append.ensures.notes)
    (c.drop_first.ensures.next ∙ ap (λ (n : Notes). n.next) c.append.ensures.notes) c.remove.ensures.during

pub returns-clause-during : goal.returns-clause-during
returns-clause-during g c t lasts lowest =
    let disk = g.F.Folder.disk in
    both_leave c.args.self.now (record c.append.new.self { notes = c.drop_first.new.self }) (disk c.args.folder.now) (disk c.append.new.folder) t c.args.number lasts lowest (omega (arith, c.ranges.number.fits)) 0 0
    c.append.ensures.during (none_where_ok c.args.self.now.first c.append.new.self.first _ _ _ c.in_default.ensures.outcome) (disk c.remove.new.self) c.append.ensures.others
    c.in_default.ensures.appended c.append.ensures.log c.append.ensures.spare c.append.ensures.last
    (c.drop_first.ensures.shards ∙ ap (λ (n : Notes). n.shards) c.append.ensures.notes)
    (c.drop_first.ensures.list ∙ ap (λ (n : Notes). drop 1 n.list.items) c.append.ensures.notes)
    (c.drop_first.ensures.next ∙ ap (λ (n : Notes). n.next) c.append.ensures.notes) c.remove.ensures.during

pub returns-clause-tables : goal.returns-clause-tables
returns-clause-tables g c =
    let disk = g.F.Folder.disk in
    drop_tables c.args.number (disk c.args.folder.now) (disk c.append.new.folder) (disk c.remove.new.self) c.append.ensures.others c.remove.ensures.during
