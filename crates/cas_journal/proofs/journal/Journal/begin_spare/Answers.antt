-- A segment is begun, by the clauses of the log's.
use Rattle.std.proofs.Common.{◌≡◌, ◌<◌, ◌+◌, Option, arith, refl, sym, subst}
use Rattle.cas_changes.specs.Saying.{said_by}
use Rattle.cas_log.specs.declared.log.Log.{Log}
use Rattle.cas_journal.specs.Journals.{IsSpare}
use Rattle.cas_journal.proofs.Beginning.{above_free, begin_leaves, begin_goes}
use Rattle.cas_journal.proofs.Moving.{lasting}
use Rattle.cas_journal.proofs.journal.Journal.begin_spare.Goals as goal

pub returns-in-Ok-clause-free : goal.returns-in-Ok-clause-free
returns-in-Ok-clause-free g c =
    let disk = g.F.Folder.disk in
    let last = c.args.self.now.last_segment in
    above_free (last + 1) last (disk c.args.folder.now) (disk c.begin.new.folder) c.begin.ensures.during (omega arith) c.requires.free

pub returns-in-Ok-clause-lasts : goal.returns-in-Ok-clause-lasts
returns-in-Ok-clause-lasts g c t lasts =
    let disk = g.F.Folder.disk in
    let j = c.args.self.now in
    let goes = lasts.goes c.requires.going in
    let number : c.in-Ok.log.number ≡ j.last_segment + 1 = c.in-Ok.ensures.place.0 in
    let above : (said_by t.entries).last_segment < c.in-Ok.log.number = omega (arith, number, goes.last) in
    lasting _ (disk c.begin.new.folder) t
    (begin_goes j (disk c.args.folder.now) (disk c.begin.new.folder) t (j.last_segment + 1) (omega arith) c.begin.ensures.during goes _ refl refl (omega (arith, goes.last))
    (above, c.in-Ok.ensures.stands, c.in-Ok.ensures.pushed) refl)

pub returns-in-Ok-clause-during : goal.returns-in-Ok-clause-during
returns-in-Ok-clause-during g c t lasts =
    let disk = g.F.Folder.disk in
    let j = c.args.self.now in
    begin_leaves j (disk c.args.folder.now) (disk c.begin.new.folder) t (j.last_segment + 1) (omega arith) c.begin.ensures.during (lasts.goes c.requires.going)

pub returns-in-Err-clause-free : goal.returns-in-Err-clause-free
returns-in-Err-clause-free g c =
    let disk = g.F.Folder.disk in
    let last = c.args.self.now.last_segment in
    above_free (last + 1) last (disk c.args.folder.now) (disk c.begin.new.folder) c.begin.ensures.during (omega arith) c.requires.free

pub returns-in-Err-clause-lasts : goal.returns-in-Err-clause-lasts
returns-in-Err-clause-lasts g c t lasts =
    let disk = g.F.Folder.disk in
    let j = c.args.self.now in
    let goes = lasts.goes c.requires.going in
    let none : IsSpare j.spare (said_by t.entries).last_segment (disk c.begin.new.folder) =
    subst (λ (o : Option Log). IsSpare o (said_by t.entries).last_segment (disk c.begin.new.folder)) (sym c.requires.unspared) tt in
    lasting _ (disk c.begin.new.folder) t
    (begin_goes j (disk c.args.folder.now) (disk c.begin.new.folder) t (j.last_segment + 1) (omega arith) c.begin.ensures.during goes _ refl refl (omega (arith, goes.last)) none refl)

pub returns-in-Err-clause-during : goal.returns-in-Err-clause-during
returns-in-Err-clause-during g c t lasts =
    let disk = g.F.Folder.disk in
    let j = c.args.self.now in
    begin_leaves j (disk c.args.folder.now) (disk c.begin.new.folder) t (j.last_segment + 1) (omega arith) c.begin.ensures.during (lasts.goes c.requires.going)
