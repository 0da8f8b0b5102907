-- Segments that are dropped, by what the journal says of them.
use Rattle.std.proofs.Common.{◌≡◌, ◌∙◌, None, sym, subst}
use Rattle.cas_history.specs.Items.{listed, log_list}
use Rattle.cas_journal.proofs.Moving.{no_first}
use Rattle.cas_journal.specs.Stores.{Told}
use Rattle.cas_room.specs.Dropping.{Drops}
use Rattle.cas_room.specs.Keeping.{Keeps}
use Rattle.cas_room.proofs.Shrinking.{drops_keep, leaves_dropped, none_dropped}
use Rattle.cas_room.proofs.Trimmed.{trimmed_on}
use Rattle.cas_room.proofs.room.Room.drop_covered.Goals as goal

pub returns-in-Some-clause-kept : goal.returns-in-Some-clause-kept
returns-in-Some-clause-kept g c found t keeps are = (
  t,
  none_dropped t,
  subst (λ n. Keeps c.args.self.now.journal (g.F.Folder.disk c.args.self.now.folder) (listed log_list c.args.self.now.log.pass.saw) n found t)
      (sym (c.note.ensures.said.1 ∙ sym c.args.self.now.told.0)) keeps,
)

pub returns-clause-kept : goal.returns-clause-kept
returns-clause-kept g c found t keeps are =
    let disk = g.F.Folder.disk in
    let j = c.args.self.now.journal in
    let going : j.first ≡ None = sym c.stopped.ensures ∙ no_first c.stopped.result c.in_default.not-Some in
    subst (λ n. (u : Told) × Drops t u × Keeps c.drop_covered-result.new.self (disk c.drop_covered-result.new.folder) (listed log_list c.args.self.now.log.pass.saw) n found u)
    (sym (c.note-2.ensures.said.1 ∙ sym c.args.self.now.told.0))
    (drops_keep j c.drop_covered-result.new.self (disk c.args.self.now.folder) (disk c.drop_covered-result.new.folder) (listed log_list c.args.self.now.log.pass.saw)
    c.args.self.now.faults.committed found t keeps.has (keeps.lasts.goes going) c.args.frontiers.now are c.drop_covered-result.result (c.drop_covered-result.ensures.lasts t keeps.lasts))

pub returns-clause-crash : goal.returns-clause-crash
returns-clause-crash g c found t keeps are =
    let disk = g.F.Folder.disk in
    let j = c.args.self.now.journal in
    let going : j.first ≡ None = sym c.stopped.ensures ∙ no_first c.stopped.result c.in_default.not-Some in
    leaves_dropped j (disk c.args.self.now.folder) (disk c.drop_covered-result.new.folder) (listed log_list c.args.self.now.log.pass.saw) c.args.self.now.faults.committed found t
    keeps.has (keeps.lasts.goes going) c.args.frontiers.now are (c.drop_covered-result.ensures.during t keeps.lasts)

pub returns-clause-trimmed : goal.returns-clause-trimmed
returns-clause-trimmed g c =
    let disk = g.F.Folder.disk in
    let j = c.args.self.now.journal in
    let k = c.drop_covered-result.new.self in
    trimmed_on j k (disk c.drop_covered-result.new.folder) (listed log_list c.args.self.now.log.pass.saw) c.note-2.new.faults.committed j.notes.shards c.args.frontiers.now
    (g.F.Folder.faults_of c.args.self.now.folder) (g.F.Folder.faults_of c.drop_covered-result.new.folder) c.drop_covered-result.result
    c.drop_covered-result.ensures.shards c.drop_covered-result.ensures.outcome c.drop_covered-result.ensures.stays
