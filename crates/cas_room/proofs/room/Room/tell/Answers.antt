-- An entry that is told, by what the journal keeps.
use Rattle.std.proofs.Common.{◌∙◌, sym, subst}
use Rattle.cas_history.specs.Items.{listed, log_list}
use Rattle.cas_room.specs.Keeping.{Keeps}
use Rattle.cas_room.specs.Rooms.{after_define}
use Rattle.cas_room.proofs.Tables.{none_failed, tell_keeps}
use Rattle.cas_room.proofs.room.Room.tell.Goals as goal

pub returns-clause-kept : goal.returns-clause-kept
returns-clause-kept g c found t keeps fits =
    let disk = g.F.Folder.disk in
    let j = c.args.self.now.journal in
    subst (λ n. Keeps c.tell-result.new.self (disk c.tell-result.new.folder) (listed log_list c.args.self.now.log.pass.saw) n found (after_define c.tell-result.result c.args.entry.now t))
    (sym (c.note.ensures.said.1 ∙ sym c.args.self.now.told.0))
    (tell_keeps _ _ _ _ found t c.args.entry.now c.tell-result.result keeps.has fits c.requires.told
    (none_failed j (disk c.args.self.now.folder) t c.tell-result.new.self.first _ _ c.tell-result.result keeps.lasts c.tell-result.ensures.outcome)
    (c.tell-result.ensures.lasts t keeps.lasts fits))
