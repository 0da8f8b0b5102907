-- A commit, by what the journal keeps.
use Rattle.cas_room.proofs.Tables.{commit_keeps, said_all, said_same}
use Rattle.cas_room.proofs.room.Room.commit.Goals as goal

pub returns-clause-kept : goal.returns-clause-kept
returns-clause-kept g c found t keeps =
    commit_keeps _ _ _ c.args.self.now.faults.committed c.note.new.faults.committed c.args.self.now.accepted found t c.commit-result.result (c.commit-result.ensures.lasts t keeps.lasts)
    keeps.has c.args.self.now.counted (said_all _ _ _ c.commit-result.result c.committed_by-self.ensures.all c.note.ensures.said.1)
    (said_same _ _ _ _ c.commit-result.result c.committed_by-self.ensures.same c.note.ensures.said.1 c.args.self.now.told.0)
