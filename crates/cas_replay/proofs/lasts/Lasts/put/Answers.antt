use Rattle.cas_replay.proofs.Noted.{one_more_notes}
use Rattle.cas_replay.proofs.lasts.Lasts.put.Goals as goal

pub returns-clause-notes : goal.returns-clause-notes
returns-clause-notes c shards read m notes place number =
    one_more_notes shards c.args.self.now.tops c.note.new.self m c.args.place c.args.number place number c.note.ensures.tops read notes
