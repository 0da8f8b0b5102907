use Rattle.cas_replay.proofs.Noted.{still_notes}
use Rattle.cas_replay.proofs.lasts.Lasts.reserve.Goals as goal

pub returns-clause-notes : goal.returns-clause-notes
returns-clause-notes c shards read notes = still_notes shards c.args.self.now.tops c.reserve.new.self c.reserve.ensures.tops read notes
