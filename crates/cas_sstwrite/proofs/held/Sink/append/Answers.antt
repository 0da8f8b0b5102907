use Rattle.std.proofs.Common.{length}
use Rattle.cas_sstwrite.proofs.held.Sink.append.Goals as goal

pub returns-in-Err-clause-why : goal.returns-in-Err-clause-why
returns-in-Err-clause-why g c = c.of_draft.ensures.why c.args.self.now.place (length c.args.bytes.now)
