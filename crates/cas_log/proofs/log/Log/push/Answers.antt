use Rattle.std.proofs.Common.{arith}
use Rattle.cas_log.proofs.log.Log.push.Goals as goal

-- a record within the segment is short enough to have one
pub add_record-requires-clause-recorded : goal.add_record-requires-clause-recorded
add_record-requires-clause-recorded c =
    let (table, shards, fits) = c.requires.mutation in
    c.records_are_exact.ensures.recorded table shards c.args.mutation.now fits (omega (arith, c.requires.room, c.args.self.now.sized.1))
