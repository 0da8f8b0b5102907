use Rattle.cas_mutations.proofs.RecordLaws.{record_exact}
use Rattle.cas_replay.proofs.Limits.{record_within}
use Rattle.cas_replay.proofs.reading.read_next.Goals as goal

pub returns-then-allow-clause-fits : goal.returns-then-allow-clause-fits
returns-then-allow-clause-fits c are some =
    ((record_exact c.args.of.now.tables.now c.args.of.now.shards are some).found c.args.reader.now c.read_record.new.reader c.in_ok-mutation.mutation c.left-left.ensures.are_bytes
    c.in_ok-mutation.ensures).0

pub returns-then-allow-clause-limits : goal.returns-then-allow-clause-limits
returns-then-allow-clause-limits c =
    record_within c.args.of.now.tables.now c.args.of.now.shards c.args.reader.now c.read_record.new.reader c.in_ok-mutation.mutation c.in_ok-mutation.ensures
