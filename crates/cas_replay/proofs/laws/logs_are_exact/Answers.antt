use Rattle.cas_replay.proofs.SegmentLaws.{is_log, of_log}
use Rattle.cas_replay.proofs.laws.logs_are_exact.Goals as goal

pub returns : goal.returns
returns c = record {
  again = λ tables shards file numbers mutations are some few is. of_log tables shards are some file numbers few mutations is;
  found = λ tables shards file numbers mutations are some bytes e. is_log tables shards are some file bytes numbers mutations e;
}
