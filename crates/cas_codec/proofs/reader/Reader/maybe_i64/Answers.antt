use Rattle.cas_codec.proofs.FieldLaws.{maybe_i64_exact}
use Rattle.cas_codec.proofs.ReadsLaws.{found_from}
use Rattle.cas_codec.proofs.reader.Reader.maybe_i64.Goals as goal

pub returns-clause-found : goal.returns-clause-found
returns-clause-found c = found_from _ _ _ _ c.take_maybe_i64.result _ _ maybe_i64_exact c.know_left.ensures c.take_maybe_i64.ensures.answer
