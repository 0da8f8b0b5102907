use Rattle.cas_codec.proofs.FieldLaws.{i64_field}
use Rattle.cas_codec.proofs.ReadsLaws.{reads_from}
use Rattle.cas_codec.proofs.reader.Reader.i64.Goals as goal

pub returns-clause-field : goal.returns-clause-field
returns-clause-field c = reads_from _ _ _ _ c.take_i64.result _ _ i64_field c.know_left.ensures c.take_i64.ensures.answer c.take_i64.ensures.unchanged
