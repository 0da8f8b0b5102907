use Rattle.cas_codec.proofs.FieldLaws.{bytes_field}
use Rattle.cas_codec.proofs.ReadsLaws.{reads_from}
use Rattle.cas_codec.proofs.reader.Reader.bytes.Goals as goal

pub returns-clause-field : goal.returns-clause-field
returns-clause-field c = reads_from _ _ _ _ c.take.result _ _ (bytes_field c.args.count) c.know_left.ensures c.take.ensures.answer c.take.ensures.unchanged
