use Rattle.cas_codec.proofs.FieldLaws.{u8_field}
use Rattle.cas_codec.proofs.ReadsLaws.{reads_from}
use Rattle.cas_codec.proofs.reader.Reader.u8.Goals as goal

pub returns-clause-field : goal.returns-clause-field
returns-clause-field c = reads_from _ _ _ _ c.take_u8.result _ _ u8_field c.know_left.ensures c.take_u8.ensures.answer c.take_u8.ensures.unchanged
