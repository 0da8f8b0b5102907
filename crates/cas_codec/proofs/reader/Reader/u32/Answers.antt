use Rattle.cas_codec.proofs.FieldLaws.{u32_field}
use Rattle.cas_codec.proofs.ReadsLaws.{reads_from}
use Rattle.cas_codec.proofs.reader.Reader.u32.Goals as goal

pub returns-clause-field : goal.returns-clause-field
returns-clause-field c = reads_from _ _ _ _ c.take_u32.result _ _ u32_field c.know_left.ensures c.take_u32.ensures.answer c.take_u32.ensures.unchanged
