use Rattle.cas_codec.proofs.FieldLaws.{u64_field}
use Rattle.cas_codec.proofs.ReadsLaws.{reads_from}
use Rattle.cas_codec.proofs.reader.Reader.u64.Goals as goal

pub returns-clause-field : goal.returns-clause-field
returns-clause-field c = reads_from _ _ _ _ c.take_u64.result _ _ u64_field c.know_left.ensures c.take_u64.ensures.answer c.take_u64.ensures.unchanged
