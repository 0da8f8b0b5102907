use Rattle.cas_codec.proofs.FieldLaws.{flag_field}
use Rattle.cas_codec.proofs.ReadsLaws.{reads_from}
use Rattle.cas_codec.proofs.reader.Reader.flag.Goals as goal

pub returns-clause-field : goal.returns-clause-field
returns-clause-field c = reads_from _ _ _ _ c.take_flag.result _ _ flag_field c.know_left.ensures c.take_flag.ensures.answer c.take_flag.ensures.unchanged
