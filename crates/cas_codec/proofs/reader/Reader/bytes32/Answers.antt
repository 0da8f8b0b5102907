use Rattle.cas_codec.proofs.FieldLaws.{bytes32_field}
use Rattle.cas_codec.proofs.ReadsLaws.{reads_from}
use Rattle.cas_codec.proofs.reader.Reader.bytes32.Goals as goal

pub returns-clause-field : goal.returns-clause-field
returns-clause-field c = reads_from _ _ _ _ c.take_bytes32.result _ _ bytes32_field c.know_left.ensures c.take_bytes32.ensures.answer c.take_bytes32.ensures.unchanged
