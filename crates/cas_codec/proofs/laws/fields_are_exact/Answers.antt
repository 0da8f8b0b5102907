use Rattle.cas_codec.proofs.FieldLaws.{u8_field, u16_field, u32_field, u64_field, i64_field, flag_field, bytes16_field, bytes32_field, maybe_i64_exact}
use Rattle.cas_codec.proofs.laws.fields_are_exact.Goals as goal

pub returns : goal.returns
returns c = record {
  u8 = u8_field;
  u16 = u16_field;
  u32 = u32_field;
  u64 = u64_field;
  i64 = i64_field;
  flag = flag_field;
  bytes16 = bytes16_field;
  bytes32 = bytes32_field;
  maybe = maybe_i64_exact;
}
