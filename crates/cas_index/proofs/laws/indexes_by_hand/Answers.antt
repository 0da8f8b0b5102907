use Rattle.std.proofs.Common.{refl}
use Rattle.cas_codec.specs.Fields.{u8, u16, u32, u64, i64, bytes16}
use Rattle.cas_records.specs.Spelling.{deletion_bytes}
use Rattle.cas_index.proofs.laws.indexes_by_hand.Goals as goal

pub returns : goal.returns
unfolding u8 u16 u32 u64 i64 bytes16 deletion_bytes
returns c = record { index = λ order. refl; footer = refl }
