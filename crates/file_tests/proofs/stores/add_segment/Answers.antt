use Rattle.std.proofs.Common.{◌≡◌, ◌++◌, length, refl, arith}
use Rattle.cas_codec.specs.Fields.{u8, u64}
use Rattle.file_tests.proofs.stores.add_segment.Goals as goal

pub append-requires-clause-short : goal.append-requires-clause-short
unfolding u8 u64
append-requires-clause-short g c = let nine : length (u8 3 ++ u64 c.args.number) ≡ 9 = refl in omega (arith, nine)
