-- What may be told of a table file.
-- Own format.
use Rattle.std.specs.Prelude.{◌≤◌, IfSome, FitsSigned}
use Rattle.std.specs.Int.{w64}
use Rattle.cas_atoms.specs.Fits.{FitsKey, FitsTimestamp}
use Rattle.cas_info.specs.declared.info.TheConstants.{FILE_NUMBER_LIMIT, FILE_LIMIT, LAST_LEVEL, PARTITION_LIMIT}
use Rattle.cas_info.specs.declared.info.TableInfo.{TableInfo}

-- numbers count from 1, a file has at most 2^40 bytes and from 1 to 2^28 keys, and the last level is 8
pub record FitsInfo (i : TableInfo) : Type 0 where
  pub number : (1 ≤ i.number) × (i.number ≤ FILE_NUMBER_LIMIT)
  pub bytes : i.bytes ≤ FILE_LIMIT
  pub first : FitsKey i.first
  pub last : FitsKey i.last
  pub least : FitsTimestamp i.least
  pub greatest : FitsTimestamp i.greatest
  pub dead : IfSome i.dead (FitsSigned w64)
  pub level : i.level ≤ LAST_LEVEL
  pub keys : (1 ≤ i.keys) × (i.keys ≤ PARTITION_LIMIT)
