-- Which headers a table file may have.
-- Own format.
use Rattle.std.specs.Prelude.{◌<◌, ◌≤◌, ◌^◌}
use Rattle.cas_info.specs.declared.info.TheConstants.{FILE_NUMBER_LIMIT}
use Rattle.cas_tables.specs.declared.header.TheConstants.{LAST_SHARD}
use Rattle.cas_tables.specs.declared.header.Header.{Header}

-- any table, one of 16 shards, and a number from 1 on
pub record FitsHeader (h : Header) : Type 0 where
  pub table : h.table < 2 ^ 16
  pub shard : h.shard ≤ LAST_SHARD
  pub number : (1 ≤ h.number) × (h.number ≤ FILE_NUMBER_LIMIT)
