-- The segments of a journal by their numbers and lengths. Own.
use Rattle.std.specs.Prelude.{◌≡◌, ◌≤◌, ℕ}
use Rattle.cas_changes.specs.declared.said.TheConstants.{SEGMENT_LIMIT}
use Rattle.cas_log.specs.Logs.{place_of, block_length}
use Rattle.cas_log.specs.declared.log.Log.{Log}

-- one that is written: it may be so long, and its number is one of those begun
pub record IsBegun (size last : ℕ) (log : Log) : Type 0 where
  pub sized : (place_of log).size ≡ size
  pub known : (place_of log).number ≤ last

-- the one that was begun last: it has its header alone, 24 bytes, and nothing is pushed, so that its block is a head of 8 bytes and the two gates
pub record IsFresh (size last : ℕ) (log : Log) : Type 0 where
  pub sized : (place_of log).size ≡ size
  pub number : (place_of log).number ≡ last
  pub allowed : last ≤ SEGMENT_LIMIT
  pub end : (place_of log).end ≡ 24
  pub empty : block_length log ≡ 10
