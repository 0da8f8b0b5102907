-- Why something of a table file isn't written.
-- Own.
use Rattle.std.specs.Prelude.{◌≡◌, ◌≤◌, ◌<◌, ◌^◌, ◌+◌, ℕ, false, List, length, Option, None, Some}
use Rattle.std.specs.List.{AllByRecursion, last_or}
use Rattle.cas_cell.specs.declared.deletion.Deletion.{Deletion}
use Rattle.cas_info.specs.declared.info.TheConstants.{FILE_LIMIT, PARTITION_LIMIT}
use Rattle.cas_streams.specs.declared.fragment.Fragment.{Fragment}
use Rattle.cas_fragments.specs.Allowed.{HaveRoom}
use Rattle.cas_fragments.specs.Spelling.{body_bytes}
use Rattle.cas_fragments.specs.Blocks.{blocks_of, statics_in, behind_statics, partition_bytes}
use Rattle.cas_fragments.specs.declared.heads.Version.TheVariants.{Second}
use Rattle.cas_index.specs.Entries.{is_next_key}
use Rattle.cas_index.specs.declared.entries.PartitionEntry.{PartitionEntry}
use Rattle.cas_sstwrite.specs.Rooms.{IsHeld}
use Rattle.cas_sstwrite.specs.declared.fault.TheConstants.{BLOCK_LIMIT}
use Rattle.cas_sstwrite.specs.declared.fault.Measure.{Measure}
use Rattle.cas_sstwrite.specs.declared.fault.Measure.TheVariants.{FileBytes, BlockBytes, Partitions}
use Rattle.cas_sstwrite.specs.declared.fault.PartitionFault.{PartitionFault}
use Rattle.cas_sstwrite.specs.declared.fault.PartitionFault.TheVariants.{Write, Source}
use Rattle.cas_sstwrite.specs.declared.fault.WriteFault.{WriteFault}
use Rattle.cas_sstwrite.specs.declared.fault.WriteFault.TheVariants.{Failed, Order, TooMany, Unfit, Mem}

-- how many there may be
abbrev pub limit_of : Measure → ℕ
limit_of FileBytes = FILE_LIMIT
limit_of BlockBytes = BLOCK_LIMIT
limit_of Partitions = PARTITION_LIMIT

-- no table may have a partition of that key and these fragments, since a number or a length has no room in its field, or static columns stand behind another
-- fragment
abbrev pub IsUnfit : List ℕ → List Fragment → Type 0
IsUnfit key fs = (length key < 2 ^ 16) × HaveRoom (statics_in fs) × AllByRecursion IsHeld (behind_statics fs) → ⊥

-- What there was too much of, where so many partitions stand in so many bytes, and one of that key and stream is to stand behind them.
abbrev pub TooMuch : Measure → ℕ → ℕ → List ℕ → Option Deletion → List Fragment → Type 0
TooMuch FileBytes partitions place key top fs = FILE_LIMIT < place + length (partition_bytes Second key top fs)
TooMuch BlockBytes partitions place key top fs = AllByRecursion (λ b. length (body_bytes b) < 2 ^ 32) (blocks_of (behind_statics fs)) → ⊥
TooMuch Partitions partitions place key top fs = PARTITION_LIMIT ≤ partitions

-- Why that partition isn't written behind these, which end at that place. That the disk failed is told by the counts.
abbrev pub Causes : List PartitionEntry → ℕ → List ℕ → Option Deletion → List Fragment → WriteFault → Type 0
Causes entries place key top fs Failed = Unit {0}
Causes entries place key top fs Order = is_next_key (last_or None entries) key ≡ false
Causes entries place key top fs (TooMany what limit) = (limit ≡ limit_of what) × TooMuch what (length entries) place key top fs
Causes entries place key top fs Unfit = IsUnfit key fs
Causes entries place key top fs Mem = Unit {0}

-- the same where the source may have answered a fault, which says nothing of the partition
abbrev pub WhyNot : {E : Type 0} → List PartitionEntry → ℕ → List ℕ → Option Deletion → List Fragment → PartitionFault E → Type 0
WhyNot entries place key top fs (Write e) = Causes entries place key top fs e
WhyNot entries place key top fs (Source e) = Unit {0}

-- a fault of the source is that by which it is broken
abbrev pub IsOwn : {E : Type 0} → PartitionFault E → Option E → Type 0
IsOwn (Write e) broken = Unit {0}
IsOwn (Source e) broken = broken ≡ Some e
