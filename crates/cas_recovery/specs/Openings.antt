-- What a shard was before a run, for all that the folder as it is found can tell.
-- Storage engine: startup, SSTables, replay of the commit log; own.
use Rattle.std.specs.Prelude.{◌≡◌, ◌⊎◌, ◌<◌, ◌≤◌, ◌+◌, ◌++◌, ℕ, zero, suc, max, List, [], ◌∷◌, length, filter, slice_get, unwrap_or, Some}
use Rattle.std.specs.Int.{int_max}
use Rattle.cas_types.specs.declared.schema.TableSchema.{TableSchema}
use Rattle.cas_atoms.specs.declared.atom.Mutation.{Mutation}
use Rattle.cas_info.specs.declared.info.TableInfo.{TableInfo}
use Rattle.cas_disk.specs.Disk.{Disk, Image}
use Rattle.cas_memtable.specs.Kept.{all_of}
use Rattle.cas_changes.specs.Saying.{Saying, part_of, no_times, said_by}
use Rattle.cas_changes.specs.declared.entry.Entry.{Entry as ManifestEntry}
use Rattle.cas_changes.specs.declared.said.ShardTimes.{ShardTimes}
use Rattle.cas_replay.specs.Grammar.{AscendByOne, numbers_of}
use Rattle.cas_opening.specs.Opening.{IsOfBytes, is_above}
use Rattle.cas_listed.specs.Listed.{StandInFiles}
use Rattle.cas_shard.specs.declared.entry.ShardOpening.{ShardOpening}
use Rattle.cas_shard.specs.Shards.{found_shard}
use Rattle.cas_shard.specs.Stands.{NumbersRise, SaySame, mutations_of}
use Rattle.cas_recovery.specs.Found.{IsUnflushed, found_in}

-- the greatest of a shard's frontiers, over so many tables, from the first
abbrev pub greatest_frontier : Saying → ℕ → ℕ → ℕ
greatest_frontier s shard zero = 0
greatest_frontier s shard (suc table) = max (greatest_frontier s shard table) (part_of s table shard).frontier

-- the moment and the last drawn timestamp that the manifest tells of a shard
abbrev pub times_of : Saying → ℕ → ShardTimes
times_of s shard = unwrap_or (slice_get s.times shard) no_times

-- the mutations of the log that stand in no table file
abbrev pub unflushed_of : Saying → List Mutation → List Mutation
unflushed_of s mutations = filter (is_above s) mutations

-- Whatever a crash leaves, some mutations stand in a table's listed files; and these and the log's together say the same as all of the table's, and no
-- more. Which of them wrote it can't be seen in a file.
pub record SayAll (folder : Disk) (t : TableSchema) (shard : ℕ) (listed : List TableInfo) (log all : List Mutation) : Type 0 where
  pub written : List (List Mutation)
  pub stand : (c : Image) → folder.may_leave c → StandInFiles t shard c listed written
  pub says : SaySame (all_of written ++ log) all

-- The shard of this number may have been so, by what the manifest says, by the mutations of the log and by the listed files. Its mutations rise, up to
-- the greatest number that frontiers and log tell, and the log's numbers go on there; its moment and its drawn timestamp are the greatest that are told;
-- of each table all of its mutations are in files and log; and there are none of another table.
pub record IsOpening (s : Saying) (mutations : List Mutation) (folder : Disk) (n : ℕ) (o : ShardOpening) : Type 0 where
  pub rise : NumbersRise (found_shard o)
  pub number : o.number ≡ max (found_in n (unflushed_of s mutations)).number (greatest_frontier s n (length s.tables))
  pub goes_on : AscendByOne (numbers_of n mutations ++ (o.number + 1) ∷ [])
  pub drawn : o.drawn ≡ int_max (found_in n (unflushed_of s mutations)).drawn (times_of s n).drawn
  pub moment : o.moment ≡ int_max (found_in n (unflushed_of s mutations)).moment (times_of s n).moment
  pub says : (table : ℕ) (t : TableSchema) → slice_get s.tables table ≡ Some t
      → SayAll folder t n (part_of s table n).listed (mutations_of table (found_in n (unflushed_of s mutations)).entries) (mutations_of table o.entries)
  pub no_others : (table : ℕ) → length s.tables ≤ table → mutations_of table o.entries ≡ []

-- The shard may have been so, for all that is known of its folder. Where the folder tells what it reads, whatever its log and its listed files may stand for;
-- and where no mutation stands in a table file, whether the folder tells anything or not, what the log has of it.
abbrev pub MayHaveBeen : Saying → List Mutation → Disk → ℕ → ShardOpening → Type 0
MayHaveBeen s mutations folder n o =
    (((c : Image) × folder.reads c × IsOfBytes c) × IsOpening s mutations folder n o) ⊎ (IsUnflushed s × (o ≡ found_in n mutations))

-- the shards of the store may all have been so, each at its number
abbrev pub AreOpenings : List ManifestEntry → List Mutation → Disk → (ℕ → ShardOpening) → Type 0
AreOpenings entries mutations folder openings = (n : ℕ) → n < (said_by entries).shards → MayHaveBeen (said_by entries) mutations folder n (openings n)
