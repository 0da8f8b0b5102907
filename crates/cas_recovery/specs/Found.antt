-- The store that a folder has, or a new one.
-- Storage engine: startup, replay of the commit log; own.
use Rattle.std.specs.Prelude.{◌≡◌, ◌≢◌, ℕ, ◌<◌, ◌==◌, if◌then◌else◌, List, [], length}
use Rattle.std.specs.List.{AllByRecursion, fold}
use Rattle.cas_types.specs.Limits.{IsShardCount}
use Rattle.cas_disk.specs.Disk.{Image, Disk}
use Rattle.cas_atoms.specs.declared.atom.Mutation.{Mutation}
use Rattle.cas_replay.specs.Grammar.{AreOfALog}
use Rattle.cas_changes.specs.declared.entry.Entry.{Entry as ManifestEntry}
use Rattle.cas_changes.specs.Saying.{Saying, said_by, nothing, part_of, no_part, no_times}
use Rattle.cas_manifest.specs.File.{MayFollow}
use Rattle.cas_shard.specs.declared.entry.ShardOpening.{ShardOpening}
use Rattle.cas_opening.specs.Opening.{IsOfBytes, OpensAs}
use Rattle.cas_shard.specs.Shards.{empty_shard, restored}

-- what the log has of a shard, mutation by mutation
abbrev pub found_in : ℕ → List Mutation → ShardOpening
found_in n mutations = fold (λ o m. if m.shard == n then restored m o else o) empty_shard mutations

-- no mutation stands in a table file, of any table in any shard
pub record IsUnflushed (s : Saying) : Type 0 where
  pub parts : (table shard : ℕ) → table < length s.tables → shard < s.shards → part_of s table shard ≡ no_part
  pub times : AllByRecursion (λ t. t ≡ no_times) s.times

-- Entries of a manifest and mutations of a log are those of a store: the entries may follow one another, of which the first makes the store; the
-- mutations are of its tables, their numbers in order.
pub record AreOfAStore (entries : List ManifestEntry) (mutations : List Mutation) : Type 0 where
  pub made : entries ≢ []
  pub follow : MayFollow nothing entries
  pub shards : IsShardCount (said_by entries).shards
  pub log : AreOfALog (said_by entries).tables (said_by entries).shards mutations

-- The folder has a store of these entries and mutations, as it is found; or it has none, and one of so many shards is made. Of a folder that tells
-- nothing nothing more is said than that they are of some store.
pub record IsFound (shards : ℕ) (folder : Disk) (entries : List ManifestEntry) (mutations : List Mutation) : Type 0 where
  pub of_a_store : AreOfAStore entries mutations
  pub told : (c : Image) → folder.reads c → IsOfBytes c → OpensAs shards entries mutations c
