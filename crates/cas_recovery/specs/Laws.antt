-- What holds of what a store's shards may have been, by its folder (own).
use Rattle.std.specs.Prelude.{◌<◌, ℕ, List}
use Rattle.cas_disk.specs.Disk.{Disk}
use Rattle.cas_disk.specs.declared.name.Name.{Name}
use Rattle.cas_atoms.specs.declared.atom.Mutation.{Mutation}
use Rattle.cas_changes.specs.Saying.{said_by}
use Rattle.cas_replay.specs.Grammar.{AreOfALog}
use Rattle.cas_changes.specs.declared.entry.Entry.{Entry as ManifestEntry}
use Rattle.cas_shard.specs.declared.entry.ShardOpening.{ShardOpening}
use Rattle.cas_recovery.specs.Found.{IsUnflushed, found_in}
use Rattle.cas_recovery.specs.Openings.{AreOpenings, IsOpening}
use Rattle.cas_recovery.specs.Recovered.{IsBadTable}

-- where no mutation stands in a table file, each shard may have been what the log has of it, by all that is asked of a shard with table files
abbrev pub LogExplains : Disk → Type 0
LogExplains folder =
    (entries : List ManifestEntry) (mutations : List Mutation) → AreOfALog (said_by entries).tables (said_by entries).shards mutations
    → IsUnflushed (said_by entries)
    → (n : ℕ) → n < (said_by entries).shards → IsOpening (said_by entries) mutations folder n (found_in n mutations)

-- a store whose folder some shards explain, as they were before, isn't refused for a table file
abbrev pub ExplainedIsTaken : Disk → Type 0
ExplainedIsTaken folder =
    (entries : List ManifestEntry) (mutations : List Mutation) (openings : ℕ → ShardOpening) (name : Name) (at : ℕ)
    → AreOpenings entries mutations folder openings → IsBadTable entries folder name at → ⊥
