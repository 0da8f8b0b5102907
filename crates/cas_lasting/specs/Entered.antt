-- What the history of a run has of each shard, and what a crash leaves of it. Own.
use Rattle.std.specs.Prelude.{◌≡◌, ℕ, ◌<◌, ◌≤◌, ◌==◌, true, false, if◌then◌else◌, List, [], ◌∷◌, ◌++◌, length, map, take}
use Rattle.std.specs.List.{flat_map}
use Rattle.cas_disk.specs.Disk.{Image}
use Rattle.cas_atoms.specs.declared.atom.Mutation.{Mutation}
use Rattle.cas_changes.specs.declared.entry.Entry.{Entry as ManifestEntry}
use Rattle.cas_changes.specs.Saying.{Saying, part_of, said_by}
use Rattle.cas_history.specs.declared.item.Item.{Item}
use Rattle.cas_history.specs.declared.item.Item.TheVariants.{Wrote}
use Rattle.cas_room.specs.Dropping.{IsTrimmed}
use Rattle.cas_room.specs.Keeping.{Stores}
use Rattle.cas_room.specs.declared.event.Event.{Event}
use Rattle.cas_room.specs.declared.event.Event.TheVariants as event
use Rattle.cas_room.specs.Rooms.{accepted_in}
use Rattle.cas_shard.specs.declared.entry.Entry.{Entry}
use Rattle.cas_shard.specs.declared.entry.Entry.TheVariants as entry
use Rattle.cas_sstread.specs.Loading.{Held}
use Rattle.cas_view.specs.Views.{File}
use Rattle.cas_lasting.specs.History.{History, changes_told, shard_at}

-- the entry of a mutation, as a shard's history tells it
abbrev pub entry_told : ℕ → ℕ → Event → List Entry
entry_told session call (event.Accepted m) = entry.Wrote session call m ∷ []
entry_told session call (event.Changed c) = []

-- the entry, where it is a mutation of this shard
abbrev pub entry_in : ℕ → Item Event → List Entry
entry_in n (Wrote shard session call number what) = if shard == n then entry_told session call what else []
entry_in n other = []

-- the entries of a shard, in the order of the list of all
abbrev pub entries_in : ℕ → List (Item Event) → List Entry
entries_in n list = flat_map (entry_in n) list

-- the shards' entries are those of the list, and no others
abbrev pub AreEntered : List (Item Event) → History → Type 0
AreEntered list h = (n : ℕ) → n < length h.shards → (shard_at h n).entries ≡ entries_in n list

-- of each table in each shard the manifest lists just these files, in this order
abbrev pub ListFiles : Saying → (ℕ → ℕ → List (File Held)) → Type 0
ListFiles said files = (n table : ℕ) → n < said.shards → map (λ f. f.info) (files n table) ≡ (part_of said table n).listed

-- The image tells of the tables of a run, in order, as they were defined; of each table in each shard it lists just the files that it has, those that were
-- found and then those that were flushed, by the changes that the history has; and it tells at most one definition, flush or dropped segment more, for which
-- the disk failed.
pub record HasTables (h : History) (entries : List ManifestEntry) : Type 0 where
  pub told : List ManifestEntry
  pub more : List ManifestEntry
  pub are : entries ≡ told ++ more
  pub tables : (said_by told).tables ≡ h.tables
  pub files : ListFiles (said_by told) h.disk.files
  pub changes : changes_told told ≡ h.changes
  pub few : length more ≤ 1
  pub none : h.disk.stopped ≡ false → more ≡ []

-- What a crash leaves of a run that began with these mutations and accepted those of the list: a store that has all that began, and behind it a front
-- of what was accepted, each whole, every one acknowledged by an `ok` among them; and where no write failed all of them: in the log, or at or below the
-- frontier of their table and shard, where their segment was dropped. Its manifest tells of the run's tables and lists the run's files; and where the log is
-- trimmed, it lists one segment at most, or one of the mutations stands in no table file.
pub record IsLeft (found : List Mutation) (list : List (Item Event)) (h : History) (c : Image) : Type 0 where
  pub entries : List ManifestEntry
  pub tables : HasTables h entries
  pub count : ℕ
  pub least : h.acknowledged ≤ count
  pub most : count ≤ length (accepted_in list)
  pub all : h.disk.stopped ≡ false → count ≡ length (accepted_in list)
  pub store : Stores entries (found ++ take count (accepted_in list)) c
  pub trimmed : h.trimmed ≡ true → IsTrimmed (said_by entries) (found ++ accepted_in list)

-- What a crash leaves while a call is under way, of a store that stood for this history before it, and by whose end this list was accepted: a store with
-- all that the store was opened with, and behind it a front of that list, each mutation whole, every one acknowledged before the call among them; its
-- tables are those before the call, and at most one entry more, which is under way or for which the disk failed.
pub record IsLeftAmid (found : List Mutation) (list : List (Item Event)) (h : History) (c : Image) : Type 0 where
  pub entries : List ManifestEntry
  pub told : List ManifestEntry
  pub more : List ManifestEntry
  pub are : entries ≡ told ++ more
  pub tables : (said_by told).tables ≡ h.tables
  pub few : length more ≤ 1
  pub count : ℕ
  pub least : h.acknowledged ≤ count
  pub most : count ≤ length (accepted_in list)
  pub store : Stores entries (found ++ take count (accepted_in list)) c
