-- The store that a folder's files are, and what every image of it has. Storage engine: commit log; own.
use Rattle.std.specs.Prelude.{◌≡◌, ◌≢◌, ◌⊎◌, ℕ, ◌+◌, ◌-◌, ◌≤◌, List, [], ◌∷◌, ◌++◌, length, map, take, drop, Some}
use Rattle.std.specs.List.{AllByRecursion}
use Rattle.cas_disk.specs.declared.name.Name.TheVariants.{Manifest as manifest_name, Table as table_name}
use Rattle.cas_disk.specs.Disk.{Image}
use Rattle.cas_atoms.specs.declared.atom.Mutation.{Mutation}
use Rattle.cas_changes.specs.declared.entry.Entry.{Entry}
use Rattle.cas_changes.specs.declared.entry.Entry.TheVariants.{NewSegment, DropSegment}
use Rattle.cas_changes.specs.Saying.{said_by}
use Rattle.cas_manifest.specs.File.{IsManifest}
use Rattle.cas_replay.specs.Reading.{segment_in, frontier_of}
use Rattle.cas_replay.specs.Grammar.{IsLog}

-- The image is a store with these entries in its manifest, of which the first makes it, and with these mutations in the segments that it lists, in
-- the order of the log.
pub record IsStore (entries : List Entry) (mutations : List Mutation) (c : Image) : Type 0 where
  pub file : List ℕ
  pub there : c manifest_name ≡ Some file
  pub manifest : IsManifest entries file
  pub made : entries ≢ []
  pub log : IsLog (said_by entries).tables (said_by entries).shards (segment_in c) (said_by entries).segments mutations

-- what a store was found with when it was opened: the segments that its manifest listed, and the mutations that they had together
pub record Found : Type 0 where
  pub segments : List ℕ
  pub mutations : List Mutation

-- the same by its fields
abbrev pub found_in : List ℕ → List Mutation → Found
found_in segments mutations = record { segments = segments; mutations = mutations }

-- What a journal was told: what the store was found with; the entries that the manifest has; one that failed, which may be there or not; the mutations
-- of the segments that are listed, those that it was opened with and those that it took; how many of them are committed; and how many at their front
-- are gone where that entry is there, as it may drop their segment.
pub record Told : Type 0 where
  pub found : Found
  pub entries : List Entry
  pub failed : List Entry
  pub taken : List Mutation
  pub committed : ℕ
  pub leaving : ℕ

-- entries that an image may have: those that the manifest has, or that one more
abbrev pub MayList : Told → List Entry → Type 0
MayList t entries = (entries ≡ t.entries) ⊎ (entries ≡ t.entries ++ t.failed)

-- so many mutations are gone from the front, where an image has these entries: none, or those that leave with the entry that failed
abbrev pub HaveGone : Told → List Entry → ℕ → Type 0
HaveGone t entries gone = (gone ≡ 0) ⊎ ((entries ≡ t.entries ++ t.failed) × (gone ≡ t.leaving))

-- The image is the store, with what was told: every entry, and a front of the mutations, with each that is committed, whole.
pub record Holds (t : Told) (c : Image) : Type 0 where
  pub entries : List Entry
  pub listed : MayList t entries
  pub gone : ℕ
  pub front : HaveGone t entries gone
  pub count : ℕ
  pub least : t.committed ≤ count
  pub most : count ≤ length t.taken
  pub store : IsStore entries (drop gone (take count t.taken)) c

-- so many segments more are listed
abbrev pub named : List ℕ → List Entry
named numbers = map NewSegment numbers

-- what failed is what failed before, or the name of a segment
abbrev pub FailedToName : List Entry → List Entry → Type 0
FailedToName before now = (now ≡ before) ⊎ ((number : ℕ) × (now ≡ NewSegment number ∷ []))

-- From one to the other the journal made room: segments were begun and named, and mutations committed, no others taken and nothing defined.
pub record MadeRoom (t u : Told) : Type 0 where
  pub found : u.found ≡ t.found
  pub numbers : List ℕ
  pub entries : u.entries ≡ t.entries ++ named numbers
  pub failed : FailedToName t.failed u.failed
  pub taken : u.taken ≡ t.taken
  pub committed : t.committed ≤ u.committed
  pub leaving : u.leaving ≡ t.leaving

-- the image holds what was told, or that with room made
abbrev pub HoldsWithRoom : Told → Image → Type 0
HoldsWithRoom t c = (u : Told) × MadeRoom t u × Holds u c

-- the same, with one mutation more at its end
abbrev pub took : Mutation → Told → Told
took m t = record t { taken = t.taken ++ m ∷ [] }

-- the same, all of it committed
abbrev pub committed_all : Told → Told
committed_all t = record t { committed = length t.taken }

-- the same, with one entry more
abbrev pub appended : Entry → Told → Told
appended e t = record t { entries = t.entries ++ e ∷ [] }

-- the same, with an entry that may be there or not
abbrev pub failed_at : Entry → Told → Told
failed_at e t = record t { failed = e ∷ [] }

-- the file of every table is as it was
abbrev pub SameTables : Image → Image → Type 0
SameTables d c = (n : ℕ) → c (table_name n) ≡ d (table_name n)

-- ---- segments that are dropped

-- the same without this segment, and the mutations that it has, so many
abbrev pub without : ℕ → ℕ → Told → Told
without number many t =
    record t { entries = t.entries ++ DropSegment number ∷ []; taken = drop many t.taken; committed = t.committed - many }

-- the same, with it or without
abbrev pub may_be_without : ℕ → ℕ → Told → Told
may_be_without number many t = record t { failed = DropSegment number ∷ []; leaving = many }

-- From one to the other the journal dropped segments, of which so many mutations are gone from the front: they were committed, and each is at or below
-- the frontier of its table and shard, in a store of so many shards; nothing else changed.
pub record Dropped (shards : ℕ) (frontiers : List ℕ) (t u : Told) : Type 0 where
  pub found : u.found ≡ t.found
  pub numbers : List ℕ
  pub many : ℕ
  pub entries : u.entries ≡ t.entries ++ map DropSegment numbers
  pub failed : u.failed ≡ t.failed
  pub taken : u.taken ≡ drop many t.taken
  pub committed : many + u.committed ≡ t.committed
  pub leaving : u.leaving ≡ t.leaving
  pub covered : AllByRecursion (λ m. m.number ≤ frontier_of shards frontiers m.table m.shard) (take many t.taken)

-- an image while segments are dropped: it holds what was told without some, and one more may be gone
abbrev pub HoldsDropped : ℕ → List ℕ → Told → Image → Type 0
HoldsDropped shards frontiers t c = (u : Told) × Dropped shards frontiers t u
    × (Holds u c ⊎ ((number many : ℕ) × (many ≤ u.committed) × Dropped shards frontiers t (without number many u) × Holds (may_be_without number many u) c))
