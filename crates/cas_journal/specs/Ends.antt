-- How calls of a journal end. Own.
use Rattle.std.specs.Prelude.{◌≡◌, ℕ, ◌+◌, ◌-◌, ◌^◌, ◌<◌, ◌≤◌, min, nat_le, if◌then◌else◌, true, List, [], ◌∷◌, take, Option, None, Some, Result, Ok, Err}
use Rattle.std.specs.List.{Any}
use Rattle.cas_io.specs.Causes.{Rose}
use Rattle.cas_disk.specs.Disk.{Image, Disk}
use Rattle.cas_gates.specs.declared.first.First.{First}
use Rattle.cas_atoms.specs.declared.atom.Mutation.{Mutation}
use Rattle.cas_changes.specs.declared.entry.Entry.{Entry}
use Rattle.cas_changes.specs.declared.entry.Entry.TheVariants as entry
use Rattle.cas_changes.specs.declared.said.TheConstants.{SEGMENT_LIMIT}
use Rattle.cas_log.specs.Segment.{IsSegment}
use Rattle.cas_log.specs.Logs.{place_of}
use Rattle.cas_log.specs.declared.log.Log.{Log}
use Rattle.cas_manifest.specs.Manifests.{place_of as manifest_place, passes}
use Rattle.cas_manifest.specs.declared.fault.Limit.{Limit}
use Rattle.cas_manifest.specs.declared.fault.Limit.TheVariants as limit
use Rattle.cas_manifest.specs.declared.fault.ManifestFault.{ManifestFault}
use Rattle.cas_manifest.specs.declared.fault.ManifestFault.TheVariants as manifest_fault
use Rattle.cas_replay.specs.Reading.{segment_in, is_above}
use Rattle.cas_journal.specs.Notes.{noted_with}
use Rattle.cas_journal.specs.Stores.{Told, Dropped, failed_at, without, may_be_without}
use Rattle.cas_journal.specs.Journals.{Fits, Lasts}
use Rattle.cas_journal.specs.declared.fault.Counted.{Counted}
use Rattle.cas_journal.specs.declared.fault.Counted.TheVariants.{Segments, Manifest, Files}
use Rattle.cas_journal.specs.declared.fault.JournalFault.{JournalFault}
use Rattle.cas_journal.specs.declared.fault.JournalFault.TheVariants.{TooLarge, TooMany, Stopped, Failed, Mem}
use Rattle.cas_journal.specs.declared.journal.Journal.{Journal}

-- How a call ends that writes: what fault was kept before and is kept now, the folder's count of faults before and now. One that was kept stops it
-- and stays kept; where the folder fails that is kept, by the count.
abbrev pub EndsBy : JournalFault → Option First → ℕ → ℕ → Type 0
EndsBy Failed kept before now = Rose before now × (kept ≡ Some (record { number = now }))
EndsBy (TooMany what most) kept before now = kept ≡ None
EndsBy Mem kept before now = kept ≡ None
EndsBy (TooLarge length most) kept before now = ⊥
EndsBy (Stopped first) kept before now = ⊥

-- How a call ends: one that a fault kept from before stops does nothing; any other keeps none when it is done, and what its own fault says else.
abbrev pub Ends : {T : Type 0} → Option First → Option First → ℕ → ℕ → Result T JournalFault → Type 0
Ends (Some first) kept before now result = (result ≡ Err (Stopped first)) × (kept ≡ Some first) × (now ≡ before)
Ends None kept before now (Ok x) = kept ≡ None
Ends None kept before now (Err fault) = EndsBy fault kept before now

-- a fault of the folder, or one that is kept
abbrev pub IsOfFolder : JournalFault → Type 0
IsOfFolder Failed = Unit {0}
IsOfFolder (Stopped first) = Unit {0}
IsOfFolder _ = ⊥

-- a fault that is told before anything is done
abbrev pub IsToldAtOnce : JournalFault → Type 0
IsToldAtOnce (TooLarge length most) = Unit {0}
IsToldAtOnce (Stopped first) = Unit {0}
IsToldAtOnce _ = ⊥

-- a fault after which nothing was written
abbrev pub WritesNothing : JournalFault → Type 0
WritesNothing Failed = ⊥
WritesNothing _ = Unit {0}

-- ---- limits

-- what the manifest counts
abbrev pub counted : Limit → Counted
counted limit.Bytes = Manifest
counted limit.Files = Files

-- a limit of the manifest, in the journal's words
abbrev pub refused : Option ManifestFault → Option JournalFault
refused (Some (manifest_fault.TooMany what most)) = Some (TooMany (counted what) most)
refused _ = None

-- the limit of the manifest that an entry would pass, where it would
abbrev pub entry_limit : Journal → Entry → Option JournalFault
entry_limit j e = refused (passes (manifest_place j.manifest) e)

-- the limit that naming the next segment would pass: one that was begun, or one with the next number
abbrev pub next_limit : Option Log → Journal → Option JournalFault
next_limit (Some log) j = entry_limit j (entry.NewSegment (place_of log).number)
next_limit None j =
    if nat_le SEGMENT_LIMIT j.last_segment then Some (TooMany Segments SEGMENT_LIMIT) else entry_limit j (entry.NewSegment (j.last_segment + 1))

-- an entry is refused for the limit that it would pass, and it passes none where it is written
abbrev pub Limits : {T : Type 0} → Option JournalFault → Result T JournalFault → Type 0
Limits most (Ok x) = most ≡ None
Limits most (Err (TooMany what n)) = most ≡ Some (TooMany what n)
Limits most (Err Failed) = most ≡ None
Limits most (Err _) = Unit {0}

-- ---- room for a mutation

-- the record doesn't fit into the segment that is written, or there is none
abbrev pub NeedsNext : Option Log → Mutation → Type 0
NeedsNext None m = Unit {0}
NeedsNext (Some log) m = Fits log m → ⊥

-- Why there is no room, of a record so long, of which half a segment is the most: it is longer, of which that is asked first, and its length is told where
-- it is below 2^64; a fault is kept; or, of one that isn't longer, how writing ended.
abbrev pub Prepares : {T : Type 0} → ℕ → ℕ → Option First → Option First → ℕ → ℕ → Result T JournalFault → Type 0
Prepares long most first kept before now (Err (TooLarge length limit)) =
    (most < long) × (length ≡ min long (2 ^ 64 - 1)) × (limit ≡ most) × (kept ≡ first) × (now ≡ before)
Prepares long most first kept before now (Err fault) = (long ≤ most) × Ends {T = Unit {0}} first kept before now (Err fault)
Prepares long most first kept before now (Ok x) = (long ≤ most) × Ends {T = Unit {0}} first kept before now (Ok tt)

-- a limit is told where a next segment is needed that would pass it
abbrev pub TellsLimit : {T : Type 0} → Journal → Mutation → Result T JournalFault → Type 0
TellsLimit j m (Err (TooMany what n)) = NeedsNext j.log m × (next_limit j.spare j ≡ Some (TooMany what n))
TellsLimit j m _ = Unit {0}

-- ---- what was told, after an entry

-- after a fault an entry that failed may be there or not; others were not written
abbrev pub told_after : JournalFault → Entry → Told → Told
told_after Failed e t = failed_at e t
told_after _ e t = t

-- a definition: of a table, or of columns behind those of a table
abbrev pub IsDefinition : Entry → Type 0
IsDefinition (entry.Schema t) = Unit {0}
IsDefinition (entry.AddColumns table columns) = Unit {0}
IsDefinition _ = ⊥

-- an entry that a journal is told: a definition, or a change of table files
abbrev pub IsTold : Entry → Type 0
IsTold (entry.Schema t) = Unit {0}
IsTold (entry.AddColumns table columns) = Unit {0}
IsTold (entry.Change c) = Unit {0}
IsTold _ = ⊥

-- what lasts after a fault of dropping segments: what was told without some, and where the folder failed, with one more or without
abbrev pub LastsDropped : JournalFault → Journal → Disk → ℕ → List ℕ → Told → Type 0
LastsDropped Failed j disk shards frontiers t = (u : Told) × Dropped shards frontiers t u
    × (number many : ℕ) × (many ≤ u.committed) × Dropped shards frontiers t (without number many u) × Lasts j disk (may_be_without number many u)
LastsDropped _ j disk shards frontiers t = (u : Told) × Dropped shards frontiers t u × Lasts j disk u

-- A segment is needed still: whatever a crash leaves has some of the mutations in its file, and of those that are noted with it one is above the frontier
-- of its table and shard, so that no table file has it.
pub record IsNeeded (shards : ℕ) (frontiers : List ℕ) (t : Told) (disk : Disk) (segment : ℕ) : Type 0 where
  pub many : ℕ
  pub file : (c : Image) → disk.may_leave c → IsSegment segment (take many t.taken) (segment_in c segment)
  pub one : Any (λ m. is_above shards frontiers m ≡ true) (noted_with t.found segment (take many t.taken))

-- the lowest of these segments, where it isn't the last, is needed still
abbrev pub IsLowestNeeded : ℕ → List ℕ → Told → Disk → List ℕ → Type 0
IsLowestNeeded shards frontiers t disk [] = Unit {0}
IsLowestNeeded shards frontiers t disk (segment ∷ []) = Unit {0}
IsLowestNeeded shards frontiers t disk (segment ∷ next ∷ others) = IsNeeded shards frontiers t disk segment
