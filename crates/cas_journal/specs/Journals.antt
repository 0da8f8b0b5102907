-- When a journal goes on where what it was told ends. Own.
use Rattle.std.specs.Prelude.{◌≡◌, ◌≢◌, ℕ, ◌+◌, ◌<◌, ◌≤◌, List, [], ◌∷◌, ◌++◌, length, Option, None, Some}
use Rattle.std.specs.List.{AllByRecursion}
use Rattle.cas_disk.specs.declared.name.Name.TheVariants.{Log as log_name}
use Rattle.cas_disk.specs.Disk.{Image, Disk}
use Rattle.cas_atoms.specs.declared.atom.Mutation.{Mutation}
use Rattle.cas_atoms.specs.LogLength.{record_length}
use Rattle.cas_changes.specs.Saying.{said_by}
use Rattle.cas_mutations.specs.Allowed.{FitsRecord}
use Rattle.cas_log.specs.Segment.{joined}
use Rattle.cas_log.specs.Logs.{place_of, block_length, HasPushed, IsReserved, Stands as LogStands}
use Rattle.cas_log.specs.declared.log.Log.{Log}
use Rattle.cas_manifest.specs.Manifests.{place_of as manifest_place, Stands as ManifestStands}
use Rattle.cas_replay.specs.Reading.{segment_in}
use Rattle.cas_replay.specs.Grammar.{AreSegments, AreInOrder}
use Rattle.cas_journal.specs.Notes.{Noted, HasPlace}
use Rattle.cas_journal.specs.Stores.{Told, Holds}
use Rattle.cas_journal.specs.declared.journal.Journal.{Journal}

-- the segment that is written, the last that is listed: it has what was committed since it was begun, and what is pushed waits for the next commit;
-- or none is written
abbrev pub Writes : Option Log → List ℕ → List ℕ → List Mutation → List Mutation → Disk → Type 0
Writes None listed before written pushed disk = (listed ≡ before) × (written ≡ []) × (pushed ≡ [])
Writes (Some log) listed before written pushed disk =
    (listed ≡ before ++ (place_of log).number ∷ []) × LogStands (place_of log) disk written × HasPushed log pushed

-- the mutations of the segments that are listed, segment by segment: of those before the one that is written, and where one is, of that
abbrev pub all_parts : Option Log → List (List Mutation) → List Mutation → List (List Mutation)
all_parts None parts written = parts
all_parts (Some log) parts written = parts ++ written ∷ []

-- a segment that was begun, and that no entry names yet: it lasts, without mutations
abbrev pub IsSpare : Option Log → ℕ → Disk → Type 0
IsSpare None last disk = Unit {0}
IsSpare (Some log) last disk = (last < (place_of log).number) × LogStands (place_of log) disk [] × HasPushed log []

-- whatever a crash leaves, there is no segment above this number
abbrev pub NoneAbove : ℕ → Disk → Type 0
NoneAbove last disk = (c : Image) → disk.may_leave c → (n : ℕ) → last < n → c (log_name n) ≡ None

-- whatever a crash leaves, no segment has a number above those that the journal began
abbrev pub AreFree : Journal → Disk → Type 0
AreFree j disk = NoneAbove j.last_segment disk

-- The journal goes on where this ends: the manifest has all entries, and none failed; the segments before the one that is written last; what is in
-- them, what that one has and what is pushed are the mutations, of the tables, in order; and each is noted with its segment.
pub record Goes (j : Journal) (disk : Disk) (t : Told) : Type 0 where
  pub manifest : ManifestStands (manifest_place j.manifest) disk t.entries
  pub none_failed : t.failed ≡ []
  pub none_leaving : t.leaving ≡ 0
  pub made : t.entries ≢ []
  pub before : List ℕ
  pub parts : List (List Mutation)
  pub earlier : (c : Image) → disk.may_leave c → AreSegments (said_by t.entries).tables (said_by t.entries).shards (segment_in c) before parts
  pub written : List Mutation
  pub pushed : List Mutation
  pub writes : Writes j.log (said_by t.entries).segments before written pushed disk
  pub all : joined parts ++ (written ++ pushed) ≡ t.taken
  pub committed : length (joined parts ++ written) ≡ t.committed
  pub fit : AllByRecursion (FitsRecord (said_by t.entries).tables (said_by t.entries).shards) t.taken
  pub ordered : AreInOrder t.taken
  pub last : (said_by t.entries).last_segment ≤ j.last_segment
  pub spare : IsSpare j.spare (said_by t.entries).last_segment disk
  pub noted : Noted j.notes t.found (said_by t.entries) (all_parts j.log parts (written ++ pushed))

-- What the journal was told lasts: whatever a crash leaves holds it; and while no fault is kept, the journal goes on from there.
pub record Lasts (j : Journal) (disk : Disk) (t : Told) : Type 0 where
  pub holds : (c : Image) → disk.may_leave c → Holds t c
  pub goes : j.first ≡ None → Goes j disk t

-- the record fits behind what is pushed to the segment, with the next gate
abbrev pub Fits : Log → Mutation → Type 0
Fits log m = (place_of log).end + block_length log + record_length m ≤ (place_of log).size

-- there is memory for the record, where a segment is written
abbrev pub HasMemory : Option Log → Mutation → Type 0
HasMemory None m = Unit {0}
HasMemory (Some log) m = IsReserved log m

-- a segment is written in which the mutation has room, and there is memory for its record
abbrev pub IsPreparedIn : Option Log → Mutation → Type 0
IsPreparedIn None m = ⊥
IsPreparedIn (Some log) m = IsReserved log m × Fits log m

-- the mutation can be pushed, and noted
abbrev pub IsPrepared : Journal → Mutation → Type 0
IsPrepared j m = IsPreparedIn j.log m × HasPlace j.notes m

-- the mutation may be taken: it is of a table that is defined, and the next of its shard
pub record MayTake (t : Told) (m : Mutation) : Type 0 where
  pub fits : FitsRecord (said_by t.entries).tables (said_by t.entries).shards m
  pub next : AreInOrder (t.taken ++ m ∷ [])
