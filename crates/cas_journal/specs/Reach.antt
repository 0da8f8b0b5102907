-- How far a journal has come, and when it is full. Own.
use Rattle.std.specs.Prelude.{◌⊎◌, ℕ, ◌+◌, ◌*◌, ◌<◌, ◌≤◌, Result, Ok, Err}
use Rattle.cas_changes.specs.declared.entry.Entry.{Entry}
use Rattle.cas_changes.specs.declared.said.TheConstants.{FILE_LIMIT, LISTED_LIMIT, SEGMENT_LIMIT}
use Rattle.cas_changes.specs.Saying.{listed_after}
use Rattle.cas_manifest.specs.Manifests.{place_of as manifest_place, room_of}
use Rattle.cas_journal.specs.declared.fault.Counted.{Counted}
use Rattle.cas_journal.specs.declared.fault.Counted.TheVariants.{Segments, Manifest, Files}
use Rattle.cas_journal.specs.declared.fault.JournalFault.{JournalFault}
use Rattle.cas_journal.specs.declared.journal.Journal.{Journal}

-- how far a journal has come: the greatest number under which a segment was begun, or tried to, or named; and how many bytes its manifest has, up to
-- the closed gate
pub record Reach : Type 0 where
  pub segment : ℕ
  pub manifest : ℕ

-- how far this one has come
abbrev pub reach_of : Journal → Reach
reach_of j = record { segment = j.last_segment; manifest = (manifest_place j.manifest).end }

-- how many bytes the name of a segment takes in the manifest: nine, eight before them in its block, and the next gate
abbrev pub name_room : ℕ
name_room = 18

-- at most one segment more was begun, and one more was named
pub record GoesOn (before after : Reach) : Type 0 where
  pub segment : before.segment ≤ after.segment
  pub segment_next : after.segment ≤ before.segment + 1
  pub manifest : before.manifest ≤ after.manifest
  pub manifest_next : after.manifest ≤ before.manifest + name_room

-- the manifest has no place for an entry: behind it no gate would stand within its limit
abbrev pub HasNoPlace : Entry → Reach → Type 0
HasNoPlace e reach = FILE_LIMIT < reach.manifest + room_of e + 1

-- how far it has come where so many segments were named dropped: each such entry takes as many bytes as a name does
abbrev pub reach_dropped : ℕ → Reach → Reach
reach_dropped count reach = record { segment = reach.segment; manifest = reach.manifest + count * name_room }

-- what there is too much of, with an entry: bytes of the manifest, for which it has no place, or table files that are listed, more than 4,096
abbrev pub IsOver : Counted → Entry → Journal → Type 0
IsOver Manifest e j = HasNoPlace e (reach_of j)
IsOver Files e j = LISTED_LIMIT < listed_after (manifest_place j.manifest).listed e
IsOver Segments e j = ⊥

-- there is no number left for a segment more, or the manifest has no place for its name
abbrev pub IsFull : Reach → Type 0
IsFull reach = (SEGMENT_LIMIT ≤ reach.segment) ⊎ (FILE_LIMIT < reach.manifest + name_room + 1)

-- an entry that is told takes a journal further by its bytes, and not at all after a fault
abbrev pub reach_after : {T : Type 0} → Result T JournalFault → Entry → Reach → Reach
reach_after (Ok x) e reach = record { segment = reach.segment; manifest = reach.manifest + room_of e }
reach_after (Err fault) e reach = reach
