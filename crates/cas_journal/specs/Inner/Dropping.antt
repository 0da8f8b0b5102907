-- One segment that is dropped. Own.
use Rattle.std.specs.Prelude.{◌≡◌, ◌⊎◌, ◌≤◌, ℕ, List, ◌∷◌, take}
use Rattle.cas_disk.specs.Disk.{Image, Disk}
use Rattle.cas_log.specs.Segment.{IsSegment}
use Rattle.cas_replay.specs.Reading.{segment_in}
use Rattle.cas_journal.specs.Stores.{Told, Holds, may_be_without}
use Rattle.cas_journal.specs.Journals.{Lasts}
use Rattle.cas_journal.specs.Inner.Noting.{IsFirstNoted}
use Rattle.cas_journal.specs.declared.fault.JournalFault.{JournalFault}
use Rattle.cas_journal.specs.declared.fault.JournalFault.TheVariants.{Failed}
use Rattle.cas_journal.specs.declared.journal.Journal.{Journal}
use Rattle.cas_journal.specs.declared.notes.Notes.{Notes}

-- the lowest of the segments that are listed, and not the last of them
abbrev pub IsLowest : ℕ → List ℕ → Type 0
IsLowest number segments = (next : ℕ) × (others : List ℕ) × (segments ≡ number ∷ next ∷ others)

-- The segment has so many of the mutations, the first of those that are listed: whatever a crash leaves has them there, they are committed, and noted.
pub record HasFirst (notes : Notes) (number many : ℕ) (t : Told) (disk : Disk) : Type 0 where
  pub committed : many ≤ t.committed
  pub file : (c : Image) → disk.may_leave c → IsSegment number (take many t.taken) (segment_in c number)
  pub noted : IsFirstNoted notes.shards t.found notes.list.items (take many t.taken)

-- an image while it is dropped: it holds what was told, with the segment or without
abbrev pub HoldsWithout : Notes → ℕ → Told → Disk → Image → Type 0
HoldsWithout notes number t disk c = Holds t c ⊎ ((many : ℕ) × HasFirst notes number many t disk × Holds (may_be_without number many t) c)

-- what lasts after a fault: what was told, with the segment or without where the folder failed
abbrev pub LastsAfter : JournalFault → Journal → Disk → Notes → ℕ → Told → Disk → Type 0
LastsAfter Failed j disk notes number t before = (many : ℕ) × HasFirst notes number many t before × Lasts j disk (may_be_without number many t)
LastsAfter _ j disk notes number t before = Lasts j disk t
