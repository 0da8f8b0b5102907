-- Segments of the log are dropped that no table needs any more. No mutation is lost by it, and no SELECT shows more or less.
-- Cassandra documentation, "Storage engine: commit log"; how far the manifest comes by it is own.
use Rattle.std.specs.Prelude.{◌≡◌, ℕ, ◌≤◌, true, false, List, None, Some, Result, Ok, Err, is_ok}
use Rattle.cas_io.specs.Causes.{Rose}
use Rattle.cas_atoms.specs.declared.atom.Mutation.{Mutation}
use Rattle.cas_changes.specs.Saying.{said_by}
use Rattle.cas_changes.specs.declared.entry.Entry.TheVariants.{DropSegment}
use Rattle.cas_disk.specs.Disk.{Disk}
use Rattle.cas_effects.specs.declared.refusal.TheConstants.{TOO_MANY}
use Rattle.cas_journal.specs.Ends.{IsLowestNeeded}
use Rattle.cas_journal.specs.Reach.{HasNoPlace, reach_dropped}
use Rattle.cas_journal.specs.Stores.{Told}
use Rattle.cas_sessions.specs.declared.answer.Fault.{Fault}
use Rattle.cas_sessions.specs.declared.answer.Fault.TheVariants.{Refused, Stopped, Disk as Failed, Read, BadBlock, Mem}
use Rattle.cas_lasting.specs.History.{History, DiskState, SameFiles}
use Rattle.cas_lasting.specs.Nodes.{State, LastsFor}

-- The manifest tells of so many segments that they are dropped, one entry each. Table files, and what is known of them, are as they were.
pub record Drops (count : ℕ) (d e : DiskState) : Type 0 where
  pub reach : e.reach ≡ reach_dropped count d.reach
  pub faults : d.faults ≤ e.faults
  pub files : SameFiles d e

-- Why it goes no further: the manifest has no place for one entry more, an earlier fault stopped the store, or the folder failed, which stops it.
abbrev pub WhyNoMore : DiskState → DiskState → Fault → Type 0
WhyNoMore d e (Refused why) = (why ≡ TOO_MANY) × (e.stopped ≡ false) × ((number : ℕ) × HasNoPlace (DropSegment number) e.reach)
WhyNoMore d e (Stopped first) = (d.stopped ≡ true) × (e.stopped ≡ true)
WhyNoMore d e (Failed None) = (e.stopped ≡ true) × Rose d.faults e.faults
WhyNoMore d e (Failed (Some number)) = ⊥
WhyNoMore d e Read = ⊥
WhyNoMore d e (BadBlock number at) = ⊥
WhyNoMore d e Mem = e.stopped ≡ false

-- how it ends: as many were dropped as it tells, and nothing is stopped; or why there were no more
abbrev pub EndsAfter : ℕ → Result ℕ Fault → DiskState → DiskState → Type 0
EndsAfter count (Ok told) d e = (told ≡ count) × (d.stopped ≡ false) × (e.stopped ≡ false)
EndsAfter count (Err f) d e = WhyNoMore d e f

-- Of a history nothing changes but how its disk stands, and that its log is trimmed, where there was no fault.
pub record DropsSegments (h : History) (r : Result ℕ Fault) (after : History) : Type 0 where
  pub disk : DiskState
  pub count : ℕ
  pub drops : Drops count h.disk disk
  pub ends : EndsAfter count r h.disk disk
  pub follows : after ≡ record h { trimmed = is_ok r; disk = disk }

-- No segment is left that may go: the lowest is the last, or has a mutation above the frontier of its table and shard.
abbrev pub NoneMayGo : State → Disk → Type 0
NoneMayGo s disk = (h : History) (found : List Mutation) (told : Told) → LastsFor h found s disk told
    → IsLowestNeeded s.limits.shards s.frontiers told disk (said_by told.entries).segments
