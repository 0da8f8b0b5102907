-- The parts of making room. Own.
use Rattle.std.specs.Prelude.{◌≡◌, ◌⊎◌, ℕ, ◌+◌, ◌-◌, ◌^◌, ◌<◌, ◌≤◌, min, nat_le, Bool, true, false, length, Option, None, Some, Result, Ok, Err}
use Rattle.cas_gates.specs.declared.first.First.{First}
use Rattle.cas_disk.specs.Disk.{Disk}
use Rattle.cas_log.specs.Logs.{place_of, block_length}
use Rattle.cas_log.specs.declared.log.Log.{Log}
use Rattle.cas_log.specs.declared.fault.LogFault.{LogFault}
use Rattle.cas_log.specs.declared.fault.LogFault.TheVariants as log_fault
use Rattle.cas_manifest.specs.declared.fault.ManifestFault.{ManifestFault}
use Rattle.cas_manifest.specs.declared.fault.ManifestFault.TheVariants as manifest_fault
use Rattle.cas_journal.specs.Ends.{counted}
use Rattle.cas_journal.specs.Journals.{Lasts}
use Rattle.cas_journal.specs.Stores.{Told, committed_all}
use Rattle.cas_journal.specs.declared.fault.JournalFault.{JournalFault}
use Rattle.cas_journal.specs.declared.fault.JournalFault.TheVariants.{TooLarge, TooMany, Stopped, Failed, Mem}
use Rattle.cas_journal.specs.declared.journal.Journal.{Journal}

-- what a fault of the log is to the journal; a place that isn't allowed is told only by calls that read
abbrev pub of_log : LogFault → JournalFault
of_log (log_fault.TooLarge length most) = TooLarge length most
of_log log_fault.Failed = Failed
of_log (log_fault.Stopped first) = Stopped first
of_log log_fault.Mem = Mem

-- what a fault of the manifest is to the journal
abbrev pub of_manifest : ManifestFault → JournalFault
of_manifest (manifest_fault.TooMany what most) = TooMany (counted what) most
of_manifest manifest_fault.Failed = Failed
of_manifest (manifest_fault.Stopped first) = Stopped first
of_manifest (manifest_fault.Bad at) = Failed
of_manifest manifest_fault.Mem = Mem

-- what is asked before anything is done
abbrev pub Asks : {T : Type 0} → ℕ → ℕ → Option First → Result T JournalFault → Type 0
Asks long most first (Ok x) = (long ≤ most) × (first ≡ None)
Asks long most first (Err (TooLarge length limit)) = (most < long) × (length ≡ min long (2 ^ 64 - 1)) × (limit ≡ most)
Asks long most first (Err (Stopped kept)) = (long ≤ most) × (first ≡ Some kept)
Asks long most first (Err _) = ⊥

-- a record of so many bytes fits into the segment that is written, behind what is pushed
abbrev pub fits_in : Option Log → ℕ → Bool
fits_in None bytes = false
fits_in (Some log) bytes = nat_le ((place_of log).end + block_length log + bytes) (place_of log).size

-- the record fits, or all that was taken is committed
abbrev pub FitsOrSettled : Journal → ℕ → Disk → Told → Type 0
FitsOrSettled j bytes disk t = ((fits_in j.log bytes ≡ true) × Lasts j disk t) ⊎ Lasts j disk (committed_all t)

-- a fault with which the beginning of a segment may end
abbrev pub MayBegin : JournalFault → Type 0
MayBegin Failed = Unit {0}
MayBegin Mem = Unit {0}
MayBegin _ = ⊥
