-- A segment that is begun and named. Own.
use Rattle.std.specs.Prelude.{◌≡◌, ◌<◌, ◌≤◌, ◌+◌, ℕ, Bool, true, false, List, [], ◌∷◌, ◌++◌, length}
use Rattle.cas_disk.specs.Disk.{Disk, During, Same}
use Rattle.cas_atoms.specs.declared.atom.Mutation.{Mutation}
use Rattle.cas_changes.specs.declared.entry.Entry.{Entry}
use Rattle.cas_changes.specs.declared.said.TheConstants.{FILE_LIMIT}
use Rattle.cas_changes.specs.Saying.{Saying, said_by}
use Rattle.cas_changes.specs.Spelling.{entry_bytes}
use Rattle.cas_log.specs.Logs.{place_of, HasPushed, Stands as LogStands}
use Rattle.cas_log.specs.declared.log.Log.{Log}
use Rattle.cas_manifest.specs.File.{front}
use Rattle.cas_manifest.specs.Manifests.{Place, Stands}
use Rattle.cas_journal.specs.Stores.{named}
use Rattle.cas_journal.specs.Journals.{Lasts}
use Rattle.cas_journal.specs.declared.journal.Journal.{Journal}
use Rattle.cas_opening.specs.Opening.{next_segment, Begins, MayBegin, told}

-- the segment lasts, without mutations, and nothing is pushed
pub record HasBegun (log : Log) (disk : Disk) : Type 0 where
  pub stands : LogStands (place_of log) disk []
  pub pushed : HasPushed log []

-- Whether the entry was appended behind these: the manifest has it, or nothing was done, since there is no place for its block and the next gate.
abbrev pub IsNamed : List Entry → Entry → Place → Place → Disk → Disk → Bool → Type 0
IsNamed entries e before now old new true = Stands now new (entries ++ e ∷ [])
IsNamed entries e before now old new false =
    (now ≡ before) × During Same old new × (FILE_LIMIT < length (front entries) + length (entry_bytes e) + 10)

-- the journal of a store of these entries and mutations, and what its entries say
pub record IsBegunWith (entries : List Entry) (mutations : List Mutation) (j : Journal) (s : Saying) (disk : Disk) : Type 0 where
  pub numbers : List ℕ
  pub begins : Begins entries numbers
  pub lasts : Lasts j disk (told entries mutations numbers)
  pub said : s ≡ said_by (entries ++ named numbers)

-- a journal behind a store of these entries, and what they say, with the name of the segment that was begun
pub record IsToldOf (entries : List Entry) (j : Journal) (s : Saying) : Type 0 where
  pub numbers : List ℕ
  pub begins : MayBegin entries numbers
  pub said : s ≡ said_by (entries ++ named numbers)
  pub last : j.last_segment ≤ next_segment entries
