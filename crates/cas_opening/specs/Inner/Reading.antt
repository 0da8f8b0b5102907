-- What is read of a store's log. Own.
use Rattle.std.specs.Prelude.{◌≡◌, ◌≢◌, ℕ, List, [], length, filter, Result, Ok, Err}
use Rattle.cas_codec.specs.declared.fault.ReadFault.{ReadFault}
use Rattle.cas_disk.specs.declared.name.Name.TheVariants.{Log}
use Rattle.cas_disk.specs.Disk.{Image, Disk}
use Rattle.cas_atoms.specs.declared.atom.Mutation.{Mutation}
use Rattle.cas_changes.specs.declared.entry.Entry.{Entry}
use Rattle.cas_changes.specs.Saying.{Saying, said_by}
use Rattle.cas_log.specs.Segment.{joined}
use Rattle.cas_manifest.specs.Manifests.{Place}
use Rattle.cas_replay.specs.Reading.{log_of, segment_in, above_in}
use Rattle.cas_replay.specs.Grammar.{AreOfALog}
use Rattle.cas_replay.specs.Replays.{TookFront}
use Rattle.cas_journal.specs.Stores.{found_in}
use Rattle.cas_journal.specs.Notes.{Noted}
use Rattle.cas_journal.specs.declared.notes.Notes.{Notes}
use Rattle.cas_opening.specs.declared.fault.OpenFault.{OpenFault}
use Rattle.cas_opening.specs.declared.fault.OpenFault.TheVariants.{Bad, Failed, Mem}
use Rattle.cas_opening.specs.Opening.{IsBadLog, OpensAs, AreFirst, is_above}
use Rattle.cas_opening.specs.Inner.Counting.{frontiers_below}
use Rattle.cas_opening.specs.Inner.Keeping.{Keeps}

-- the reading of the listed segments
abbrev pub log_in : Saying → Image → Result (List Mutation) (ℕ × ReadFault)
log_in s c = log_of s.tables s.shards (segment_in c) s.segments []

-- and of it the mutations above their frontiers
abbrev pub above : Saying → Image → Result (List Mutation) (ℕ × ReadFault)
above s c = above_in s.shards (frontiers_below s (length s.tables)) (log_in s c)

-- what a replay of the listed segments answers, of which mutations were taken
abbrev pub ReplaysSaid : {T : Type 0} → (List Mutation → Type 0) → Saying → Image → Result T OpenFault → Type 0
ReplaysSaid took s c (Ok x) = (given : List Mutation) × took given × (above s c ≡ Ok given)
ReplaysSaid took s c (Err (Bad name at)) = (number : ℕ) × (name ≡ Log number) × IsBadLog s number at c
ReplaysSaid took s c (Err Failed) = TookFront took (above s c)
ReplaysSaid took s c (Err Mem) = TookFront took (above s c)

-- where the listed segments have these mutations together, each is noted with its segment, and nothing is noted of others
abbrev pub AreNotedIn : Notes → Saying → List Mutation → Type 0
AreNotedIn notes s mutations =
    (parts : List (List Mutation)) → length parts ≡ length s.segments → joined parts ≡ mutations → Noted notes (found_in s.segments mutations) s parts

-- where the folder failed or memory ran out, a front was given of the mutations above their frontiers
abbrev pub FaultGave : List Entry → List Mutation → List Mutation → OpenFault → Type 0
FaultGave entries mutations given (Bad name at) = Unit {0}
FaultGave entries mutations given Failed = AreFirst entries mutations given
FaultGave entries mutations given Mem = AreFirst entries mutations given

-- What was read of a store, also where the folder tells nothing: entries, and mutations that its log may have; those above their frontiers are given.
pub record IsWhole (entries : List Entry) (mutations given : List Mutation) : Type 0 where
  pub made : entries ≢ []
  pub log : AreOfALog (said_by entries).tables (said_by entries).shards mutations
  pub above : given ≡ filter (is_above (said_by entries)) mutations

-- the store that was read is that of the image, and every image has it
pub record IsRead (shards : ℕ) (place : Place) (entries : List Entry) (mutations : List Mutation) (c : Image) (disk : Disk) : Type 0 where
  pub opens : OpensAs shards entries mutations c
  pub keeps : Keeps place entries mutations disk
