-- How a replay ends. Own.
use Rattle.std.specs.Prelude.{◌≡◌, ◌⊎◌, ◌++◌, ℕ, List, [], filter, Result, Ok, Err}
use Rattle.std.specs.List.{AllByRecursion}
use Rattle.cas_types.specs.Limits.{IsShardCount}
use Rattle.cas_types.specs.declared.schema.TableSchema.{TableSchema}
use Rattle.cas_codec.specs.declared.fault.ReadFault.{ReadFault}
use Rattle.cas_codec.specs.declared.fault.ReadFault.TheVariants.{Short, Bad as BadField}
use Rattle.cas_disk.specs.declared.name.Name.TheVariants.{Log}
use Rattle.cas_disk.specs.Disk.{Image, Disk}
use Rattle.cas_atoms.specs.declared.atom.Mutation.{Mutation}
use Rattle.cas_mutations.specs.Allowed.{AreTables}
use Rattle.cas_replay.specs.Grammar.{AreOfALog}
use Rattle.cas_replay.specs.Reading.{log_of, segment_in, is_above}
use Rattle.cas_replay.specs.declared.fault.ReplayFault.{ReplayFault}
use Rattle.cas_replay.specs.declared.fault.ReplayFault.TheVariants.{Failed, Bad, Mem}

-- the field at this place is short, or isn't allowed there
abbrev pub IsRefusedAt : {Y : Type 0} → ℕ → Result Y ReadFault → Type 0
IsRefusedAt at read = (read ≡ Err (Short at)) ⊎ (read ≡ Err (BadField at))

-- all that a reading gives, where it gives some, begins with these mutations
abbrev pub IsFront : {A E : Type 0} → (A → List Mutation) → List Mutation → Result A E → Type 0
IsFront all found (Ok x) = (rest : List Mutation) × (all x ≡ found ++ rest)
IsFront all found (Err f) = Unit {0}

-- mutations were taken that are a front of those that the reading gives
abbrev pub TookFront : (List Mutation → Type 0) → Result (List Mutation) (ℕ × ReadFault) → Type 0
TookFront took read = (given : List Mutation) × took given × IsFront (λ ms. ms) given read

-- What a replay answers, of which mutations were taken: those that the reading of the segments gives; or the reading is refused there; or the folder
-- failed or memory ran out, and a front of them was taken.
abbrev pub HandsOn : {X : Type 0} → (List Mutation → Type 0) → Result X ReplayFault → Result (List Mutation) (ℕ × ReadFault) → Type 0
HandsOn took (Ok x) read = (given : List Mutation) × took given × (read ≡ Ok given)
HandsOn took (Err (Bad segment at)) read = (read ≡ Err (segment, Short at)) ⊎ (read ≡ Err (segment, BadField at))
HandsOn took (Err Failed) read = TookFront took read
HandsOn took (Err Mem) read = TookFront took read

-- What a replay answers, its value seen by view, is what the reading of the segments gives, unless the folder failed or memory ran out.
abbrev pub Replays : {X Y : Type 0} → (X → Y) → Result X ReplayFault → Result Y (ℕ × ReadFault) → Type 0
Replays view (Ok x) read = read ≡ Ok (view x)
Replays view (Err (Bad segment at)) read = (read ≡ Err (segment, Short at)) ⊎ (read ≡ Err (segment, BadField at))
Replays view (Err Failed) read = Unit {0}
Replays view (Err Mem) read = Unit {0}

-- What is taken of a log, whatever is answered, and also where the folder tells nothing of what it reads: of mutations that a log of these tables may
-- have, where the tables and shards are within limits, those above their frontiers.
pub record IsOfALog (tables : List TableSchema) (shards : ℕ) (frontiers : List ℕ) (given : List Mutation) : Type 0 where
  pub all : List Mutation
  pub are : AreTables tables → IsShardCount shards → AreOfALog tables shards all
  pub above : given ≡ filter (is_above shards frontiers) all

-- What was replayed of these segments, also where the folder tells nothing of what it reads: mutations that a log of these tables may have, where the
-- tables and shards are within limits; those above their frontiers are given; and where the folder tells what it reads, all are what is read of it.
pub record IsReplayOf (tables : List TableSchema) (shards : ℕ) (segments frontiers : List ℕ) (disk : Disk) (given : List Mutation) : Type 0 where
  pub all : List Mutation
  pub are : AreTables tables → IsShardCount shards → AreOfALog tables shards all
  pub above : given ≡ filter (is_above shards frontiers) all
  pub read : (c : Image) → disk.reads c → log_of tables shards (segment_in c) segments [] ≡ Ok all

-- these segments last: what a crash may leave of each is what is read
abbrev pub Last : List ℕ → Disk → Type 0
Last numbers disk = (c : Image) → disk.may_leave c → AllByRecursion (λ n. (read : Image) × disk.reads read × (c (Log n) ≡ read (Log n))) numbers
