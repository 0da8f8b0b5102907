-- The steps of a flush of a table in a shard (own).
use Rattle.std.specs.Prelude.{◌≡◌, ◌⊎◌, ℕ, ◌+◌, ◌≤◌, ◌<◌, Bool, Option, None, Some, IfSome, Result, IfOk, IfErr, List, [], ◌∷◌, ◌++◌, length, slice_get}
use Rattle.std.specs.List.{AllByRecursion, fold}
use Rattle.cas_types.specs.declared.schema.TableSchema.{TableSchema}
use Rattle.cas_io.specs.Causes.{Rose}
use Rattle.cas_disk.specs.Disk.{Disk, Image}
use Rattle.cas_disk.specs.declared.fault.FolderFault.{FolderFault}
use Rattle.cas_disk.specs.declared.fault.FolderFault.TheVariants as folder
use Rattle.cas_atoms.specs.declared.atom.Mutation.{Mutation}
use Rattle.cas_changes.specs.Saying.{said_by}
use Rattle.cas_changes.specs.declared.entry.Change.{Change}
use Rattle.cas_effects.specs.declared.refusal.TheConstants.{TOO_MANY}
use Rattle.cas_flush.specs.Flushed.{SayWhatIsHeld, any}
use Rattle.cas_flushing.specs.Flushed.{IsOpened, WhyUnopened}
use Rattle.cas_info.specs.Allowed.{FitsInfo}
use Rattle.cas_info.specs.declared.info.TableInfo.{TableInfo}
use Rattle.cas_journal.specs.Ends.{Ends}
use Rattle.cas_journal.specs.Stores.{Told}
use Rattle.cas_journal.specs.declared.fault.JournalFault.TheVariants.{TooMany}
use Rattle.cas_memtable.specs.Kept.{HoldJust}
use Rattle.cas_room.specs.declared.fault.FreshFault.{FreshFault}
use Rattle.cas_room.specs.declared.fault.FreshFault.TheVariants as fresh
use Rattle.cas_shard.specs.Flushing.{SaysWhatTheyDo, frozen_at, memtables_at}
use Rattle.cas_shard.specs.Stands.{files_at, order_at}
use Rattle.cas_sstread.specs.Loading.{Held}
use Rattle.cas_sstread.specs.declared.fault.TableFault.{TableFault}
use Rattle.cas_sstread.specs.declared.fault.TableFault.TheVariants as load
use Rattle.cas_sstwrite.specs.declared.fault.WriteFault.{WriteFault}
use Rattle.cas_sstwrite.specs.declared.fault.WriteFault.TheVariants as write
use Rattle.cas_stored.specs.Stored.{StoredTable}
use Rattle.cas_view.specs.Views.{File}
use Rattle.cas_sessions.specs.declared.answer.Fault.{Fault}
use Rattle.cas_sessions.specs.declared.answer.Fault.TheVariants.{Refused, Stopped, Disk as Failed, Read, BadBlock, Mem}
use Rattle.cas_sessions.specs.Filling.{EndsIn, IsBegun, SaysNone, TellsIt, listed_of}
use Rattle.cas_lasting.specs.Flushed.{filled_with, rest_with, AscendTo, Flushed, SaySomething}
use Rattle.cas_sessions.specs.Flushes.{AreBegun, WhyNoFurther}
use Rattle.cas_lasting.specs.Flushed.{changes_by, numbers_added, numbers_in, without_begun, without_flushed}
use Rattle.cas_lasting.specs.History.{History, DiskState, shard_at}
use Rattle.cas_lasting.specs.Nodes.{AreFilled, State, StandsFor, LastsFor, LastsForOne, disk_of, filled_of}
use Rattle.cas_lasting.specs.Inner.Going.{IsBeside, GoesOn}

-- ---- the new file

-- Files are those that a table has in a shard, and behind them one more, of which that is told: it is open, and has one of these bytes, where the folder
-- tells any.
pub record HasOneMore (t : TableSchema) (shard : ℕ) (told : TableInfo) (Bytes : List ℕ → Type 0) (Tells : Type 0)
    (before files : List (File Held)) : Type 0 where
  pub file : File Held
  pub are : files ≡ before ++ file ∷ []
  pub bytes : Option (List ℕ)
  pub opened : IsOpened t shard told bytes file
  pub written : (b : List ℕ) → bytes ≡ Some b → Bytes b
  pub is_told : Tells → (b : List ℕ) × (bytes ≡ Some b)

-- why it isn't, by the folder's count of faults before and now, and that of reads: the folder failed, a read did, memory ran out; or that place of it is bad
abbrev pub WhyNoneMore : TableSchema → ℕ → TableInfo → (List ℕ → Type 0) → Type 0 → ℕ → ℕ → ℕ → ℕ → Fault → Type 0
WhyNoneMore t shard told Bytes Tells faults now reads reads_now (Refused why) = ⊥
WhyNoneMore t shard told Bytes Tells faults now reads reads_now (Stopped first) = ⊥
WhyNoneMore t shard told Bytes Tells faults now reads reads_now (Failed None) = Rose faults now
WhyNoneMore t shard told Bytes Tells faults now reads reads_now (Failed (Some number)) = ⊥
WhyNoneMore t shard told Bytes Tells faults now reads reads_now Read = Rose reads reads_now
WhyNoneMore t shard told Bytes Tells faults now reads reads_now (BadBlock number at) =
    Tells → (b : List ℕ) × Bytes b × WhyUnopened t shard told (Some b) (load.BadBlock number at)
WhyNoneMore t shard told Bytes Tells faults now reads reads_now Mem = Unit {0}

-- These files are those that a table has stored in a shard, and behind them a new one, of which that is told, open to be read in slices.
pub record NewFile (t : TableSchema) (o : Option StoredTable) (told : TableInfo) (files : List (File Held)) : Type 0 where
  pub fits : FitsInfo told
  pub file : File Held
  pub are : files ≡ files_at o ++ file ∷ []
  pub info : file.info ≡ told
  pub columns : file.table.columns ≡ t.columns

-- the file says what the frozen memtables do
abbrev pub SaysSo : TableSchema → Option StoredTable → File Held → Type 0
SaysSo t o f = (tables : List TableSchema) → slice_get tables t.number ≡ Some t → SaysWhatTheyDo (order_at tables t.number) (frozen_at o) f

-- The frozen memtables were written to it, under a number above the last, and hold something; and where the folder tells what it reads, it says what they do.
pub record IsMade (t : TableSchema) (o : Option StoredTable) (Tells : Type 0) (last : ℕ) (told : TableInfo) (files : List (File Held)) : Type 0 where
  pub new : NewFile t o told files
  pub above : last < told.number
  pub some : (ws : List Mutation) → HoldJust t.columns (memtables_at o) ws → SaySomething ws
  pub says : Tells → (ws : List Mutation) → HoldJust t.columns (memtables_at o) ws → SaysSo t o new.file

-- they hold nothing: a file without partitions would say what they do
abbrev pub HoldsNothing : TableSchema → Option StoredTable → Type 0
HoldsNothing t o = (ws : List Mutation) → HoldJust t.columns (memtables_at o) ws → SayWhatIsHeld t.columns (frozen_at o) any []

-- a fault of this flush: not an earlier one that stopped the store, nor of a mutation
abbrev pub IsOwn : Fault → Type 0
IsOwn (Refused why) = Unit {0}
IsOwn (Stopped first) = ⊥
IsOwn (Failed None) = Unit {0}
IsOwn (Failed (Some number)) = ⊥
IsOwn Read = Unit {0}
IsOwn (BadBlock number at) = Unit {0}
IsOwn Mem = Unit {0}

-- why there is neither, by the same counts: it is refused where something is full
abbrev pub WhyNotMade : Type 0 → ℕ → ℕ → ℕ → ℕ → Fault → Type 0
WhyNotMade Full faults now reads reads_now (Refused why) = (why ≡ TOO_MANY) × Full
WhyNotMade Full faults now reads reads_now (Stopped first) = ⊥
WhyNotMade Full faults now reads reads_now (Failed None) = Rose faults now ⊎ Rose reads reads_now
WhyNotMade Full faults now reads reads_now (Failed (Some number)) = ⊥
WhyNotMade Full faults now reads reads_now Read = Rose reads reads_now
WhyNotMade Full faults now reads reads_now (BadBlock number at) = ⊥
WhyNotMade Full faults now reads reads_now Mem = Unit {0}

-- ---- the change

-- the folder tells what it reads
abbrev pub TellsReads : Disk → Type 0
TellsReads d = (c : Image) × d.reads c

-- memory stands for the same but for the disk, for the bytes of memtables and for what stands in no file, of which this is left, and this becomes of it
abbrev pub Moved : ((ℕ → ℕ → List Mutation) → ℕ → ℕ → List Mutation) → (History → DiskState → DiskState → Type 0) → State → State → Type 0
Moved rest Ends s u =
    (h : History) → StandsFor h s → StandsFor (record h { unflushed = rest h.unflushed; filled = filled_of u; disk = disk_of u }) u
    × Ends h (disk_of s) (disk_of u)

-- where memtables had so many bytes, this becomes of them
abbrev pub Fills : ((ℕ → ℕ → ℕ) → ℕ → ℕ → ℕ) → State → State → Type 0
Fills Then s u = (before : ℕ → ℕ → ℕ) → AreFilled before s.shards → AreFilled (Then before) u.shards

-- The file of that number took the place of the frozen memtables, where the manifest listed none of that number or above.
pub record TakesFile (t : TableSchema) (n number : ℕ) (Says Left : Type 0) (result : Result (Option ℕ) Fault) (s u : State) (d e : Disk) : Type 0 where
  pub beside : IsBeside s u d e
  pub numbers : u.last_file ≡ s.last_file
  pub change : Option Change
  pub answer : TellsIt change result
  pub lasts : (h : History) (found : List Mutation) (told : Told) → h.tables ≡ s.tables → LastsFor h found s d told
      → AllByRecursion (λ k. k < number) (said_by told.entries).numbers → GoesOn Left h (changes_by h.changes change) found told s u d e
  pub numbered : IfOk result (λ told. numbers_in change ≡ number ∷ [])
  pub fills : Fills (λ before. before) s u
  pub moves : Says → IfErr result (λ f. LastsForOne s d)
      → Moved (rest_with t.number n change) (λ h. EndsIn t n (shard_at h n) (h.unflushed n t.number) change result) s u
  pub own : IfErr result IsOwn

-- a flush of a table in a shard; why it failed is known where the disk keeps what some history says for which the store stands
pub record FlushesOne (t : TableSchema) (n : ℕ) (result : Result (Option ℕ) Fault) (s u : State) (d e : Disk) : Type 0 where
  pub beside : IsBeside s u d e
  pub numbers : u.last_file ≤ s.last_file + 1
  pub change : Option Change
  pub numbered : AscendTo s.last_file (numbers_in change) u.last_file
  pub some : IfSome change (λ c. (h : History) → StandsFor h s → SaySomething (h.unflushed n t.number))
  pub answer : TellsIt change result
  pub lasts : (h : History) (found : List Mutation) (told : Told) → h.tables ≡ s.tables → LastsFor h found s d told
      → GoesOn (TellsReads d) h (changes_by h.changes change) found told s u d e
  pub begun : Bool
  pub begins : IsBegun result begun
  pub drawn : IfOk result (λ told. u.last_file ≡ s.last_file + length (listed_of told))
  pub fills : Fills (filled_with t.number n begun) s u
  pub moves : (c : Image) → d.reads c → IfErr result (λ f. LastsForOne s d) → Moved (rest_with t.number n change)
      (λ h before now. EndsIn t n (shard_at h n) (h.unflushed n t.number) change result before now × SaysNone result change (h.unflushed n t.number)) s u
  pub own : IfErr result IsOwn

-- so many shards were flushed, with these numbers of files
pub record FlushesFirst (t : TableSchema) (count : ℕ) (told : List ℕ) (s u : State) (d e : Disk) : Type 0 where
  pub beside : IsBeside s u d e
  pub numbers : u.last_file ≤ s.last_file + count
  pub changes : List (Option Change)
  pub many : length changes ≡ count
  pub added : told ≡ numbers_added changes
  pub drawn : u.last_file ≡ s.last_file + length told
  pub lasts : (h : History) (found : List Mutation) (told : Told) → h.tables ≡ s.tables → LastsFor h found s d told
      → GoesOn (TellsReads d) h (fold changes_by h.changes changes) found told s u d e
  pub fills : Fills (without_begun t.number count) s u
  pub moves : (c : Image) → d.reads c → Moved (without_flushed t.number changes) (λ h before now. Flushed h t changes now) s u

-- the first ones were, and then one wasn't
pub record FlushesNoFurther (t : TableSchema) (f : Fault) (s u : State) (d e : Disk) : Type 0 where
  pub beside : IsBeside s u d e
  pub changes : List (Option Change)
  pub few : length changes < length s.shards
  pub lasts : (h : History) (found : List Mutation) (told : Told) → h.tables ≡ s.tables → LastsFor h found s d told
      → GoesOn (TellsReads d) h (fold changes_by h.changes changes) found told s u d e
  pub begun : ℕ
  pub begins : AreBegun f (length changes) begun
  pub fills : Fills (without_begun t.number begun) s u
  pub moves : (c : Image) → d.reads c → LastsForOne s d
      → Moved (without_flushed t.number changes)
      (λ h before now. Flushed h t changes now
      × WhyNoFurther t (length changes) (shard_at h (length changes)) (h.unflushed (length changes) t.number) before now f) s u
  pub own : IsOwn f

-- ---- faults

-- what a flush is answered where no file was begun
abbrev pub fault_of_fresh : FreshFault → Fault
fault_of_fresh (fresh.Full files) = Refused TOO_MANY
fault_of_fresh fresh.Failed = Failed None
fault_of_fresh fresh.Mem = Mem

-- where it wasn't written
abbrev pub fault_of_write : WriteFault → Fault
fault_of_write write.Failed = Failed None
fault_of_write write.Order = Refused TOO_MANY
fault_of_write (write.TooMany what limit) = Refused TOO_MANY
fault_of_write write.Unfit = Refused TOO_MANY
fault_of_write write.Mem = Mem

-- where the folder didn't get it
abbrev pub fault_of_folder : FolderFault → Fault
fault_of_folder folder.Failed = Failed None
fault_of_folder folder.Mem = Mem

-- where it wasn't opened
abbrev pub fault_of_load : TableFault → Fault
fault_of_load load.ReadFault = Read
fault_of_load (load.BadBlock number at) = BadBlock number at
fault_of_load load.Mem = Mem
