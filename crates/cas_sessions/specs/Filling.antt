-- A flush of one shard, which no line tells: a memtable that has grown over its limit is flushed.
-- Cassandra documentation, "Storage engine: memtables"; the limit in bytes of records is own.
use Rattle.std.specs.Prelude.{◌≡◌, ℕ, ◌+◌, ◌≤◌, nat_lt, Bool, true, false, Option, None, Some, Result, Ok, Err, IfOk, IfSome, List, [], ◌∷◌, length, slice_get}
use Rattle.cas_types.specs.declared.schema.TableSchema.{TableSchema}
use Rattle.cas_atoms.specs.declared.atom.Mutation.{Mutation}
use Rattle.cas_changes.specs.declared.entry.Change.{Change}
use Rattle.cas_shard.specs.Shards.{ShardHistory}
use Rattle.cas_sessions.specs.declared.answer.Fault.{Fault}
use Rattle.cas_sessions.specs.declared.answer.Fault.TheVariants.{Mem, Stopped}
use Rattle.cas_lasting.specs.Flushed.{AscendTo, SaySomething, changes_by, numbers_in, FlushedOne, rest_with, filled_with}
use Rattle.cas_sessions.specs.Flushes.{WhyNoFurther}
use Rattle.cas_lasting.specs.History.{History, DiskState, shard_at}

-- ---- one shard

-- it wasn't: no file is another
pub record NotFlushed (t : TableSchema) (n : ℕ) (q : ShardHistory) (ws : List Mutation) (d e : DiskState) (f : Fault) : Type 0 where
  pub files : (k table : ℕ) → e.files k table ≡ d.files k table
  pub reach : e.reach ≡ d.reach
  pub live : e.live ≡ d.live
  pub why : WhyNoFurther t n q ws d e f

-- how a flush in a shard ends, with this change, where these mutations stood in no file
abbrev pub EndsIn : TableSchema → ℕ → ShardHistory → List Mutation → Option Change → Result (Option ℕ) Fault → DiskState → DiskState → Type 0
EndsIn t n q ws c (Ok told) d e = FlushedOne t n q c d e
EndsIn t n q ws c (Err f) d e = NotFlushed t n q ws d e f

-- a number, if there is one
abbrev pub listed_of : Option ℕ → List ℕ
listed_of None = []
listed_of (Some n) = n ∷ []

-- its answer tells the number of the file that the change adds, if there is one; after a fault there is none
abbrev pub TellsIt : Option Change → Result (Option ℕ) Fault → Type 0
TellsIt c (Ok told) = numbers_in c ≡ listed_of told
TellsIt c (Err f) = c ≡ None

-- where nothing failed and nothing was listed, what stood in no file says nothing
abbrev pub SaysNone : Result (Option ℕ) Fault → Option Change → List Mutation → Type 0
SaysNone (Ok told) None ws = SaySomething ws → ⊥
SaysNone (Ok told) (Some c) ws = Unit {0}
SaysNone (Err f) c ws = Unit {0}

-- it got one, whatever failed behind; only where memory ran out it may not have
abbrev pub IsBegun : Result (Option ℕ) Fault → Bool → Type 0
IsBegun (Err Mem) begun = Unit {0}
IsBegun r begun = begun ≡ true

-- A flush of the table in the shard is answered so. The manifest tells this change, if there was anything that stood in no file; all but the disk, and what
-- memory says of it, is as it was. The counts of the disk don't fall, and one number at most was given to a file.
pub record FlushesIn (h : History) (t : TableSchema) (n : ℕ) (result : Result (Option ℕ) Fault) (after : History) : Type 0 where
  pub change : Option Change
  pub disk : DiskState
  pub begun : Bool
  pub going : h.disk.stopped ≡ false
  pub ends : EndsIn t n (shard_at h n) (h.unflushed n t.number) change result h.disk disk
  pub tells : TellsIt change result
  pub some : IfSome change (λ c. SaySomething (h.unflushed n t.number))
  pub none : SaysNone result change (h.unflushed n t.number)
  pub begins : IsBegun result begun
  pub numbers : AscendTo h.disk.last_file (numbers_in change) disk.last_file
  pub last_file : disk.last_file ≤ h.disk.last_file + 1
  pub drawn : IfOk result (λ told. disk.last_file ≡ h.disk.last_file + length (listed_of told))
  pub faults : h.disk.faults ≤ disk.faults
  pub reads : h.disk.reads ≤ disk.reads
  pub follows : after ≡ record h {
    unflushed = rest_with t.number n change h.unflushed;
    filled = filled_with t.number n begun h.filled;
    changes = changes_by h.changes change;
    trimmed = false;
    disk = disk;
  }

-- ---- a memtable that is full

-- the memtable of the table in that shard has more bytes of records than the limit
abbrev pub is_full : History → ℕ → ℕ → Bool
is_full h n table = nat_lt h.limits.memtable (h.filled n table)

-- it is flushed; where an earlier fault stopped the store, nothing is done
abbrev pub FlushesFull : History → ℕ → ℕ → Result (Option ℕ) Fault → History → Type 0
FlushesFull h n table (Err (Stopped first)) after = (h.disk.stopped ≡ true) × (after ≡ h)
FlushesFull h n table r after = (t : TableSchema) × (slice_get h.tables table ≡ Some t) × (t.number ≡ table) × FlushesIn h t n r after

-- one that is full is flushed, of any other nothing is done
abbrev pub FlushesIf : Bool → History → ℕ → ℕ → Result (Option ℕ) Fault → History → Type 0
FlushesIf true h n table r after = FlushesFull h n table r after
FlushesIf false h n table r after = (r ≡ Ok None) × (after ≡ h)

-- so it is with that of the table in the shard
abbrev pub Settles : History → ℕ → ℕ → Result (Option ℕ) Fault → History → Type 0
Settles h n table r after = FlushesIf (is_full h n table) h n table r after
