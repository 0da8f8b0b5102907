-- What a flush of a table does, in the words of the history: what each shard has of it in memory comes into one table file more. No SELECT shows more or less.
-- Cassandra documentation, "nodetool flush"; "Storage engine: memtables, SSTables"; the numbers of files and of faults are own.
use Rattle.std.specs.Prelude.{◌≡◌, ◌⊎◌, ℕ, ◌+◌, ◌<◌, true, false, Option, None, Some, Result, Ok, Err, List, length}
use Rattle.std.specs.List.{fold}
use Rattle.cas_types.specs.declared.schema.TableSchema.{TableSchema}
use Rattle.cas_io.specs.Causes.{Rose}
use Rattle.cas_atoms.specs.declared.atom.Mutation.{Mutation}
use Rattle.cas_changes.specs.declared.entry.Change.{Change}
use Rattle.cas_shard.specs.Shards.{ShardHistory}
use Rattle.cas_effects.specs.declared.refusal.Refusal.TheVariants.{NoTable}
use Rattle.cas_effects.specs.declared.refusal.TheConstants.{TOO_MANY}
use Rattle.cas_effects.specs.Refusals.{refusal_number}
use Rattle.cas_terms.specs.Columns.{table_named}
use Rattle.cql_parse.specs.declared.syntax.TableName.{TableName}
use Rattle.cas_sessions.specs.declared.answer.Fault.{Fault}
use Rattle.cas_sessions.specs.declared.answer.Fault.TheVariants.{Refused, Stopped, Disk, Read, BadBlock, Mem}
use Rattle.cas_lasting.specs.History.{History, DiskState, shard_at}
use Rattle.cas_lasting.specs.Flushed.{numbers_added, changes_by, without_flushed, without_begun, Flushed, WhyTooMany}

-- ---- why it goes no further

-- Why a flush goes no further than to that shard: there is too much of something; the folder failed, or writing a file, which is counted with the reads; or a
-- read of the new file. Only a failed write stops all further ones. No file that was just written is bad.
abbrev pub WhyNoFurther : TableSchema → ℕ → ShardHistory → List Mutation → DiskState → DiskState → Fault → Type 0
WhyNoFurther t n s ws d e (Refused why) = (why ≡ TOO_MANY) × (e.stopped ≡ false) × WhyTooMany t n s ws e
WhyNoFurther t n s ws d e (Stopped first) = ⊥
WhyNoFurther t n s ws d e (Disk None) = Rose d.faults e.faults ⊎ ((e.stopped ≡ false) × Rose d.reads e.reads)
WhyNoFurther t n s ws d e (Disk (Some number)) = ⊥
WhyNoFurther t n s ws d e Read = (e.stopped ≡ false) × Rose d.reads e.reads
WhyNoFurther t n s ws d e (BadBlock number at) = ⊥
WhyNoFurther t n s ws d e Mem = e.stopped ≡ false

-- where so many shards are flushed and the next one isn't, so many got a new memtable: the next one did too, but where memory ran out it may not have
abbrev pub AreBegun : Fault → ℕ → ℕ → Type 0
AreBegun Mem flushed begun = (begun ≡ flushed) ⊎ (begun ≡ flushed + 1)
AreBegun f flushed begun = begun ≡ flushed + 1

-- how a flush ends that no earlier fault stopped, where so many shards got a new memtable: all shards are flushed, and the new files' numbers are told, which
-- are just the next ones; or only the first ones are, and why the next one isn't
abbrev pub EndsSo : History → TableSchema → List (Option Change) → ℕ → Result (List ℕ) Fault → DiskState → Type 0
EndsSo h t changes begun (Ok told) e =
    (length changes ≡ length h.shards) × (told ≡ numbers_added changes) × (e.stopped ≡ false) × (begun ≡ length changes)
    × (e.last_file ≡ h.disk.last_file + length told)
EndsSo h t changes begun (Err f) e =
    (length changes < length h.shards) × WhyNoFurther t (length changes) (shard_at h (length changes)) (h.unflushed (length changes) t.number) h.disk e f
    × AreBegun f (length changes) begun

-- A flush of the table: an earlier fault stopped it, and nothing is done; or shards are flushed, from the first on, the manifest tells these changes, what they
-- tell of stands in a file, writes go to new memtables, and all but the disk is as it was.
abbrev pub FlushesTable : History → TableSchema → Result (List ℕ) Fault → History → Type 0
FlushesTable h t (Err (Stopped first)) after = (h.disk.stopped ≡ true) × (after ≡ h)
FlushesTable h t r after = (changes : List (Option Change)) × (begun : ℕ) × (e : DiskState) × (h.disk.stopped ≡ false) × Flushed h t changes e
    × EndsSo h t changes begun r e
    × (after ≡ record h {
      unflushed = without_flushed t.number changes h.unflushed;
      filled = without_begun t.number begun h.filled;
      changes = fold changes_by h.changes changes;
      trimmed = false;
      disk = e;
    })

-- of the table that is named so, if there is one
abbrev pub FlushesNamed : History → Option TableSchema → Result (List ℕ) Fault → History → Type 0
FlushesNamed h None r after = (r ≡ Err (Refused (refusal_number NoTable))) × (after ≡ h)
FlushesNamed h (Some t) r after = FlushesTable h t r after

-- what a flush of the table of that name is answered, and what becomes of the store
abbrev pub Flushes : History → TableName → Result (List ℕ) Fault → History → Type 0
Flushes h name r after = FlushesNamed h (table_named h.tables name) r after
