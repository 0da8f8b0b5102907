-- What each line answers, and what is held after it, in a store whose disk can't fail and that no other session writes to.
-- CQL documentation, "Data definition" and "Data manipulation"; the commands are own.
use Rattle.std.specs.Prelude.{◌≡◌, ℕ, ℤ, pos, ◌*ℤ◌, List, [], Option, None, Some, Result, Ok, Err}
use Rattle.std.specs.Int.{int_max, int_min}
use Rattle.cas_types.specs.declared.limits.TheConstants.{LAST_MICROSECOND}
use Rattle.cas_types.specs.declared.schema.TableSchema.{TableSchema}
use Rattle.cas_effects.specs.declared.refusal.Refusal.{Refusal}
use Rattle.cas_effects.specs.declared.refusal.Refusal.TheVariants.{NoTable}
use Rattle.cas_terms.specs.Columns.{table_named}
use Rattle.cas_effects.specs.declared.refusal.TheConstants.{NOT_HERE, SYNTAX}
use Rattle.cas_effects.specs.Refusals.{refusal_number}
use Rattle.cas_bind.specs.declared.bound.Bound.{Bound}
use Rattle.cas_bind.specs.declared.bound.Bound.TheVariants as bound
use Rattle.cas_bind.specs.declared.bound.Limits.{Limits}
use Rattle.cas_bind.specs.Meaning.{meaning}
use Rattle.cas_bind.specs.Tables.{tables_after}
use Rattle.cas_render.specs.Listing.{status_of}
use Rattle.cas_render.specs.declared.reply.Reply.{Reply}
use Rattle.cas_render.specs.declared.reply.Reply.TheVariants as reply
use Rattle.cas_lines.specs.declared.line.Line.{Line}
use Rattle.cas_lines.specs.declared.line.Line.TheVariants as line
use Rattle.cas_lines.specs.Lines.{Says}
use Rattle.cas_words.specs.declared.words.ClockKind.{ClockKind}
use Rattle.cas_words.specs.declared.words.ClockKind.TheVariants as clock
use Rattle.cas_words.specs.declared.words.Command.{Command}
use Rattle.cas_reference.specs.Kept.{Kept, Reads, Writes, nothing_kept, reopened}

-- The store: its limits and its clock, the seconds that the last `\clock` of the run set, its tables, and what it keeps of writes.
pub record Store : Type 0 where
  pub limits : Limits
  pub kind : ClockKind
  pub seconds : ℤ
  pub tables : List TableSchema
  pub kept : Kept

-- the store that a command makes
abbrev pub new_store : Command → Store
new_store c = record { limits = c.limits; kind = c.clock; seconds = pos 0; tables = []; kept = nothing_kept c.limits.shards }

-- a further run of it: its limits and its clock are the command's, but the number of its shards stays
abbrev pub begun : Command → Store → Store
begun c s = record s { limits = record c.limits { shards = s.limits.shards }; kind = c.clock; seconds = pos 0; kept = reopened s.kept }

-- ---- readings

-- a reading in microseconds is put between the start of 1970 and the end of the year 9999: -5 counts as 0
abbrev pub clamped : ℤ → ℤ
clamped raw = int_min (int_max raw (pos 0)) LAST_MICROSECOND

-- a reading of the manual clock is what `\clock` set; one of the system's clock is one that it may give
abbrev pub IsReading : ClockKind → (ℤ → Type 0) → ℤ → ℤ → Type 0
IsReading clock.Manual Gives seconds reading = reading ≡ seconds *ℤ pos 1000000
IsReading clock.System Gives seconds reading = (raw : ℤ) × Gives raw × (reading ≡ clamped raw)

-- the reading is one of the store's clock
abbrev pub Reading : (ℤ → Type 0) → Store → ℤ → Type 0
Reading Gives s reading = IsReading s.kind Gives s.seconds reading

-- ---- statements

-- the store after a definition
abbrev pub with_tables : Bound → Store → Store
with_tables b s = record s { tables = tables_after s.tables b }

-- a write or a SELECT, of which this is kept then, changes nothing else
abbrev pub Keeps : Kept → Store → Store → Type 0
Keeps k s after = after ≡ record s { kept = k }

-- A statement that is to do this, or is refused for this, is answered so, and this is the store then; one that is refused changes nothing.
abbrev pub Does : (ℤ → Type 0) → Store → Result Bound Refusal → Reply → Store → Type 0
Does Gives s (Err x) r after = (r ≡ reply.Refused (refusal_number x)) × (after ≡ s)
Does Gives s (Ok (bound.Create t)) r after = (r ≡ reply.Done) × (after ≡ with_tables (bound.Create t) s)
Does Gives s (Ok (bound.Alter a)) r after = (r ≡ reply.Done) × (after ≡ with_tables (bound.Alter a) s)
Does Gives s (Ok (bound.Write w)) r after =
    (reading : ℤ) × Reading Gives s reading × Writes s.limits.segment reading w s.kept r after.kept × Keeps after.kept s after
Does Gives s (Ok (bound.Read q)) r after = (reading : ℤ) × Reading Gives s reading × Reads reading q s.kept r after.kept × Keeps after.kept s after

-- ---- lines

-- the seconds of a manual clock
abbrev pub set_to : ℤ → Store → Store
set_to seconds s = record s { seconds = seconds }

-- `\clock` sets the manual clock, and is refused where the clock is the system's
abbrev pub SetsClock : ClockKind → Store → ℤ → Reply → Store → Type 0
SetsClock clock.Manual s seconds r after = (r ≡ reply.Done) × (after ≡ set_to seconds s)
SetsClock clock.System s seconds r after = (r ≡ reply.Refused NOT_HERE) × (after ≡ s)

-- `\flush` of a table that is there finds nothing in memory, since all is in one list: no file is written
abbrev pub flushed : Option TableSchema → Reply
flushed None = reply.Refused (refusal_number NoTable)
flushed (Some t) = reply.Flushed []

-- `\verify` of a table that is there finds no file to read
abbrev pub verified : Option TableSchema → Reply
verified None = reply.Refused (refusal_number NoTable)
verified (Some t) = reply.Verified []

-- `\status` lists no file of a table in a shard, since there is none
abbrev pub no_files : ℕ → ℕ → List ℕ
no_files shard table = []

-- a line that says this is answered so, and this is the store then; one that says nothing isn't answered
abbrev pub Answered : (ℤ → Type 0) → Store → Line → Option Reply → Store → Type 0
Answered Gives s line.Blank r after = (r ≡ None) × (after ≡ s)
Answered Gives s line.Syntax r after = (r ≡ Some (reply.Refused SYNTAX)) × (after ≡ s)
Answered Gives s (line.Clock n) r after = (answer : Reply) × (r ≡ Some answer) × SetsClock s.kind s n answer after
Answered Gives s (line.Flush t) r after = (r ≡ Some (flushed (table_named s.tables t))) × (after ≡ s)
Answered Gives s (line.Verify t) r after = (r ≡ Some (verified (table_named s.tables t))) × (after ≡ s)
Answered Gives s line.Status r after = (r ≡ Some (reply.Status (status_of s.tables s.limits.shards no_files))) × (after ≡ s)
Answered Gives s (line.Statement x) r after = (answer : Reply) × (r ≡ Some answer) × Does Gives s (meaning s.limits.shards s.tables x) answer after

-- the line is answered so, by what it says
unfoldable pub Answers : (ℤ → Type 0) → Store → List ℕ → Option Reply → Store → Type 0
Answers Gives s text r after = (l : Line) × Says text l × Answered Gives s l r after
