-- What holds of every run of a script, and of every open store (own).
use Rattle.std.specs.Prelude.{◌≡◌, ◌<◌, ◌≤◌, ◌+◌, ◌*◌, ◌^◌, ℕ, ℤ, true, false, Option, Some, IsSome, Result, Ok, IsOk, List, [], ◌∷◌, length, map, slice_get}
use Rattle.std.specs.List.{list_any}
use Rattle.std.specs.Str.Lines.{lines}
use Rattle.cas_io.specs.Causes.{Rose}
use Rattle.cas_disk.specs.Disk.{Disk}
use Rattle.cas_atoms.specs.declared.atom.Mutation.{Mutation}
use Rattle.cas_types.specs.declared.schema.TableSchema.{TableSchema}
use Rattle.cas_bind.specs.Meaning.{meaning}
use Rattle.cas_bind.specs.declared.bound.Bound.{Bound}
use Rattle.cas_bind.specs.declared.bound.Bound.TheVariants as bound
use Rattle.cas_bind.specs.declared.bound.Limits.{Limits}
use Rattle.cas_changes.specs.declared.entry.Change.{Change}
use Rattle.cas_changes.specs.declared.entry.Entry.{Entry as ManifestEntry}
use Rattle.cas_changes.specs.declared.said.TheConstants.{SEGMENT_LIMIT, FILE_LIMIT}
use Rattle.cas_changes.specs.Saying.{nothing, said_by}
use Rattle.cas_manifest.specs.File.{MayFollow}
use Rattle.cas_memtable.specs.Kept.{bytes_of}
use Rattle.cas_effects.specs.declared.refusal.Refusal.{Refusal}
use Rattle.cas_info.specs.declared.info.TheConstants.{FILE_NUMBER_LIMIT}
use Rattle.cas_journal.specs.Reach.{Reach}
use Rattle.cas_lines.specs.declared.line.Line.{Line}
use Rattle.cas_lines.specs.declared.line.Line.TheVariants as line
use Rattle.cas_lines.specs.Lines.{Says}
use Rattle.cas_render.specs.declared.reply.Reply.{Reply}
use Rattle.cas_render.specs.declared.reply.Reply.TheVariants as reply
use Rattle.cas_room.specs.Changing.{added_by}
use Rattle.cas_room.specs.declared.table_files.TheConstants.{LIVE_LIMIT}
use Rattle.cas_shard.specs.Shards.{ShardHistory}
use Rattle.cas_shard.specs.Stands.{NumbersRise, AreShown}
use Rattle.cas_terms.specs.Columns.{table_named}
use Rattle.cql_parse.specs.declared.syntax.Statement.{Statement}
use Rattle.cql_parse.specs.declared.syntax.TableName.{TableName}
use Rattle.cas_sessions.specs.declared.answer.Fault.{Fault}
use Rattle.cas_sessions.specs.Filling.{FlushesFull, is_full}
use Rattle.cas_sessions.specs.Flushes.{FlushesTable}
use Rattle.cas_lasting.specs.Status.{file_numbers}
use Rattle.cas_lasting.specs.TooMuch.{IsOverfull}
use Rattle.cas_words.specs.declared.words.ClockKind.{ClockKind}
use Rattle.cas_words.specs.declared.words.ClockKind.TheVariants as clock
use Rattle.cas_lasting.specs.History.{History, DiskState, Does, shard_at}
use Rattle.cas_shard.specs.declared.entry.ShardOpening.{ShardOpening}
use Rattle.cas_node.specs.declared.upshot.Upshot.{Upshot}
use Rattle.cas_node.specs.Lines.{Answered, Answers, NoneFlushes, Runs, is_starved, is_want}
use Rattle.cas_node.specs.Ran.{AreGood, GoodOrMem, IsCalm, IsGranted, upshot_cause, worst}
use Rattle.cas_recovery.specs.Found.{AreOfAStore}
use Rattle.cas_recovery.specs.Openings.{AreOpenings}
use Rattle.cas_lasting.specs.Starts.{Begins, start, unflushed_in}
use Rattle.cas_sstread.specs.Loading.{Held}
use Rattle.cas_view.specs.Views.{File}

-- a segment's number is left, and place for the longest entry in the manifest
abbrev pub IsRoomy : Reach → Type 0
IsRoomy r = (r.segment < SEGMENT_LIMIT) × (r.manifest + 2 ^ 32 + 10 ≤ FILE_LIMIT)

-- along a run the disk is well: no write was stopped, neither the folder nor a read of a table file fails, and there is room in its files
abbrev pub StaysWell : DiskState → DiskState → Type 0
StaysWell d e = (d.stopped ≡ false) × (Rose d.faults e.faults → ⊥) × IsRoomy e.reach × (Rose d.reads e.reads → ⊥)

-- there may be a table file more for each shard, and one, and numbers for them; and what was written to the table and stands in no file yet is in no shard too
-- much for one
pub record FitsFiles (h : History) (t : TableSchema) : Type 0 where
  pub live : h.disk.live + (length h.shards + 1) ≤ LIVE_LIMIT
  pub numbers : h.disk.last_file + (length h.shards + 1) < FILE_NUMBER_LIMIT
  pub no_more : (n : ℕ) → IsOverfull t n (h.unflushed n t.number) → ⊥

-- this holds of the table of a memtable that a statement leaves full that is to do this, and is answered so
abbrev pub FindsBehind : (History → TableSchema → Type 0) → Result Bound Refusal → Reply → History → Type 0
FindsBehind Finds (Ok (bound.Write w)) (reply.Wrote number) after =
    is_full after w.shard w.table ≡ true → (t : TableSchema) → slice_get after.tables w.table ≡ Some t → Finds after t
FindsBehind Finds b r after = Unit {0}

-- of a table that the line tells to flush, and of one whose memtable it makes full, whatever it is answered
abbrev pub FlushFinds : (History → TableSchema → Type 0) → ClockKind → (ℤ → Type 0) → History → List ℕ → Type 0
FlushFinds Finds kind Gives h text =
    ((name : TableName) (t : TableSchema) → Says text (line.Flush name) → table_named h.tables name ≡ Some t → Finds h t)
    × ((s : Statement) → Says text (line.Statement s) → (answer : Reply) (after : History)
    → Does kind Gives h (meaning h.limits.shards h.tables s) answer after → FindsBehind Finds (meaning h.limits.shards h.tables s) answer after)

-- this holds of each of these lines, in the store that it comes to, whatever comes of those before it but a failure or want of memory
abbrev pub AlongLines : (History → List ℕ → Type 0) → ClockKind → (ℤ → Type 0) → History → List (List ℕ) → Type 0
AlongLines Holds kind Gives h [] = Unit {0}
AlongLines Holds kind Gives h (l ∷ ls) =
    Holds h l
    × ((o : Upshot) (after : History) → Answers kind Gives h l o after → is_starved o ≡ false → StaysWell h.disk after.disk
    → AlongLines Holds kind Gives after ls)

-- each flush of these lines finds its table so; of lines that flush nothing that is so
abbrev pub FlushesFind : (History → TableSchema → Type 0) → ClockKind → (ℤ → Type 0) → History → List (List ℕ) → Type 0
FlushesFind Finds kind Gives h lines = AlongLines (FlushFinds Finds kind Gives) kind Gives h lines

-- each flush of these lines fits
abbrev pub FlushesFit : ClockKind → (ℤ → Type 0) → History → List (List ℕ) → Type 0
FlushesFit kind Gives h lines = FlushesFind FitsFiles kind Gives h lines

-- a change of table files, those that it adds by their numbers alone
abbrev pub by_numbers : Change → Change × List ℕ
by_numbers c = (record c { added = [] }, added_by c)

-- One store is the other, but for how its disk stands and for what is told of table files beside their numbers: these are the same, by shard and table, and
-- so is the last that was given.
pub record SameStore (t u : History) : Type 0 where
  pub same : record t { changes = u.changes; disk = u.disk } ≡ u
  pub changes : map by_numbers t.changes ≡ map by_numbers u.changes
  pub files : file_numbers t.disk.files ≡ file_numbers u.disk.files
  pub last_file : t.disk.last_file ≡ u.disk.last_file
  pub live : t.disk.live ≡ u.disk.live

-- under the manual clock lines are answered in one way and leave one store, as long as memory doesn't run out, the disk is well, and what they flush
-- fits, if none of the table files is bad that are there before the first line; those of flushes never are
abbrev pub OneOutcome : (ℤ → Type 0) → Type 0
OneOutcome Gives =
    (h : History) (lines : List (List ℕ)) (rs ss : List Upshot) (t u : History)
    → Runs clock.Manual Gives h lines rs t → Runs clock.Manual Gives h lines ss u
    → FlushesFit clock.Manual Gives h lines → list_any is_starved rs ≡ false → list_any is_starved ss ≡ false
    → AreGood h.disk.files → StaysWell h.disk t.disk → StaysWell h.disk u.disk → (rs ≡ ss) × SameStore t u

-- of lines that flush nothing it is so in any store
abbrev pub NoFlushFits : (ℤ → Type 0) → Type 0
NoFlushFits Gives = (kind : ClockKind) (h : History) (lines : List (List ℕ)) → NoneFlushes kind Gives h lines → FlushesFit kind Gives h lines

-- each shard's mutations are numbered upwards, those since the run began by one
abbrev pub AllRise : History → Type 0
AllRise h = (n : ℕ) → NumbersRise (shard_at h n)

-- they are before the first line, whatever store of a folder the run began with
abbrev pub FoundRise : Disk → Type 0
FoundRise folder =
    (l : Limits) (entries : List ManifestEntry) (mutations : List Mutation) (openings : ℕ → ShardOpening) (session : ℕ) (disk : DiskState)
    → AreOfAStore entries mutations → AreOpenings entries mutations folder openings → AllRise (start l entries mutations openings session disk)

-- along a run they stay so, under either clock and whatever is answered
abbrev pub NumbersStay : (ℤ → Type 0) → Type 0
NumbersStay Gives =
    (kind : ClockKind) (h after : History) (lines : List (List ℕ)) (rs : List Upshot) → AllRise h → Runs kind Gives h lines rs after → AllRise after

-- so the front cuts nothing off: a SELECT reads all mutations of its partition that its shard has accepted, before the run or in it
abbrev pub AllAreRead : Type 0
AllAreRead = (s : ShardHistory) → NumbersRise s → AreShown s

-- along a run each line adds at most one table file for each shard, and one, and gives as many numbers: so in a store with few files no flush is refused for
-- their count or their numbers, but after many others
abbrev pub FilesAreFew : (ℤ → Type 0) → Type 0
FilesAreFew Gives =
    (kind : ClockKind) (h after : History) (lines : List (List ℕ)) (rs : List Upshot) → Runs kind Gives h lines rs after
    → (after.disk.last_file ≤ h.disk.last_file + length lines * (length h.shards + 1))
    × (after.disk.live ≤ h.disk.live + length lines * (length h.shards + 1))

-- ---- what is little fits

-- tables as a manifest may tell them, in a store with so many shards
pub record MayBeSaid (tables : List TableSchema) (shards : ℕ) : Type 0 where
  pub entries : List ManifestEntry
  pub follow : MayFollow nothing entries
  pub made : 1 ≤ (said_by entries).shards
  pub tables_are : (said_by entries).tables ≡ tables
  pub shards_are : (said_by entries).shards ≡ shards

-- the tables of a history are so, as CREATE TABLE and ALTER TABLE make them
abbrev pub AreSaid : History → Type 0
AreSaid h = MayBeSaid h.tables h.limits.shards

-- they are before the first line, whatever store of a folder the run began with
abbrev pub FoundSaid : Type 0
FoundSaid =
    (l : Limits) (entries : List ManifestEntry) (mutations : List Mutation) (openings : ℕ → ShardOpening) (files : ℕ → ℕ → List (File Held)) (faults : ℕ)
    (h : History) → AreOfAStore entries mutations → Begins l entries mutations openings files faults h → AreSaid h

-- along a run they stay so, under either clock and whatever is answered
abbrev pub SaidStay : (ℤ → Type 0) → Type 0
SaidStay Gives =
    (kind : ClockKind) (h after : History) (lines : List (List ℕ)) (rs : List Upshot) → AreSaid h → Runs kind Gives h lines rs after → AreSaid after

-- what was written to the table and stands in no file yet has short records in each shard, together at most 2^28 bytes; and there may be a table file more for
-- each, and one, and numbers for them
pub record IsLittle (h : History) (t : TableSchema) : Type 0 where
  pub live : h.disk.live + (length h.shards + 1) ≤ LIVE_LIMIT
  pub numbers : h.disk.last_file + (length h.shards + 1) < FILE_NUMBER_LIMIT
  pub short : (n : ℕ) → bytes_of 0 (h.unflushed n t.number) ≤ 2 ^ 28

-- so a table of which little stands in no file fits into table files
abbrev pub LittleFits : Type 0
LittleFits = (h : History) (table : ℕ) (t : TableSchema) → AreSaid h → slice_get h.tables table ≡ Some t → IsLittle h t → FitsFiles h t

-- and lines whose flushes find little flush what fits
abbrev pub LittleFlushesFit : (ℤ → Type 0) → Type 0
LittleFlushesFit Gives =
    (kind : ClockKind) (h : History) (lines : List (List ℕ)) → AreSaid h → FlushesFind IsLittle kind Gives h lines → FlushesFit kind Gives h lines

-- a flush of what fits ends well, told by a line or of a full memtable, where the disk is well and memory doesn't run out: so it isn't refused
pub record WhatFitsIsFlushed : Type 0 where
  pub told : (h : History) (t : TableSchema) (r : Result (List ℕ) Fault) (after : History) → FlushesTable h t r after → is_want r ≡ false → FitsFiles h t
      → StaysWell h.disk after.disk → IsOk r
  pub full : (h : History) (n table : ℕ) (r : Result (Option ℕ) Fault) (after : History) → FlushesFull h n table r after → is_want r ≡ false
      → ((t : TableSchema) → slice_get h.tables table ≡ Some t → FitsFiles h t) → StaysWell h.disk after.disk → IsOk r

-- ---- memtables that are flushed before they get large

-- A memtable may have records of at most 2^27 bytes before it is flushed. Of each table in each shard what stands in no file yet is no more, of records with
-- atoms, and is all in the memtable that is written to.
pub record KeepsLittle (h : History) : Type 0 where
  pub segment : h.limits.segment ≤ 2 ^ 27
  pub memtable : h.limits.memtable ≤ 2 ^ 27
  pub filled : (n table : ℕ) → h.filled n table ≡ bytes_of 0 (h.unflushed n table)
  pub short : (n table : ℕ) → bytes_of 0 (h.unflushed n table) ≤ 2 ^ 27

-- so it is before the first line, whatever store of a folder the run began with, if what stood in no file was no more then
abbrev pub BeginsLittle : Type 0
BeginsLittle =
    (l : Limits) (entries : List ManifestEntry) (mutations : List Mutation) (openings : ℕ → ShardOpening) (files : ℕ → ℕ → List (File Held)) (faults : ℕ)
    (h : History) → Begins l entries mutations openings files faults h → h.limits.segment ≤ 2 ^ 27 → h.limits.memtable ≤ 2 ^ 27
    → ((n table : ℕ) → bytes_of 0 (unflushed_in entries mutations n table) ≤ 2 ^ 27) → KeepsLittle h

-- there may be a table file more for each shard, and one, and numbers for them, whichever table is flushed
pub record HasFiles (h : History) (t : TableSchema) : Type 0 where
  pub live : h.disk.live + (length h.shards + 1) ≤ LIVE_LIMIT
  pub numbers : h.disk.last_file + (length h.shards + 1) < FILE_NUMBER_LIMIT

-- then each flush of lines fits, under either clock, if each finds that there may be its files
abbrev pub MemtablesFit : (ℤ → Type 0) → Type 0
MemtablesFit Gives =
    (kind : ClockKind) (h : History) (lines : List (List ℕ)) → AreSaid h → KeepsLittle h → FlushesFind HasFiles kind Gives h lines
    → FlushesFit kind Gives h lines

-- there may be a file for each shard, and one, and numbers for them, as often as there are lines
pub record AreFew (h : History) (lines : ℕ) : Type 0 where
  pub live : h.disk.live + lines * (length h.shards + 1) ≤ LIVE_LIMIT
  pub numbers : h.disk.last_file + lines * (length h.shards + 1) < FILE_NUMBER_LIMIT

-- then each flush of so many lines finds that there may be its files
abbrev pub FewHaveFiles : (ℤ → Type 0) → Type 0
FewHaveFiles Gives =
    (kind : ClockKind) (h : History) (lines : List (List ℕ)) → AreFew h (length lines) → FlushesFind HasFiles kind Gives h lines

-- ---- scripts of which no line is refused

-- a line that tells to flush a table names one that is there; no other is refused or blames a file, where the disk stays well and memory doesn't run out
abbrev pub LineIsGranted : ClockKind → (ℤ → Type 0) → History → Line → Type 0
LineIsGranted kind Gives h (line.Flush name) = IsSome (table_named h.tables name)
LineIsGranted kind Gives h l = (o : Upshot) (after : History) → Answered kind Gives h l o after → StaysWell h.disk after.disk → GoodOrMem (upshot_cause o)

-- so is each of these lines
abbrev pub LinesAreGranted : ClockKind → (ℤ → Type 0) → History → List (List ℕ) → Type 0
LinesAreGranted kind Gives h lines = AlongLines (λ k text. (said : Line) → Says text said → LineIsGranted kind Gives k said) kind Gives h lines

-- if what they flush fits, a run of them ends well through which the disk stays well, unless memory runs out: no flush is refused
abbrev pub FlushesEndWell : (ℤ → Type 0) → Type 0
FlushesEndWell Gives =
    (kind : ClockKind) (h : History) (lines : List (List ℕ)) → FlushesFit kind Gives h lines → LinesAreGranted kind Gives h lines
    → (upshots : List Upshot) (final : History) → Runs kind Gives h lines upshots final → StaysWell h.disk final.disk → GoodOrMem (worst upshots)

-- so no line of such a script is refused, as `complete` of `run` asks, if runs through which the disk is calm leave room in its files
abbrev pub FlushesAreGranted : (ℤ → Type 0) → Type 0
FlushesAreGranted Gives =
    (kind : ClockKind) (h : History) (script : List ℕ) → FlushesFit kind Gives h (lines script) → LinesAreGranted kind Gives h (lines script)
    → ((upshots : List Upshot) (final : History) → Runs kind Gives h (lines script) upshots final → IsCalm h.disk final.disk → IsRoomy final.disk.reach)
    → IsGranted h kind Gives script
