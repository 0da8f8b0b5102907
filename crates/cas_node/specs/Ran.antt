-- What a run did with its words, its script and its output (own).
use Rattle.std.specs.Prelude.{◌≡◌, ◌≤◌, ◌⊎◌, ⊤, ℕ, ◌+◌, ◌-◌, ◌^◌, min, nat_lt, nat_le, ℤ, Bool, true, false, ◌||◌, Option, None, Some, if◌then◌else◌}
use Rattle.std.specs.Prelude.{List, [], ◌∷◌, ◌++◌, length}
use Rattle.std.specs.List.{fold}
use Rattle.std.specs.Str.Lines.{lines}
use Rattle.std.specs.Io.KnownBytes.{Appends, Keeps}
use Rattle.cas_io.specs.Streams.{ReadToEnd}
use Rattle.cas_io.specs.Causes.{Rose}
use Rattle.cas_disk.specs.declared.name.Name.{Name}
use Rattle.cas_disk.specs.declared.name.Name.TheVariants as file
use Rattle.cas_disk.specs.Disk.{Disk, Image, During}
use Rattle.cas_atoms.specs.declared.atom.Mutation.{Mutation}
use Rattle.cas_atoms.specs.declared.query.Query.{Query}
use Rattle.cas_changes.specs.declared.entry.Entry.{Entry as ManifestEntry}
use Rattle.cas_opening.specs.Opening.{IsOfBytes, OpensAs}
use Rattle.cas_history.specs.declared.item.Item.{Item}
use Rattle.cas_room.specs.declared.event.Event.{Event}
use Rattle.cas_render.specs.declared.reply.Failure.{Failure}
use Rattle.cas_render.specs.declared.reply.Failure.TheVariants as failure
use Rattle.cas_render.specs.declared.reply.Reply.{Reply}
use Rattle.cas_render.specs.declared.reply.Reply.TheVariants as reply
use Rattle.cas_render.specs.declared.reply.Verdict.{Verdict}
use Rattle.cas_render.specs.Text.{reply_text}
use Rattle.cas_shard.specs.declared.entry.ShardOpening.{ShardOpening}
use Rattle.cas_sstread.specs.Loading.{Held}
use Rattle.cas_stored.specs.Reading.{IsBadFile}
use Rattle.cas_view.specs.Views.{File}
use Rattle.cas_words.specs.Words.{command_of}
use Rattle.cas_words.specs.declared.words.ClockKind.{ClockKind}
use Rattle.cas_words.specs.declared.words.Command.{Command}
use Rattle.cas_node.specs.declared.cause.Cause.{Cause}
use Rattle.cas_node.specs.declared.cause.Cause.TheVariants as cause
use Rattle.cas_node.specs.declared.program.TheConstants.{SCRIPT_LIMIT}
use Rattle.cas_node.specs.declared.upshot.Upshot.{Upshot}
use Rattle.cas_lasting.specs.History.{DiskState, History, tells_want}
use Rattle.cas_node.specs.Lines.{NoneFlushes, Runs}
use Rattle.cas_recovery.specs.Found.{IsFound}
use Rattle.cas_recovery.specs.Openings.{AreOpenings}
use Rattle.cas_lasting.specs.Starts.{AreItsFiles, Begins}
use Rattle.cas_lasting.specs.Entered.{AreEntered, IsLeft}
use Rattle.cas_lasting.specs.Listing.{HasBehind, SameListed}
use Rattle.cas_lasting.specs.Next.{IsExplained}
use Rattle.cas_sessions.specs.Verifying.{IsFoundBad}
use Rattle.cas_node.specs.Text.{output}

-- ---- how a run ends

-- the program's exit status
abbrev pub status_of : Cause → ℕ
status_of cause.Good = 0
status_of cause.Words = 1
status_of cause.Refused = 2
status_of cause.Read = 3
status_of cause.Write = 4
status_of cause.Disk = 5
status_of (cause.Bad name at) = 6
status_of cause.Mem = 7
status_of (cause.TooLong taken) = 8

-- What is told first of several: other words, want of memory, a script that can't be read or is too long, a file that isn't one of a store, a
-- folder that failed, a failed write, a refusal.
abbrev pub weight : Cause → ℕ
weight cause.Good = 0
weight cause.Refused = 1
weight cause.Write = 2
weight cause.Disk = 3
weight (cause.Bad name at) = 4
weight (cause.TooLong taken) = 5
weight cause.Read = 6
weight cause.Mem = 7
weight cause.Words = 8

-- of two causes the one that is told; of equals the first
abbrev pub worse : Cause → Cause → Cause
worse a b = if nat_lt (weight a) (weight b) then b else a

-- Why a statement came to nothing: memory ran out, or the bytes of a table file aren't as they must be. That the disk failed, or a read, is told by the
-- counts of faults, of which one rose then.
abbrev pub failure_cause : Failure → Cause
failure_cause failure.Memory = cause.Mem
failure_cause (failure.Block number at) = cause.Bad (file.Table number) at
failure_cause _ = cause.Good

-- what is said of table files says that one is bad at a place, or nothing
abbrev pub verdict_cause : ℕ → Option ℕ → Cause → Cause
verdict_cause number None others = others
verdict_cause number (Some at) others = cause.Bad (file.Table number) at

-- of several it is the first
abbrev pub verdicts_cause : List Verdict → Cause
verdicts_cause [] = cause.Good
verdicts_cause (v ∷ vs) = verdict_cause v.number v.bad (verdicts_cause vs)

-- what a reply says of the run's end: a refusal, a failure, a table file that is bad, or nothing
abbrev pub reply_cause : Option Reply → Cause
reply_cause (Some (reply.Refused n)) = cause.Refused
reply_cause (Some (reply.Failed f)) = failure_cause f
reply_cause (Some (reply.Verified verdicts)) = verdicts_cause verdicts
reply_cause _ = cause.Good

-- what came of a line says this: its reply does, or memory ran out for a flush behind it, or for dropping segments behind one. That these failed for the disk
-- or a read, the counts tell; and that there was too much of something counts for nothing.
abbrev pub upshot_cause : Upshot → Cause
upshot_cause o = if o.want then worse (reply_cause o.reply) cause.Mem else reply_cause o.reply

-- the worst that they say
abbrev pub worst : List Upshot → Cause
worst upshots = fold (λ c o. worse c (upshot_cause o)) cause.Good upshots

-- ---- where a run stopped

-- no line is left, all replies were written, and the run ends as the worst of what came of them says
pub record AtTheEnd (rest : List (List ℕ)) (old new : Option (List ℕ)) (upshots : List Upshot) (why : Cause) : Type 0 where
  pub all : rest ≡ []
  pub written : Appends old new (output upshots)
  pub told : why ≡ worst upshots

-- the sink failed at the reply to the last line that was run: all earlier replies and a front of it were written
pub record AtTheSink (old new : Option (List ℕ)) (upshots : List Upshot) (why : Cause) : Type 0 where
  pub earlier : List Upshot
  pub last : Reply
  pub want : Bool
  pub are : upshots ≡ earlier ++ record { reply = Some last; want = want } ∷ []
  pub front : List ℕ
  pub back : List ℕ
  pub cut : front ++ back ≡ reply_text last
  pub written : Appends old new (output earlier ++ front)
  pub told : why ≡ worse (worst upshots) cause.Write

-- memory ran out for the text of the reply to the last line that was run, which isn't `failed memory`: all earlier replies were written
pub record ForMemory (old new : Option (List ℕ)) (upshots : List Upshot) (why : Cause) : Type 0 where
  pub earlier : List Upshot
  pub last : Reply
  pub want : Bool
  pub are : upshots ≡ earlier ++ record { reply = Some last; want = want } ∷ []
  pub other : tells_want last ≡ false
  pub written : Appends old new (output earlier)
  pub told : why ≡ cause.Mem

-- where a run stopped that answered lines
pub data Stop : Type 0 where
  at_the_end : Stop
  at_the_sink : Stop
  for_memory : Stop

-- how it ended there: what came of its lines, what was written of their replies, and the cause
abbrev pub Ended : Stop → List (List ℕ) → Option (List ℕ) → Option (List ℕ) → List Upshot → Cause → Type 0
Ended at_the_end rest old new upshots why = AtTheEnd rest old new upshots why
Ended at_the_sink rest old new upshots why = AtTheSink old new upshots why
Ended for_memory rest old new upshots why = ForMemory old new upshots why

-- From a history, the lines up to some place were run one after another; they left this history, and the run ended there.
pub record RanFrom (h : History) (kind : ClockKind) (Gives : ℤ → Type 0) (script : List ℕ) (old new : Option (List ℕ))
    (final : History) (why : Cause) : Type 0 where
  pub run : List (List ℕ)
  pub rest : List (List ℕ)
  pub upshots : List Upshot
  pub cut : run ++ rest ≡ lines script
  pub steps : Runs kind Gives h run upshots final
  pub stop : Stop
  pub ended : Ended stop rest old new upshots why

-- ---- a run and its outside

-- The outside at some time: what is left of the source and what the sink took, where they tell it; how often they failed, and how often
-- the sink took nothing of a piece; the folder, and how often it failed.
pub record Outside : Type 1 where
  pub left : Option (List ℕ)
  pub read_faults : ℕ
  pub taken : Option (List ℕ)
  pub write_faults : ℕ
  pub stalls : ℕ
  pub folder : Disk
  pub folder_faults : ℕ

-- the outside of these
abbrev pub outside : Option (List ℕ) → ℕ → Option (List ℕ) → ℕ → ℕ → Disk → ℕ → Outside
outside left read_faults taken write_faults stalls folder folder_faults = record {
  left = left;
  read_faults = read_faults;
  taken = taken;
  write_faults = write_faults;
  stalls = stalls;
  folder = folder;
  folder_faults = folder_faults;
}

-- the source failed between these two times
abbrev pub ReadRose : Outside → Outside → Type 0
ReadRose before after = Rose before.read_faults after.read_faults

-- the sink failed between these two times, or took nothing of a piece that isn't empty
abbrev pub WriteRose : Outside → Outside → Type 0
WriteRose before after = Rose before.write_faults after.write_faults ⊎ Rose before.stalls after.stalls

-- the count of a folder's faults rose between these two, or stood at its end already
abbrev pub has_risen : ℕ → ℕ → Bool
has_risen before now = nat_le (min (before + 1) (2 ^ 64 - 1)) now

-- why a run ended, with the faults of its folder and with those of the reads of table files, which are counted from 0
abbrev pub with_faults : ℕ → ℕ → ℕ → Cause → Cause
with_faults before now reads why = if has_risen before now || has_risen 0 reads then worse why cause.Disk else why

-- this holds of the file and the place where it isn't as it must be, if that ended the run
abbrev pub IfBad : Cause → (Name → ℕ → Type 0) → Type 0
IfBad (cause.Bad name at) P = P name at
IfBad _ P = Unit {0}

-- of these files, by shard and table, none is found bad that is read to its end
abbrev pub AreWhole : (ℕ → ℕ → List (File Held)) → Type 0
AreWhole files = (shard table number at : ℕ) → IsFoundBad (files shard table) number at → ⊥

-- the same, and no place in one of them is bad for a query
pub record AreGood (files : ℕ → ℕ → List (File Held)) : Type 0 where
  pub slices : (shard number at : ℕ) (q : Query) → IsBadFile (files shard q.table) q.key q.slice number at → ⊥
  pub wholes : AreWhole files

-- that place of the file of that number is bad for a query
abbrev pub IsBadForQuery : (ℕ → ℕ → List (File Held)) → ℕ → ℕ → Type 0
IsBadForQuery files number at = (shard : ℕ) × (q : Query) × ∥ IsBadFile (files shard q.table) q.key q.slice number at ∥₁

-- the file of that number is found bad there, read to its end
abbrev pub IsBadWhole : (ℕ → ℕ → List (File Held)) → ℕ → ℕ → Type 0
IsBadWhole files number at = (shard : ℕ) × (table : ℕ) × IsFoundBad (files shard table) number at

-- of these files, by shard and table, that place of the one of that name is bad for a query, or found bad
abbrev pub IsBadForOne : (ℕ → ℕ → List (File Held)) → Name → ℕ → Type 0
IsBadForOne files (file.Table number) at = IsBadForQuery files number at ⊎ IsBadWhole files number at
IsBadForOne files _ at = ⊥

-- A run of the command over a script, by what the shards of its store were before, and by its table files: from there the script's lines were run; what they
-- entered is the list that is handed back; and whatever a crash leaves of the folder handed back has all that was acknowledged. The next run, which finds just
-- that, begins with what the shards were and the front of what was accepted that is left, also behind flushes; where no line flushes anything, the manifest
-- lists the table files that were found and no others. A write was stopped only where the folder's count of faults rose, so that otherwise all that was
-- accepted is left; and a file is called bad only where it is, of those that were found or flushed.
pub record RanOn (c : Command) (Gives : ℤ → Type 0) (script : List ℕ) (before after : Outside) (reads : ℕ) (list : List (Item Event)) (why : Cause)
    (entries : List ManifestEntry) (mutations : List Mutation) (openings : ℕ → ShardOpening) (files : ℕ → ℕ → List (File Held)) : Type 0 where
  pub first : History
  pub begins : Begins c.limits entries mutations openings files before.folder_faults first
  pub final : History
  pub told : Cause
  pub ran : RanFrom first c.clock Gives script before.taken after.taken final told
  pub entered : AreEntered list final
  pub crash : (d : Image) → before.folder.reads d → IsOfBytes d → (i : Image) → after.folder.may_leave i → IsLeft mutations list final i
  pub lists : NoneFlushes c.clock Gives first (lines script) → (d : Image) → before.folder.reads d → IsOfBytes d
      → (i : Image) → after.folder.may_leave i → HasBehind entries i
  pub next : (d : Image) → before.folder.reads d → IsOfBytes d
      → (i : Image) → after.folder.may_leave i → IsOfBytes i → IsExplained mutations list final openings i
  pub faults : final.disk.faults ≡ after.folder_faults
  pub reads_are : final.disk.reads ≡ reads
  pub counted : final.disk.stopped ≡ true → Rose before.folder_faults after.folder_faults
  pub bad : IfBad why (IsBadForOne final.disk.files)
  pub ended : why ≡ with_faults before.folder_faults after.folder_faults reads told

-- What flushes write is known: the folder tells what is read of it; or none of the script's lines flushes anything, whatever comes of those before it.
abbrev pub IsKnown : Command → (ℤ → Type 0) → List ℕ → Outside → List ManifestEntry → List Mutation → (ℕ → ShardOpening) → (ℕ → ℕ → List (File Held))
    → Type 0
IsKnown c Gives script before entries mutations openings files =
    ((d : Image) × before.folder.reads d × IsOfBytes d)
    ⊎ ((first : History) → Begins c.limits entries mutations openings files before.folder_faults first → NoneFlushes c.clock Gives first (lines script))

-- A run of the command over a script: its folder had a store of these entries and mutations, or got one, with these table files; whatever a crash leaves
-- at any moment of the run has each of these files, all of its bytes, as it would have been left before the run; and whatever its shards may have been
-- before, for all that the folder tells, the script was run over that, where what flushes write is known.
pub record Ran (c : Command) (Gives : ℤ → Type 0) (script : List ℕ) (before after : Outside) (reads : ℕ) (list : List (Item Event)) (why : Cause)
    : Type 0 where
  pub entries : List ManifestEntry
  pub mutations : List Mutation
  pub found : IsFound c.limits.shards before.folder entries mutations
  pub files : ℕ → ℕ → List (File Held)
  pub its_files : AreItsFiles entries before.folder files
  pub tables : (d : Image) → before.folder.reads d → IsOfBytes d → During (SameListed entries) before.folder after.folder
  pub on : (openings : ℕ → ShardOpening) → AreOpenings entries mutations before.folder openings
      → IsKnown c Gives script before entries mutations openings files → RanOn c Gives script before after reads list why entries mutations openings files

-- a run may end so without having run a line
abbrev pub IsNotRun : Cause → Type 0
IsNotRun cause.Good = ⊥
IsNotRun cause.Refused = ⊥
IsNotRun cause.Write = ⊥
IsNotRun _ = ⊤

-- the words are the command's, and the script is all that the source had, and ran; or no line was run, and nothing was written
abbrev pub RanAll : List (List ℕ) → (ℤ → Type 0) → Outside → Outside → ℕ → Option (List (Item Event)) → Cause → Type 0
RanAll words Gives before after reads None why = Keeps before.taken after.taken × IsNotRun why
RanAll words Gives before after reads (Some list) why =
    (c : Command) × (command_of words ≡ Some c)
    × ((script : List ℕ) × ReadToEnd before.left after.left script × (length script ≤ SCRIPT_LIMIT) × Ran c Gives script before after reads list why)

-- ---- words of the other clauses

-- every line was answered without a refusal, or memory ran out
abbrev pub GoodOrMem : Cause → Type 0
GoodOrMem why = (why ≡ cause.Good) ⊎ (why ≡ cause.Mem)

-- between two states of the disk neither the folder failed nor a read of a table file, where no write had failed before
abbrev pub IsCalm : DiskState → DiskState → Type 0
IsCalm d e = (d.stopped ≡ false) × (Rose d.faults e.faults → ⊥) × (Rose d.reads e.reads → ⊥)

-- no line of the script is refused, whatever the clock reads, in a run through which the disk is calm, unless memory runs out
abbrev pub IsGranted : History → ClockKind → (ℤ → Type 0) → List ℕ → Type 0
IsGranted first kind Gives script =
    (upshots : List Upshot) (final : History) → Runs kind Gives first (lines script) upshots final → IsCalm first.disk final.disk → GoodOrMem (worst upshots)

-- this holds of the bytes that were taken, if the script is too long
abbrev pub IfTooLong : Cause → (ℕ → Type 0) → Type 0
IfTooLong (cause.TooLong taken) P = P taken
IfTooLong _ P = ⊤

-- this holds, if the words or the script ended the run, so that its folder wasn't opened
abbrev pub IfUnread : Cause → Type 0 → Type 0
IfUnread cause.Words P = P
IfUnread cause.Read P = P
IfUnread (cause.TooLong taken) P = P
IfUnread _ P = Unit {0}

-- the script is too long
abbrev pub is_too_long : Cause → Bool
is_too_long (cause.TooLong taken) = true
is_too_long _ = false

-- how many bytes were taken from a source that tells its bytes
abbrev pub count_taken : Option (List ℕ) → Option (List ℕ) → Option ℕ
count_taken None new = None
count_taken (Some xs) None = None
count_taken (Some xs) (Some ys) = Some (length xs - length ys)

-- All is well: the words are the command's; the folder tells a store, with what its shards may have been before; the source tells a script within the limit of
-- which no line is refused from there, as long as the disk is calm; and no count rises, the one of reads from 0.
pub record AllWell (words : List (List ℕ)) (Gives : ℤ → Type 0) (before after : Outside) (table_reads : ℕ) : Type 0 where
  pub command : Command
  pub words_are : command_of words ≡ Some command
  pub script : List ℕ
  pub told : before.left ≡ Some script
  pub short : length script ≤ SCRIPT_LIMIT
  pub image : Image
  pub reads : before.folder.reads image
  pub of_bytes : IsOfBytes image
  pub entries : List ManifestEntry
  pub mutations : List Mutation
  pub opens : OpensAs command.limits.shards entries mutations image
  pub openings : ℕ → ShardOpening
  pub explained : AreOpenings entries mutations before.folder openings
  pub granted : (files : ℕ → ℕ → List (File Held)) → AreItsFiles entries before.folder files → (first : History)
      → Begins command.limits entries mutations openings files before.folder_faults first → IsGranted first command.clock Gives script
  pub no_read_fault : ReadRose before after → ⊥
  pub no_write_fault : WriteRose before after → ⊥
  pub no_folder_fault : Rose before.folder_faults after.folder_faults → ⊥
  pub no_table_fault : Rose 0 table_reads → ⊥
