-- What each line of a script is answered, one after another.
-- Statements by CQL documentation, "Data definition" and "Data manipulation"; a flush and a check by Cassandra documentation, "nodetool flush" and
-- "nodetool verify"; the commands are own.
use Rattle.std.specs.Prelude.{◌≡◌, ◌⊎◌, ◌||◌, ℕ, ℤ, Bool, true, false, Option, None, Some, Result, Ok, Err, List, [], ◌∷◌}
use Rattle.cas_disk.specs.Disk.{Disk, Image}
use Rattle.cas_bind.specs.Meaning.{meaning}
use Rattle.cas_bind.specs.declared.bound.Bound.{Bound}
use Rattle.cas_bind.specs.declared.bound.Bound.TheVariants as bound
use Rattle.cas_effects.specs.declared.refusal.Refusal.{Refusal}
use Rattle.cas_effects.specs.declared.refusal.TheConstants.{NOT_HERE, SYNTAX}
use Rattle.cas_render.specs.declared.reply.Failure.TheVariants as failure
use Rattle.cas_render.specs.declared.reply.Reply.{Reply}
use Rattle.cas_render.specs.declared.reply.Reply.TheVariants as reply
use Rattle.cas_render.specs.declared.reply.Verdict.{Verdict}
use Rattle.cas_lines.specs.declared.line.Line.{Line}
use Rattle.cas_lines.specs.declared.line.Line.TheVariants as line
use Rattle.cas_lines.specs.Lines.{Says}
use Rattle.cas_words.specs.declared.words.ClockKind.{ClockKind}
use Rattle.cas_words.specs.declared.words.ClockKind.TheVariants as clock
use Rattle.cql_parse.specs.declared.syntax.Statement.{Statement}
use Rattle.cql_parse.specs.declared.syntax.TableName.{TableName}
use Rattle.cas_node.specs.declared.upshot.Upshot.{Upshot}
use Rattle.cas_sessions.specs.declared.answer.Fault.{Fault}
use Rattle.cas_sessions.specs.declared.answer.Fault.TheVariants.{Mem}
use Rattle.cas_sessions.specs.Calls.{reply_of}
use Rattle.cas_sessions.specs.Dropping.{DropsSegments}
use Rattle.cas_sessions.specs.Filling.{Settles, is_full}
use Rattle.cas_sessions.specs.Flushes.{Flushes}
use Rattle.cas_lasting.specs.History.{History, Does, tells_want}
use Rattle.cas_lasting.specs.Status.{status}
use Rattle.cas_sessions.specs.Verifying.{Verifies}

-- what comes of a line where memory didn't run out for what it doesn't tell: its reply, if there is one
abbrev pub replied : Option Reply → Upshot
replied r = record { reply = r; want = false }

-- the reply says that memory ran out
abbrev pub says_want : Option Reply → Bool
says_want None = false
says_want (Some r) = tells_want r

-- memory ran out for the line, or for a flush behind it, or for dropping segments behind one
abbrev pub is_starved : Upshot → Bool
is_starved o = says_want o.reply || o.want

-- `\clock` sets the manual clock, and is refused where the clock is the system's
abbrev pub SetsClock : ClockKind → History → ℤ → Reply → History → Type 0
SetsClock clock.Manual h n r after = (r ≡ reply.Done) × (after ≡ record h { clock = n })
SetsClock clock.System h n r after = (r ≡ reply.Refused NOT_HERE) × (after ≡ h)

-- what the answer of a flush is printed as: the numbers of its files; a fault as that of any other call
abbrev pub reply_of_flush : Result (List ℕ) Fault → Reply
reply_of_flush (Ok numbers) = reply.Flushed numbers
reply_of_flush (Err f) = reply_of (Err f)

-- what the answer of a check is printed as: what is said of each file; a fault as that of any other call
abbrev pub reply_of_verify : Result (List Verdict) Fault → Reply
reply_of_verify (Ok verdicts) = reply.Verified verdicts
reply_of_verify (Err f) = reply_of (Err f)

-- ---- a flush

-- memory ran out for it
abbrev pub is_want : {T : Type 0} → Result T Fault → Bool
is_want (Err Mem) = true
is_want r = false

-- Where a flush listed a file, segments of the log are dropped behind it that no table needs any more; otherwise nothing is done. What comes of that isn't
-- printed, but that memory ran out for it counts.
abbrev pub DropsBehind : Bool → Bool → History → History → Type 0
DropsBehind false want h after = (want ≡ false) × (after ≡ h)
DropsBehind true want h after = (told : Result ℕ Fault) × (want ≡ is_want told) × DropsSegments h told after

-- a flush of a table listed a file
abbrev pub lists_any : Result (List ℕ) Fault → Bool
lists_any (Ok (number ∷ numbers)) = true
lists_any r = false

-- a flush of one memtable did
abbrev pub lists_one : Result (Option ℕ) Fault → Bool
lists_one (Ok (Some number)) = true
lists_one r = false

-- this comes of a line that flushes the table of that name, behind which segments are dropped
abbrev pub FlushesAndDrops : History → TableName → Upshot → History → Type 0
FlushesAndDrops h t o after =
    (told : Result (List ℕ) Fault) × (between : History) × (o.reply ≡ Some (reply_of_flush told)) × Flushes h t told between
    × DropsBehind (lists_any told) o.want between after

-- The memtable of the table in that shard is flushed, if it is full, and segments are dropped behind that. Memory may have run out for one of the two.
abbrev pub SettlesAndDrops : ℕ → ℕ → Bool → History → History → Type 0
SettlesAndDrops shard table want h after =
    (told : Result (Option ℕ) Fault) × (between : History) × (starved : Bool) × (want ≡ is_want told || starved) × Settles h shard table told between
    × DropsBehind (lists_one told) starved between after

-- ---- a statement

-- Behind a statement that is to do this and was answered so, the memtable of its table in its shard is flushed, if a mutation was accepted and it is full.
-- What comes of that isn't printed.
abbrev pub SettlesBehind : Result Bound Refusal → Reply → Bool → History → History → Type 0
SettlesBehind (Ok (bound.Write w)) (reply.Wrote number) want between after = SettlesAndDrops w.shard w.table want between after
SettlesBehind b r want between after = (want ≡ false) × (after ≡ between)

-- a statement that is to do this, or is refused for this, is answered so, and that flush comes behind
abbrev pub IsCarriedOut : ClockKind → (ℤ → Type 0) → History → Result Bound Refusal → Upshot → History → Type 0
IsCarriedOut kind Gives h b o after =
    (answer : Reply) × (between : History) × (o.reply ≡ Some answer) × Does kind Gives h b answer between × SettlesBehind b answer o.want between after

-- ---- lines

-- this comes of a line that says this; one that says nothing isn't answered
abbrev pub Answered : ClockKind → (ℤ → Type 0) → History → Line → Upshot → History → Type 0
Answered kind Gives h line.Blank o after = (o ≡ replied None) × (after ≡ h)
Answered kind Gives h line.Syntax o after = (o ≡ replied (Some (reply.Refused SYNTAX))) × (after ≡ h)
Answered kind Gives h (line.Clock n) o after = (answer : Reply) × (o ≡ replied (Some answer)) × SetsClock kind h n answer after
Answered kind Gives h (line.Flush t) o after = FlushesAndDrops h t o after
Answered kind Gives h (line.Verify t) o after =
    (result : Result (List Verdict) Fault) × (o ≡ replied (Some (reply_of_verify result))) × Verifies h t result after
Answered kind Gives h line.Status o after = (o ≡ replied (Some (reply.Status (status h)))) × (after ≡ h)
Answered kind Gives h (line.Statement s) o after = IsCarriedOut kind Gives h (meaning h.limits.shards h.tables s) o after

-- this comes of the line; or memory ran out before it changed anything
abbrev pub Answers : ClockKind → (ℤ → Type 0) → History → List ℕ → Upshot → History → Type 0
Answers kind Gives h text o after =
    ((o ≡ replied (Some (reply.Failed failure.Memory))) × (after ≡ h)) ⊎ ((l : Line) × Says text l × Answered kind Gives h l o after)

-- the lines run alone one after another: this comes of them, and this history after the last
abbrev pub Runs : ClockKind → (ℤ → Type 0) → History → List (List ℕ) → List Upshot → History → Type 0
Runs kind Gives h [] [] after = after ≡ h
Runs kind Gives h (l ∷ ls) (o ∷ os) after = (between : History) × Answers kind Gives h l o between × Runs kind Gives between ls os after
Runs kind Gives h _ _ after = ⊥

-- ---- lines that flush nothing

-- a statement that is to do this, and is answered so, leaves no memtable full that it wrote to
abbrev pub LeavesRoom : Result Bound Refusal → Reply → History → Type 0
LeavesRoom (Ok (bound.Write w)) (reply.Wrote number) after = is_full after w.shard w.table ≡ false
LeavesRoom b r after = Unit {0}

-- the line doesn't tell to flush a table, nor makes a memtable full, whatever it is answered
abbrev pub FlushesNone : ClockKind → (ℤ → Type 0) → History → List ℕ → Type 0
FlushesNone kind Gives h text =
    ((t : TableName) → Says text (line.Flush t) → ⊥)
    × ((s : Statement) → Says text (line.Statement s) → (answer : Reply) (after : History)
    → Does kind Gives h (meaning h.limits.shards h.tables s) answer after → LeavesRoom (meaning h.limits.shards h.tables s) answer after)

-- none of these lines does, whatever comes of those before it
abbrev pub NoneFlushes : ClockKind → (ℤ → Type 0) → History → List (List ℕ) → Type 0
NoneFlushes kind Gives h [] = Unit {0}
NoneFlushes kind Gives h (l ∷ ls) =
    FlushesNone kind Gives h l × ((o : Upshot) (after : History) → Answers kind Gives h l o after → NoneFlushes kind Gives after ls)

-- the folder tells what is read of it, as those do that keep what they are given; of others nothing that was written is known once it is read
abbrev pub Tells : Disk → Type 0
Tells folder = (c : Image) × folder.reads c
