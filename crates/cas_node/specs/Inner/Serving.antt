-- A run over a store that was opened (own).
use Rattle.std.specs.Prelude.{◌≡◌, ◌⊎◌, ◌≤◌, ℕ, ℤ, Bool, List, Option, None, Some, Result, Ok, false}
use Rattle.std.specs.Str.Lines.{lines}
use Rattle.cas_disk.specs.Disk.{Disk, During, Image}
use Rattle.cas_types.specs.declared.schema.TableSchema.{TableSchema}
use Rattle.cas_atoms.specs.declared.atom.Mutation.{Mutation}
use Rattle.cas_bind.specs.declared.bound.Limits.{Limits}
use Rattle.cas_changes.specs.declared.entry.Entry.{Entry as ManifestEntry}
use Rattle.cas_history.specs.declared.item.Item.{Item}
use Rattle.cas_journal.specs.Journals.{Lasts}
use Rattle.cas_journal.specs.Stores.{Told}
use Rattle.cas_journal.specs.declared.journal.Journal.{Journal}
use Rattle.cas_opening.specs.Opening.{IsOfBytes, next_segment}
use Rattle.cas_room.specs.declared.event.Event.{Event}
use Rattle.cas_shard.specs.declared.entry.ShardOpening.{ShardOpening}
use Rattle.cas_shard.specs.Stands.{ShardState}
use Rattle.cas_sstread.specs.Loading.{Held}
use Rattle.cas_view.specs.Views.{File}
use Rattle.cas_words.specs.declared.words.ClockKind.{ClockKind}
use Rattle.cas_node.specs.declared.cause.Cause.{Cause}
use Rattle.cas_node.specs.declared.cause.Cause.TheVariants as cause
use Rattle.cas_node.specs.declared.upshot.Upshot.{Upshot}
use Rattle.cas_bind.specs.Meaning.{meaning}
use Rattle.cas_render.specs.declared.reply.Failure.TheVariants as failure
use Rattle.cas_render.specs.declared.reply.Reply.{Reply}
use Rattle.cas_render.specs.declared.reply.Reply.TheVariants as reply
use Rattle.cql_parse.specs.declared.syntax.Statement.{Statement}
use Rattle.cas_sessions.specs.declared.answer.Fault.{Fault}
use Rattle.cas_sessions.specs.declared.answer.Answer.{Answer}
use Rattle.cas_sessions.specs.declared.answer.Answer.TheVariants.{Wrote}
use Rattle.cas_sessions.specs.Filling.{is_full}
use Rattle.cas_lasting.specs.History.{Does, History}
use Rattle.cas_lasting.specs.Nodes.{State, StandsFor, LastsFor, LastsForOne, GoesOnTo, files_in}
use Rattle.cas_lasting.specs.Next.{IsExplained}
use Rattle.cas_lasting.specs.Starts.{AreExplained, Begins, IsInMemory}
use Rattle.cas_lasting.specs.Entered.{AreEntered, IsLeft}
use Rattle.cas_lasting.specs.Listing.{SameListing}
use Rattle.cas_node.specs.Lines.{IsCarriedOut, LeavesRoom, NoneFlushes, SettlesAndDrops, Tells, replied}
use Rattle.cas_node.specs.Ran.{RanFrom, with_faults}
use Rattle.cas_recovery.specs.Restored.{IsTold}
use Rattle.cas_node.specs.Inner.Turns.{IsEnd}

-- The lines of the script ran in a store of these entries and mutations, whose shards were so before and whose table files are these, and accepted this
-- list; where all that was found lasts, so does what was acknowledged, and where no line flushes anything, the manifest lists the table files that it listed;
-- and what is left explains the run to the next one, where what was found explains what the shards were.
pub record Served (kind : ClockKind) (Gives : ℤ → Type 0) (script : List ℕ) (old new : Option (List ℕ)) (limits : Limits)
    (entries : List ManifestEntry) (mutations : List Mutation) (openings : ℕ → ShardOpening) (files : ℕ → ℕ → List (File Held)) (journal : Journal)
    (before after : Disk) (faults_before faults_first faults_now reads : ℕ) (list : List (Item Event)) (why : Cause) : Type 0 where
  pub first : History
  pub begins : Begins limits entries mutations openings files faults_first first
  pub final : History
  pub told : Cause
  pub ran : RanFrom first kind Gives script old new final told
  pub entered : AreEntered list final
  pub crash : (t : Told) → IsTold entries mutations t → Lasts journal before t → (i : Image) → after.may_leave i → IsLeft mutations list final i
  pub lists : NoneFlushes kind Gives first (lines script) → (t : Told) → IsTold entries mutations t → Lasts journal before t → During SameListing before after
  pub next : (t : Told) → IsTold entries mutations t → Lasts journal before t → AreExplained entries mutations openings before → (i : Image) → after.may_leave i
      → IsOfBytes i → IsExplained mutations list final openings i
  pub faults : final.disk.faults ≡ faults_now
  pub reads_are : final.disk.reads ≡ reads
  pub ended : why ≡ with_faults faults_before faults_now reads told

-- from a history of which this holds the store went on to one that follows it so
abbrev pub MovesIf : (History → Type 0) → (History → History → Type 0) → State → State → Disk → Disk → Type 0
MovesIf If Follows s t old new = (h : History) → StandsFor h s → If h → (after : History) × Follows h after × GoesOnTo h after s t old new

-- at each moment the manifest lists the table files that it listed before, if this holds of the history
abbrev pub ListsIf : (History → Type 0) → State → Disk → Disk → Type 0
ListsIf If s old new = (h : History) (found : List Mutation) (told : Told) → StandsFor h s → LastsFor h found s old told → If h → During SameListing old new

-- what a flush writes is known, and why it goes no further: the folder tells what is read of it, and keeps what some history says for which the store stands
abbrev pub Knows : State → Disk → Type 0
Knows s folder = Tells folder × LastsForOne s folder

-- the table and the shard of a mutation that was accepted
abbrev pub place_of : Result Answer Fault → Option (ℕ × ℕ)
place_of (Ok (Wrote number table shard)) = Some (table, shard)
place_of r = None

-- its memtable isn't full
abbrev pub HasRoomFor : Option (ℕ × ℕ) → History → Type 0
HasRoomFor None h = Unit {0}
HasRoomFor (Some p) h = is_full h p.1 p.0 ≡ false

-- it is flushed if it is, and segments are dropped behind that
abbrev pub SettledFor : Option (ℕ × ℕ) → Bool → History → History → Type 0
SettledFor None want h after = (want ≡ false) × (after ≡ h)
SettledFor (Some p) want h after = SettlesAndDrops p.1 p.0 want h after

-- no mutation was counted, and the last number of a table file doesn't fall
abbrev pub KeepsCounts : State → State → Type 0
KeepsCounts s t = (t.calls ≡ s.calls) × (t.accepted ≡ s.accepted) × (s.last_file ≤ t.last_file)

-- this came of a statement: it was carried out, or memory ran out before it changed anything
abbrev pub PerformsSo : ClockKind → (ℤ → Type 0) → Statement → Upshot → History → History → Type 0
PerformsSo kind Gives s o h after = ((o ≡ replied (Some (reply.Failed failure.Memory))) × (after ≡ h))
    ⊎ IsCarriedOut kind Gives h (meaning h.limits.shards h.tables s) o after

-- it makes no memtable full, whatever it is answered
abbrev pub PerformsRoomily : ClockKind → (ℤ → Type 0) → Statement → History → Type 0
PerformsRoomily kind Gives s h = (answer : Reply) (after : History)
    → Does kind Gives h (meaning h.limits.shards h.tables s) answer after → LeavesRoom (meaning h.limits.shards h.tables s) answer after

-- what the flushes of a script write is known, which is run from there
abbrev pub IsKnownIn : ClockKind → (ℤ → Type 0) → State → Disk → List ℕ → History → Type 0
IsKnownIn kind Gives s folder script h = Knows s folder ⊎ NoneFlushes kind Gives h (lines script)

-- the same of a store that was opened with these entries and mutations
abbrev pub IsKnownOn : Disk → Journal → List ManifestEntry → List Mutation → (History → Type 0) → (History → Type 0) → Type 0
IsKnownOn folder journal entries mutations Begun Quiet =
    (Tells folder × ((t : Told) × IsTold entries mutations t × Lasts journal folder t)) ⊎ ((first : History) → Begun first → Quiet first)

-- whichever entries and mutations the store has, and whatever its shards were before, a run over it is such; or memory ran out before a line was run
abbrev pub Serves : ClockKind → (ℤ → Type 0) → List ℕ → Option (List ℕ) → Option (List ℕ) → Limits → List TableSchema → List ShardState → List ℕ → ℕ → ℕ
    → Journal → Disk → ℕ → ℕ → Disk → ℕ → ℕ → Option (List (Item Event)) → Cause → Type 0
Serves kind Gives script old new limits tables shards frontiers last live journal before faults faults_before after faults_now reads None why = why ≡ cause.Mem
Serves kind Gives script old new limits tables shards frontiers last live journal before faults faults_before after faults_now reads (Some list) why =
    (given : Limits) (entries : List ManifestEntry) (mutations : List Mutation) (openings : ℕ → ShardOpening)
    → IsInMemory given entries mutations openings limits tables shards frontiers last live → journal.last_segment ≤ next_segment entries
    → IsKnownOn before journal entries mutations (Begins given entries mutations openings (files_in shards) faults)
    (λ first. NoneFlushes kind Gives first (lines script))
    → Served kind Gives script old new given entries mutations openings (files_in shards) journal before after faults_before faults faults_now reads list why

-- why such a run ends: as its lines did, with the faults of its folder and of its reads; or memory ran out before a line was run
abbrev pub EndsServed : ℕ → ℕ → ℕ → Cause → Type 0
EndsServed before now reads why = (why ≡ cause.Mem) ⊎ ((told : Cause) × IsEnd told × (why ≡ with_faults before now reads told))
