-- What the calls of an open store answer (own).
use Rattle.std.specs.Prelude.{◌≡◌, ◌<◌, ℕ, ℤ, length, List, Bool, true, false, not, Result, Ok, Err, Some, None, [], ◌∷◌, ◌++◌, if◌then◌else◌}
use Rattle.cas_atoms.specs.declared.atom.Mutation.{Mutation}
use Rattle.cas_bind.specs.Meaning.{meaning}
use Rattle.cas_bind.specs.declared.bound.Bound.{Bound}
use Rattle.cas_bind.specs.declared.bound.Bound.TheVariants as bound
use Rattle.cas_effects.specs.declared.refusal.Refusal.{Refusal}
use Rattle.cas_effects.specs.declared.refusal.TheConstants.{NOT_HERE, SYNTAX}
use Rattle.cas_history.specs.declared.item.Item.TheVariants.{Wrote as WroteOf}
use Rattle.cas_lines.specs.Lines.{Says}
use Rattle.cas_lines.specs.declared.line.Line.{Line}
use Rattle.cas_lines.specs.declared.line.Line.TheVariants as line
use Rattle.cas_render.specs.declared.reply.Failure.TheVariants as failure
use Rattle.cas_render.specs.declared.reply.Reply.{Reply}
use Rattle.cas_render.specs.declared.reply.Reply.TheVariants as reply
use Rattle.cas_room.specs.declared.event.Event.TheVariants as event
use Rattle.cas_words.specs.declared.words.ClockKind.TheVariants as clock
use Rattle.cql_parse.specs.declared.syntax.Statement.{Statement}
use Rattle.cql_parse.specs.declared.syntax.Statement.TheVariants as statement
use Rattle.cas_sessions.specs.declared.answer.Answer.{Answer}
use Rattle.cas_sessions.specs.declared.answer.Answer.TheVariants.{Done, Wrote, Rows}
use Rattle.cas_sessions.specs.declared.answer.Fault.{Fault}
use Rattle.cas_sessions.specs.declared.answer.Fault.TheVariants.{Refused, Stopped, Disk, Read, BadBlock, Mem}
use Rattle.cas_lasting.specs.History.{History, Does}
use Rattle.cas_lasting.specs.Nodes.{State, OrWant}
use Rattle.cql_lex.specs.declared.token.Token.{Token}
use Rattle.cql_parse.specs.Means.{Means}
use Rattle.cas_words.specs.declared.words.ClockKind.{ClockKind}

-- what a call's answer is printed as
abbrev pub reply_of : Result Answer Fault → Reply
reply_of (Ok Done) = reply.Done
reply_of (Ok (Wrote number table shard)) = reply.Wrote number
reply_of (Ok (Rows rows shard front now)) = reply.Rows rows shard front now
reply_of (Err (Refused number)) = reply.Refused number
reply_of (Err (Stopped first)) = reply.Failed failure.Stopped
reply_of (Err (Disk number)) = reply.Failed failure.Disk
reply_of (Err Read) = reply.Failed failure.Read
reply_of (Err (BadBlock number at)) = reply.Failed (failure.Block number at)
reply_of (Err Mem) = reply.Failed failure.Memory

-- What an answer tells beside that: of a mutation its table and its shard, which are there; the fault that stopped the store before; of a mutation for which
-- the disk failed whether it was accepted, and as which number.
abbrev pub IsTrueOf : Result Answer Fault → State → State → Type 0
IsTrueOf (Ok (Wrote number table shard)) s t =
    (table < length t.tables) × (shard < t.limits.shards)
    × ((m : Mutation) × (m.number ≡ number) × (m.table ≡ table) × (m.shard ≡ shard)
    × (t.list ≡ s.list ++ WroteOf shard s.session t.calls number (event.Accepted m) ∷ []))
IsTrueOf (Err (Stopped first)) s t = s.journal.first ≡ Some first
IsTrueOf (Err (Disk None)) s t = t.list ≡ s.list
IsTrueOf (Err (Disk (Some number))) s t =
    (m : Mutation) × (m.number ≡ number) × (t.list ≡ s.list ++ WroteOf m.shard s.session t.calls number (event.Accepted m) ∷ [])
IsTrueOf _ s t = Unit {0}

-- the answer of a mutation tells the table and the shard that the statement writes to
abbrev pub TellsPlace : Answer → Result Bound Refusal → Type 0
TellsPlace (Wrote number table shard) (Ok (bound.Write w)) = (table ≡ w.table) × (shard ≡ w.shard)
TellsPlace (Wrote number table shard) _ = ⊥
TellsPlace _ b = Unit {0}

-- tokens of some source spell the statement
abbrev pub IsSpelled : Statement → Type 0
IsSpelled s = (source : List ℕ) × (tokens : List Token) × Means source tokens s

-- where the manual clock stands, by which statements are performed; the system's stands anywhere
abbrev pub StandsAt : ClockKind → ℤ → ℤ → Type 0
StandsAt clock.Manual seconds at = at ≡ seconds
StandsAt clock.System seconds at = Unit {0}

-- CREATE TABLE and ALTER TABLE
abbrev pub is_definition : Statement → Bool
is_definition (statement.Create s) = true
is_definition (statement.Alter s) = true
is_definition _ = false

-- a call takes definitions, or all other statements
abbrev pub takes : Bool → Statement → Bool
takes defines s = if is_definition s then defines else not defines

-- it refuses those that it doesn't take
abbrev pub IfTaken : Bool → Reply → History → History → Type 0 → Type 0
IfTaken true r h after P = P
IfTaken false r h after P = (r ≡ reply.Refused NOT_HERE) × (after ≡ h)

-- what a text that says this is answered by a call that takes definitions, or all others, at readings that the clock may give
abbrev pub Performed : Bool → (ℤ → Type 0) → History → Line → Reply → History → Type 0
Performed defines Gives h (line.Statement s) r after =
    IfTaken (takes defines s) r h after (Does clock.System Gives h (meaning h.limits.shards h.tables s) r after)
Performed defines Gives h _ r after = (r ≡ reply.Refused SYNTAX) × (after ≡ h)

-- the text is answered; or memory ran out before it changed anything
abbrev pub Performs : Bool → (ℤ → Type 0) → List ℕ → Reply → History → History → Type 0
Performs defines Gives text r h after = OrWant r (λ h after. (l : Line) × Says text l × Performed defines Gives h l r after) h after
