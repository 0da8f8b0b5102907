-- What holds along a run: what a flush, a check and dropping segments leave, and each statement keeps.
use Rattle.std.proofs.Common.{◌≡◌, inl, inr, ℕ, ℤ, Bool, false, List, [], ◌∷◌, Option, None, Some, Result, Ok, Err, is_ok, refl, sym, subst}
use Rattle.std.specs.List.{fold}
use Rattle.cas_types.specs.Limits.{IsMoment}
use Rattle.cas_types.specs.declared.schema.TableSchema.{TableSchema}
use Rattle.cas_atoms.specs.declared.atom.Mutation.{Mutation}
use Rattle.cas_bind.specs.Meaning.{meaning}
use Rattle.cas_changes.specs.declared.entry.Change.{Change}
use Rattle.cas_lines.proofs.LineReading.{clock_is_moment}
use Rattle.cas_lines.specs.Lines.{Says}
use Rattle.cas_lines.specs.declared.line.Line.{Line}
use Rattle.cas_lines.specs.declared.line.Line.TheVariants as line
use Rattle.cas_render.specs.declared.reply.Reply.{Reply}
use Rattle.cas_render.specs.declared.reply.Verdict.{Verdict}
use Rattle.cas_terms.specs.Columns.{table_named}
use Rattle.cas_words.specs.declared.words.ClockKind.{ClockKind}
use Rattle.cas_words.specs.declared.words.ClockKind.TheVariants as clock
use Rattle.cql_parse.specs.declared.syntax.Statement.{Statement}
use Rattle.cas_sessions.specs.declared.answer.Fault.{Fault}
use Rattle.cas_sessions.specs.declared.answer.Fault.TheVariants as fault
use Rattle.cas_sessions.specs.Calls.{IsSpelled}
use Rattle.cas_sessions.specs.Dropping.{DropsSegments}
use Rattle.cas_sessions.specs.Filling.{FlushesIn}
use Rattle.cas_lasting.specs.Flushed.{filled_with, rest_with, changes_by, without_begun, without_flushed}
use Rattle.cas_sessions.specs.Flushes.{FlushesNamed, FlushesTable}
use Rattle.cas_lasting.specs.History.{History, DiskState, Does}
use Rattle.cas_sessions.specs.Verifying.{VerifiesNamed}
use Rattle.cas_sessions.proofs.Answering.{says_spelled}
use Rattle.cas_node.specs.declared.upshot.Upshot.{Upshot}
use Rattle.cas_node.specs.Lines.{SetsClock, Answered, Answers, Runs, lists_any}
use Rattle.cas_node.proofs.Settling.{behind, then_dropped}

-- where it doesn't speak of what stands in files, of the changes that the manifest tells, or of the disk
module _ (kind : ClockKind) (Gives : ℤ → Type 0) (P : History → Type 0)
    (rests : (h : History) (left : ℕ → ℕ → List Mutation) (full : ℕ → ℕ → ℕ) (changes : List Change) (trimmed : Bool) (e : DiskState) → P h
    → P (record h { unflushed = left; filled = full; changes = changes; trimmed = trimmed; disk = e }))
    (set : (h : History) (seconds : ℤ) → IsMoment seconds → P h → P (record h { clock = seconds }))
    (done : (h : History) (s : Statement) (answer : Reply) (after : History) → IsSpelled s → Does kind Gives h (meaning h.limits.shards h.tables s) answer after
    → P h → P after) where
  same : (h after : History) → after ≡ h → P h → P after
  same h after is so = subst P (sym is) so

  -- a flush enters nothing
  flushed : (h after : History) (t : TableSchema) (changes : List (Option Change)) (begun : ℕ) (e : DiskState)
      → after ≡ record h {
        unflushed = without_flushed t.number changes h.unflushed;
        filled = without_begun t.number begun h.filled;
        changes = fold changes_by h.changes changes;
        trimmed = false;
        disk = e;
      } → P h → P after
  flushed h after t changes begun e is so =
      subst P (sym is)
      (rests h (without_flushed t.number changes h.unflushed) (without_begun t.number begun h.filled) (fold changes_by h.changes changes) false e so)

  table_flushed : (h : History) (t : TableSchema) (r : Result (List ℕ) Fault) (after : History) → FlushesTable h t r after → P h → P after
  table_flushed h t (Ok told) after a so = flushed h after t a.0 a.1 a.2 a.6 so
  table_flushed h t (Err (fault.Stopped first)) after a so = same h after a.1 so
  table_flushed h t (Err (fault.Refused why)) after a so = flushed h after t a.0 a.1 a.2 a.6 so
  table_flushed h t (Err (fault.Disk number)) after a so = flushed h after t a.0 a.1 a.2 a.6 so
  table_flushed h t (Err fault.Read) after a so = flushed h after t a.0 a.1 a.2 a.6 so
  table_flushed h t (Err (fault.BadBlock number at)) after a so = flushed h after t a.0 a.1 a.2 a.6 so
  table_flushed h t (Err fault.Mem) after a so = flushed h after t a.0 a.1 a.2 a.6 so

  named_flushed : (h : History) (o : Option TableSchema) (r : Result (List ℕ) Fault) (after : History) → FlushesNamed h o r after → P h → P after
  named_flushed h None r after a so = same h after a.1 so
  named_flushed h (Some t) r after a so = table_flushed h t r after a so

  -- nor does one of one shard
  one_flushed : (h after : History) (t : TableSchema) (n : ℕ) (r : Result (Option ℕ) Fault) → FlushesIn h t n r after → P h → P after
  one_flushed h after t n r a so =
      subst P (sym a.follows)
      (rests h (rest_with t.number n a.change h.unflushed) (filled_with t.number n a.begun h.filled) (changes_by h.changes a.change) false a.disk so)

  -- nor does dropping segments
  dropped : (h k after : History) (r : Result ℕ Fault) → (P h → P k) → DropsSegments k r after → P h → P after
  dropped h k after r goes a so = subst P (sym a.follows) (rests k k.unflushed k.filled k.changes (is_ok r) a.disk (goes so))

  -- nor a check
  verified : (h : History) (o : Option TableSchema) (r : Result (List Verdict) Fault) (after : History) → VerifiesNamed h o r after → P h → P after
  verified h None r after a so = same h after a.1 so
  verified h (Some t) r after a so =
      subst P (sym a.3) (rests h h.unflushed h.filled h.changes h.trimmed (record h.disk { reads = a.0 }) so)

  sets : (k : ClockKind) (h : History) (n : ℤ) (r : Reply) (after : History) → IsMoment n → SetsClock k h n r after → P h → P after
  sets clock.Manual h n r after when a so = subst P (sym a.1) (set h n when so)
  sets clock.System h n r after when a so = same h after a.1 so

  answered : (h : History) (text : List ℕ) (l : Line) (o : Upshot) (after : History) → Says text l → Answered kind Gives h l o after → P h → P after
  answered h text line.Blank o after says a so = same h after a.1 so
  answered h text line.Syntax o after says a so = same h after a.1 so
  answered h text (line.Clock n) o after says a so = sets kind h n a.0 after (clock_is_moment text n says) a.2 so
  answered h text (line.Flush name) o after says a so =
      then_dropped (λ (k j : History). P k → P j) dropped (lists_any a.0) o.want h a.1 after (named_flushed h (table_named h.tables name) a.0 a.1 a.3) a.4 so
  answered h text (line.Verify name) o after says a so = verified h (table_named h.tables name) a.0 after a.2 so
  answered h text line.Status o after says a so = same h after a.1 so
  answered h text (line.Statement s) o after says a so =
      behind (λ (k j : History). P k → P j) same one_flushed dropped (meaning h.limits.shards h.tables s) a.0 o.want a.1 after a.4
      (done h s a.0 a.1 (says_spelled text (line.Statement s) s says refl) a.3 so)

  one_line : (h : History) (text : List ℕ) (o : Upshot) (after : History) → Answers kind Gives h text o after → P h → P after
  one_line h text o after (inl x) so = same h after x.1 so
  one_line h text o after (inr x) so = answered h text x.0 o after x.1 x.2 so

  pub along : (h after : History) (ls : List (List ℕ)) (os : List Upshot) → Runs kind Gives h ls os after → P h → P after
  along h after [] [] x so = same h after x so
  along h after [] (o ∷ os) x so = absurd x
  along h after (l ∷ ls) [] x so = absurd x
  along h after (l ∷ ls) (o ∷ os) x so = along x.0 after ls os x.2 (one_line h l o x.0 x.1 so)
