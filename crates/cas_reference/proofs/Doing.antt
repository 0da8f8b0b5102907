-- From what the parts of an answer come to, to what the line is answered.
use Rattle.std.proofs.Common.{◌≡◌, ℕ, ℤ, List, None, Some, Ok, ap, refl, subst, sym}
use Rattle.cas_types.specs.Limits.{IsMoment}
use Rattle.cas_effects.specs.declared.effect.BoundWrite.{BoundWrite}
use Rattle.cas_effects.specs.declared.refusal.TheConstants.{SYNTAX}
use Rattle.cas_bind.specs.declared.bound.BoundRead.{BoundRead}
use Rattle.cas_bind.specs.declared.bound.Bound.TheVariants as bound
use Rattle.cas_bind.specs.Meaning.{meaning}
use Rattle.cas_render.specs.Listing.{status_of}
use Rattle.cas_render.specs.declared.reply.Listed.{Listed}
use Rattle.cas_render.specs.declared.reply.Reply.{Reply}
use Rattle.cas_render.specs.declared.reply.Reply.TheVariants as reply
use Rattle.cql_parse.specs.declared.syntax.Statement.{Statement}
use Rattle.cas_lines.specs.declared.line.Line.{Line}
use Rattle.cas_lines.specs.declared.line.Line.TheVariants as line
use Rattle.cas_lines.specs.Lines.{Says}
use Rattle.cas_lines.proofs.LineReading.{clock_is_moment}
use Rattle.cas_reference.specs.Kept.{Reads, Writes}
use Rattle.cas_terms.specs.Columns.{table_named}
use Rattle.cql_parse.specs.declared.syntax.TableName.{TableName}
use Rattle.cas_reference.specs.Replies.{Answers, Does, Keeps, Reading, SetsClock, Store, flushed, no_files, verified}

-- the seconds that a line sets are a moment
pub says_moment : (text : List ℕ) (l : Line) (n m : ℤ) → m ≡ n → Says text l → l ≡ line.Clock n → IsMoment m
says_moment text l n m same says is = subst IsMoment (sym same) (clock_is_moment text n (subst (λ l. Says text l) is says))

pub does_write : (Gives : ℤ → Type 0) (s after : Store) (w : BoundWrite) (r : Reply) (reading : ℤ) → Reading Gives s reading
    → Writes s.limits.segment reading w s.kept r after.kept → Keeps after.kept s after → Does Gives s (Ok (bound.Write w)) r after
does_write Gives s after w r reading given writes keeps = (reading, given, writes, keeps)

pub does_read : (Gives : ℤ → Type 0) (s after : Store) (q : BoundRead) (r : Reply) (reading : ℤ) → Reading Gives s reading
    → Reads reading q s.kept r after.kept → Keeps after.kept s after → Does Gives s (Ok (bound.Read q)) r after
does_read Gives s after q r reading given reads keeps = (reading, given, reads, keeps)

pub answers_blank : (Gives : ℤ → Type 0) (s : Store) (text : List ℕ) (l : Line) → Says text l → l ≡ line.Blank → Answers Gives s text None s
unfolding Answers
answers_blank Gives s text l says is = (line.Blank, subst (λ l. Says text l) is says, (refl, refl))

pub answers_syntax : (Gives : ℤ → Type 0) (s : Store) (text : List ℕ) (l : Line) → Says text l → l ≡ line.Syntax
    → Answers Gives s text (Some (reply.Refused SYNTAX)) s
unfolding Answers
answers_syntax Gives s text l says is = (line.Syntax, subst (λ l. Says text l) is says, (refl, refl))

pub answers_clock : (Gives : ℤ → Type 0) (s after : Store) (text : List ℕ) (l : Line) (n m : ℤ) (r : Reply) → SetsClock s.kind s m r after → m ≡ n
    → Says text l → l ≡ line.Clock n → Answers Gives s text (Some r) after
unfolding Answers
answers_clock Gives s after text l n m r sets same says is =
    (line.Clock n, subst (λ l. Says text l) is says, (r, refl, subst (λ k. SetsClock s.kind s k r after) same sets))

pub answers_statement : (Gives : ℤ → Type 0) (s after : Store) (text : List ℕ) (l : Line) (x : Statement) (r : Reply)
    → Does Gives s (meaning s.limits.shards s.tables x) r after → Says text l → l ≡ line.Statement x → Answers Gives s text (Some r) after
unfolding Answers
answers_statement Gives s after text l x r does says is = (line.Statement x, subst (λ l. Says text l) is says, (r, refl, does))

pub answers_flush : (Gives : ℤ → Type 0) (s : Store) (text : List ℕ) (l : Line) (name : TableName) (r : Reply) → r ≡ flushed (table_named s.tables name)
    → Says text l → l ≡ line.Flush name → Answers Gives s text (Some r) s
unfolding Answers
answers_flush Gives s text l name r is says of = (line.Flush name, subst (λ l. Says text l) of says, (ap (λ q. Some q) is, refl))

pub answers_verify : (Gives : ℤ → Type 0) (s : Store) (text : List ℕ) (l : Line) (name : TableName) (r : Reply) → r ≡ verified (table_named s.tables name)
    → Says text l → l ≡ line.Verify name → Answers Gives s text (Some r) s
unfolding Answers
answers_verify Gives s text l name r is says of = (line.Verify name, subst (λ l. Says text l) of says, (ap (λ q. Some q) is, refl))

pub answers_status : (Gives : ℤ → Type 0) (s : Store) (text : List ℕ) (l : Line) (tables : List Listed) → tables ≡ status_of s.tables s.limits.shards no_files
    → Says text l → l ≡ line.Status → Answers Gives s text (Some (reply.Status tables)) s
unfolding Answers
answers_status Gives s text l tables are says is = (line.Status, subst (λ l. Says text l) is says, (ap (λ q. Some (reply.Status q)) are, refl))

-- what a line that was read is answered
pub ruleset answers_known = (says_moment, answers_blank, answers_syntax, answers_clock, answers_flush, answers_verify, answers_status, answers_statement)
