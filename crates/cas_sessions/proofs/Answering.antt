-- What a statement does with a store, from what its parts do.
use Rattle.std.proofs.Common.{◌≡◌, ◌≤◌, arith, inr, ℕ, ℤ, List, Result, Ok, refl, sym, subst}
use Rattle.cas_types.specs.declared.schema.TableSchema.{TableSchema}
use Rattle.cas_disk.specs.Disk.{Disk}
use Rattle.cas_bind.specs.Meaning.{meaning}
use Rattle.cas_bind.specs.Tables.{AreTables, tables_after}
use Rattle.cas_bind.specs.declared.bound.Bound.{Bound}
use Rattle.cas_bind.specs.declared.bound.Bound.TheVariants as bound
use Rattle.cas_bind.specs.declared.bound.BoundRead.{BoundRead}
use Rattle.cas_changes.specs.declared.entry.Entry.TheVariants.{Schema, AddColumns}
use Rattle.cas_define.specs.declared.addition.Addition.{Addition}
use Rattle.cas_effects.specs.declared.effect.BoundWrite.{BoundWrite}
use Rattle.cas_effects.specs.declared.refusal.Refusal.{Refusal}
use Rattle.cas_changes.specs.Saying.{Saying, nothing}
use Rattle.cas_lines.specs.Lines.{Says}
use Rattle.cas_lines.specs.declared.line.Line.{Line}
use Rattle.cas_lines.specs.declared.line.Line.TheVariants as line
use Rattle.cas_render.specs.declared.reply.Reply.{Reply}
use Rattle.cas_words.specs.declared.words.ClockKind.{ClockKind}
use Rattle.cas_words.specs.declared.words.ClockKind.TheVariants as clock
use Rattle.cql_parse.specs.declared.syntax.Statement.{Statement}
use Rattle.define_laws.proofs.Telling.{defined_tables_may_be_told, defined_columns_may_be_told}
use Rattle.cas_lasting.specs.History.{History, Changes, Does, IsReading, ReadsAt, WritesAt}
use Rattle.cas_sessions.specs.Calls.{StandsAt, IsSpelled}
use Rattle.cas_lasting.specs.Inner.Definitions.{IsTold}
use Rattle.cas_lasting.specs.Nodes.{State, StandsFor, Moves, OrWant}

-- ---- moves

-- what follows one way follows another
pub moves_as : (s t : State) (d e : Disk) (P Q : History → History → Type 0) → Moves P s t d e → ((h after : History) → StandsFor h s → P h after → Q h after) → Moves Q s t d e
moves_as s t d e P Q moves so h stands =
    let (after, follows, goes) = moves h stands in
    (after, so h after stands follows, goes)

-- ---- the clock

-- a statement isn't kept from being performed at the seconds that the manual clock was set to
pub stands_at : (kind : ClockKind) (seconds at : ℤ) → at ≡ seconds → StandsAt kind seconds at
stands_at clock.Manual seconds at same = same
stands_at clock.System seconds at same = tt

-- the same seconds, called otherwise
pub stands_as : (kind : ClockKind) (a b at : ℤ) → b ≡ a → StandsAt kind a at → StandsAt kind b at
stands_as kind a b at same stands = subst (λ k. StandsAt kind k at) (sym same) stands

reading_at : (kind : ClockKind) (Gives : ℤ → Type 0) (seconds at reading : ℤ) → StandsAt kind seconds at → IsReading kind Gives seconds reading
    → IsReading kind Gives at reading
reading_at clock.Manual Gives seconds at reading same given = subst (λ n. IsReading clock.Manual Gives n reading) (sym same) given
reading_at clock.System Gives seconds at reading same given = given

-- ---- a statement that was bound

module _ (kind : ClockKind) (Gives : ℤ → Type 0) where
  at_clock : (s : State) (seconds at reading n : ℤ) (h : History) → StandsFor h s → StandsAt kind seconds s.clock → at ≡ seconds → IsReading kind Gives at reading
      → n ≡ reading → IsReading kind Gives h.clock n
  at_clock s seconds at reading n h stands there same given is =
      subst (λ k. IsReading kind Gives h.clock k) (sym is)
      (subst (λ c. IsReading kind Gives c reading) (sym stands.clock)
      (reading_at kind Gives seconds s.clock reading there (subst (λ c. IsReading kind Gives c reading) same given)))

  pub does_read : (s t : State) (d e : Disk) (seconds at reading n : ℤ) (b : Bound) (q : BoundRead) (r : Reply)
      → Moves (λ h after. ReadsAt h n q r after) s t d e → b ≡ bound.Read q
      → StandsAt kind seconds s.clock → at ≡ seconds → IsReading kind Gives at reading → n ≡ reading → Moves (λ h after. Does kind Gives h (Ok b) r after) s t d e
  does_read s t d e seconds at reading n b q r moves of there same given is h stands =
      let (after, so, goes) = moves h stands in
      (after, subst (λ x. Does kind Gives h (Ok x) r after) (sym of) (n, at_clock s seconds at reading n h stands there same given is, so), goes)

  pub does_write : (s t : State) (d e : Disk) (seconds at reading n : ℤ) (b : Bound) (w : BoundWrite) (r : Reply) → Moves (λ h after. WritesAt h n w r after) s t d e
      → b ≡ bound.Write w → StandsAt kind seconds s.clock → at ≡ seconds → IsReading kind Gives at reading → n ≡ reading
      → Moves (λ h after. Does kind Gives h (Ok b) r after) s t d e
  does_write s t d e seconds at reading n b w r moves of there same given is h stands =
      let (after, so, goes) = moves h stands in
      (after, subst (λ x. Does kind Gives h (Ok x) r after) (sym of) (n, at_clock s seconds at reading n h stands there same given is, so), goes)

  -- a statement that was bound to this is performed, and memory didn't run out before
  pub does_bound : (s t : State) (d e : Disk) (m : Result Bound Refusal) (b : Bound) (r : Reply) → Moves (λ h after. Does kind Gives h (Ok b) r after) s t d e → m ≡ Ok b
      → Moves (λ h after. OrWant r (λ h after. Does kind Gives h m r after) h after) s t d e
  does_bound s t d e m b r moves is h stands =
      let (after, so, goes) = moves h stands in
      (after, inr (subst (λ k. Does kind Gives h k r after) (sym is) so), goes)

  pub does_create : (s t : State) (d e : Disk) (b : Bound) (x : TableSchema) (r : Reply) → b ≡ bound.Create x
      → Moves (λ h after. Changes h (Schema x) (bound.Create x) r after) s t d e → Moves (λ h after. Does kind Gives h (Ok b) r after) s t d e
  does_create s t d e b x r of moves = subst (λ y. Moves (λ h after. Does kind Gives h (Ok y) r after) s t d e) (sym of) moves

  pub does_alter : (s t : State) (d e : Disk) (b : Bound) (a : Addition) (r : Reply) → b ≡ bound.Alter a
      → Moves (λ h after. Changes h (AddColumns a.table a.columns) (bound.Alter a) r after) s t d e → Moves (λ h after. Does kind Gives h (Ok b) r after) s t d e
  does_alter s t d e b a r of moves = subst (λ y. Moves (λ h after. Does kind Gives h (Ok y) r after) s t d e) (sym of) moves

-- ---- a text

pub says_spelled : (text : List ℕ) (l : Line) (x : Statement) → Says text l → l ≡ line.Statement x → IsSpelled x
says_spelled text l x says is =
    let so : Says text (line.Statement x) = subst (λ l. Says text l) is says in
    (text, so.1.0, so.1.2)

-- ---- what a statement defines may be told to the manifest

bound_is_told : (shards : ℕ) (tables : List TableSchema) (x : Statement) (b : Bound) → IsSpelled x → AreTables tables → meaning shards tables x ≡ Ok b
    → AreTables (tables_after tables b) → IsTold tables b
bound_is_told shards tables x (bound.Create t) (source, tokens, means) are is kept = record {
  tells = λ said same some. defined_tables_may_be_told source tokens x means shards tables t is said same some;
  kept = kept;
}
bound_is_told shards tables x (bound.Alter a) (source, tokens, means) are is kept =
    let told = λ (said : Saying) (same : said.tables ≡ tables) (some : 1 ≤ said.shards).
    defined_columns_may_be_told source tokens x means shards tables a are is said same some in
    ((told (record nothing { shards = 1; tables = tables }) refl (omega arith)).0, record { tells = λ said same some. (told said same some).1; kept = kept })
bound_is_told shards tables x (bound.Write w) spelled are is kept = tt
bound_is_told shards tables x (bound.Read r) spelled are is kept = tt

-- where they are also called otherwise
pub bound_told : (shards : ℕ) (tables same : List TableSchema) (x : Statement) (b : Bound) → same ≡ tables → IsSpelled x → AreTables tables → meaning shards same x ≡ Ok b
    → AreTables (tables_after same b) → IsTold tables b
bound_told shards tables same x b e spelled are is kept =
    bound_is_told shards tables x b spelled are (subst (λ ts. meaning shards ts x ≡ Ok b) e is) (subst (λ ts. AreTables (tables_after ts b)) e kept)
