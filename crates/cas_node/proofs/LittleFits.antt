-- Of tables as a manifest may tell them what is little fits into table files.
use Rattle.std.proofs.Common.{◌≡◌, ℕ, ℤ, suc, List, [], ◌∷◌, Some, Result, Ok, Err, IfSome, refl, sym, ap, ◌∙◌, subst}
use Rattle.std.proofs.lemmas.List.Elements.{All-from_recursion}
use Rattle.std.specs.Prelude.{slice_get}
use Rattle.std.specs.List.{AllByRecursion}
use Rattle.cas_types.specs.Limits.{IsNarrow}
use Rattle.cas_types.specs.declared.schema.TableSchema.{TableSchema}
use Rattle.cas_bind.proofs.TableLemmas.{named_holds}
use Rattle.cas_bind.specs.Meaning.{meaning}
use Rattle.cas_bind.specs.declared.bound.Bound.{Bound}
use Rattle.cas_bind.specs.declared.bound.Bound.TheVariants as bound
use Rattle.cas_effects.specs.declared.effect.BoundWrite.{BoundWrite}
use Rattle.cas_effects.specs.declared.refusal.Refusal.{Refusal}
use Rattle.cas_lines.specs.declared.line.Line.TheVariants as line
use Rattle.cas_opening.proofs.Saids.{sound}
use Rattle.cas_render.specs.declared.reply.Reply.{Reply}
use Rattle.cas_render.specs.declared.reply.Reply.TheVariants as reply
use Rattle.cas_terms.specs.Columns.{table_named}
use Rattle.cas_words.specs.declared.words.ClockKind.{ClockKind}
use Rattle.cql_parse.specs.declared.syntax.TableName.{TableName}
use Rattle.cas_lasting.specs.History.{History}
use Rattle.cas_lasting.specs.Laws.{LittleIsNeverTooMuch}
use Rattle.cas_sessions.proofs.Answering.{says_spelled}
use Rattle.cas_node.specs.Laws.{AreSaid, FindsBehind, FitsFiles, FlushFinds, IsLittle, LittleFits, LittleFlushesFit}
use Rattle.cas_node.proofs.SaidStay.{done_so, said_stay}

-- ---- one table

-- a table has its place as its number, and few columns
its_place : (h : History) → AreSaid h → (table : ℕ) (t : TableSchema) → slice_get h.tables table ≡ Some t → (t.number ≡ table) × IsNarrow t.columns
its_place h said table t there =
    (sound said.entries said.follow).tables table t (subst (λ (ts : List TableSchema). slice_get ts table ≡ Some t) (sym said.tables_are) there)

at_its_place : (h : History) → AreSaid h → (table : ℕ) (t : TableSchema) → slice_get h.tables table ≡ Some t → slice_get h.tables t.number ≡ Some t
at_its_place h said table t there = ap (slice_get h.tables) (its_place h said table t there).0 ∙ there

all_places : (P : TableSchema → Type 0) (ts : List TableSchema) → ((i : ℕ) (t : TableSchema) → slice_get ts i ≡ Some t → P t) → AllByRecursion P ts
all_places P [] each = tt
all_places P (t ∷ ts) each = (each 0 t refl, all_places P ts (λ i u there. each (suc i) u there))

-- so it is of one that is named
pub named_there : (h : History) → AreSaid h → (name : TableName) (t : TableSchema) → table_named h.tables name ≡ Some t → slice_get h.tables t.number ≡ Some t
named_there h said name t named =
    subst (λ o. IfSome o Placed) named
    (named_holds Placed h.tables name (All-from_recursion Placed h.tables (all_places Placed h.tables (at_its_place h said))))
  where
    Placed : TableSchema → Type 0
    Placed u = slice_get h.tables u.number ≡ Some u

pub little_fits : LittleIsNeverTooMuch → LittleFits
little_fits never h table t said there little =
    let its : (t.number ≡ table) × IsNarrow t.columns = its_place h said table t there in
    record {
      live = little.live;
      numbers = little.numbers;
      no_more = λ n over. never t n (h.unflushed n t.number) (record { narrow = its.1; may = over.0; short = little.short n }) over.1;
    }

-- ---- lines

module _ (never : LittleIsNeverTooMuch) where
  full_fits : (w : BoundWrite) (r : Reply) (after : History) → AreSaid after → FindsBehind IsLittle (Ok (bound.Write w)) r after
      → FindsBehind FitsFiles (Ok (bound.Write w)) r after
  full_fits w (reply.Wrote number) after said finds = λ full t there. little_fits never after w.table t said there (finds full t there)
  full_fits w reply.Done after said finds = tt
  full_fits w (reply.Rows rows shard front now) after said finds = tt
  full_fits w (reply.Flushed files) after said finds = tt
  full_fits w (reply.Verified files) after said finds = tt
  full_fits w (reply.Status tables) after said finds = tt
  full_fits w (reply.Refused why) after said finds = tt
  full_fits w (reply.Failed f) after said finds = tt

  behind_fits : (b : Result Bound Refusal) (r : Reply) (after : History) → AreSaid after → FindsBehind IsLittle b r after → FindsBehind FitsFiles b r after
  behind_fits (Err x) r after said finds = tt
  behind_fits (Ok (bound.Create t)) r after said finds = tt
  behind_fits (Ok (bound.Alter a)) r after said finds = tt
  behind_fits (Ok (bound.Write w)) r after said finds = full_fits w r after said finds
  behind_fits (Ok (bound.Read q)) r after said finds = tt

  line_fits : (kind : ClockKind) (Gives : ℤ → Type 0) (h : History) (text : List ℕ) → AreSaid h → FlushFinds IsLittle kind Gives h text
      → FlushFinds FitsFiles kind Gives h text
  line_fits kind Gives h text said finds = (
    λ name t says named. little_fits never h t.number t said (named_there h said name t named) (finds.0 name t says named),
    λ s says answer after does.
        behind_fits (meaning h.limits.shards h.tables s) answer after
        (done_so kind Gives h s (says_spelled text (line.Statement s) s says refl) said (meaning h.limits.shards h.tables s) refl answer after does)
        (finds.1 s says answer after does),
  )

  pub little_flushes_fit : (Gives : ℤ → Type 0) → LittleFlushesFit Gives
  little_flushes_fit Gives kind h [] said finds = tt
  little_flushes_fit Gives kind h (l ∷ ls) said finds = (
    line_fits kind Gives h l said finds.0,
    λ o after answers fed well.
        little_flushes_fit Gives kind after ls (said_stay Gives kind h after (l ∷ []) (o ∷ []) said (after, answers, refl)) (finds.1 o after answers fed well),
  )
