-- A run whose flushes fit ends well, if its other lines do.
use Rattle.std.proofs.Common.{◌≡◌, inl, inr, ℕ, ℤ, Bool, true, false, ◌||◌, List, [], ◌∷◌, Option, None, Some, IsSome, Result, Ok, refl, sym, ap, ◌∙◌, subst}
use Rattle.std.proofs.lemmas.Bool.{true≢false}
use Rattle.std.specs.Prelude.{fold, if◌then◌else◌}
use Rattle.std.specs.Str.Lines.{lines}
use Rattle.cas_types.specs.declared.schema.TableSchema.{TableSchema}
use Rattle.cas_lines.specs.Lines.{Says}
use Rattle.cas_lines.specs.declared.line.Line.{Line}
use Rattle.cas_lines.specs.declared.line.Line.TheVariants as line
use Rattle.cas_render.specs.declared.reply.Failure.TheVariants as failure
use Rattle.cas_render.specs.declared.reply.Reply.{Reply}
use Rattle.cas_render.specs.declared.reply.Reply.TheVariants as reply
use Rattle.cas_terms.specs.Columns.{table_named}
use Rattle.cas_words.specs.declared.words.ClockKind.{ClockKind}
use Rattle.cql_parse.specs.declared.syntax.TableName.{TableName}
use Rattle.cas_sessions.specs.declared.answer.Fault.{Fault}
use Rattle.cas_sessions.specs.Flushes.{FlushesNamed}
use Rattle.cas_lasting.specs.History.{History, tells_want}
use Rattle.cas_node.specs.declared.cause.Cause.{Cause}
use Rattle.cas_node.specs.declared.cause.Cause.TheVariants as cause
use Rattle.cas_node.specs.declared.upshot.Upshot.{Upshot}
use Rattle.cas_node.specs.Inner.Turns.{IsToldSo}
use Rattle.cas_node.specs.Laws.{FitsFiles, FlushFinds, FlushesAreGranted, FlushesEndWell, FlushesFit, LineIsGranted, LinesAreGranted, StaysWell}
use Rattle.cas_node.specs.Lines.{Answered, Answers, Runs, is_starved, lists_any, reply_of_flush, says_want}
use Rattle.cas_node.specs.Ran.{GoodOrMem, reply_cause, upshot_cause, worse, worst}
use Rattle.cas_node.proofs.MemtablesFit.{goes_on}
use Rattle.cas_node.proofs.OneOutcome.{fed}
use Rattle.cas_node.proofs.SessionLemmas.{upshot_told}
use Rattle.cas_node.proofs.Stopping as stopping
use Rattle.cas_node.proofs.Stopping.{Counts}
use Rattle.cas_node.proofs.WellDisk.{first_stays, rest_stays, table_flushed}

-- ---- want of memory is told before all else that lines say

-- what lines say, with that of more of them
abbrev with_more : Cause → List Upshot → Cause
with_more c os = fold (λ b o. worse b (upshot_cause o)) c os

want_first : (c : Cause) → IsToldSo c → (worse c cause.Mem ≡ cause.Mem) × (worse cause.Mem c ≡ cause.Mem)
want_first cause.Good x = (refl, refl)
want_first cause.Refused x = (refl, refl)
want_first cause.Mem x = (refl, refl)
want_first cause.Write x = absurd x
want_first cause.Words x = absurd x
want_first cause.Read x = absurd x
want_first cause.Disk x = absurd x
want_first (cause.Bad name at) x = (refl, refl)
want_first (cause.TooLong taken) x = absurd x

want_stays : (os : List Upshot) → with_more cause.Mem os ≡ cause.Mem
want_stays [] = refl
want_stays (o ∷ os) = ap (λ c. with_more c os) ((want_first (upshot_cause o) (upshot_told o)).1) ∙ want_stays os

then_good : (c : Cause) (os : List Upshot) → GoodOrMem c → GoodOrMem (worst os) → GoodOrMem (with_more (worse cause.Good c) os)
then_good c os (inl e) rest = subst (λ k. GoodOrMem (with_more (worse cause.Good k) os)) (sym e) rest
then_good c os (inr e) rest = inr (ap (λ k. with_more (worse cause.Good k) os) e ∙ want_stays os)

reply_want : (r : Reply) → tells_want r ≡ true → reply_cause (Some r) ≡ cause.Mem
reply_want reply.Done e = absurd (true≢false (sym e))
reply_want (reply.Wrote number) e = absurd (true≢false (sym e))
reply_want (reply.Rows rows shard front now) e = absurd (true≢false (sym e))
reply_want (reply.Flushed files) e = absurd (true≢false (sym e))
reply_want (reply.Verified files) e = absurd (true≢false (sym e))
reply_want (reply.Status listed) e = absurd (true≢false (sym e))
reply_want (reply.Refused why) e = absurd (true≢false (sym e))
reply_want (reply.Failed failure.Memory) e = refl
reply_want (reply.Failed failure.Stopped) e = absurd (true≢false (sym e))
reply_want (reply.Failed failure.Disk) e = absurd (true≢false (sym e))
reply_want (reply.Failed failure.Read) e = absurd (true≢false (sym e))
reply_want (reply.Failed (failure.Block n at)) e = absurd (true≢false (sym e))

-- a line that was starved says so
starved_wants : (o : Upshot) → is_starved o ≡ true → upshot_cause o ≡ cause.Mem
starved_wants o is = by o.reply o.want is (upshot_told (record { reply = o.reply; want = false }))
  where
    by_reply : (r : Option Reply) → says_want r ≡ true → reply_cause r ≡ cause.Mem
    by_reply None e = absurd (true≢false (sym e))
    by_reply (Some r) e = reply_want r e

    plain : (b : Bool) → b || false ≡ true → b ≡ true
    plain true e = refl
    plain false e = e

    by : (r : Option Reply) (w : Bool) → says_want r || w ≡ true → IsToldSo (reply_cause r) → (if w then worse (reply_cause r) cause.Mem else reply_cause r) ≡ cause.Mem
    by r true e told = (want_first (reply_cause r) told).0
    by r false e told = by_reply r (plain (says_want r) e)

-- ---- a line

module _ (kind : ClockKind) (Gives : ℤ → Type 0) where
  -- a flush of a table that is there, where it fits
  named_flushed : (h : History) (name : TableName) (table : Option TableSchema) → table_named h.tables name ≡ table → IsSome table → (r : Result (List ℕ) Fault) (mid : History)
      → FlushesNamed h table r mid → tells_want (reply_of_flush r) ≡ false → ((t : TableSchema) → table_named h.tables name ≡ Some t → FitsFiles h t)
      → StaysWell h.disk mid.disk → (told : List ℕ) × (r ≡ Ok told)
  named_flushed h name None named some r mid a v fit well = absurd cc
  named_flushed h name (Some t) named some r mid a v fit well = table_flushed h t r mid a v (fit t named) well

  flushed_good : (o : Upshot) (r : Result (List ℕ) Fault) (told : List ℕ) → o.reply ≡ Some (reply_of_flush r) → r ≡ Ok told → o.want ≡ false → GoodOrMem (upshot_cause o)
  flushed_good o r told replied is fed =
      let said : o.reply ≡ Some (reply.Flushed told) = replied ∙ ap (λ (x : Result (List ℕ) Fault). Some (reply_of_flush x)) is in
      inl (λ i. if fed i then worse (reply_cause (said i)) cause.Mem else reply_cause (said i))

  answered_good : (h : History) (text : List ℕ) → FlushFinds FitsFiles kind Gives h text → (l : Line) → Says text l → LineIsGranted kind Gives h l → (o : Upshot) (t : History)
      → Answered kind Gives h l o t → is_starved o ≡ false → StaysWell h.disk t.disk → GoodOrMem (upshot_cause o)
  answered_good h text finds line.Blank says granted o t a v well = granted o t a well
  answered_good h text finds line.Syntax says granted o t a v well = granted o t a well
  answered_good h text finds (line.Clock n) says granted o t a v well = granted o t a well
  answered_good h text finds (line.Verify name) says granted o t a v well = granted o t a well
  answered_good h text finds line.Status says granted o t a v well = granted o t a well
  answered_good h text finds (line.Statement s) says granted o t a v well = granted o t a well
  answered_good h text finds (line.Flush name) says granted o t a v well =
      let (r, mid, replied, flushes, drops) = a in
      let quiet = fed o (reply_of_flush r) replied v in
      let (told, is) =
      named_flushed h name (table_named h.tables name) refl granted r mid flushes quiet.0 (λ x named. finds.0 name x says named)
      (first_stays h.disk mid.disk t.disk (stopping.dropped_counts (lists_any r) o.want mid t drops) well) in
      flushed_good o r told replied is quiet.1

  line_good : (h : History) (text : List ℕ) → FlushFinds FitsFiles kind Gives h text → ((l : Line) → Says text l → LineIsGranted kind Gives h l) → (o : Upshot) (t : History)
      → Answers kind Gives h text o t → is_starved o ≡ false → StaysWell h.disk t.disk → GoodOrMem (upshot_cause o)
  line_good h text finds granted o t (inl x) v well = absurd (true≢false (ap is_starved (sym x.0) ∙ v))
  line_good h text finds granted o t (inr x) v well = answered_good h text finds x.0 x.1 (granted x.0 x.1) o t x.2 v well

  -- ---- a run

  pub run_good : (h : History) (ls : List (List ℕ)) → FlushesFit kind Gives h ls → LinesAreGranted kind Gives h ls → (os : List Upshot) (final : History)
      → Runs kind Gives h ls os final → StaysWell h.disk final.disk → GoodOrMem (worst os)
  run_good h [] fits granted [] final runs well = inl refl
  run_good h [] fits granted (o ∷ os) final runs well = absurd runs
  run_good h (l ∷ ls) fits granted [] final runs well = absurd runs
  run_good h (l ∷ ls) fits granted (o ∷ os) final runs well =
      let (mid, answers, rest) = runs in
      let counts : Counts h.disk mid.disk = stopping.one_line kind Gives h l o mid answers in
      let first : StaysWell h.disk mid.disk = first_stays h.disk mid.disk final.disk (stopping.all_lines kind Gives mid ls os final rest) well in
      let later : StaysWell mid.disk final.disk = rest_stays h.disk mid.disk final.disk counts well (goes_on h.disk mid.disk counts first) in
      elim (is_starved o) as (λ b. is_starved o ≡ b → GoodOrMem (with_more (worse cause.Good (upshot_cause o)) os)) [
        | true ↦ λ is. inr (ap (λ c. with_more (worse cause.Good c) os) (starved_wants o is) ∙ want_stays os)
        | false ↦ λ is.
            then_good (upshot_cause o) os (line_good h l fits.0 granted.0 o mid answers is first)
            (run_good mid ls (fits.1 o mid answers is first) (granted.1 o mid answers is first) os final rest later)
      ] refl

pub flushes_end_well : (Gives : ℤ → Type 0) → FlushesEndWell Gives
flushes_end_well Gives kind h ls fits granted upshots final runs well = run_good kind Gives h ls fits granted upshots final runs well

pub flushes_are_granted : (Gives : ℤ → Type 0) → FlushesAreGranted Gives
flushes_are_granted Gives kind h script fits granted room upshots final runs calm =
    run_good kind Gives h (lines script) fits granted upshots final runs (calm.0, calm.1, room upshots final runs calm, calm.2)
