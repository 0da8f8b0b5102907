-- A run calls a table file bad only where it is bad for a query, or was found bad.
use Rattle.std.proofs.Common.{◌≡◌, ◌⊎◌, inl, inr, ⊎_elim, ℕ, ℤ, List, [], ◌∷◌, ◌++◌, length, Bool, None, true, false, Option, Some, Result, Ok, Err, sym, ap, subst}
use Rattle.std.specs.Prelude.{if◌then◌else◌, ◌||◌}
use Rattle.std.specs.List.{fold}
use Rattle.cas_types.specs.declared.schema.TableSchema.{TableSchema}
use Rattle.std.proofs.Math.Logic.{∥∥₁_map}
use Rattle.cas_disk.specs.declared.name.Name.{Name}
use Rattle.cas_disk.specs.declared.name.Name.TheVariants as file
use Rattle.cas_bounds.specs.declared.cuts.Slice.{Slice}
use Rattle.cas_laws.specs.Given.{Has}
use Rattle.cas_atoms.specs.declared.atom.Mutation.{Mutation}
use Rattle.cas_bind.specs.Meaning.{meaning}
use Rattle.cas_bind.specs.declared.bound.Bound.{Bound}
use Rattle.cas_bind.specs.declared.bound.Bound.TheVariants as bound
use Rattle.cas_bind.specs.declared.bound.BoundRead.{BoundRead}
use Rattle.cas_changes.specs.declared.entry.Entry.{Entry as ManifestEntry}
use Rattle.cas_effects.specs.declared.refusal.Refusal.{Refusal}
use Rattle.cas_lines.specs.declared.line.Line.{Line}
use Rattle.cas_lines.specs.declared.line.Line.TheVariants as line
use Rattle.cas_render.specs.declared.reply.Failure.TheVariants as failure
use Rattle.cas_render.specs.declared.reply.Reply.{Reply}
use Rattle.cas_render.specs.declared.reply.Reply.TheVariants as reply
use Rattle.cas_render.specs.declared.reply.Verdict.{Verdict}
use Rattle.cas_shard.specs.declared.entry.Entry.{Entry}
use Rattle.cas_shard.specs.Shards.{ShardHistory}
use Rattle.cas_shard.specs.declared.answers.Look.{Look}
use Rattle.cas_sstread.specs.Loading.{Held}
use Rattle.cas_stored.specs.Reading.{IsBadFile}
use Rattle.cas_terms.specs.Columns.{table_named}
use Rattle.cas_view.specs.Views.{File}
use Rattle.cas_words.specs.declared.words.ClockKind.{ClockKind}
use Rattle.cas_words.specs.declared.words.ClockKind.TheVariants as clock
use Rattle.cas_sessions.specs.declared.answer.Fault.{Fault}
use Rattle.cas_sessions.specs.declared.answer.Fault.TheVariants as fault
use Rattle.cas_sessions.specs.Flushes.{FlushesNamed, FlushesTable}
use Rattle.cas_lasting.specs.History.{History, DiskState, Takes, Defines, Shows, Does, rows_reply}
use Rattle.cas_sessions.specs.Verifying.{VerifiesNamed, table_files}
use Rattle.cas_node.specs.declared.cause.Cause.{Cause}
use Rattle.cas_node.specs.declared.cause.Cause.TheVariants as cause
use Rattle.cas_node.specs.declared.upshot.Upshot.{Upshot}
use Rattle.cas_node.specs.Lines.{Answered, Answers, Runs, SetsClock, reply_of_flush, reply_of_verify, replied}
use Rattle.cas_node.specs.Ran.{Ended, IfBad, IsBadForOne, RanFrom, Stop, at_the_end, at_the_sink, for_memory, has_risen, reply_cause, upshot_cause, with_faults, worse, worst}
use Rattle.cas_node.proofs.Stopping.{AreMore, one_line}
use Rattle.cas_node.proofs.Verified.{found_bad, in_some_shard}

pub of_both : (P : Cause → Type 0) (b : Bool) (x y : Cause) → P x → P y → P (if b then y else x)
of_both P true x y p q = q
of_both P false x y p q = p

abbrev IsSo : (ℕ → ℕ → List (File Held)) → Cause → Type 0
IsSo files why = IfBad why (IsBadForOne files)

-- ---- a reply

module _ (P : Name → ℕ → Type 0) where
  taken : (segment : ℕ) (m : Mutation) (x : Entry) (d : DiskState) (r : Reply) (entries : List Entry) (e : DiskState) → Takes segment m x d r entries e → IfBad (reply_cause (Some r)) P
  taken segment m x d reply.Done entries e t = absurd t
  taken segment m x d (reply.Wrote number) entries e t = tt
  taken segment m x d (reply.Rows rows shard front now) entries e t = absurd t
  taken segment m x d (reply.Flushed files) entries e t = absurd t
  taken segment m x d (reply.Verified files) entries e t = absurd t
  taken segment m x d (reply.Status tables) entries e t = absurd t
  taken segment m x d (reply.Refused why) entries e t = tt
  taken segment m x d (reply.Failed failure.Memory) entries e t = tt
  taken segment m x d (reply.Failed failure.Stopped) entries e t = tt
  taken segment m x d (reply.Failed failure.Disk) entries e t = tt
  taken segment m x d (reply.Failed failure.Read) entries e t = absurd t
  taken segment m x d (reply.Failed (failure.Block n at)) entries e t = absurd t

  defined : (x : ManifestEntry) (old new : List TableSchema) (d : DiskState) (r : Reply) (tables : List TableSchema) (e : DiskState) → Defines x old new d r tables e
      → IfBad (reply_cause (Some r)) P
  defined x old new d reply.Done tables e t = tt
  defined x old new d (reply.Wrote number) tables e t = absurd t
  defined x old new d (reply.Rows rows shard front now) tables e t = absurd t
  defined x old new d (reply.Flushed files) tables e t = absurd t
  defined x old new d (reply.Verified files) tables e t = absurd t
  defined x old new d (reply.Status listed) tables e t = absurd t
  defined x old new d (reply.Refused why) tables e t = tt
  defined x old new d (reply.Failed failure.Memory) tables e t = tt
  defined x old new d (reply.Failed failure.Stopped) tables e t = tt
  defined x old new d (reply.Failed failure.Disk) tables e t = tt
  defined x old new d (reply.Failed failure.Read) tables e t = absurd t
  defined x old new d (reply.Failed (failure.Block n at)) tables e t = absurd t

-- a flush blames no file
flushed : (P : Name → ℕ → Type 0) (h : History) (t : TableSchema) (r : Result (List ℕ) Fault) (after : History) → FlushesTable h t r after
    → IfBad (reply_cause (Some (reply_of_flush r))) P
flushed P h t (Ok told) after a = tt
flushed P h t (Err (fault.Stopped first)) after a = tt
flushed P h t (Err (fault.Refused why)) after a = tt
flushed P h t (Err (fault.Disk number)) after a = tt
flushed P h t (Err fault.Read) after a = tt
flushed P h t (Err (fault.BadBlock number at)) after a = absurd a.5.1
flushed P h t (Err fault.Mem) after a = tt

named : (P : Name → ℕ → Type 0) (h : History) (o : Option TableSchema) (r : Result (List ℕ) Fault) (after : History) → FlushesNamed h o r after
    → IfBad (reply_cause (Some (reply_of_flush r))) P
named P h None r after a = subst (λ (x : Result (List ℕ) Fault). IfBad (reply_cause (Some (reply_of_flush x))) P) (sym a.0) tt
named P h (Some t) r after a = flushed P h t r after a

-- a check blames a file that it found bad
verified : (h : History) (o : Option TableSchema) (r : Result (List Verdict) Fault) (after : History) → VerifiesNamed h o r after
    → IsSo h.disk.files (reply_cause (Some (reply_of_verify r)))
verified h None r after a = subst (λ (x : Result (List Verdict) Fault). IsSo h.disk.files (reply_cause (Some (reply_of_verify x)))) (sym a.0) tt
verified h (Some t) (Ok vs) after a =
    found_bad (IsBadForOne h.disk.files) (table_files h.disk.files (length h.shards) t.number) vs
    (λ f number at has is found.
    let there = in_some_shard h.disk.files (length h.shards) t.number f has in
    inr (there.0, t.number, (f, there.1, is, found)))
    a.2
verified h (Some t) (Err (fault.Refused why)) after a = tt
verified h (Some t) (Err (fault.Stopped first)) after a = tt
verified h (Some t) (Err (fault.Disk number)) after a = tt
verified h (Some t) (Err fault.Read) after a = tt
verified h (Some t) (Err (fault.BadBlock number at)) after a = absurd a.2
verified h (Some t) (Err fault.Mem) after a = tt

never_shown : (verdicts : List Verdict) (shard : ℕ) (look : Look) → reply.Verified verdicts ≡ rows_reply shard look → ⊥
never_shown verdicts shard look e = cc

shown : (files : ℕ → ℕ → List (File Held)) (before now : ℕ) (s : ShardHistory) (reading : ℤ) (q : BoundRead) (r : Reply)
    → Shows (files q.shard q.query.table) before now s reading q r → IsSo files (reply_cause (Some r))
shown files before now s reading q reply.Done t = tt
shown files before now s reading q (reply.Wrote number) t = tt
shown files before now s reading q (reply.Rows rows shard front at) t = tt
shown files before now s reading q (reply.Flushed numbers) t = tt
shown files before now s reading q (reply.Verified verdicts) t = absurd (never_shown verdicts q.shard _ t)
shown files before now s reading q (reply.Status tables) t = tt
shown files before now s reading q (reply.Refused why) t = tt
shown files before now s reading q (reply.Failed failure.Memory) t = tt
shown files before now s reading q (reply.Failed failure.Stopped) t = absurd t
shown files before now s reading q (reply.Failed failure.Disk) t = absurd t
shown files before now s reading q (reply.Failed failure.Read) t = tt
shown files before now s reading q (reply.Failed (failure.Block n at)) t = inl (q.shard, q.query, t)

-- ---- more files

pub has_front : {X : Type 0} (xs ys : List X) (x : X) → Has xs x → Has (xs ++ ys) x
has_front [] ys x has = absurd has
has_front (y ∷ xs) ys x (inl same) = inl same
has_front (y ∷ xs) ys x (inr more) = inr (has_front xs ys x more)

pub has_either : {X : Type 0} (xs ys : List X) (x : X) → Has (xs ++ ys) x → Has xs x ⊎ Has ys x
has_either [] ys x has = inr has
has_either (y ∷ xs) ys x (inl same) = inl (inl same)
has_either (y ∷ xs) ys x (inr has) = ⊎_elim (λ front. inl (inr front)) (λ back. inr back) (has_either xs ys x has)

pub still_bad : (fs gs : List (File Held)) (key : List ℕ) (s : Slice) (n at : ℕ) → (more : List (File Held)) × (gs ≡ fs ++ more) → IsBadFile fs key s n at → IsBadFile gs key s n at
still_bad fs gs key s n at (more, are) bad = (bad.0, subst (λ hs. Has hs bad.0) (sym are) (has_front fs more bad.0 bad.1), bad.2)

-- a file that is bad is bad also where there are more
with_more : (fs gs : ℕ → ℕ → List (File Held)) → AreMore fs gs → (why : Cause) → IsSo fs why → IsSo gs why
with_more fs gs more cause.Good so = tt
with_more fs gs more cause.Words so = tt
with_more fs gs more cause.Refused so = tt
with_more fs gs more cause.Read so = tt
with_more fs gs more cause.Write so = tt
with_more fs gs more cause.Disk so = tt
with_more fs gs more cause.Mem so = tt
with_more fs gs more (cause.TooLong taken) so = tt
with_more fs gs more (cause.Bad (file.Table number) at) (inl so) =
    inl (so.0, so.1, ∥∥₁_map so.2 (still_bad (fs so.0 so.1.table) (gs so.0 so.1.table) so.1.key so.1.slice number at ((more so.0 so.1.table).0, (more so.0 so.1.table).1)))
with_more fs gs more (cause.Bad (file.Table number) at) (inr so) =
    let (shard, table, (f, has, is, found)) = so in
    let (others, are, stand) = more shard table in
    inr (shard, table, (f, subst (λ hs. Has hs f) (sym are) (has_front (fs shard table) others f has), is, found))
with_more fs gs more (cause.Bad file.Manifest at) so = so
with_more fs gs more (cause.Bad (file.Log number) at) so = so
with_more fs gs more (cause.Bad (file.Import number) at) so = so

-- ---- a line

-- a reply that tells nothing of a file
quiet : (files : ℕ → ℕ → List (File Held)) (r q : Option Reply) → r ≡ q → IsSo files (reply_cause q) → IsSo files (reply_cause r)
quiet files r q is so = subst (λ (x : Option Reply). IsSo files (reply_cause x)) (sym is) so

-- and so what comes of a line
of_upshot : (files : ℕ → ℕ → List (File Held)) (o : Upshot) → IsSo files (reply_cause o.reply) → IsSo files (upshot_cause o)
of_upshot files o so = of_both (IsSo files) o.want (reply_cause o.reply) (worse (reply_cause o.reply) cause.Mem) so (of_both (IsSo files) _ (reply_cause o.reply) cause.Mem so tt)

its_reply : (o : Upshot) (r : Option Reply) → o ≡ replied r → o.reply ≡ r
its_reply o r is = ap (λ (p : Upshot). p.reply) is

module _ (kind : ClockKind) (Gives : ℤ → Type 0) where
  deed : (h : History) (m : Result Bound Refusal) (r : Reply) (t : History) → Does kind Gives h m r t → IsSo h.disk.files (reply_cause (Some r))
  deed h (Err x) r t a = quiet h.disk.files (Some r) _ (ap (λ (k : Reply). Some k) a.0) tt
  deed h (Ok (bound.Create x)) r t a = defined (IsBadForOne h.disk.files) _ _ _ _ r a.0 a.1 a.2
  deed h (Ok (bound.Alter x)) r t a = defined (IsBadForOne h.disk.files) _ _ _ _ r a.0 a.1 a.2
  deed h (Ok (bound.Write w)) r t a = taken (IsBadForOne h.disk.files) _ _ _ _ r a.2.0 a.2.1 a.2.2
  deed h (Ok (bound.Read q)) r t a = shown h.disk.files _ _ _ _ q r a.2.2

  clock_set : (k : ClockKind) (h : History) (n : ℤ) (r : Reply) (t : History) → SetsClock k h n r t → IsSo h.disk.files (reply_cause (Some r))
  clock_set clock.Manual h n r t s = quiet h.disk.files (Some r) _ (ap (λ (k : Reply). Some k) s.0) tt
  clock_set clock.System h n r t s = quiet h.disk.files (Some r) _ (ap (λ (k : Reply). Some k) s.0) tt

  answered : (h : History) (l : Line) (o : Upshot) (t : History) → Answered kind Gives h l o t → IsSo h.disk.files (reply_cause o.reply)
  answered h line.Blank o t a = quiet h.disk.files o.reply _ (its_reply o _ a.0) tt
  answered h line.Syntax o t a = quiet h.disk.files o.reply _ (its_reply o _ a.0) tt
  answered h (line.Clock n) o t a = quiet h.disk.files o.reply _ (its_reply o _ a.1) (clock_set kind h n a.0 t a.2)
  answered h (line.Flush name) o t a = quiet h.disk.files o.reply _ a.2 (named (IsBadForOne h.disk.files) h (table_named h.tables name) a.0 a.1 a.3)
  answered h (line.Verify name) o t a = quiet h.disk.files o.reply _ (its_reply o _ a.1) (verified h (table_named h.tables name) a.0 t a.2)
  answered h line.Status o t a = quiet h.disk.files o.reply _ (its_reply o _ a.0) tt
  answered h (line.Statement s) o t a = quiet h.disk.files o.reply _ a.2 (deed h (meaning h.limits.shards h.tables s) a.0 a.1 a.3)

  told : (h : History) (text : List ℕ) (o : Upshot) (t : History) → Answers kind Gives h text o t → IsSo h.disk.files (upshot_cause o)
  told h text o t (inl x) = of_upshot h.disk.files o (quiet h.disk.files o.reply _ (its_reply o _ x.0) tt)
  told h text o t (inr x) = of_upshot h.disk.files o (answered h x.0 o t x.2)

  -- ---- a run

  all_told : (h : History) (ls : List (List ℕ)) (os : List Upshot) (t : History) (why : Cause) → Runs kind Gives h ls os t → IsSo h.disk.files why
      → IsSo t.disk.files (fold (λ c o. worse c (upshot_cause o)) why os)
  all_told h [] [] t why x so = subst (λ (k : History). IsSo k.disk.files why) (sym x) so
  all_told h [] (o ∷ os) t why x so = absurd x
  all_told h (l ∷ ls) [] t why x so = absurd x
  all_told h (l ∷ ls) (o ∷ os) t why x so =
      all_told x.0 ls os t (worse why (upshot_cause o)) x.2
      (with_more h.disk.files x.0.disk.files (one_line kind Gives h l o x.0 x.1).files (worse why (upshot_cause o))
      (of_both (IsSo h.disk.files) _ why (upshot_cause o) so (told h l o x.0 x.1)))

  ended : (files : ℕ → ℕ → List (File Held)) (s : Stop) (rest : List (List ℕ)) (old new : Option (List ℕ)) (upshots : List Upshot) (why : Cause)
      → Ended s rest old new upshots why → IsSo files (worst upshots) → IsSo files why
  ended files at_the_end rest old new upshots why e so = subst (IsSo files) (sym e.told) so
  ended files at_the_sink rest old new upshots why e so = subst (IsSo files) (sym e.told) (of_both (IsSo files) _ (worst upshots) cause.Write so tt)
  ended files for_memory rest old new upshots why e so = subst (IsSo files) (sym e.told) tt

  -- where the run ends for a file, that is bad, of those that there were at its end
  pub blamed : (first : History) (script : List ℕ) (old new : Option (List ℕ)) (final : History) (by why : Cause) (before now reads : ℕ)
      → RanFrom first kind Gives script old new final by → why ≡ with_faults before now reads by → IfBad why (IsBadForOne final.disk.files)
  blamed first script old new final by why before now reads ran is =
      let files = final.disk.files in
      let at_end : IsSo files by = ended files ran.stop ran.rest old new ran.upshots by ran.ended (all_told first ran.run ran.upshots final cause.Good ran.steps tt) in
      subst (IsSo files) (sym is)
      (of_both (IsSo files) (has_risen before now || has_risen 0 reads) by (worse by cause.Disk) at_end (of_both (IsSo files) _ by cause.Disk at_end tt))
