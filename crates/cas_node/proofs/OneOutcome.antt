-- Under the manual clock a script has one outcome.
use Rattle.std.proofs.Common.{◌≡◌, inl, inr, ℕ, ℤ, Bool, true, false, List, [], ◌∷◌, ◌++◌, length, map, flat_map, Option, Some, None, Result, Ok, Err, is_ok, refl, sym, ap, ◌∙◌, subst}
use Rattle.std.specs.Prelude.{slice_get}
use Rattle.std.specs.List.{list_any, range_with_len}
use Rattle.std.proofs.Math.Logic.{∥∥₁_elim}
use Rattle.std.proofs.lemmas.Bool.{true≢false, or_parts}
use Rattle.std.proofs.lemmas.List.{map-append}
use Rattle.std.proofs.lemmas.Option.{same_Some}
use mathlib.Core.HLevel.{⊥_prop}
use Rattle.cas_io.specs.Causes.{Rose}
use Rattle.cas_types.specs.declared.schema.TableSchema.{TableSchema}
use Rattle.cas_bind.specs.declared.bound.Bound.{Bound}
use Rattle.cas_bind.specs.declared.bound.Bound.TheVariants as bound
use Rattle.cas_bind.specs.declared.bound.BoundRead.{BoundRead}
use Rattle.cas_bind.specs.Meaning.{meaning}
use Rattle.cas_bind.specs.Tables.{tables_after}
use Rattle.cas_changes.specs.declared.entry.Change.{Change}
use Rattle.cas_changes.specs.declared.entry.Entry.{Entry as ManifestEntry}
use Rattle.cas_changes.specs.declared.entry.Entry.TheVariants.{Schema, AddColumns}
use Rattle.cas_effects.specs.declared.effect.BoundWrite.{BoundWrite}
use Rattle.cas_effects.specs.declared.refusal.Refusal.{Refusal}
use Rattle.cas_laws.specs.Given.{Has}
use Rattle.cas_lines.specs.declared.line.Line.{Line}
use Rattle.cas_lines.specs.declared.line.Line.TheVariants as line
use Rattle.cas_lines.specs.Lines.{Says}
use Rattle.cas_lines.proofs.OneLine.{one_line as says_one}
use Rattle.cas_render.specs.Listing.{status_of}
use Rattle.cas_render.specs.declared.reply.Failure.TheVariants as failure
use Rattle.cas_render.specs.declared.reply.Reply.{Reply}
use Rattle.cas_render.specs.declared.reply.Reply.TheVariants as reply
use Rattle.cas_render.specs.declared.reply.Verdict.{Verdict}
use Rattle.cas_shard.specs.declared.entry.Entry.{Entry}
use Rattle.cas_shard.specs.Shards.{ShardHistory, look_at, mutation_at}
use Rattle.cas_sstread.specs.Loading.{Held}
use Rattle.cas_terms.specs.Columns.{table_named}
use Rattle.cas_view.specs.Views.{File}
use Rattle.cas_words.specs.declared.words.ClockKind.{ClockKind}
use Rattle.cas_words.specs.declared.words.ClockKind.TheVariants as clock
use Rattle.cql_parse.specs.declared.syntax.TableName.{TableName}
use Rattle.cas_sessions.specs.declared.answer.Fault.{Fault}
use Rattle.cas_sessions.specs.declared.answer.Fault.TheVariants as fault
use Rattle.cas_sessions.specs.Dropping.{DropsSegments}
use Rattle.cas_sessions.specs.Filling.{FlushesFull, FlushesIf, FlushesIn, is_full}
use Rattle.cas_sessions.specs.Flushes.{FlushesNamed, FlushesTable}
use Rattle.cas_lasting.specs.History.{History, DiskState, Takes, Shows, Changes, Does, ReadsAt, SameFiles, WritesAt, after_read, after_write, entry_of, rows_reply, shard_at, tells_want}
use Rattle.cas_lasting.specs.Status.{file_numbers, status}
use Rattle.cas_sessions.specs.Verifying.{EndsVerified, VerifiesNamed, table_files}
use Rattle.cas_node.specs.declared.upshot.Upshot.{Upshot}
use Rattle.cas_node.specs.Lines.{Answered, Answers, DropsBehind, FlushesNone, FlushesAndDrops, IsCarriedOut, LeavesRoom, Runs, SettlesAndDrops, SettlesBehind, is_starved, is_want, lists_any, lists_one, replied, reply_of_flush, reply_of_verify, says_want}
use Rattle.cas_node.specs.Ran.{AreGood}
use Rattle.cas_node.specs.Laws.{FindsBehind, FitsFiles, FlushFinds, FlushesFit, NoFlushFits, OneOutcome, SameStore, StaysWell}
use Rattle.cas_node.proofs.Blaming.{has_front, still_bad}
use Rattle.cas_node.proofs.FlushedAlike.{Agree, agreeing, as_one, at_both, flushed_alike, on, one_alike, one_told, told_alike}
use Rattle.cas_node.proofs.Standing.{still_good}
use Rattle.cas_node.proofs.Stopping as stopping
use Rattle.cas_node.proofs.Stopping.{AreMore, Counts, IsBegun}
use Rattle.cas_node.proofs.WellDisk.{agreed, dropped_well, first_stays, full_flushed, no_true, rest_stays, settled, table_flushed}
use Rattle.cas_node.proofs.Verified.{all_good, are_good, in_some_shard, told_of}

-- ---- a disk that is well

-- no bad file is there besides
abbrev Well : DiskState → DiskState → Type 0
Well d e = StaysWell d e × AreGood e.files

-- files of flushes are good
all_well : (d e : DiskState) → Counts d e → AreGood d.files → StaysWell d e → Well d e
all_well d e counts good well = (well, still_good d.files e.files counts.files good)

good_before : (before after : ℕ → ℕ → List (File Held)) → AreMore before after → AreGood after → AreGood before
good_before before after more good = record {
  slices = λ shard number at q bad.
      good.slices shard number at q (still_bad (before shard q.table) (after shard q.table) q.key q.slice number at ((more shard q.table).0, (more shard q.table).1) bad);
  wholes = λ shard table number at found.
      let (f, has, is, bad) = found in
      let (others, are, stand) = more shard table in
      good.wholes shard table number at (f, subst (λ hs. Has hs f) (sym are) (has_front (before shard table) others f has), is, bad);
}

-- up to some disk on the way
first_well : (d e f : DiskState) → Counts e f → Well d f → Well d e
first_well d e f counts well = (first_stays d e f counts well.0, good_before e.files f.files counts.files well.1)

-- and from there to the end
rest_well : (d e f : DiskState) → Counts d e → Well d f → e.stopped ≡ false → Well e f
rest_well d e f counts well goes = (rest_stays d e f counts well.0 goes, well.1)

-- ---- what is read, where no file is bad

-- what a SELECT shows then
is_shown : (files : ℕ → ℕ → List (File Held)) (before now : ℕ) (s : ShardHistory) (a : ℤ) (x : BoundRead) (r : Reply) → Shows (files x.shard x.query.table) before now s a x r
    → tells_want r ≡ false → (Rose before now → ⊥) → AreGood files → r ≡ rows_reply x.shard (look_at a s x.query)
is_shown files before now s a x reply.Done t v none good = t
is_shown files before now s a x (reply.Wrote number) t v none good = t
is_shown files before now s a x (reply.Rows rows shard front at) t v none good = t
is_shown files before now s a x (reply.Flushed numbers) t v none good = t
is_shown files before now s a x (reply.Verified verdicts) t v none good = t
is_shown files before now s a x (reply.Status tables) t v none good = t
is_shown files before now s a x (reply.Refused why) t v none good = t
is_shown files before now s a x (reply.Failed failure.Memory) t v none good = absurd (true≢false v)
is_shown files before now s a x (reply.Failed failure.Stopped) t v none good = absurd t
is_shown files before now s a x (reply.Failed failure.Disk) t v none good = absurd t
is_shown files before now s a x (reply.Failed failure.Read) t v none good = absurd (none t.1)
is_shown files before now s a x (reply.Failed (failure.Block n at)) t v none good = absurd (∥∥₁_elim t ⊥_prop (λ bad. good.slices x.shard n at x.query bad))

-- what a check says then: each file is good
is_verified : (files : ℕ → ℕ → List (File Held)) (shards table before now : ℕ) (r : Result (List Verdict) Fault)
    → EndsVerified (table_files files shards table) before now r → tells_want (reply_of_verify r) ≡ false → (Rose before now → ⊥) → AreGood files
    → reply_of_verify r ≡ reply.Verified (all_good (table_files files shards table))
is_verified files shards table before now (Ok vs) a v none good =
    ap (λ ws. reply.Verified ws)
    (are_good (table_files files shards table) vs
    (λ f number at has is found.
    let there = in_some_shard files shards table f has in
    good.wholes there.0 table number at (f, there.1, is, found))
    a)
is_verified files shards table before now (Err (fault.Refused why)) a v none good = absurd a
is_verified files shards table before now (Err (fault.Stopped first)) a v none good = absurd a
is_verified files shards table before now (Err (fault.Disk number)) a v none good = absurd a
is_verified files shards table before now (Err fault.Read) a v none good = absurd (none a)
is_verified files shards table before now (Err (fault.BadBlock number at)) a v none good = absurd a
is_verified files shards table before now (Err fault.Mem) a v none good = absurd (true≢false v)

-- of files of the same numbers that is the same
good_numbers : (fs : List (File Held)) → all_good fs ≡ map (λ n. told_of n None) (map (λ f. f.info.number) fs)
good_numbers [] = refl
good_numbers (f ∷ fs) = ap (λ (vs : List Verdict). told_of f.info.number None ∷ vs) (good_numbers fs)

numbers_through : (at : ℕ → List (File Held)) (ns : List ℕ) → map (λ f. f.info.number) (flat_map at ns) ≡ flat_map (λ n. map (λ f. f.info.number) (at n)) ns
numbers_through at [] = refl
numbers_through at (n ∷ ns) =
    map-append (λ (f : File Held). f.info.number) (at n) (flat_map at ns) ∙ ap (λ (ks : List ℕ). map (λ f. f.info.number) (at n) ++ ks) (numbers_through at ns)

by_shard : (files : ℕ → ℕ → List (File Held)) (shards table : ℕ)
    → all_good (table_files files shards table) ≡ map (λ n. told_of n None) (flat_map (λ n. file_numbers files n table) (range_with_len 0 shards))
by_shard files shards table =
    good_numbers (table_files files shards table) ∙ ap (λ (ns : List ℕ). map (λ n. told_of n None) ns) (numbers_through (λ n. files n table) (range_with_len 0 shards))

same_good : (fs gs : ℕ → ℕ → List (File Held)) (shards table : ℕ) → file_numbers fs ≡ file_numbers gs → all_good (table_files fs shards table) ≡ all_good (table_files gs shards table)
same_good fs gs shards table same =
    by_shard fs shards table ∙ ap (λ (at : ℕ → ℕ → List ℕ). map (λ n. told_of n None) (flat_map (λ n. at n table) (range_with_len 0 shards))) same
    ∙ sym (by_shard gs shards table)

-- ---- two runs

-- both have come to one store, which goes on
record Both (t u : History) : Type 0 where
  stores : SameStore t u
  one_goes : t.disk.stopped ≡ false
  other_goes : u.disk.stopped ≡ false

-- by steps that are answered in one way
record Same {A : Type 0} (r q : A) (t u : History) : Type 0 where
  replies : r ≡ q
  both : Both t u

both_at : (t k u j : History) → t ≡ k → u ≡ j → Both k j → Both t u
both_at t k u j x y b = subst (λ i. Both i u) (sym x) (subst (Both k) (sym y) b)

keep : (c d : List Change) (p q e f : DiskState) → Agree c d p q → SameFiles p e → SameFiles q f → Agree c d e f
keep c d p q e f a x y = record {
  changes = a.changes;
  files = ap (λ (fs : ℕ → ℕ → List (File Held)). file_numbers fs) x.0 ∙ a.files ∙ sym (ap (λ (fs : ℕ → ℕ → List (File Held)). file_numbers fs) y.0);
  last_file = x.2 ∙ a.last_file ∙ sym y.2;
  live = x.3 ∙ a.live ∙ sym y.3;
}

-- of a line: what it flushes fits
abbrev LineFits : (ℤ → Type 0) → History → Line → Type 0
LineFits Gives h (line.Flush name) = (t : TableSchema) → table_named h.tables name ≡ Some t → FitsFiles h t
LineFits Gives h (line.Statement s) =
    (answer : Reply) (after : History) → Does clock.Manual Gives h (meaning h.limits.shards h.tables s) answer after
    → FindsBehind FitsFiles (meaning h.limits.shards h.tables s) answer after
LineFits Gives h line.Blank = Unit {0}
LineFits Gives h line.Syntax = Unit {0}
LineFits Gives h (line.Clock n) = Unit {0}
LineFits Gives h (line.Verify name) = Unit {0}
LineFits Gives h line.Status = Unit {0}

line_fits : (Gives : ℤ → Type 0) (h : History) (text : List ℕ) (l : Line) → Says text l → FlushFinds FitsFiles clock.Manual Gives h text → LineFits Gives h l
line_fits Gives h text line.Blank says fit = tt
line_fits Gives h text line.Syntax says fit = tt
line_fits Gives h text (line.Clock n) says fit = tt
line_fits Gives h text (line.Flush name) says fit = λ t named. fit.0 name t says named
line_fits Gives h text (line.Verify name) says fit = tt
line_fits Gives h text line.Status says fit = tt
line_fits Gives h text (line.Statement s) says fit = fit.1 s says

module _ (h : History) (c d : List Change) (p q : DiskState) (agree : Agree c d p q) where
  -- ---- a statement

  one_write : (w : BoundWrite) (a : ℤ) (xs ys : List Entry) (e f : DiskState) (r s : Reply) (t u : History)
      → Takes h.limits.segment (mutation_at a (shard_at h w.shard) w) (entry_of h (mutation_at a (shard_at h w.shard) w)) p r xs e
      → Takes h.limits.segment (mutation_at a (shard_at h w.shard) w) (entry_of h (mutation_at a (shard_at h w.shard) w)) q s ys f
      → t ≡ after_write (on h c p) w.shard a r xs e → u ≡ after_write (on h d q) w.shard a s ys f → tells_want r ≡ false → tells_want s ≡ false → Well p t.disk → Well q u.disk
      → Same r s t u
  one_write w a xs ys e f r s t u x y k j v z well good =
      let m = mutation_at a (shard_at h w.shard) w in
      let one = settled h.limits.segment m (entry_of h m) p r xs e x v (subst (Well p) (ap (λ (i : History). i.disk) k) well).0 in
      let two = settled h.limits.segment m (entry_of h m) q s ys f y z (subst (Well q) (ap (λ (i : History). i.disk) j) good).0 in
      let replies : r ≡ s = one.reply_is ∙ sym two.reply_is in
      let entries : xs ≡ ys = one.entries_are ∙ sym two.entries_are in
      let now = keep c d p q e f agree one.files two.files in
      record {
        replies = replies;
        both =
            both_at t (after_write (on h c p) w.shard a r xs e) u (after_write (on h d q) w.shard a s ys f) k j
            (record {
              stores =
                  record {
                    same = λ i. after_write (on h d q) w.shard a (replies i) (entries i) f;
                    changes = now.changes;
                    files = now.files;
                    last_file = now.last_file;
                    live = now.live;
                  };
              one_goes = one.goes;
              other_goes = two.goes;
            });
      }

  one_read : (x : BoundRead) (a : ℤ) (m n : ℕ) (r s : Reply) (t u : History) → Shows (p.files x.shard x.query.table) p.reads m (shard_at h x.shard) a x r
      → Shows (q.files x.shard x.query.table) q.reads n (shard_at h x.shard) a x s → t ≡ after_read (on h c p) x.shard a m → u ≡ after_read (on h d q) x.shard a n
      → tells_want r ≡ false → tells_want s ≡ false → Well p t.disk → Well q u.disk → Same r s t u
  one_read x a m n r s t u k j f g v z well good =
      let here : Well p (record p { reads = m }) = subst (Well p) (ap (λ (i : History). i.disk) f) well in
      let there : Well q (record q { reads = n }) = subst (Well q) (ap (λ (i : History). i.disk) g) good in
      record {
        replies =
            is_shown p.files p.reads m (shard_at h x.shard) a x r k v here.0.3 here.1
            ∙ sym (is_shown q.files q.reads n (shard_at h x.shard) a x s j z there.0.3 there.1);
        both =
            both_at t (after_read (on h c p) x.shard a m) u (after_read (on h d q) x.shard a n) f g
            (record {
              stores = record { same = refl; changes = agree.changes; files = agree.files; last_file = agree.last_file; live = agree.live };
              one_goes = well.0.0;
              other_goes = good.0.0;
            });
      }

  one_change : (x : ManifestEntry) (b : Bound) (r s : Reply) (t u : History) → Changes (on h c p) x b r t → Changes (on h d q) x b s u → tells_want r ≡ false → tells_want s ≡ false
      → Well p t.disk → Well q u.disk → Same r s t u
  one_change x b r s t u k j v z well good =
      let (tables, e, defines, f) = k in
      let (others, i, defined, g) = j in
      let one = agreed x h.tables (tables_after h.tables b) p r tables e defines v (subst (Well p) (ap (λ (m : History). m.disk) f) well).0 in
      let two = agreed x h.tables (tables_after h.tables b) q s others i defined z (subst (Well q) (ap (λ (m : History). m.disk) g) good).0 in
      let now = keep c d p q e i agree one.files two.files in
      record {
        replies = one.done ∙ sym two.done;
        both =
            both_at t (record (on h c p) { tables = tables; trimmed = false; disk = e }) u (record (on h d q) { tables = others; trimmed = false; disk = i }) f g
            (record {
              stores =
                  record {
                    same = λ m. record (on h d q) { tables = (one.are ∙ sym two.are) m; trimmed = false; disk = i };
                    changes = now.changes;
                    files = now.files;
                    last_file = now.last_file;
                    live = now.live;
                  };
              one_goes = one.goes;
              other_goes = two.goes;
            });
      }

  -- a step that leaves the disk
  left : {A : Type 0} (r s v : A) (t u : History) → r ≡ v → s ≡ v → t ≡ on h c p → u ≡ on h d q → Well p t.disk → Well q u.disk → Same r s t u
  left r s v t u x y f g well good = record {
    replies = x ∙ sym y;
    both = both_at t (on h c p) u (on h d q) f g (record { stores = as_one h c d p q agree; one_goes = well.0.0; other_goes = good.0.0 });
  }

  one_check : (o : Option TableSchema) (r s : Result (List Verdict) Fault) (t u : History) → VerifiesNamed (on h c p) o r t → VerifiesNamed (on h d q) o s u
      → tells_want (reply_of_verify r) ≡ false → tells_want (reply_of_verify s) ≡ false → Well p t.disk → Well q u.disk
      → Same (reply_of_verify r) (reply_of_verify s) t u
  one_check None r s t u a b v z well good = left (reply_of_verify r) (reply_of_verify s) _ t u (ap reply_of_verify a.0) (ap reply_of_verify b.0) a.1 b.1 well good
  one_check (Some x) r s t u a b v z well good =
      let (m, more, k, f) = a in
      let (n, also, j, g) = b in
      let here : Well p (record p { reads = m }) = subst (Well p) (ap (λ (i : History). i.disk) f) well in
      let there : Well q (record q { reads = n }) = subst (Well q) (ap (λ (i : History). i.disk) g) good in
      record {
        replies =
            is_verified p.files (length h.shards) x.number p.reads m r k v here.0.3 here.1
            ∙ ap (λ (vs : List Verdict). reply.Verified vs) (same_good p.files q.files (length h.shards) x.number agree.files)
            ∙ sym (is_verified q.files (length h.shards) x.number q.reads n s j z there.0.3 there.1);
        both =
            both_at t (on h c (record p { reads = m })) u (on h d (record q { reads = n })) f g
            (record {
              stores = record { same = refl; changes = agree.changes; files = agree.files; last_file = agree.last_file; live = agree.live };
              one_goes = well.0.0;
              other_goes = good.0.0;
            });
      }

  one_deed : (Gives : ℤ → Type 0) (m : Result Bound Refusal) (r s : Reply) (t u : History) → Does clock.Manual Gives (on h c p) m r t → Does clock.Manual Gives (on h d q) m s u
      → tells_want r ≡ false → tells_want s ≡ false → Well p t.disk → Well q u.disk → Same r s t u
  one_deed Gives (Err x) r s t u a b v w well good = left r s _ t u a.0 b.0 a.1 b.1 well good
  one_deed Gives (Ok (bound.Create x)) r s t u a b v w well good = one_change (Schema x) (bound.Create x) r s t u a b v w well good
  one_deed Gives (Ok (bound.Alter x)) r s t u a b v w well good = one_change (AddColumns x.table x.columns) (bound.Alter x) r s t u a b v w well good
  one_deed Gives (Ok (bound.Write x)) r s t u a b v w well good =
      let same : b.0 ≡ a.0 = b.1 ∙ sym a.1 in
      let other = subst (λ (k : ℤ). WritesAt (on h d q) k x s u) same b.2 in
      one_write x a.0 a.2.0 other.0 a.2.1 other.1 r s t u a.2.2 other.2 a.2.3 other.3 v w well good
  one_deed Gives (Ok (bound.Read x)) r s t u a b v w well good =
      let same : b.0 ≡ a.0 = b.1 ∙ sym a.1 in
      let other = subst (λ (k : ℤ). ReadsAt (on h d q) k x s u) same b.2 in
      one_read x a.0 a.2.0 other.0 r s t u a.2.2 other.2 a.2.3 other.3 v w well good

  -- ---- a flush

  one_table : (x : TableSchema) (r s : Result (List ℕ) Fault) (t u : History) → FlushesTable (on h c p) x r t → FlushesTable (on h d q) x s u
      → tells_want (reply_of_flush r) ≡ false → tells_want (reply_of_flush s) ≡ false → FitsFiles (on h c p) x → FitsFiles (on h d q) x → Well p t.disk → Well q u.disk
      → Same r s t u
  one_table x r s t u a b v w fit fat well good =
      let (told, is) = table_flushed (on h c p) x r t a v fit well.0 in
      let (says, are) = table_flushed (on h d q) x s u b w fat good.0 in
      let one : IsBegun (on h c p) x (Ok told) t = subst (λ (k : Result (List ℕ) Fault). FlushesTable (on h c p) x k t) is a in
      let two : IsBegun (on h d q) x (Ok says) u = subst (λ (k : Result (List ℕ) Fault). FlushesTable (on h d q) x k u) are b in
      record {
        replies =
            is
            ∙ ap (λ (ns : List ℕ). Ok ns) (told_alike h c d p q agree x one.0 two.0 one.2 two.2 one.1 two.1 told says one.4 two.4 one.5 two.5)
            ∙ sym are;
        both =
            both_at t _ u _ one.6 two.6
            (record {
              stores = flushed_alike h c d p q agree x one.0 two.0 one.2 two.2 one.1 two.1 told says one.4 two.4 one.5 two.5;
              one_goes = one.5.2;
              other_goes = two.5.2;
            });
      }

  one_named : (o : Option TableSchema) (r s : Result (List ℕ) Fault) (t u : History) → FlushesNamed (on h c p) o r t → FlushesNamed (on h d q) o s u
      → tells_want (reply_of_flush r) ≡ false → tells_want (reply_of_flush s) ≡ false → ((x : TableSchema) → o ≡ Some x → FitsFiles (on h c p) x)
      → ((x : TableSchema) → o ≡ Some x → FitsFiles (on h d q) x) → Well p t.disk → Well q u.disk → Same r s t u
  one_named None r s t u a b v w fit fat well good = left r s _ t u a.0 b.0 a.1 b.1 well good
  one_named (Some x) r s t u a b v w fit fat well good = one_table x r s t u a b v w (fit x refl) (fat x refl) well good

  one_flushed : (n : ℕ) (x : TableSchema) (told says : Option ℕ) (t u : History) → FlushesIn (on h c p) x n (Ok told) t → FlushesIn (on h d q) x n (Ok says) u
      → Same told says t u
  one_flushed n x told says t u a b = record {
    replies = one_told h c d p q agree x n told says t u a b;
    both =
        record {
          stores = one_alike h c d p q agree x n told says t u a b;
          one_goes = ap (λ (k : History). k.disk.stopped) a.follows ∙ a.ends.stopped;
          other_goes = ap (λ (k : History). k.disk.stopped) b.follows ∙ b.ends.stopped;
        };
  }

  one_shard : (n table : ℕ) (told says : Option ℕ) (t u : History) → FlushesFull (on h c p) n table (Ok told) t → FlushesFull (on h d q) n table (Ok says) u → Same told says t u
  one_shard n table told says t u a b =
      one_flushed n a.0 told says t u a.3
      (subst (λ (x : TableSchema). FlushesIn (on h d q) x n (Ok says) u) (same_Some b.0 a.0 (sym b.1 ∙ a.1)) b.3)

  one_full : (n table : ℕ) (r s : Result (Option ℕ) Fault) (t u : History) → FlushesFull (on h c p) n table r t → FlushesFull (on h d q) n table s u
      → is_want r ≡ false → is_want s ≡ false → ((x : TableSchema) → slice_get h.tables table ≡ Some x → FitsFiles (on h c p) x)
      → ((x : TableSchema) → slice_get h.tables table ≡ Some x → FitsFiles (on h d q) x) → Well p t.disk → Well q u.disk → Same r s t u
  one_full n table r s t u a b v w fit fat well good =
      let (told, is) = full_flushed (on h c p) n table r t a v fit well.0 in
      let (says, are) = full_flushed (on h d q) n table s u b w fat good.0 in
      let same : Same told says t u =
      one_shard n table told says t u (subst (λ (k : Result (Option ℕ) Fault). FlushesFull (on h c p) n table k t) is a)
      (subst (λ (k : Result (Option ℕ) Fault). FlushesFull (on h d q) n table k u) are b) in
      record { replies = is ∙ ap (λ (x : Option ℕ). Ok x) same.replies ∙ sym are; both = same.both }

  one_if_full : (b : Bool) (n table : ℕ) (r s : Result (Option ℕ) Fault) (t u : History) → FlushesIf b (on h c p) n table r t → FlushesIf b (on h d q) n table s u
      → is_want r ≡ false → is_want s ≡ false → (b ≡ true → (x : TableSchema) → slice_get h.tables table ≡ Some x → FitsFiles (on h c p) x)
      → (b ≡ true → (x : TableSchema) → slice_get h.tables table ≡ Some x → FitsFiles (on h d q) x) → Well p t.disk → Well q u.disk → Same r s t u
  one_if_full false n table r s t u a b v w fit fat well good = left r s _ t u a.0 b.0 a.1 b.1 well good
  one_if_full true n table r s t u a b v w fit fat well good = one_full n table r s t u a b v w (fit refl) (fat refl) well good

  -- segments are dropped behind it
  one_drop : (r s : Result ℕ Fault) (t u : History) → DropsSegments (on h c p) r t → DropsSegments (on h d q) s u → is_want r ≡ false → is_want s ≡ false
      → Well p t.disk → Well q u.disk → Both t u
  one_drop r s t u a b v w well good =
      let one = dropped_well a.count r p a.disk a.ends v (subst (Well p) (ap (λ (k : History). k.disk) a.follows) well).0 in
      let two = dropped_well b.count s q b.disk b.ends w (subst (Well q) (ap (λ (k : History). k.disk) b.follows) good).0 in
      let now = keep c d p q a.disk b.disk agree a.drops.files b.drops.files in
      both_at t (record (on h c p) { trimmed = is_ok r; disk = a.disk }) u (record (on h d q) { trimmed = is_ok s; disk = b.disk }) a.follows b.follows
      (record {
        stores =
            record {
              same = λ i. record (on h d q) { trimmed = (one.well ∙ sym two.well) i; disk = b.disk };
              changes = now.changes;
              files = now.files;
              last_file = now.last_file;
              live = now.live;
            };
        one_goes = one.goes;
        other_goes = two.goes;
      })

  one_behind : (listed want wont : Bool) (t u : History) → DropsBehind listed want (on h c p) t → DropsBehind listed wont (on h d q) u → want ≡ false → wont ≡ false
      → Well p t.disk → Well q u.disk → Both t u
  one_behind false want wont t u a b v w well good =
      both_at t (on h c p) u (on h d q) a.1 b.1 (record { stores = as_one h c d p q agree; one_goes = well.0.0; other_goes = good.0.0 })
  one_behind true want wont t u a b v w well good = one_drop a.0 b.0 t u a.2 b.2 (sym a.1 ∙ v) (sym b.1 ∙ w) well good

-- what is behind a step of both
behind_both : (k j t u : History) (listed want wont : Bool) → Both k j → DropsBehind listed want k t → DropsBehind listed wont j u → want ≡ false → wont ≡ false
    → Well k.disk t.disk → Well j.disk u.disk → Both t u
behind_both k j t u listed want wont both a b v w well good =
    one_behind k k.changes j.changes k.disk j.disk (agreeing k j both.stores) listed want wont t u a
    (subst (λ (i : History). DropsBehind listed wont i u) (sym both.stores.same) b) v w well good

module _ (h : History) (c d : List Change) (p q : DiskState) (agree : Agree c d p q) where
  -- ---- behind a statement

  one_settles : (n table : ℕ) (want wont : Bool) (t u : History) → SettlesAndDrops n table want (on h c p) t → SettlesAndDrops n table wont (on h d q) u → want ≡ false → wont ≡ false
      → (is_full h n table ≡ true → (x : TableSchema) → slice_get h.tables table ≡ Some x → FitsFiles (on h c p) x)
      → (is_full h n table ≡ true → (x : TableSchema) → slice_get h.tables table ≡ Some x → FitsFiles (on h d q) x) → Well p t.disk → Well q u.disk → Both t u
  one_settles n table want wont t u a b v w fit fat well good =
      let (told, mid, starved, is, settles, drops) = a in
      let (says, other, hungry, are, also, falls) = b in
      let one_fed = or_parts (is_want told) starved (sym is ∙ v) in
      let two_fed = or_parts (is_want says) hungry (sym are ∙ w) in
      let one_on = stopping.dropped_counts (lists_one told) starved mid t drops in
      let two_on = stopping.dropped_counts (lists_one says) hungry other u falls in
      let flushed : Same told says mid other =
      one_if_full h c d p q agree (is_full h n table) n table told says mid other settles also one_fed.0 two_fed.0 fit fat (first_well p mid.disk t.disk one_on well)
      (first_well q other.disk u.disk two_on good) in
      behind_both mid other t u (lists_one told) starved hungry flushed.both drops
      (subst (λ (k : Result (Option ℕ) Fault). DropsBehind (lists_one k) hungry other u) (sym flushed.replies) falls) one_fed.1 two_fed.1
      (rest_well p mid.disk t.disk (stopping.settle_counts (on h c p) n table told mid settles) well flushed.both.one_goes)
      (rest_well q other.disk u.disk (stopping.settle_counts (on h d q) n table says other also) good flushed.both.other_goes)

  stays : (want wont : Bool) (t u : History) → (want ≡ false) × (t ≡ on h c p) → (wont ≡ false) × (u ≡ on h d q) → Well p t.disk → Well q u.disk → Both t u
  stays want wont t u a b well good =
      both_at t (on h c p) u (on h d q) a.1 b.1 (record { stores = as_one h c d p q agree; one_goes = well.0.0; other_goes = good.0.0 })

  one_written : (x : BoundWrite) (r : Reply) (want wont : Bool) (t u : History) → SettlesBehind (Ok (bound.Write x)) r want (on h c p) t
      → SettlesBehind (Ok (bound.Write x)) r wont (on h d q) u → want ≡ false → wont ≡ false → FindsBehind FitsFiles (Ok (bound.Write x)) r (on h c p)
      → FindsBehind FitsFiles (Ok (bound.Write x)) r (on h d q) → Well p t.disk → Well q u.disk → Both t u
  one_written x (reply.Wrote number) want wont t u a b v w fit fat well good = one_settles x.shard x.table want wont t u a b v w fit fat well good
  one_written x reply.Done want wont t u a b v w fit fat well good = stays want wont t u a b well good
  one_written x (reply.Rows rows shard front now) want wont t u a b v w fit fat well good = stays want wont t u a b well good
  one_written x (reply.Flushed files) want wont t u a b v w fit fat well good = stays want wont t u a b well good
  one_written x (reply.Verified files) want wont t u a b v w fit fat well good = stays want wont t u a b well good
  one_written x (reply.Status tables) want wont t u a b v w fit fat well good = stays want wont t u a b well good
  one_written x (reply.Refused why) want wont t u a b v w fit fat well good = stays want wont t u a b well good
  one_written x (reply.Failed f) want wont t u a b v w fit fat well good = stays want wont t u a b well good

  behind_deed : (m : Result Bound Refusal) (r : Reply) (want wont : Bool) (t u : History) → SettlesBehind m r want (on h c p) t → SettlesBehind m r wont (on h d q) u
      → want ≡ false → wont ≡ false → FindsBehind FitsFiles m r (on h c p) → FindsBehind FitsFiles m r (on h d q) → Well p t.disk → Well q u.disk → Both t u
  behind_deed (Err x) r want wont t u a b v w fit fat well good = stays want wont t u a b well good
  behind_deed (Ok (bound.Create x)) r want wont t u a b v w fit fat well good = stays want wont t u a b well good
  behind_deed (Ok (bound.Alter x)) r want wont t u a b v w fit fat well good = stays want wont t u a b well good
  behind_deed (Ok (bound.Write x)) r want wont t u a b v w fit fat well good = one_written x r want wont t u a b v w fit fat well good
  behind_deed (Ok (bound.Read x)) r want wont t u a b v w fit fat well good = stays want wont t u a b well good

-- behind a deed of both
deed_both : (k j t u : History) (m : Result Bound Refusal) (r : Reply) (want wont : Bool) → Both k j → SettlesBehind m r want k t → SettlesBehind m r wont j u → want ≡ false
    → wont ≡ false → FindsBehind FitsFiles m r k → FindsBehind FitsFiles m r j → Well k.disk t.disk → Well j.disk u.disk → Both t u
deed_both k j t u m r want wont both a b v w fit fat well good =
    behind_deed k k.changes j.changes k.disk j.disk (agreeing k j both.stores) m r want wont t u a
    (subst (λ (i : History). SettlesBehind m r wont i u) (sym both.stores.same) b) v w fit (subst (FindsBehind FitsFiles m r) (sym both.stores.same) fat) well good

-- memory ran out for neither of the two
pub fed : (o : Upshot) (r : Reply) → o.reply ≡ Some r → is_starved o ≡ false → (tells_want r ≡ false) × (o.want ≡ false)
fed o r is quiet = let both = or_parts _ o.want quiet in (ap (λ (x : Option Reply). says_want x) (sym is) ∙ both.0, both.1)

one_upshot : (o s : Upshot) (r q : Reply) → o.reply ≡ Some r → s.reply ≡ Some q → r ≡ q → o.want ≡ false → s.want ≡ false → o ≡ s
one_upshot o s r q x y same v w = λ i. record { reply = (x ∙ ap (λ (k : Reply). Some k) same ∙ sym y) i; want = (v ∙ sym w) i }

module _ (Gives : ℤ → Type 0) (h : History) (c d : List Change) (p q : DiskState) (agree : Agree c d p q) where
  -- ---- a line

  one_statement : (m : Result Bound Refusal) (o s : Upshot) (t u : History) → IsCarriedOut clock.Manual Gives (on h c p) m o t → IsCarriedOut clock.Manual Gives (on h d q) m s u
      → is_starved o ≡ false → is_starved s ≡ false
      → ((answer : Reply) (after : History) → Does clock.Manual Gives (on h c p) m answer after → FindsBehind FitsFiles m answer after)
      → ((answer : Reply) (after : History) → Does clock.Manual Gives (on h d q) m answer after → FindsBehind FitsFiles m answer after) → Well p t.disk → Well q u.disk → Same o s t u
  one_statement m o s t u a b v w fit fat well good =
      let (r, mid, says, does, behind) = a in
      let (e, other, tells, did, after) = b in
      let one_fed = fed o r says v in
      let two_fed = fed s e tells w in
      let one_on = stopping.behind_counts m r o.want mid t behind in
      let two_on = stopping.behind_counts m e s.want other u after in
      let deed : Same r e mid other =
      one_deed h c d p q agree Gives m r e mid other does did one_fed.0 two_fed.0 (first_well p mid.disk t.disk one_on well) (first_well q other.disk u.disk two_on good) in
      record {
        replies = one_upshot o s r e says tells deed.replies one_fed.1 two_fed.1;
        both =
            deed_both mid other t u m r o.want s.want deed.both behind
            (subst (λ (k : Reply). SettlesBehind m k s.want other u) (sym deed.replies) after) one_fed.1 two_fed.1 (fit r mid does)
            (subst (λ (k : Reply). FindsBehind FitsFiles m k other) (sym deed.replies) (fat e other did))
            (rest_well p mid.disk t.disk (stopping.deed clock.Manual Gives (on h c p) m r mid does) well deed.both.one_goes)
            (rest_well q other.disk u.disk (stopping.deed clock.Manual Gives (on h d q) m e other did) good deed.both.other_goes);
      }

  one_flush : (name : TableName) (o s : Upshot) (t u : History) → FlushesAndDrops (on h c p) name o t → FlushesAndDrops (on h d q) name s u → is_starved o ≡ false → is_starved s ≡ false
      → LineFits Gives (on h c p) (line.Flush name) → LineFits Gives (on h d q) (line.Flush name) → Well p t.disk → Well q u.disk → Same o s t u
  one_flush name o s t u a b v w fit fat well good =
      let (r, mid, says, flushes, drops) = a in
      let (e, other, tells, flushed, falls) = b in
      let one_fed = fed o (reply_of_flush r) says v in
      let two_fed = fed s (reply_of_flush e) tells w in
      let one_on = stopping.dropped_counts (lists_any r) o.want mid t drops in
      let two_on = stopping.dropped_counts (lists_any e) s.want other u falls in
      let flush : Same r e mid other =
      one_named h c d p q agree (table_named h.tables name) r e mid other flushes flushed one_fed.0 two_fed.0 fit fat (first_well p mid.disk t.disk one_on well)
      (first_well q other.disk u.disk two_on good) in
      record {
        replies = one_upshot o s (reply_of_flush r) (reply_of_flush e) says tells (ap reply_of_flush flush.replies) one_fed.1 two_fed.1;
        both =
            behind_both mid other t u (lists_any r) o.want s.want flush.both drops
            (subst (λ (k : Result (List ℕ) Fault). DropsBehind (lists_any k) s.want other u) (sym flush.replies) falls) one_fed.1 two_fed.1
            (rest_well p mid.disk t.disk (stopping.named_counts (on h c p) (table_named h.tables name) r mid flushes) well flush.both.one_goes)
            (rest_well q other.disk u.disk (stopping.named_counts (on h d q) (table_named h.tables name) e other flushed) good flush.both.other_goes);
      }

  -- what comes of lines is the same where their replies are
  shown : (a b : Reply) (o s : Upshot) (t u : History) → o ≡ replied (Some a) → s ≡ replied (Some b) → Same a b t u → Same o s t u
  shown a b o s t u x y same = record { replies = x ∙ ap (λ (k : Reply). replied (Some k)) same.replies ∙ sym y; both = same.both }

  quiet : (a : Reply) (o : Upshot) → o ≡ replied (Some a) → is_starved o ≡ false → tells_want a ≡ false
  quiet a o is v = (fed o a (ap (λ (x : Upshot). x.reply) is) v).0

  one_line : (l : Line) (o s : Upshot) (t u : History) → LineFits Gives (on h c p) l → LineFits Gives (on h d q) l
      → Answered clock.Manual Gives (on h c p) l o t → Answered clock.Manual Gives (on h d q) l s u → is_starved o ≡ false → is_starved s ≡ false → Well p t.disk → Well q u.disk
      → Same o s t u
  one_line line.Blank o s t u fit fat a b v w well good = left h c d p q agree o s _ t u a.0 b.0 a.1 b.1 well good
  one_line line.Syntax o s t u fit fat a b v w well good = left h c d p q agree o s _ t u a.0 b.0 a.1 b.1 well good
  one_line (line.Clock n) o s t u fit fat a b v w well good =
      shown a.0 b.0 o s t u a.1 b.1 (left (record h { clock = n }) c d p q agree a.0 b.0 reply.Done t u a.2.0 b.2.0 a.2.1 b.2.1 well good)
  one_line (line.Flush name) o s t u fit fat a b v w well good = one_flush name o s t u a b v w fit fat well good
  one_line (line.Verify name) o s t u fit fat a b v w well good =
      shown (reply_of_verify a.0) (reply_of_verify b.0) o s t u a.1 b.1
      (one_check h c d p q agree (table_named h.tables name) a.0 b.0 t u a.2 b.2 (quiet (reply_of_verify a.0) o a.1 v) (quiet (reply_of_verify b.0) s b.1 w) well good)
  one_line line.Status o s t u fit fat a b v w well good =
      left h c d p q agree o s (replied (Some (reply.Status (status (on h c p))))) t u a.0
      (b.0 ∙ ap (λ (files : ℕ → ℕ → List ℕ). replied (Some (reply.Status (status_of h.tables h.limits.shards files)))) (sym agree.files)) a.1 b.1 well good
  one_line (line.Statement x) o s t u fit fat a b v w well good =
      one_statement (meaning h.limits.shards h.tables x) o s t u a b v w fit fat well good

-- what comes of a line is of what it says
of_line : (Gives : ℤ → Type 0) (h : History) (text : List ℕ) (o : Upshot) (t : History) → Answers clock.Manual Gives h text o t → is_starved o ≡ false
    → (l : Line) × Says text l × Answered clock.Manual Gives h l o t
of_line Gives h text o t (inl x) v = absurd (true≢false (ap is_starved (sym x.0) ∙ v))
of_line Gives h text o t (inr x) v = x

module _ (Gives : ℤ → Type 0) where
  one_answer : (h : History) (c d : List Change) (p q : DiskState) (text : List ℕ) (o s : Upshot) (t u : History) → Agree c d p q
      → FlushFinds FitsFiles clock.Manual Gives (on h c p) text → FlushFinds FitsFiles clock.Manual Gives (on h d q) text
      → Answers clock.Manual Gives (on h c p) text o t → Answers clock.Manual Gives (on h d q) text s u → is_starved o ≡ false → is_starved s ≡ false
      → Well p t.disk → Well q u.disk → Same o s t u
  one_answer h c d p q text o s t u agree fit fat x y v w well good =
      let a = of_line Gives (on h c p) text o t x v in
      let b = of_line Gives (on h d q) text s u y w in
      let same = says_one text b.0 a.0 b.1 a.1 in
      one_line Gives h c d p q agree a.0 o s t u (line_fits Gives (on h c p) text a.0 a.1 fit) (line_fits Gives (on h d q) text a.0 a.1 fat) a.2
      (subst (λ l. Answered clock.Manual Gives (on h d q) l s u) same b.2) v w well good

  runs_agree : (h : History) (c d : List Change) (p q : DiskState) (ls : List (List ℕ)) (rs ss : List Upshot) (t u : History) → Agree c d p q
      → FlushesFit clock.Manual Gives (on h c p) ls → FlushesFit clock.Manual Gives (on h d q) ls
      → Runs clock.Manual Gives (on h c p) ls rs t → Runs clock.Manual Gives (on h d q) ls ss u → list_any is_starved rs ≡ false → list_any is_starved ss ≡ false
      → Well p t.disk → Well q u.disk → (rs ≡ ss) × SameStore t u
  runs_agree h c d p q [] [] [] t u agree fit fat x y v w well good = (refl, at_both t (on h c p) u (on h d q) x y (as_one h c d p q agree))
  runs_agree h c d p q [] [] (s ∷ ss) t u agree fit fat x y v w well good = absurd y
  runs_agree h c d p q [] (r ∷ rs) ss t u agree fit fat x y v w well good = absurd x
  runs_agree h c d p q (l ∷ ls) [] ss t u agree fit fat x y v w well good = absurd x
  runs_agree h c d p q (l ∷ ls) (r ∷ rs) [] t u agree fit fat x y v w well good = absurd y
  runs_agree h c d p q (l ∷ ls) (r ∷ rs) (s ∷ ss) t u agree fit fat x y v w well good =
      let one_fed = or_parts (is_starved r) (list_any is_starved rs) v in
      let two_fed = or_parts (is_starved s) (list_any is_starved ss) w in
      let one_more = stopping.one_line clock.Manual Gives (on h c p) l r x.0 x.1 in
      let two_more = stopping.one_line clock.Manual Gives (on h d q) l s y.0 y.1 in
      let one_rest = stopping.all_lines clock.Manual Gives x.0 ls rs t x.2 in
      let two_rest = stopping.all_lines clock.Manual Gives y.0 ls ss u y.2 in
      let one_first : Well p x.0.disk = first_well p x.0.disk t.disk one_rest well in
      let two_first : Well q y.0.disk = first_well q y.0.disk u.disk two_rest good in
      let fit_rest : FlushesFit clock.Manual Gives x.0 ls = fit.1 r x.0 x.1 one_fed.0 one_first.0 in
      let fat_rest : FlushesFit clock.Manual Gives y.0 ls = fat.1 s y.0 y.1 two_fed.0 two_first.0 in
      let one = one_answer h c d p q l r s x.0 y.0 agree fit.0 fat.0 x.1 y.1 one_fed.0 two_fed.0 one_first two_first in
      let back = sym one.both.stores.same in
      let rest =
      runs_agree x.0 x.0.changes y.0.changes x.0.disk y.0.disk ls rs ss t u (agreeing x.0 y.0 one.both.stores) fit_rest
      (subst (λ k. FlushesFit clock.Manual Gives k ls) back fat_rest) x.2 (subst (λ k. Runs clock.Manual Gives k ls ss u) back y.2) one_fed.1 two_fed.1
      (rest_well p x.0.disk t.disk one_more well one.both.one_goes) (rest_well q y.0.disk u.disk two_more good one.both.other_goes) in
      (λ i. one.replies i ∷ rest.0 i, rest.1)

  pub one_outcome : OneOutcome Gives
  one_outcome h ls rs ss t u x y fit v w files well good =
      runs_agree h h.changes h.changes h.disk h.disk ls rs ss t u (record { changes = refl; files = refl; last_file = refl; live = refl }) fit fit x y v w
      (all_well h.disk t.disk (stopping.all_lines clock.Manual Gives h ls rs t x) files well)
      (all_well h.disk u.disk (stopping.all_lines clock.Manual Gives h ls ss u y) files good)

-- ---- lines that flush nothing

no_write_fits : (x : BoundWrite) (r : Reply) (after : History) → LeavesRoom (Ok (bound.Write x)) r after → FindsBehind FitsFiles (Ok (bound.Write x)) r after
no_write_fits x (reply.Wrote number) after room = λ full t got. absurd (no_true (is_full after x.shard x.table) room full)
no_write_fits x reply.Done after room = tt
no_write_fits x (reply.Rows rows shard front now) after room = tt
no_write_fits x (reply.Flushed files) after room = tt
no_write_fits x (reply.Verified files) after room = tt
no_write_fits x (reply.Status tables) after room = tt
no_write_fits x (reply.Refused why) after room = tt
no_write_fits x (reply.Failed f) after room = tt

none_fits : (b : Result Bound Refusal) (r : Reply) (after : History) → LeavesRoom b r after → FindsBehind FitsFiles b r after
none_fits (Err x) r after room = tt
none_fits (Ok (bound.Create x)) r after room = tt
none_fits (Ok (bound.Alter x)) r after room = tt
none_fits (Ok (bound.Write x)) r after room = no_write_fits x r after room
none_fits (Ok (bound.Read x)) r after room = tt

no_line_fits : (kind : ClockKind) (Gives : ℤ → Type 0) (h : History) (text : List ℕ) → FlushesNone kind Gives h text → FlushFinds FitsFiles kind Gives h text
no_line_fits kind Gives h text none = (
  λ name t says named. absurd (none.0 name says),
  λ s says answer after does. none_fits (meaning h.limits.shards h.tables s) answer after (none.1 s says answer after does),
)

pub no_flush_fits : (Gives : ℤ → Type 0) → NoFlushFits Gives
no_flush_fits Gives kind h [] none = tt
no_flush_fits Gives kind h (l ∷ ls) none = (
  no_line_fits kind Gives h l none.0,
  λ o after answers fed well. no_flush_fits Gives kind after ls (none.1 o after answers),
)
