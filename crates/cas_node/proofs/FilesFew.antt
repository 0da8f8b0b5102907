-- How many table files come along a run, and how many numbers are given to them.
use Rattle.std.proofs.Common.{◌≡◌, inl, inr, ◌≤◌, ◌+◌, ◌*◌, ℕ, zero, suc, ℤ, false, List, [], ◌∷◌, ◌++◌, length, map, length-append, Option, None, Some, Result, Ok, Err, refl, sym, ap, ◌∙◌, subst, arith}
use Rattle.std.proofs.Math.Nat.{suc-mul}
use Rattle.std.specs.List.{fold}
use Rattle.cas_types.specs.declared.schema.TableSchema.{TableSchema}
use Rattle.cas_atoms.specs.declared.atom.Mutation.{Mutation}
use Rattle.cas_bind.specs.Meaning.{meaning}
use Rattle.cas_bind.specs.declared.bound.Bound.{Bound}
use Rattle.cas_bind.specs.declared.bound.Bound.TheVariants as bound
use Rattle.cas_changes.specs.declared.entry.Change.{Change}
use Rattle.cas_changes.specs.declared.entry.Entry.{Entry as ManifestEntry}
use Rattle.cas_effects.specs.declared.refusal.Refusal.{Refusal}
use Rattle.cas_info.specs.declared.info.TableInfo.{TableInfo}
use Rattle.cas_lines.specs.declared.line.Line.{Line}
use Rattle.cas_lines.specs.declared.line.Line.TheVariants as line
use Rattle.cas_recovery.proofs.Places.{length_set}
use Rattle.cas_render.specs.declared.reply.Failure.TheVariants as failure
use Rattle.cas_render.specs.declared.reply.Reply.{Reply}
use Rattle.cas_render.specs.declared.reply.Reply.TheVariants as reply
use Rattle.cas_render.specs.declared.reply.Verdict.{Verdict}
use Rattle.cas_room.specs.Changing.{added_by}
use Rattle.cas_shard.specs.Shards.{ShardHistory}
use Rattle.cas_shard.specs.declared.entry.Entry.{Entry}
use Rattle.cas_sstread.specs.Loading.{Held}
use Rattle.cas_terms.specs.Columns.{table_named}
use Rattle.cas_view.specs.Views.{File}
use Rattle.cas_words.specs.declared.words.ClockKind.{ClockKind}
use Rattle.cas_words.specs.declared.words.ClockKind.TheVariants as clock
use Rattle.cas_sessions.specs.declared.answer.Fault.{Fault}
use Rattle.cas_sessions.specs.declared.answer.Fault.TheVariants as fault
use Rattle.cas_sessions.specs.Dropping.{DropsSegments}
use Rattle.cas_sessions.specs.Flushes.{EndsSo, FlushesNamed, FlushesTable}
use Rattle.cas_lasting.specs.Flushed.{Flushed, Grows, change_of, changes_by, numbers_added, without_begun, without_flushed}
use Rattle.cas_sessions.specs.Filling.{EndsIn, FlushesIn}
use Rattle.cas_lasting.specs.History.{History, DiskState, Takes, Defines, Does, after_entries, shard_at}
use Rattle.cas_sessions.specs.Verifying.{VerifiesNamed}
use Rattle.cas_node.specs.declared.upshot.Upshot.{Upshot}
use Rattle.cas_node.specs.Lines.{Answered, Answers, Runs, SetsClock, lists_any}
use Rattle.cas_node.proofs.Settling.{behind, then_dropped}
use Rattle.cas_node.specs.Laws.{FilesAreFew}

-- ---- a step

-- as many shards as before; and one table file for each of them at most came, and one, and got a number
pub record Few (h t : History) : Type 0 where
  pub shards : length t.shards ≡ length h.shards
  pub last : t.disk.last_file ≤ h.disk.last_file + (length h.shards + 1)
  pub live : t.disk.live ≤ h.disk.live + (length h.shards + 1)

unchanged : (h t : History) → t ≡ h → Few h t
unchanged h t same = subst (Few h) (sym same) (record { shards = refl; last = omega arith; live = omega arith })

-- no file came, and none got a number
abbrev SameCounts : DiskState → DiskState → Type 0
SameCounts d e = (e.last_file ≡ d.last_file) × (e.live ≡ d.live)

-- as many shards as before, and no file more
pub record NoMore (h t : History) : Type 0 where
  pub shards : length t.shards ≡ length h.shards
  pub last : t.disk.last_file ≡ h.disk.last_file
  pub live : t.disk.live ≡ h.disk.live

same_still : (h t : History) (e : DiskState) → t.disk ≡ e → SameCounts h.disk e → length t.shards ≡ length h.shards → NoMore h t
same_still h t e disk same shards = record {
  shards = shards;
  last = ap (λ (d : DiskState). d.last_file) disk ∙ same.0;
  live = ap (λ (d : DiskState). d.live) disk ∙ same.1;
}

few_of : (h t : History) → NoMore h t → Few h t
few_of h t none = record { shards = none.shards; last = omega (arith, none.last); live = omega (arith, none.live) }

same_counts : (h t : History) (e : DiskState) → t.disk ≡ e → SameCounts h.disk e → length t.shards ≡ length h.shards → Few h t
same_counts h t e disk same shards = few_of h t (same_still h t e disk same shards)

-- and then some
few_then : (h k t : History) → NoMore h k → Few k t → Few h t
few_then h k t none few = record {
  shards = few.shards ∙ none.shards;
  last = omega (arith, few.last, none.last, none.shards);
  live = omega (arith, few.live, none.live, none.shards);
}

taken : (segment : ℕ) (m : Mutation) (x : Entry) (d : DiskState) (r : Reply) (entries : List Entry) (e : DiskState) → Takes segment m x d r entries e → SameCounts d e
taken segment m x d reply.Done entries e t = absurd t
taken segment m x d (reply.Wrote number) entries e t = (t.3.1.files.2, t.3.1.files.3)
taken segment m x d (reply.Rows rows shard front now) entries e t = absurd t
taken segment m x d (reply.Flushed files) entries e t = absurd t
taken segment m x d (reply.Verified verdicts) entries e t = absurd t
taken segment m x d (reply.Status tables) entries e t = absurd t
taken segment m x d (reply.Refused why) entries e t = (t.2.files.2, t.2.files.3)
taken segment m x d (reply.Failed failure.Memory) entries e t = (t.1.files.2, t.1.files.3)
taken segment m x d (reply.Failed failure.Stopped) entries e t = (t.2.1.files.2, t.2.1.files.3)
taken segment m x d (reply.Failed failure.Disk) entries e t = (t.2.files.2, t.2.files.3)
taken segment m x d (reply.Failed failure.Read) entries e t = absurd t
taken segment m x d (reply.Failed (failure.Block n at)) entries e t = absurd t

defined : (x : ManifestEntry) (old new : List TableSchema) (d : DiskState) (r : Reply) (tables : List TableSchema) (e : DiskState) → Defines x old new d r tables e → SameCounts d e
defined x old new d reply.Done tables e t = (t.2.files.2, t.2.files.3)
defined x old new d (reply.Wrote number) tables e t = absurd t
defined x old new d (reply.Rows rows shard front now) tables e t = absurd t
defined x old new d (reply.Flushed files) tables e t = absurd t
defined x old new d (reply.Verified verdicts) tables e t = absurd t
defined x old new d (reply.Status listed) tables e t = absurd t
defined x old new d (reply.Refused why) tables e t = (t.4.1.files.2, t.4.1.files.3)
defined x old new d (reply.Failed failure.Memory) tables e t = (t.1.files.2, t.1.files.3)
defined x old new d (reply.Failed failure.Stopped) tables e t = (t.1.1.files.2, t.1.1.files.3)
defined x old new d (reply.Failed failure.Disk) tables e t = (t.1.files.2, t.1.files.3)
defined x old new d (reply.Failed failure.Read) tables e t = absurd t
defined x old new d (reply.Failed (failure.Block n at)) tables e t = absurd t

-- ---- a flush

few_added : (changes : List (Option Change)) → ((n : ℕ) (c : Change) → change_of changes n ≡ Some c → length (added_by c) ≤ 1)
    → length (numbers_added changes) ≤ length changes
few_added [] one = omega arith
few_added (None ∷ changes) one = let rest = few_added changes (λ n c at. one (suc n) c at) in omega (arith, rest)
few_added (Some c ∷ changes) one =
    let rest = few_added changes (λ n d at. one (suc n) d at) in
    let first = one zero c refl in
    let both : length (added_by c ++ numbers_added changes) ≡ length (added_by c) + length (numbers_added changes) = length-append (added_by c) (numbers_added changes) in
    omega (arith, rest, first, both)

one_added : (table shard : ℕ) (s : ShardHistory) (c : Change) (before after : List (File Held)) → Grows table shard s (Some c) before after → length (added_by c) ≤ 1
one_added table shard s c before after g =
    let one : length (added_by c) ≡ 1 = ap (λ (is : List TableInfo). length (map (λ i. i.number) is)) g.2.added in
    omega (arith, one)

module _ (h : History) (t : TableSchema) (changes : List (Option Change)) (e : DiskState) (so : Flushed h t changes e) where
  its_shards : (begun : ℕ) (r : Result (List ℕ) Fault) → EndsSo h t changes begun r e → length changes ≤ length h.shards
  its_shards begun (Ok told) ends = omega (arith, ends.0)
  its_shards begun (Err f) ends = omega (arith, ends.0)

  -- a number at most for each of them
  pub numbers_few : length (numbers_added changes) ≤ length changes
  numbers_few =
      few_added changes (λ n c at.
      one_added t.number n (shard_at h n) c (h.disk.files n t.number) (e.files n t.number)
      (subst (λ (o : Option Change). Grows t.number n (shard_at h n) o (h.disk.files n t.number) (e.files n t.number)) at (so.files n)))

  few_flushed : (begun : ℕ) (r : Result (List ℕ) Fault) (after : History) → EndsSo h t changes begun r e
      → after ≡ record h {
        unflushed = without_flushed t.number changes h.unflushed;
        filled = without_begun t.number begun h.filled;
        changes = fold changes_by h.changes changes;
        trimmed = false;
        disk = e;
      } → Few h after
  few_flushed begun r after ends is =
      let many : length changes ≤ length h.shards = its_shards begun r ends in
      subst (Few h) (sym is)
      (record { shards = refl; last = omega (arith, so.last_file.1, many); live = omega (arith, so.live, numbers_few, many) })

few_table : (h : History) (t : TableSchema) (r : Result (List ℕ) Fault) (after : History) → FlushesTable h t r after → Few h after
few_table h t (Ok told) after a = few_flushed h t a.0 a.2 a.4 a.1 (Ok told) after a.5 a.6
few_table h t (Err (fault.Stopped first)) after a = unchanged h after a.1
few_table h t (Err (fault.Refused why)) after a = few_flushed h t a.0 a.2 a.4 a.1 (Err (fault.Refused why)) after a.5 a.6
few_table h t (Err (fault.Disk number)) after a = few_flushed h t a.0 a.2 a.4 a.1 (Err (fault.Disk number)) after a.5 a.6
few_table h t (Err fault.Read) after a = few_flushed h t a.0 a.2 a.4 a.1 (Err fault.Read) after a.5 a.6
few_table h t (Err (fault.BadBlock number at)) after a = few_flushed h t a.0 a.2 a.4 a.1 (Err (fault.BadBlock number at)) after a.5 a.6
few_table h t (Err fault.Mem) after a = few_flushed h t a.0 a.2 a.4 a.1 (Err fault.Mem) after a.5 a.6

few_named : (h : History) (o : Option TableSchema) (r : Result (List ℕ) Fault) (after : History) → FlushesNamed h o r after → Few h after
few_named h None r after a = unchanged h after a.1
few_named h (Some t) r after a = few_table h t r after a

-- of one shard
one_live : (t : TableSchema) (n : ℕ) (q : ShardHistory) (ws : List Mutation) (c : Option Change) (r : Result (Option ℕ) Fault) (d e : DiskState) → EndsIn t n q ws c r d e
    → e.live ≤ d.live + 1
one_live t n q ws None (Ok told) d e one = omega (arith, one.live)
one_live t n q ws (Some c) (Ok told) d e one =
    let added = one_added t.number n q c (d.files n t.number) (e.files n t.number) one.files in
    omega (arith, one.live, added)
one_live t n q ws c (Err f) d e none = omega (arith, none.live)

few_one : (h after : History) (t : TableSchema) (n : ℕ) (r : Result (Option ℕ) Fault) → FlushesIn h t n r after → Few h after
few_one h after t n r a =
    let live = one_live t n (shard_at h n) (h.unflushed n t.number) a.change r h.disk a.disk a.ends in
    subst (Few h) (sym a.follows) (record { shards = refl; last = omega (arith, a.last_file); live = omega (arith, live) })

-- segments are dropped
few_dropped : (h k after : History) (r : Result ℕ Fault) → Few h k → DropsSegments k r after → Few h after
few_dropped h k after r few a =
    let shards : length after.shards ≡ length k.shards = ap (λ (j : History). length j.shards) a.follows in
    let last : after.disk.last_file ≡ k.disk.last_file = ap (λ (j : History). j.disk.last_file) a.follows ∙ a.drops.files.2 in
    let live : after.disk.live ≡ k.disk.live = ap (λ (j : History). j.disk.live) a.follows ∙ a.drops.files.3 in
    record { shards = shards ∙ few.shards; last = omega (arith, few.last, last); live = omega (arith, few.live, live) }

-- ---- a check

checked : (h : History) (o : Option TableSchema) (r : Result (List Verdict) Fault) (after : History) → VerifiesNamed h o r after → Few h after
checked h None r after a = unchanged h after a.1
checked h (Some t) r after a =
    same_counts h after (record h.disk { reads = a.0 }) (ap (λ (k : History). k.disk) a.3) (refl, refl) (ap (λ (k : History). length k.shards) a.3)

-- ---- a line

module _ (kind : ClockKind) (Gives : ℤ → Type 0) where
  pub deed : (h : History) (m : Result Bound Refusal) (r : Reply) (t : History) → Does kind Gives h m r t → NoMore h t
  deed h (Err x) r t a = record { shards = ap (λ (k : History). length k.shards) a.1; last = ap (λ (k : History). k.disk.last_file) a.1; live = ap (λ (k : History). k.disk.live) a.1 }
  deed h (Ok (bound.Create x)) r t a =
      same_still h t a.1 (ap (λ (k : History). k.disk) a.3) (defined _ _ _ _ r a.0 a.1 a.2) (ap (λ (k : History). length k.shards) a.3)
  deed h (Ok (bound.Alter x)) r t a =
      same_still h t a.1 (ap (λ (k : History). k.disk) a.3) (defined _ _ _ _ r a.0 a.1 a.2) (ap (λ (k : History). length k.shards) a.3)
  deed h (Ok (bound.Write w)) r t a =
      same_still h t a.2.1 (ap (λ (k : History). k.disk) a.2.3) (taken _ _ _ _ r a.2.0 a.2.1 a.2.2)
      (ap (λ (k : History). length k.shards) a.2.3 ∙ length_set h.shards w.shard (after_entries a.0 a.2.0 (shard_at h w.shard)))
  deed h (Ok (bound.Read q)) r t a =
      same_still h t (record h.disk { reads = a.2.0 }) (ap (λ (k : History). k.disk) a.2.3) (refl, refl)
      (ap (λ (k : History). length k.shards) a.2.3 ∙ length_set h.shards q.shard (after_entries a.0 [] (shard_at h q.shard)))

  answered : (h : History) (l : Line) (r : Upshot) (t : History) → Answered kind Gives h l r t → Few h t
  answered h line.Blank r t a = unchanged h t a.1
  answered h line.Syntax r t a = unchanged h t a.1
  answered h (line.Clock n) r t a = clock_set kind h n a.0 t a.2
    where
      clock_set : (k : ClockKind) (h : History) (n : ℤ) (r : Reply) (t : History) → SetsClock k h n r t → Few h t
      clock_set clock.Manual h n r t s =
          same_counts h t h.disk (ap (λ (k : History). k.disk) s.1) (refl, refl) (ap (λ (k : History). length k.shards) s.1)
      clock_set clock.System h n r t s = unchanged h t s.1
  answered h (line.Flush name) r t a = then_dropped Few few_dropped (lists_any a.0) r.want h a.1 t (few_named h (table_named h.tables name) a.0 a.1 a.3) a.4
  answered h (line.Verify name) r t a = checked h (table_named h.tables name) a.0 t a.2
  answered h line.Status r t a = unchanged h t a.1
  answered h (line.Statement s) r t a =
      let b = meaning h.limits.shards h.tables s in
      few_then h a.1 t (deed h b a.0 a.1 a.3) (behind Few unchanged few_one few_dropped b a.0 r.want a.1 t a.4)

  pub one_line : (h : History) (text : List ℕ) (r : Upshot) (t : History) → Answers kind Gives h text r t → Few h t
  one_line h text r t (inl x) = unchanged h t x.1
  one_line h text r t (inr x) = answered h x.0 r t x.2

  -- lines one after another
  record FewOf (n : ℕ) (h t : History) : Type 0 where
    last : t.disk.last_file ≤ h.disk.last_file + n * (length h.shards + 1)
    live : t.disk.live ≤ h.disk.live + n * (length h.shards + 1)

  one_more : (n : ℕ) (h k t : History) → Few h k → FewOf n k t → FewOf (suc n) h t
  one_more n h k t one rest =
      let more : suc n * (length h.shards + 1) ≡ n * (length h.shards + 1) + (length h.shards + 1) = suc-mul n (length h.shards + 1) in
      let same : n * (length k.shards + 1) ≡ n * (length h.shards + 1) = ap (λ (m : ℕ). n * (m + 1)) one.shards in
      record { last = omega (arith, one.last, rest.last, more, same); live = omega (arith, one.live, rest.live, more, same) }

  all_lines : (h : History) (ls : List (List ℕ)) (rs : List Upshot) (t : History) → Runs kind Gives h ls rs t → FewOf (length ls) h t
  all_lines h [] [] t x =
      let last : t.disk.last_file ≡ h.disk.last_file = ap (λ (k : History). k.disk.last_file) x in
      let live : t.disk.live ≡ h.disk.live = ap (λ (k : History). k.disk.live) x in
      record { last = omega (arith, last); live = omega (arith, live) }
  all_lines h [] (r ∷ rs) t x = absurd x
  all_lines h (l ∷ ls) [] t x = absurd x
  all_lines h (l ∷ ls) (r ∷ rs) t x = one_more (length ls) h x.0 t (one_line h l r x.0 x.1) (all_lines x.0 ls rs t x.2)

pub files_are_few : (Gives : ℤ → Type 0) → FilesAreFew Gives
files_are_few Gives kind h after ls rs runs = let few = all_lines kind Gives h ls rs after runs in (few.last, few.live)
