-- Memtables that are flushed before they get large fit into table files.
use Rattle.std.proofs.Common.{◌≡◌, inl, inr, ⊎_elim, ◌≤◌, ◌+◌, ◌*◌, ◌==◌, ◌&&◌, ◌^◌, ℕ, suc, ℤ, Bool, true, false, List, [], ◌∷◌, ◌++◌, length, Option, None, Some, Result, Ok, Err, is_ok, refl, sym, ap, ◌∙◌, subst, arith, append-nil}
use Rattle.std.proofs.Math.Nat.{suc-mul}
use Rattle.std.proofs.lemmas.Bool.{true≢false, and_parts, eqb-true, ltb-false, ltb-true, or_parts}
use Rattle.std.proofs.lemmas.Cmp.{tied_itself}
use Rattle.std.specs.Ordering.{is_eq}
use Rattle.std.specs.Prelude.{if◌then◌else◌, is_some, nat_lt, slice_get}
use Rattle.cas_types.proofs.OrderLaws.{bytes_orders}
use Rattle.cas_types.specs.declared.schema.TableSchema.{TableSchema}
use Rattle.cas_atoms.specs.LogLength.{record_length}
use Rattle.cas_atoms.specs.declared.atom.Atom.{Atom}
use Rattle.cas_atoms.specs.declared.atom.Mutation.{Mutation}
use Rattle.cas_bind.specs.Meaning.{meaning}
use Rattle.cas_bind.specs.declared.bound.Bound.{Bound}
use Rattle.cas_bind.specs.declared.bound.Bound.TheVariants as bound
use Rattle.cas_bind.specs.declared.bound.Limits.{Limits}
use Rattle.cas_changes.specs.declared.entry.Change.{Change}
use Rattle.cas_effects.specs.AtomsOf.{mutation_of}
use Rattle.cas_effects.specs.declared.effect.BoundWrite.{BoundWrite}
use Rattle.cas_effects.specs.declared.refusal.Refusal.{Refusal}
use Rattle.cas_lines.specs.Lines.{Says}
use Rattle.cas_lines.specs.declared.line.Line.{Line}
use Rattle.cas_lines.specs.declared.line.Line.TheVariants as line
use Rattle.cas_memtable.specs.Kept.{atoms_at, atoms_under, bytes_of}
use Rattle.cas_memtable.specs.Memtables.{added}
use Rattle.cas_memtable.proofs.Keeping.{bytes_both, there_back, there_front}
use Rattle.cas_recovery.proofs.Places.{is_same}
use Rattle.cas_render.specs.declared.reply.Failure.TheVariants as failure
use Rattle.cas_render.specs.declared.reply.Reply.{Reply}
use Rattle.cas_render.specs.declared.reply.Reply.TheVariants as reply
use Rattle.cas_shard.proofs.Refusals.{is_short}
use Rattle.cas_shard.specs.Shards.{ShardHistory, mutation_at, take_refusal}
use Rattle.cas_shard.specs.Stands.{mutations_of}
use Rattle.cas_shard.specs.declared.entry.Entry.{Entry}
use Rattle.cas_shard.specs.declared.entry.Entry.TheVariants as entry
use Rattle.cas_streams.specs.Streams.{IsThere}
use Rattle.cas_terms.specs.Columns.{table_named}
use Rattle.cas_words.specs.declared.words.ClockKind.{ClockKind}
use Rattle.cas_words.specs.declared.words.ClockKind.TheVariants as clock
use Rattle.cql_parse.specs.declared.syntax.TableName.{TableName}
use Rattle.cas_sessions.specs.declared.answer.Fault.{Fault}
use Rattle.cas_sessions.specs.Filling.{FlushesFull, FlushesIf, FlushesIn, SaysNone, is_full}
use Rattle.cas_lasting.specs.Flushed.{filled_with, rest_with, SaySomething, change_of, changes_by}
use Rattle.cas_sessions.specs.Flushes.{FlushesNamed, FlushesTable}
use Rattle.cas_lasting.specs.History.{History, DiskState, Does, Takes, after_write, entry_of, shard_at, tells_want}
use Rattle.cas_lasting.specs.Laws.{LittleIsNeverTooMuch}
use Rattle.cas_lasting.specs.Starts.{start}
use Rattle.cas_sessions.specs.Verifying.{VerifiesNamed}
use Rattle.cas_sessions.proofs.Answering.{says_spelled}
use Rattle.cas_node.specs.declared.upshot.Upshot.{Upshot}
use Rattle.cas_node.specs.Laws.{AreFew, AreSaid, BeginsLittle, FindsBehind, FitsFiles, FlushFinds, FlushesFind, FlushesFit, HasFiles, KeepsLittle, StaysWell}
use Rattle.cas_node.specs.Lines.{Answered, Answers, DropsBehind, IsCarriedOut, SetsClock, SettlesAndDrops, SettlesBehind, is_starved, is_want, lists_any, lists_one, reply_of_flush}
use Rattle.cas_node.proofs.FilesFew as few
use Rattle.cas_node.proofs.LittleFits.{little_fits, named_there}
use Rattle.cas_node.proofs.OneOutcome.{fed}
use Rattle.cas_node.proofs.SaidStay.{done_so, said_stay}
use Rattle.cas_node.proofs.Stopping as stopping
use Rattle.cas_node.proofs.Stopping.{Counts, changed_within, same_or_not}
use Rattle.cas_node.proofs.WellDisk.{first_stays, full_flushed, no_true, rest_stays, table_flushed}

-- ---- bytes of records

-- what says nothing has none
said_none : (ws : List Mutation) → (SaySomething ws → ⊥) → (b : ℕ) → bytes_of b ws ≡ b
said_none [] none b = refl
said_none (w ∷ ws) none b = by w.atoms refl (said_none ws (λ some. none (some.0, there_back (atoms_at some.0 w) (atoms_under some.0 ws) some.1)) b)
  where
    own : (a : Atom) (those : List Atom) → w.atoms ≡ a ∷ those → IsThere (atoms_under w.key (w ∷ ws))
    own a those is =
        there_front (atoms_at w.key w) (atoms_under w.key ws)
        (subst (λ (q : Bool). IsThere (if q then w.atoms else [])) (sym (ap is_eq (tied_itself bytes_orders.total w.key))) (subst IsThere (sym is) tt))

    by : (those : List Atom) → w.atoms ≡ those → bytes_of b ws ≡ b → bytes_of (added b those (record_length w)) ws ≡ b
    by [] is rest = rest
    by (a ∷ those) is rest = absurd (none (w.key, own a those is))

-- a mutation more adds its record at most
one_more : (b : ℕ) (test : Bool) (m : Mutation) → bytes_of b ((if test then m ∷ [] else []) ++ []) ≤ b + record_length m
one_more b false m = omega arith
one_more b true m = by m.atoms
  where
    by : (those : List Atom) → added b those (record_length m) ≤ b + record_length m
    by [] = omega arith
    by (a ∷ those) = omega arith

-- ---- a write

-- how a store stands behind a write to a table in a shard
record Behind (shard table : ℕ) (h : History) : Type 0 where
  segment : h.limits.segment ≤ 2 ^ 27
  memtable : h.limits.memtable ≤ 2 ^ 27
  filled : (n k : ℕ) → h.filled n k ≡ bytes_of 0 (h.unflushed n k)
  loose : (n k : ℕ) → bytes_of 0 (h.unflushed n k) ≤ 2 ^ 28
  others : (n k : ℕ) → ((n ≡ shard) × (k ≡ table) → ⊥) → bytes_of 0 (h.unflushed n k) ≤ 2 ^ 27

-- the record of a mutation that isn't refused is at most half a segment
record_short : (segment : ℕ) (m : Mutation) → segment ≤ 2 ^ 27 → take_refusal segment m ≡ None → record_length m ≤ 2 ^ 26
record_short segment m few none = omega (arith, is_short segment m none, few)

its_table : (reading : ℤ) (s : ShardHistory) (w : BoundWrite) → (mutation_at reading s w).table ≡ w.table
unfolding mutation_at mutation_of
its_table reading s w = refl

module _ (h : History) (so : KeepsLittle h) (w : BoundWrite) (reading : ℤ) (session call : ℕ) (r : Reply) (e : DiskState) where
  abbrev m : Mutation
  m = mutation_at reading (shard_at h w.shard) w

  -- the mutation was entered
  entered : take_refusal h.limits.segment m ≡ None → Behind w.shard w.table (after_write h w.shard reading r (entry.Wrote session call m ∷ []) e)
  entered taken = record {
    segment = so.segment;
    memtable = so.memtable;
    filled = λ n k. all n k (n == w.shard);
    loose = λ n k. most n k (n == w.shard);
    others = λ n k other. apart n k (n == w.shard) refl other;
  }
    where
      more : ℕ → List Mutation
      more k = mutations_of k (entry.Wrote session call m ∷ [])

      all : (n k : ℕ) (b : Bool) → (if b then bytes_of (h.filled n k) (more k) else h.filled n k) ≡ bytes_of 0 (if b then h.unflushed n k ++ more k else h.unflushed n k)
      all n k true = ap (λ (b : ℕ). bytes_of b (more k)) (so.filled n k) ∙ sym (bytes_both 0 (h.unflushed n k) (more k))
      all n k false = so.filled n k

      most : (n k : ℕ) (b : Bool) → bytes_of 0 (if b then h.unflushed n k ++ more k else h.unflushed n k) ≤ 2 ^ 28
      most n k true =
          let short : bytes_of 0 (h.unflushed n k) ≤ 2 ^ 27 = so.short n k in
          omega (
            arith,
            short,
            bytes_both 0 (h.unflushed n k) (more k),
            one_more (bytes_of 0 (h.unflushed n k)) (m.table == k) m,
            record_short h.limits.segment m so.segment taken,
          )
      most n k false = let short : bytes_of 0 (h.unflushed n k) ≤ 2 ^ 27 = so.short n k in omega (arith, short)

      of_another : (n k : ℕ) (test : Bool) → (m.table == k) ≡ test → (k ≡ w.table → ⊥) → bytes_of 0 (h.unflushed n k ++ ((if test then m ∷ [] else []) ++ [])) ≤ 2 ^ 27
      of_another n k true is other = absurd (other (sym (eqb-true m.table k is) ∙ its_table reading (shard_at h w.shard) w))
      of_another n k false is other =
          subst (λ (ws : List Mutation). bytes_of 0 ws ≤ 2 ^ 27) (sym (append-nil (h.unflushed n k))) (so.short n k)

      apart : (n k : ℕ) (b : Bool) → (n == w.shard) ≡ b → ((n ≡ w.shard) × (k ≡ w.table) → ⊥)
          → bytes_of 0 (if b then h.unflushed n k ++ more k else h.unflushed n k) ≤ 2 ^ 27
      apart n k true is other = of_another n k (m.table == k) refl (λ same. other (eqb-true n w.shard is, same))
      apart n k false is other = so.short n k

  -- or nothing was
  not_entered : KeepsLittle (after_write h w.shard reading r [] e)
  not_entered = record {
    segment = so.segment;
    memtable = so.memtable;
    filled = λ n k. same n k (n == w.shard);
    short = λ n k. still n k (n == w.shard);
  }
    where
      same : (n k : ℕ) (b : Bool) → (if b then h.filled n k else h.filled n k) ≡ bytes_of 0 (if b then h.unflushed n k ++ [] else h.unflushed n k)
      same n k true = so.filled n k ∙ ap (bytes_of 0) (sym (append-nil (h.unflushed n k)))
      same n k false = so.filled n k

      still : (n k : ℕ) (b : Bool) → bytes_of 0 (if b then h.unflushed n k ++ [] else h.unflushed n k) ≤ 2 ^ 27
      still n k true = subst (λ (ws : List Mutation). bytes_of 0 ws ≤ 2 ^ 27) (sym (append-nil (h.unflushed n k))) (so.short n k)
      still n k false = so.short n k

-- of a statement that is to do this, and is answered so
abbrev Done : Result Bound Refusal → Reply → History → Type 0
Done (Ok (bound.Write w)) (reply.Wrote number) t = Behind w.shard w.table t
Done m r t = KeepsLittle t

written : (h : History) → KeepsLittle h → (w : BoundWrite) (reading : ℤ) (r : Reply) (entries : List Entry) (e : DiskState)
    → Takes h.limits.segment (mutation_at reading (shard_at h w.shard) w) (entry_of h (mutation_at reading (shard_at h w.shard) w)) h.disk r entries e
    → StaysWell h.disk e → Done (Ok (bound.Write w)) r (after_write h w.shard reading r entries e)
written h so w reading reply.Done entries e t well = absurd t
written h so w reading (reply.Wrote number) entries e t well =
    subst (λ (xs : List Entry). Behind w.shard w.table (after_write h w.shard reading (reply.Wrote number) xs e)) (sym t.2)
    (entered h so w reading h.session (h.calls + 1) (reply.Wrote number) e t.0)
written h so w reading (reply.Rows rows shard front now) entries e t well = absurd t
written h so w reading (reply.Flushed files) entries e t well = absurd t
written h so w reading (reply.Verified files) entries e t well = absurd t
written h so w reading (reply.Status listed) entries e t well = absurd t
written h so w reading (reply.Refused why) entries e t well =
    subst (λ (xs : List Entry). KeepsLittle (after_write h w.shard reading (reply.Refused why) xs e)) (sym t.1) (not_entered h so w reading 0 0 (reply.Refused why) e)
written h so w reading (reply.Failed failure.Memory) entries e t well =
    subst (λ (xs : List Entry). KeepsLittle (after_write h w.shard reading (reply.Failed failure.Memory) xs e)) (sym t.0)
    (not_entered h so w reading 0 0 (reply.Failed failure.Memory) e)
written h so w reading (reply.Failed failure.Stopped) entries e t well =
    subst (λ (xs : List Entry). KeepsLittle (after_write h w.shard reading (reply.Failed failure.Stopped) xs e)) (sym t.1)
    (not_entered h so w reading 0 0 (reply.Failed failure.Stopped) e)
written h so w reading (reply.Failed failure.Disk) entries e t well = absurd (well.1 t.2.rose)
written h so w reading (reply.Failed failure.Read) entries e t well = absurd t
written h so w reading (reply.Failed (failure.Block n at)) entries e t well = absurd t

-- its disk, its tables and its shards aside
still : (h t : History) → t.limits ≡ h.limits → t.unflushed ≡ h.unflushed → t.filled ≡ h.filled → KeepsLittle h → KeepsLittle t
still h t limits unflushed filled so = record {
  segment = subst (λ (l : Limits). l.segment ≤ 2 ^ 27) (sym limits) so.segment;
  memtable = subst (λ (l : Limits). l.memtable ≤ 2 ^ 27) (sym limits) so.memtable;
  filled = λ n k. ap (λ (f : ℕ → ℕ → ℕ). f n k) filled ∙ so.filled n k ∙ ap (λ (u : ℕ → ℕ → List Mutation). bytes_of 0 (u n k)) (sym unflushed);
  short = λ n k. subst (λ (u : ℕ → ℕ → List Mutation). bytes_of 0 (u n k) ≤ 2 ^ 27) (sym unflushed) (so.short n k);
}

module _ (kind : ClockKind) (Gives : ℤ → Type 0) where
  deed : (h : History) (m : Result Bound Refusal) (r : Reply) (t : History) → Does kind Gives h m r t → KeepsLittle h → StaysWell h.disk t.disk → Done m r t
  deed h (Err x) r t a so well = subst KeepsLittle (sym a.1) so
  deed h (Ok (bound.Create x)) r t a so well = subst KeepsLittle (sym a.3) (still h (record h { tables = a.0; trimmed = false; disk = a.1 }) refl refl refl so)
  deed h (Ok (bound.Alter x)) r t a so well = subst KeepsLittle (sym a.3) (still h (record h { tables = a.0; trimmed = false; disk = a.1 }) refl refl refl so)
  deed h (Ok (bound.Write w)) r t a so well =
      let (reading, given, (entries, e, takes, after)) = a in
      subst (λ (k : History). Done (Ok (bound.Write w)) r k) (sym after)
      (written h so w reading r entries e takes (subst (λ (k : History). StaysWell h.disk k.disk) after well))
  deed h (Ok (bound.Read q)) r t a so well = subst KeepsLittle (sym a.2.3) (still h _ refl refl refl so)

-- ---- behind a write

-- a memtable that isn't full stays
not_full : (n table : ℕ) (h : History) → Behind n table h → is_full h n table ≡ false → KeepsLittle h
not_full n table h so room = record {
  segment = so.segment;
  memtable = so.memtable;
  filled = so.filled;
  short = λ k j. ⊎_elim (λ here. ⊎_elim (λ same. own k j here same) (λ apart. so.others k j (λ both. apart both.1)) (same_or_not j table)) (λ apart. so.others k j (λ both. apart both.0)) (same_or_not k n);
}
  where
    most : bytes_of 0 (h.unflushed n table) ≤ 2 ^ 27
    most =
        let all : h.filled n table ≡ bytes_of 0 (h.unflushed n table) = so.filled n table in
        let few : h.filled n table ≤ h.limits.memtable = ltb-false h.limits.memtable (h.filled n table) room in
        omega (arith, all, few, so.memtable)

    own : (k j : ℕ) → k ≡ n → j ≡ table → bytes_of 0 (h.unflushed k j) ≤ 2 ^ 27
    own k j here same = subst (λ (i : ℕ). bytes_of 0 (h.unflushed i j) ≤ 2 ^ 27) (sym here) (subst (λ (i : ℕ). bytes_of 0 (h.unflushed n i) ≤ 2 ^ 27) (sym same) most)

-- one that was flushed has nothing
module _ (h : History) (t : TableSchema) (n : ℕ) (told : Option ℕ) (after : History) (so : Behind n t.number h) (a : FlushesIn h t n (Ok told) after) where
  abbrev its : ℕ → ℕ → Bool
  its k j = (k == n) && (j == t.number)

  one_flushed : KeepsLittle after
  one_flushed =
      subst KeepsLittle (sym a.follows)
      (subst (λ (b : Bool). KeepsLittle (record h {
        unflushed = rest_with t.number n a.change h.unflushed;
        filled = filled_with t.number n b h.filled;
        changes = changes_by h.changes a.change;
        trimmed = false;
        disk = a.disk;
      })) (sym a.begins)
      (record {
        segment = so.segment;
        memtable = so.memtable;
        filled = λ k j. all a.change refl a.none k j (its k j) refl;
        short = λ k j. few a.change a.none k j (its k j) refl;
      }))
    where
      there : (k j : ℕ) → (k ≡ n) × (j ≡ t.number) → its k j ≡ true
      there k j both = ap (λ (i : ℕ). (i == n) && (j == t.number)) both.0 ∙ ap (λ (i : ℕ). (n == n) && (i == t.number)) both.1 ∙ (λ i. is_same n i && is_same t.number i)

      here : (k j : ℕ) → its k j ≡ true → (k ≡ n) × (j ≡ t.number)
      here k j is = let both = and_parts (k == n) (j == t.number) is in (eqb-true k n both.0, eqb-true j t.number both.1)

      said : (k j : ℕ) → its k j ≡ true → SaysNone (Ok told) None (h.unflushed n t.number) → bytes_of 0 (h.unflushed k j) ≡ 0
      said k j is none =
          let both = here k j is in
          ap (λ (i : ℕ). bytes_of 0 (h.unflushed i j)) both.0 ∙ ap (λ (i : ℕ). bytes_of 0 (h.unflushed n i)) both.1 ∙ said_none (h.unflushed n t.number) none 0

      all : (c : Option Change) → a.change ≡ c → SaysNone (Ok told) c (h.unflushed n t.number) → (k j : ℕ) (b : Bool) → its k j ≡ b
          → (if b then 0 else h.filled k j) ≡ bytes_of 0 (rest_with t.number n c h.unflushed k j)
      all None change none k j true is = sym (said k j is none)
      all None change none k j false is = so.filled k j
      all (Some c) change none k j true is = ap (λ (b : Bool). bytes_of 0 (if b then [] else h.unflushed k j)) (sym is)
      all (Some c) change none k j false is = so.filled k j ∙ ap (λ (b : Bool). bytes_of 0 (if b then [] else h.unflushed k j)) (sym is)

      few : (c : Option Change) → SaysNone (Ok told) c (h.unflushed n t.number) → (k j : ℕ) (b : Bool) → its k j ≡ b
          → bytes_of 0 (rest_with t.number n c h.unflushed k j) ≤ 2 ^ 27
      few None none k j true is = let empty = said k j is none in omega (arith, empty)
      few None none k j false is = so.others k j (λ both. no_true (its k j) is (there k j both))
      few (Some c) none k j true is = subst (λ (b : Bool). bytes_of 0 (if b then [] else h.unflushed k j) ≤ 2 ^ 27) (sym is) (omega arith)
      few (Some c) none k j false is =
          subst (λ (b : Bool). bytes_of 0 (if b then [] else h.unflushed k j) ≤ 2 ^ 27) (sym is) (so.others k j (λ both. no_true (its k j) is (there k j both)))

-- segments are dropped
dropped : (listed want : Bool) (k after : History) → DropsBehind listed want k after → KeepsLittle k → KeepsLittle after
dropped false want k after a so = subst KeepsLittle (sym a.1) so
dropped true want k after a so = subst KeepsLittle (sym a.2.follows) (still k (record k { trimmed = is_ok a.0; disk = a.2.disk }) refl refl refl so)

-- a step by which nothing stopped
pub goes_on : (d e : DiskState) → Counts d e → StaysWell d e → e.stopped ≡ false
goes_on d e counts well = ⊎_elim (λ on. on) (λ rose. absurd (well.1 rose)) (counts.stops well.0)

settles : (n table : ℕ) (want : Bool) (h after : History) → Behind n table h → SettlesAndDrops n table want h after → want ≡ false
    → (is_full h n table ≡ true → (t : TableSchema) → slice_get h.tables table ≡ Some t → FitsFiles h t) → StaysWell h.disk after.disk → KeepsLittle after
settles n table want h after so a v fit well =
    let (told, mid, starved, is, settles, drops) = a in
    dropped (lists_one told) starved mid after drops
    (by told mid (is_full h n table) refl settles (or_parts (is_want told) starved (sym is ∙ v)).0
    (first_stays h.disk mid.disk after.disk (stopping.dropped_counts (lists_one told) starved mid after drops) well))
  where
    flushed : (mid : History) (o : Option ℕ) (r : Result (Option ℕ) Fault) → r ≡ Ok o → FlushesFull h n table r mid → KeepsLittle mid
    flushed mid o r is a =
        let (t, there, number, one) : FlushesFull h n table (Ok o) mid = subst (λ (x : Result (Option ℕ) Fault). FlushesFull h n table x mid) is a in
        one_flushed h t n o mid (subst (λ (k : ℕ). Behind n k h) (sym number) so) one

    by : (told : Result (Option ℕ) Fault) (mid : History) (b : Bool) → is_full h n table ≡ b → FlushesIf b h n table told mid → is_want told ≡ false
        → StaysWell h.disk mid.disk → KeepsLittle mid
    by told mid false room a fed well = subst KeepsLittle (sym a.1) (not_full n table h so room)
    by told mid true full a fed well =
        let (o, is) = full_flushed h n table told mid a fed (fit full) well in
        flushed mid o told is a

-- ---- a statement

behind_deed : (m : Result Bound Refusal) (r : Reply) (want : Bool) (h after : History) → Done m r h → SettlesBehind m r want h after → want ≡ false
    → FindsBehind FitsFiles m r h → StaysWell h.disk after.disk → KeepsLittle after
behind_deed (Err x) r want h after so a v fit well = subst KeepsLittle (sym a.1) so
behind_deed (Ok (bound.Create x)) r want h after so a v fit well = subst KeepsLittle (sym a.1) so
behind_deed (Ok (bound.Alter x)) r want h after so a v fit well = subst KeepsLittle (sym a.1) so
behind_deed (Ok (bound.Read x)) r want h after so a v fit well = subst KeepsLittle (sym a.1) so
behind_deed (Ok (bound.Write w)) (reply.Wrote number) want h after so a v fit well = settles w.shard w.table want h after so a v fit well
behind_deed (Ok (bound.Write w)) reply.Done want h after so a v fit well = subst KeepsLittle (sym a.1) so
behind_deed (Ok (bound.Write w)) (reply.Rows rows shard front now) want h after so a v fit well = subst KeepsLittle (sym a.1) so
behind_deed (Ok (bound.Write w)) (reply.Flushed files) want h after so a v fit well = subst KeepsLittle (sym a.1) so
behind_deed (Ok (bound.Write w)) (reply.Verified files) want h after so a v fit well = subst KeepsLittle (sym a.1) so
behind_deed (Ok (bound.Write w)) (reply.Status listed) want h after so a v fit well = subst KeepsLittle (sym a.1) so
behind_deed (Ok (bound.Write w)) (reply.Refused why) want h after so a v fit well = subst KeepsLittle (sym a.1) so
behind_deed (Ok (bound.Write w)) (reply.Failed f) want h after so a v fit well = subst KeepsLittle (sym a.1) so

-- ---- a line

module _ (kind : ClockKind) (Gives : ℤ → Type 0) (h : History) (so : KeepsLittle h) where
  carried_out : (m : Result Bound Refusal) (o : Upshot) (t : History) → IsCarriedOut kind Gives h m o t → is_starved o ≡ false
      → ((answer : Reply) (after : History) → Does kind Gives h m answer after → FindsBehind FitsFiles m answer after) → StaysWell h.disk t.disk → KeepsLittle t
  carried_out m o t a v fit well =
      let (r, mid, says, does, behind) = a in
      let some = fed o r says v in
      let first : StaysWell h.disk mid.disk = first_stays h.disk mid.disk t.disk (stopping.behind_counts m r o.want mid t behind) well in
      let counts : Counts h.disk mid.disk = stopping.deed kind Gives h m r mid does in
      behind_deed m r o.want mid t (deed kind Gives h m r mid does so first) behind some.1 (fit r mid does)
      (rest_stays h.disk mid.disk t.disk counts well (goes_on h.disk mid.disk counts first))

  -- a flush of a table
  table_done : (t : TableSchema) (told : List ℕ) (mid : History) → FlushesTable h t (Ok told) mid → KeepsLittle mid
  table_done t told mid a =
      subst KeepsLittle (sym a.6)
      (record {
        segment = so.segment;
        memtable = so.memtable;
        filled = λ n k. all n k (k == t.number) refl (change_of a.0 n) refl (nat_lt n a.1) refl;
        short = λ n k. few n k ((k == t.number) && is_some (change_of a.0 n));
      })
    where
      all : (n k : ℕ) (b : Bool) → (k == t.number) ≡ b → (c : Option Change) → change_of a.0 n ≡ c → (d : Bool) → nat_lt n a.1 ≡ d
          → (if b && d then 0 else h.filled n k) ≡ bytes_of 0 (if b && is_some c then [] else h.unflushed n k)
      all n k false its c change d low = so.filled n k
      all n k true its (Some c) change true low = refl
      all n k true its (Some c) change false low = absurd (omega (arith, changed_within a.0 n c change, a.5.3, ltb-false n a.1 low))
      all n k true its None change true low =
          sym
          (ap (λ (j : ℕ). bytes_of 0 (h.unflushed n j)) (eqb-true k t.number its)
          ∙ said_none (h.unflushed n t.number) (a.4.none n (omega (arith, a.5.3, ltb-true n a.1 low)) change) 0)
      all n k true its None change false low = so.filled n k

      few : (n k : ℕ) (b : Bool) → bytes_of 0 (if b then [] else h.unflushed n k) ≤ 2 ^ 27
      few n k true = omega arith
      few n k false = so.short n k

  named_done : (name : TableName) (table : Option TableSchema) → table_named h.tables name ≡ table → (r : Result (List ℕ) Fault) (mid : History) → FlushesNamed h table r mid
      → tells_want (reply_of_flush r) ≡ false → ((t : TableSchema) → table_named h.tables name ≡ Some t → FitsFiles h t) → StaysWell h.disk mid.disk → KeepsLittle mid
  named_done name None named r mid a v fit well = subst KeepsLittle (sym a.1) so
  named_done name (Some t) named r mid a v fit well =
      let (told, is) = table_flushed h t r mid a v (fit t named) well in
      table_done t told mid (subst (λ (x : Result (List ℕ) Fault). FlushesTable h t x mid) is a)

  checked : (table : Option TableSchema) (r : _) (t : History) → VerifiesNamed h table r t → KeepsLittle t
  checked None r t a = subst KeepsLittle (sym a.1) so
  checked (Some x) r t a = subst KeepsLittle (sym a.3) (still h (record h { disk = record h.disk { reads = a.0 } }) refl refl refl so)

  sets : (k : ClockKind) (n : ℤ) (r : Reply) (t : History) → SetsClock k h n r t → KeepsLittle t
  sets clock.Manual n r t a = subst KeepsLittle (sym a.1) (still h (record h { clock = n }) refl refl refl so)
  sets clock.System n r t a = subst KeepsLittle (sym a.1) so

  answered : (text : List ℕ) (l : Line) → Says text l → FlushFinds FitsFiles kind Gives h text → (o : Upshot) (t : History) → Answered kind Gives h l o t
      → is_starved o ≡ false → StaysWell h.disk t.disk → KeepsLittle t
  answered text line.Blank says finds o t a v well = subst KeepsLittle (sym a.1) so
  answered text line.Syntax says finds o t a v well = subst KeepsLittle (sym a.1) so
  answered text (line.Clock n) says finds o t a v well = sets kind n a.0 t a.2
  answered text (line.Flush name) says finds o t a v well =
      let (r, mid, told, flushes, drops) = a in
      dropped (lists_any r) o.want mid t drops
      (named_done name (table_named h.tables name) refl r mid flushes (fed o (reply_of_flush r) told v).0 (λ x named. finds.0 name x says named)
      (first_stays h.disk mid.disk t.disk (stopping.dropped_counts (lists_any r) o.want mid t drops) well))
  answered text (line.Verify name) says finds o t a v well = checked (table_named h.tables name) a.0 t a.2
  answered text line.Status says finds o t a v well = subst KeepsLittle (sym a.1) so
  answered text (line.Statement s) says finds o t a v well = carried_out (meaning h.limits.shards h.tables s) o t a v (finds.1 s says) well

  one_line : (text : List ℕ) → FlushFinds FitsFiles kind Gives h text → (o : Upshot) (t : History) → Answers kind Gives h text o t → is_starved o ≡ false
      → StaysWell h.disk t.disk → KeepsLittle t
  one_line text finds o t (inl x) v well = absurd (true≢false (ap is_starved (sym x.0) ∙ v))
  one_line text finds o t (inr x) v well = answered text x.0 x.1 finds o t x.2 v well

-- ---- a run

module _ (never : LittleIsNeverTooMuch) (kind : ClockKind) (Gives : ℤ → Type 0) where
  -- behind a write that was answered with its number
  wrote_fits : (h : History) → KeepsLittle h → (w : BoundWrite) (number : ℕ) (after : History) → Does kind Gives h (Ok (bound.Write w)) (reply.Wrote number) after
      → AreSaid after → FindsBehind HasFiles (Ok (bound.Write w)) (reply.Wrote number) after → FindsBehind FitsFiles (Ok (bound.Write w)) (reply.Wrote number) after
  wrote_fits h so w number after does said has full t there =
      let (reading, given, (entries, e, takes, is)) = does in
      let behind : Behind w.shard w.table after =
      subst (Behind w.shard w.table) (sym is)
      (subst (λ (xs : List Entry). Behind w.shard w.table (after_write h w.shard reading (reply.Wrote number) xs e)) (sym takes.2)
      (entered h so w reading h.session (h.calls + 1) (reply.Wrote number) e takes.0)) in
      let files : HasFiles after t = has full t there in
      little_fits never after w.table t said there (record { live = files.live; numbers = files.numbers; short = λ n. behind.loose n t.number })

  behind_fits : (h : History) → KeepsLittle h → (m : Result Bound Refusal) (r : Reply) (after : History) → Does kind Gives h m r after → AreSaid after
      → FindsBehind HasFiles m r after → FindsBehind FitsFiles m r after
  behind_fits h so (Err x) r after does said has = tt
  behind_fits h so (Ok (bound.Create x)) r after does said has = tt
  behind_fits h so (Ok (bound.Alter x)) r after does said has = tt
  behind_fits h so (Ok (bound.Read x)) r after does said has = tt
  behind_fits h so (Ok (bound.Write w)) (reply.Wrote number) after does said has = wrote_fits h so w number after does said has
  behind_fits h so (Ok (bound.Write w)) reply.Done after does said has = tt
  behind_fits h so (Ok (bound.Write w)) (reply.Rows rows shard front now) after does said has = tt
  behind_fits h so (Ok (bound.Write w)) (reply.Flushed files) after does said has = tt
  behind_fits h so (Ok (bound.Write w)) (reply.Verified files) after does said has = tt
  behind_fits h so (Ok (bound.Write w)) (reply.Status listed) after does said has = tt
  behind_fits h so (Ok (bound.Write w)) (reply.Refused why) after does said has = tt
  behind_fits h so (Ok (bound.Write w)) (reply.Failed f) after does said has = tt

  line_fits : (h : History) (text : List ℕ) → AreSaid h → KeepsLittle h → FlushFinds HasFiles kind Gives h text → FlushFinds FitsFiles kind Gives h text
  line_fits h text said so has = (
    λ name t says named.
        let files : HasFiles h t = has.0 name t says named in
        little_fits never h t.number t said (named_there h said name t named) (record {
          live = files.live;
          numbers = files.numbers;
          short = λ n. let short : bytes_of 0 (h.unflushed n t.number) ≤ 2 ^ 27 = so.short n t.number in omega (arith, short);
        }),
    λ s says answer after does.
        behind_fits h so (meaning h.limits.shards h.tables s) answer after does
        (done_so kind Gives h s (says_spelled text (line.Statement s) s says refl) said (meaning h.limits.shards h.tables s) refl answer after does)
        (has.1 s says answer after does),
  )

  pub memtables_fit : (h : History) (ls : List (List ℕ)) → AreSaid h → KeepsLittle h → FlushesFind HasFiles kind Gives h ls → FlushesFit kind Gives h ls
  memtables_fit h [] said so has = tt
  memtables_fit h (l ∷ ls) said so has =
      let finds : FlushFinds FitsFiles kind Gives h l = line_fits h l said so has.0 in (
        finds,
        λ o after answers fed well.
            memtables_fit after ls (said_stay Gives kind h after (l ∷ []) (o ∷ []) said (after, answers, refl)) (one_line kind Gives h so l finds o after answers fed well)
            (has.1 o after answers fed well),
      )

-- ---- lines that aren't many

module _ (kind : ClockKind) (Gives : ℤ → Type 0) where
  wrote_has : (w : BoundWrite) (r : Reply) (after : History) → ((t : TableSchema) → HasFiles after t) → FindsBehind HasFiles (Ok (bound.Write w)) r after
  wrote_has w (reply.Wrote number) after has = λ full t there. has t
  wrote_has w reply.Done after has = tt
  wrote_has w (reply.Rows rows shard front now) after has = tt
  wrote_has w (reply.Flushed files) after has = tt
  wrote_has w (reply.Verified files) after has = tt
  wrote_has w (reply.Status listed) after has = tt
  wrote_has w (reply.Refused why) after has = tt
  wrote_has w (reply.Failed f) after has = tt

  behind_has : (m : Result Bound Refusal) (r : Reply) (after : History) → ((t : TableSchema) → HasFiles after t) → FindsBehind HasFiles m r after
  behind_has (Err x) r after has = tt
  behind_has (Ok (bound.Create x)) r after has = tt
  behind_has (Ok (bound.Alter x)) r after has = tt
  behind_has (Ok (bound.Write w)) r after has = wrote_has w r after has
  behind_has (Ok (bound.Read x)) r after has = tt

  line_has : (h : History) (text : List ℕ) (lines : ℕ) → AreFew h (suc lines) → FlushFinds HasFiles kind Gives h text
  line_has h text lines enough = (
    λ name t says named. record {
      live = omega (arith, enough.live, suc-mul lines (length h.shards + 1));
      numbers = omega (arith, enough.numbers, suc-mul lines (length h.shards + 1));
    },
    λ s says answer after does.
        let none : few.NoMore h after = few.deed kind Gives h (meaning h.limits.shards h.tables s) answer after does in
        behind_has (meaning h.limits.shards h.tables s) answer after (λ t. record {
          live = omega (arith, enough.live, suc-mul lines (length h.shards + 1), none.live, none.shards);
          numbers = omega (arith, enough.numbers, suc-mul lines (length h.shards + 1), none.last, none.shards);
        }),
  )

  fewer : (h after : History) (text : List ℕ) (o : Upshot) (lines : ℕ) → AreFew h (suc lines) → Answers kind Gives h text o after → AreFew after lines
  fewer h after text o lines enough answers =
      let one : few.Few h after = few.one_line kind Gives h text o after answers in
      let same : lines * (length after.shards + 1) ≡ lines * (length h.shards + 1) = ap (λ (m : ℕ). lines * (m + 1)) one.shards in
      record {
        live = omega (arith, enough.live, suc-mul lines (length h.shards + 1), one.live, same);
        numbers = omega (arith, enough.numbers, suc-mul lines (length h.shards + 1), one.last, same);
      }

  pub few_have_files : (h : History) (ls : List (List ℕ)) → AreFew h (length ls) → FlushesFind HasFiles kind Gives h ls
  few_have_files h [] enough = tt
  few_have_files h (l ∷ ls) enough =
      (line_has h l (length ls) enough, λ o after answers fed well. few_have_files after ls (fewer h after l o (length ls) enough answers))

pub begins_little : BeginsLittle
unfolding start
begins_little l entries mutations openings files faults h begins segment memtable short =
    subst KeepsLittle (sym begins.history) (record {
      segment = subst (λ (k : History). k.limits.segment ≤ 2 ^ 27) begins.history segment;
      memtable = subst (λ (k : History). k.limits.memtable ≤ 2 ^ 27) begins.history memtable;
      filled = λ n table. refl;
      short = short;
    })
