-- Along a run the disk is stopped only where the folder failed, which its count tells; its counts and its files don't fall back, its table files stay, and others
-- come behind them, in which mutations stand.
use Rattle.std.proofs.Common.{◌≡◌, ◌≤◌, ◌⊎◌, inl, inr, ⊎_elim, ℕ, zero, suc, ℤ, Bool, List, [], ◌∷◌, ◌++◌, length, ◌<◌, append-nil, append_assoc, true, false, Option, None, Some, Result, Ok, Err, refl, sym, ap, ◌∙◌, subst, arith}
use Rattle.std.specs.List.{AllByRecursion, fold}
use Rattle.std.proofs.lemmas.Bool.{true≢false}
use Rattle.cas_types.specs.declared.schema.TableSchema.{TableSchema}
use Rattle.cas_bounds.specs.ClusteringOrder.{clustering_order}
use Rattle.cas_bounds.specs.declared.order.Ordered.{Ordered}
use Rattle.cas_io.specs.Causes.{Rose}
use Rattle.cas_atoms.specs.declared.atom.Mutation.{Mutation}
use Rattle.cas_bind.specs.Meaning.{meaning}
use Rattle.cas_bind.specs.declared.bound.Bound.{Bound}
use Rattle.cas_bind.specs.declared.bound.Bound.TheVariants as bound
use Rattle.cas_changes.specs.declared.entry.Change.{Change}
use Rattle.cas_changes.specs.declared.entry.Entry.{Entry as ManifestEntry}
use Rattle.cas_effects.specs.declared.refusal.Refusal.{Refusal}
use Rattle.cas_shard.specs.declared.entry.Entry.{Entry}
use Rattle.cas_shard.specs.Shards.{ShardHistory}
use Rattle.cas_journal.specs.Reach.{GoesOn, Reach}
use Rattle.cas_lines.specs.declared.line.Line.{Line}
use Rattle.cas_lines.specs.declared.line.Line.TheVariants as line
use Rattle.cas_render.specs.declared.reply.Failure.TheVariants as failure
use Rattle.cas_render.specs.declared.reply.Reply.{Reply}
use Rattle.cas_render.specs.declared.reply.Reply.TheVariants as reply
use Rattle.cas_render.specs.declared.reply.Verdict.{Verdict}
use Rattle.cas_words.specs.declared.words.ClockKind.{ClockKind}
use Rattle.cas_words.specs.declared.words.ClockKind.TheVariants as clock
use Rattle.cas_sstread.specs.Loading.{Held}
use Rattle.cas_stored.specs.Stored.{HoldEach, StandInFile}
use Rattle.cas_streams.proofs.Weaves.{all_and, all_of}
use Rattle.cas_terms.specs.Columns.{table_named}
use Rattle.cas_view.specs.Views.{File}
use Rattle.cas_sessions.specs.declared.answer.Fault.{Fault}
use Rattle.cas_sessions.specs.declared.answer.Fault.TheVariants as fault
use Rattle.cas_sessions.specs.Dropping.{DropsSegments, EndsAfter}
use Rattle.cas_lasting.specs.Flushed.{AreInFiles, Flushed, Grows, change_of, changes_by, reach_by, without_begun, without_flushed}
use Rattle.cas_sessions.specs.Flushes.{EndsSo, FlushesNamed, FlushesTable, WhyNoFurther}
use Rattle.cas_sessions.specs.Filling.{EndsIn, FlushesIn, Settles}
use Rattle.cas_lasting.specs.History.{History, DiskState, Takes, Defines, Does, Stays, Stops, shard_at}
use Rattle.cas_sessions.specs.Verifying.{VerifiesNamed}
use Rattle.cas_node.specs.declared.upshot.Upshot.{Upshot}
use Rattle.cas_node.specs.Lines.{Answered, Answers, DropsBehind, Runs, SetsClock, SettlesBehind, lists_any}
use Rattle.cas_node.proofs.Settling.{behind, settled, then_dropped}

-- ---- table files

-- some mutations stand in the file
abbrev pub IsStanding : File Held → Type 0
IsStanding f = (order : List Ordered) × (ws : List Mutation) × StandInFile order f ws

-- in each of these files, where files hold mutations
pub each_stands : (order : List Ordered) (fs : List (File Held)) (wss : List (List Mutation)) → HoldEach order fs [] wss → AllByRecursion IsStanding fs
each_stands order [] wss h = tt
each_stands order (f ∷ fs) [] h = absurd h
each_stands order (f ∷ fs) (ws ∷ wss) h = ((order, ws, h.0), each_stands order fs wss h.1)

-- each table has in each shard the files that it had, and maybe more behind them, in which mutations stand
abbrev pub AreMore : (ℕ → ℕ → List (File Held)) → (ℕ → ℕ → List (File Held)) → Type 0
AreMore before after = (n table : ℕ) → (more : List (File Held)) × (after n table ≡ before n table ++ more) × AllByRecursion IsStanding more

no_more : (before after : ℕ → ℕ → List (File Held)) → after ≡ before → AreMore before after
no_more before after same n table = ([], ap (λ (k : ℕ → ℕ → List (File Held)). k n table) same ∙ sym (append-nil (before n table)), tt)

more_twice : (a b c : ℕ → ℕ → List (File Held)) → AreMore a b → AreMore b c → AreMore a c
more_twice a b c one two n table =
    let first = one n table in
    let second = two n table in (
      first.0 ++ second.0,
      second.1 ∙ ap (λ (l : List (File Held)). l ++ second.0) first.1 ∙ append_assoc (a n table) first.0 second.0,
      all_and IsStanding first.0 second.0 first.2 second.2,
    )

-- ---- how far the files have come

pub record IsFurther (r s : Reach) : Type 0 where
  pub segment : r.segment ≤ s.segment
  pub manifest : r.manifest ≤ s.manifest

as_far : (r s : Reach) → s ≡ r → IsFurther r s
as_far r s same = subst (IsFurther r) (sym same) (record { segment = omega arith; manifest = omega arith })

further_on : (r s : Reach) → GoesOn r s → IsFurther r s
further_on r s goes = record { segment = goes.segment; manifest = goes.manifest }

by_one : (r : Reach) (c : Option Change) → IsFurther r (reach_by r c)
by_one r None = record { segment = omega arith; manifest = omega arith }
by_one r (Some c) = record { segment = omega arith; manifest = omega arith }

further_twice : (r s t : Reach) → IsFurther r s → IsFurther s t → IsFurther r t
further_twice r s t a b = record { segment = omega (arith, a.segment, b.segment); manifest = omega (arith, a.manifest, b.manifest) }

by_all : (r : Reach) (cs : List (Option Change)) → IsFurther r (fold reach_by r cs)
by_all r [] = record { segment = omega arith; manifest = omega arith }
by_all r (c ∷ cs) = further_twice r (reach_by r c) (fold reach_by (reach_by r c) cs) (by_one r c) (by_all (reach_by r c) cs)

-- ---- a disk

-- its counts don't fall, and that of faults rises where the disk is stopped; its log and its manifest come further, and its table files stay
pub record Counts (d e : DiskState) : Type 0 where
  pub faults : d.faults ≤ e.faults
  pub reads : d.reads ≤ e.reads
  pub reach : IsFurther d.reach e.reach
  pub stops : d.stopped ≡ false → (e.stopped ≡ false) ⊎ Rose d.faults e.faults
  pub files : AreMore d.files e.files

still : (d : DiskState) → Counts d d
still d = record { faults = omega arith; reads = omega arith; reach = as_far d.reach d.reach refl; stops = λ on. inl on; files = no_more d.files d.files refl }

-- some reads of its table files failed
read_on : (d : DiskState) (n : ℕ) → d.reads ≤ n → Counts d (record d { reads = n })
read_on d n more = record { faults = omega arith; reads = more; reach = as_far d.reach d.reach refl; stops = λ on. inl on; files = no_more d.files d.files refl }

rose_before : (a b c : ℕ) → Rose a b → b ≤ c → Rose a c
rose_before a b c rose le = omega (arith, rose, le)

rose_after : (a b c : ℕ) → a ≤ b → Rose b c → Rose a c
rose_after a b c le rose = omega (arith, le, rose)

then_on : (d e f : DiskState) → Counts d e → Counts e f → Counts d f
then_on d e f a b = record {
  faults = omega (arith, a.faults, b.faults);
  reads = omega (arith, a.reads, b.reads);
  reach = further_twice d.reach e.reach f.reach a.reach b.reach;
  stops = λ on.
      ⊎_elim (λ still_on. ⊎_elim (λ goes. inl goes) (λ rose. inr (rose_after d.faults e.faults f.faults a.faults rose)) (b.stops still_on))
      (λ rose. inr (rose_before d.faults e.faults f.faults rose b.faults)) (a.stops on);
  files = more_twice d.files e.files f.files a.files b.files;
}

-- ---- a step, of any kind

of_stays : (d e : DiskState) → Stays d e → Counts d e
of_stays d e s = record { faults = s.faults; reads = omega (arith, s.files.1); reach = further_on d.reach e.reach s.reach; stops = λ on. inl (s.stopped ∙ on); files = no_more d.files e.files s.files.0 }

of_stops : (d e : DiskState) → Stops d e → Counts d e
of_stops d e s = record { faults = s.faults; reads = omega (arith, s.files.1); reach = further_on d.reach e.reach s.reach; stops = λ on. inr s.rose; files = no_more d.files e.files s.files.0 }

taken : (segment : ℕ) (m : Mutation) (x : Entry) (d : DiskState) (r : Reply) (entries : List Entry) (e : DiskState) → Takes segment m x d r entries e → Counts d e
taken segment m x d reply.Done entries e t = absurd t
taken segment m x d (reply.Wrote number) entries e t = of_stays d e t.3.1
taken segment m x d (reply.Rows rows shard front now) entries e t = absurd t
taken segment m x d (reply.Flushed files) entries e t = absurd t
taken segment m x d (reply.Verified files) entries e t = absurd t
taken segment m x d (reply.Status tables) entries e t = absurd t
taken segment m x d (reply.Refused why) entries e t = of_stays d e t.2
taken segment m x d (reply.Failed failure.Memory) entries e t = of_stays d e t.1
taken segment m x d (reply.Failed failure.Stopped) entries e t = of_stays d e t.2.1
taken segment m x d (reply.Failed failure.Disk) entries e t = of_stops d e t.2
taken segment m x d (reply.Failed failure.Read) entries e t = absurd t
taken segment m x d (reply.Failed (failure.Block n at)) entries e t = absurd t

defined : (x : ManifestEntry) (old new : List TableSchema) (d : DiskState) (r : Reply) (tables : List TableSchema) (e : DiskState) → Defines x old new d r tables e → Counts d e
defined x old new d reply.Done tables e t =
    record {
      faults = t.2.faults;
      reads = omega (arith, t.2.files.1);
      reach = subst (IsFurther d.reach) (sym t.2.reach) (record { segment = omega arith; manifest = omega arith });
      stops = λ on. inl (t.2.stopped ∙ on);
      files = no_more d.files e.files t.2.files.0;
    }
defined x old new d (reply.Wrote number) tables e t = absurd t
defined x old new d (reply.Rows rows shard front now) tables e t = absurd t
defined x old new d (reply.Flushed files) tables e t = absurd t
defined x old new d (reply.Verified files) tables e t = absurd t
defined x old new d (reply.Status listed) tables e t = absurd t
defined x old new d (reply.Refused why) tables e t = of_stays d e t.4.1
defined x old new d (reply.Failed failure.Memory) tables e t = of_stays d e t.1
defined x old new d (reply.Failed failure.Stopped) tables e t = of_stays d e t.1.1
defined x old new d (reply.Failed failure.Disk) tables e t = of_stops d e t.1
defined x old new d (reply.Failed failure.Read) tables e t = absurd t
defined x old new d (reply.Failed (failure.Block n at)) tables e t = absurd t

at_disk : (h t : History) (e : DiskState) → t.disk ≡ e → Counts h.disk e → Counts h.disk t.disk
at_disk h t e is counts = subst (Counts h.disk) (sym is) counts

unchanged : (h t : History) → t ≡ h → Counts h.disk t.disk
unchanged h t same = at_disk h t h.disk (ap (λ (k : History). k.disk) same) (still h.disk)

-- ---- a flush

pub same_or_not : (n m : ℕ) → (n ≡ m) ⊎ (n ≡ m → ⊥)
same_or_not zero zero = inl refl
same_or_not zero (suc m) = inr (λ e. absurd (omega (arith, e)))
same_or_not (suc n) zero = inr (λ e. absurd (omega (arith, e)))
same_or_not (suc n) (suc m) = next (same_or_not n m)
  where
    next : (n ≡ m) ⊎ (n ≡ m → ⊥) → (suc n ≡ suc m) ⊎ (suc n ≡ suc m → ⊥)
    next (inl same) = inl (omega (arith, same))
    next (inr other) = inr (λ e. other (omega (arith, e)))

grown : (table shard : ℕ) (s : ShardHistory) (c : Option Change) (before after : List (File Held)) → Grows table shard s c before after
    → ((d : Change) → c ≡ Some d → AllByRecursion IsStanding after) → (more : List (File Held)) × (after ≡ before ++ more) × AllByRecursion IsStanding more
grown table shard s None before after g stand = ([], g ∙ sym (append-nil before), tt)
grown table shard s (Some c) before after g stand =
    (g.0 ∷ [], g.1, (all_of IsStanding before (g.0 ∷ []) (subst (AllByRecursion IsStanding) g.1 (stand c refl))).1)

-- only shards that were flushed have a change
pub changed_within : (changes : List (Option Change)) (n : ℕ) (c : Change) → change_of changes n ≡ Some c → n < length changes
changed_within [] n c is = absurd cc
changed_within (x ∷ xs) zero c is = omega arith
changed_within (x ∷ xs) (suc n) c is = let within = changed_within xs n c is in omega (arith, within)

stand_there : (order : List Ordered) (files : List (File Held)) (ws : List Mutation) → AreInFiles order files ws → AllByRecursion IsStanding files
stand_there order files ws are = each_stands order files are.places are.stand

further : (t : TableSchema) (n : ℕ) (q : ShardHistory) (ws : List Mutation) (d e : DiskState) (f : Fault) → WhyNoFurther t n q ws d e f → (e.stopped ≡ false) ⊎ Rose d.faults e.faults
further t n q ws d e (fault.Refused why) w = inl w.1
further t n q ws d e (fault.Stopped first) w = absurd w
further t n q ws d e (fault.Disk None) w = ⊎_elim (λ rose. inr rose) (λ other. inl other.0) w
further t n q ws d e (fault.Disk (Some number)) w = absurd w
further t n q ws d e fault.Read w = inl w.0
further t n q ws d e (fault.BadBlock number at) w = absurd w
further t n q ws d e fault.Mem w = inl w

module _ (h : History) (t : TableSchema) (changes : List (Option Change)) (e : DiskState) (so : Flushed h t changes e) where
  flushed_more : AreMore h.disk.files e.files
  flushed_more n table = ⊎_elim here (λ other. ([], so.others n table other ∙ sym (append-nil (h.disk.files n table)), tt)) (same_or_not table t.number)
    where
      here : table ≡ t.number → (more : List (File Held)) × (e.files n table ≡ h.disk.files n table ++ more) × AllByRecursion IsStanding more
      here same =
          subst (λ k. (more : List (File Held)) × (e.files n k ≡ h.disk.files n k ++ more) × AllByRecursion IsStanding more) (sym same)
          (grown t.number n _ (change_of changes n) (h.disk.files n t.number) (e.files n t.number) (so.files n)
          (λ c is. stand_there (clustering_order t.columns) (e.files n t.number) _ (so.all n (changed_within changes n c is))))

  ended : (begun : ℕ) (r : Result (List ℕ) Fault) → EndsSo h t changes begun r e → (e.stopped ≡ false) ⊎ Rose h.disk.faults e.faults
  ended begun (Ok told) ends = inl ends.2
  ended begun (Err f) ends = further t (length changes) (shard_at h (length changes)) (h.unflushed (length changes) t.number) h.disk e f ends.1

  flushed_counts : (begun : ℕ) (r : Result (List ℕ) Fault) → EndsSo h t changes begun r e → Counts h.disk e
  flushed_counts begun r ends = record {
    faults = so.faults;
    reads = so.reads;
    reach = subst (IsFurther h.disk.reach) (sym so.reach) (by_all h.disk.reach changes);
    stops = λ on. ended begun r ends;
    files = flushed_more;
  }

-- a flush that an earlier fault didn't stop
abbrev pub IsBegun : History → TableSchema → Result (List ℕ) Fault → History → Type 0
IsBegun h t r after =
    (changes : List (Option Change)) × (begun : ℕ) × (e : DiskState) × (h.disk.stopped ≡ false) × Flushed h t changes e × EndsSo h t changes begun r e
    × (after ≡ record h {
      unflushed = without_flushed t.number changes h.unflushed;
      filled = without_begun t.number begun h.filled;
      changes = fold changes_by h.changes changes;
      trimmed = false;
      disk = e;
    })

begun_counts : (h : History) (t : TableSchema) (r : Result (List ℕ) Fault) (after : History) → IsBegun h t r after → Counts h.disk after.disk
begun_counts h t r after a = at_disk h after a.2 (ap (λ (k : History). k.disk) a.6) (flushed_counts h t a.0 a.2 a.4 a.1 r a.5)

flush_counts : (h : History) (t : TableSchema) (r : Result (List ℕ) Fault) (after : History) → FlushesTable h t r after → Counts h.disk after.disk
flush_counts h t (Ok told) after a = begun_counts h t (Ok told) after a
flush_counts h t (Err (fault.Stopped first)) after a = unchanged h after a.1
flush_counts h t (Err (fault.Refused why)) after a = begun_counts h t (Err (fault.Refused why)) after a
flush_counts h t (Err (fault.Disk number)) after a = begun_counts h t (Err (fault.Disk number)) after a
flush_counts h t (Err fault.Read) after a = begun_counts h t (Err fault.Read) after a
flush_counts h t (Err (fault.BadBlock number at)) after a = begun_counts h t (Err (fault.BadBlock number at)) after a
flush_counts h t (Err fault.Mem) after a = begun_counts h t (Err fault.Mem) after a

pub named_counts : (h : History) (o : Option TableSchema) (r : Result (List ℕ) Fault) (after : History) → FlushesNamed h o r after → Counts h.disk after.disk
named_counts h None r after a = unchanged h after a.1
named_counts h (Some t) r after a = flush_counts h t r after a

-- of one shard
more_in : (t : TableSchema) (n : ℕ) (q : ShardHistory) (ws : List Mutation) (c : Option Change) (r : Result (Option ℕ) Fault) (d e : DiskState) → EndsIn t n q ws c r d e
    → AreMore d.files e.files
more_in t n q ws c (Err f) d e none k j = ([], none.files k j ∙ sym (append-nil (d.files k j)), tt)
more_in t n q ws c (Ok told) d e one k j = ⊎_elim (λ here. ⊎_elim (λ of_it. own here of_it) (λ apart. other (λ both. apart both.1)) (same_or_not j t.number)) (λ apart. other (λ both. apart both.0)) (same_or_not k n)
  where
    other : ((k ≡ n) × (j ≡ t.number) → ⊥) → (more : List (File Held)) × (e.files k j ≡ d.files k j ++ more) × AllByRecursion IsStanding more
    other apart = ([], one.others k j apart ∙ sym (append-nil (d.files k j)), tt)

    own : k ≡ n → j ≡ t.number → (more : List (File Held)) × (e.files k j ≡ d.files k j ++ more) × AllByRecursion IsStanding more
    own here of_it =
        subst (λ i. (more : List (File Held)) × (e.files i j ≡ d.files i j ++ more) × AllByRecursion IsStanding more) (sym here)
        (subst (λ i. (more : List (File Held)) × (e.files n i ≡ d.files n i ++ more) × AllByRecursion IsStanding more) (sym of_it)
        (grown t.number n q c (d.files n t.number) (e.files n t.number) one.files
        (λ c is. stand_there (clustering_order t.columns) (e.files n t.number) _ one.all)))

ends_on : (t : TableSchema) (n : ℕ) (q : ShardHistory) (ws : List Mutation) (c : Option Change) (r : Result (Option ℕ) Fault) (d e : DiskState) → EndsIn t n q ws c r d e
    → (e.stopped ≡ false) ⊎ Rose d.faults e.faults
ends_on t n q ws c (Ok told) d e one = inl one.stopped
ends_on t n q ws c (Err f) d e none = further t n q ws d e f none.why

-- how far the files have come by it
far_in : (t : TableSchema) (n : ℕ) (q : ShardHistory) (ws : List Mutation) (c : Option Change) (r : Result (Option ℕ) Fault) (d e : DiskState) → EndsIn t n q ws c r d e → IsFurther d.reach e.reach
far_in t n q ws c (Ok told) d e one = subst (IsFurther d.reach) (sym one.reach) (by_one d.reach c)
far_in t n q ws c (Err f) d e none = as_far d.reach e.reach none.reach

one_counts : (h after : History) (t : TableSchema) (n : ℕ) (r : Result (Option ℕ) Fault) → FlushesIn h t n r after → Counts h.disk after.disk
one_counts h after t n r a =
    at_disk h after a.disk (ap (λ (k : History). k.disk) a.follows)
    (record {
      faults = a.faults;
      reads = a.reads;
      reach = far_in t n (shard_at h n) (h.unflushed n t.number) a.change r h.disk a.disk a.ends;
      stops = λ on. ends_on t n (shard_at h n) (h.unflushed n t.number) a.change r h.disk a.disk a.ends;
      files = more_in t n (shard_at h n) (h.unflushed n t.number) a.change r h.disk a.disk a.ends;
    })

-- segments are dropped
ends_dropped : (count : ℕ) (r : Result ℕ Fault) (d e : DiskState) → EndsAfter count r d e → d.stopped ≡ false → (e.stopped ≡ false) ⊎ Rose d.faults e.faults
ends_dropped count (Ok told) d e ends on = inl ends.2
ends_dropped count (Err (fault.Refused why)) d e ends on = inl ends.1
ends_dropped count (Err (fault.Stopped first)) d e ends on = absurd (true≢false (sym ends.0 ∙ on))
ends_dropped count (Err (fault.Disk None)) d e ends on = inr ends.1
ends_dropped count (Err (fault.Disk (Some number))) d e ends on = absurd ends
ends_dropped count (Err fault.Read) d e ends on = absurd ends
ends_dropped count (Err (fault.BadBlock number at)) d e ends on = absurd ends
ends_dropped count (Err fault.Mem) d e ends on = inl ends

drop_counts : (h after : History) (r : Result ℕ Fault) → DropsSegments h r after → Counts h.disk after.disk
drop_counts h after r a =
    at_disk h after a.disk (ap (λ (k : History). k.disk) a.follows)
    (record {
      faults = a.drops.faults;
      reads = omega (arith, a.drops.files.1);
      reach = subst (IsFurther h.disk.reach) (sym a.drops.reach) (record { segment = omega arith; manifest = omega arith });
      stops = ends_dropped a.count r h.disk a.disk a.ends;
      files = no_more h.disk.files a.disk.files a.drops.files.0;
    })

more_dropped : (h k after : History) (r : Result ℕ Fault) → Counts h.disk k.disk → DropsSegments k r after → Counts h.disk after.disk
more_dropped h k after r so drops = then_on h.disk k.disk after.disk so (drop_counts k after r drops)

pub dropped_counts : (listed want : Bool) (k after : History) → DropsBehind listed want k after → Counts k.disk after.disk
dropped_counts listed want k after drops = then_dropped (λ (a b : History). Counts a.disk b.disk) more_dropped listed want k k after (still k.disk) drops

-- ---- a memtable that is full

pub settle_counts : (h : History) (n table : ℕ) (r : Result (Option ℕ) Fault) (after : History) → Settles h n table r after → Counts h.disk after.disk
settle_counts h n table r after so = settled (λ (k j : History). Counts k.disk j.disk) unchanged one_counts more_dropped h n table r after so

pub behind_counts : (b : Result Bound Refusal) (r : Reply) (want : Bool) (h after : History) → SettlesBehind b r want h after → Counts h.disk after.disk
behind_counts b r want h after so = behind (λ (k j : History). Counts k.disk j.disk) unchanged one_counts more_dropped b r want h after so

-- ---- a check

verified_counts : (h : History) (o : Option TableSchema) (r : Result (List Verdict) Fault) (t : History) → VerifiesNamed h o r t → Counts h.disk t.disk
verified_counts h None r t a = unchanged h t a.1
verified_counts h (Some x) r t a = at_disk h t (record h.disk { reads = a.0 }) (ap (λ (k : History). k.disk) a.3) (read_on h.disk a.0 a.1)

-- ---- a line

module _ (kind : ClockKind) (Gives : ℤ → Type 0) where
  pub deed : (h : History) (m : Result Bound Refusal) (r : Reply) (t : History) → Does kind Gives h m r t → Counts h.disk t.disk
  deed h (Err x) r t a = unchanged h t a.1
  deed h (Ok (bound.Create x)) r t a = at_disk h t a.1 (ap (λ (k : History). k.disk) a.3) (defined _ _ _ _ r a.0 a.1 a.2)
  deed h (Ok (bound.Alter x)) r t a = at_disk h t a.1 (ap (λ (k : History). k.disk) a.3) (defined _ _ _ _ r a.0 a.1 a.2)
  deed h (Ok (bound.Write w)) r t a = at_disk h t a.2.1 (ap (λ (k : History). k.disk) a.2.3) (taken _ _ _ _ r a.2.0 a.2.1 a.2.2)
  deed h (Ok (bound.Read q)) r t a = at_disk h t (record h.disk { reads = a.2.0 }) (ap (λ (k : History). k.disk) a.2.3) (read_on h.disk a.2.0 a.2.1)

  answered : (h : History) (l : Line) (r : Upshot) (t : History) → Answered kind Gives h l r t → Counts h.disk t.disk
  answered h line.Blank r t a = unchanged h t a.1
  answered h line.Syntax r t a = unchanged h t a.1
  answered h (line.Clock n) r t a = clock_set kind h n a.0 t a.2
    where
      clock_set : (k : ClockKind) (h : History) (n : ℤ) (r : Reply) (t : History) → SetsClock k h n r t → Counts h.disk t.disk
      clock_set clock.Manual h n r t s = at_disk h t h.disk (ap (λ (k : History). k.disk) s.1) (still h.disk)
      clock_set clock.System h n r t s = unchanged h t s.1
  answered h (line.Flush name) r t a =
      then_dropped (λ (k j : History). Counts k.disk j.disk) more_dropped (lists_any a.0) r.want h a.1 t (named_counts h (table_named h.tables name) a.0 a.1 a.3) a.4
  answered h (line.Verify name) r t a = verified_counts h (table_named h.tables name) a.0 t a.2
  answered h line.Status r t a = unchanged h t a.1
  answered h (line.Statement s) r t a =
      let b = meaning h.limits.shards h.tables s in
      then_on h.disk a.1.disk t.disk (deed h b a.0 a.1 a.3) (behind_counts b a.0 r.want a.1 t a.4)

  pub one_line : (h : History) (text : List ℕ) (r : Upshot) (t : History) → Answers kind Gives h text r t → Counts h.disk t.disk
  one_line h text r t (inl x) = unchanged h t x.1
  one_line h text r t (inr x) = answered h x.0 r t x.2

  pub all_lines : (h : History) (ls : List (List ℕ)) (rs : List Upshot) (t : History) → Runs kind Gives h ls rs t → Counts h.disk t.disk
  all_lines h [] [] t x = unchanged h t x
  all_lines h [] (r ∷ rs) t x = absurd x
  all_lines h (l ∷ ls) [] t x = absurd x
  all_lines h (l ∷ ls) (r ∷ rs) t x = then_on h.disk x.0.disk t.disk (one_line h l r x.0 x.1) (all_lines x.0 ls rs t x.2)

  -- where the disk is stopped by the end the count rose, from whatever it was before
  pub stop_is_counted : (h : History) (ls : List (List ℕ)) (rs : List Upshot) (t : History) (before now : ℕ) → Runs kind Gives h ls rs t → h.disk.stopped ≡ false
      → before ≤ h.disk.faults → t.disk.faults ≡ now → t.disk.stopped ≡ true → Rose before now
  stop_is_counted h ls rs t before now runs on le is off =
      ⊎_elim (λ goes. absurd (true≢false (sym off ∙ goes)))
      (λ rose. subst (λ k. Rose before k) is (rose_after before h.disk.faults t.disk.faults le rose)) ((all_lines h ls rs t runs).stops on)
