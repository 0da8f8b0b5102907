-- What steps of a run come to, where the disk is well.
use Rattle.std.proofs.Common.{◌≡◌, ◌≤◌, ◌+◌, ◌⊎◌, inl, inr, ℕ, Bool, true, false, List, [], ◌∷◌, length, Option, Some, None, Result, Ok, Err, is_ok, refl, sym, ap, ◌∙◌, subst, arith}
use Rattle.std.specs.Prelude.{IsOk, slice_get}
use Rattle.std.proofs.lemmas.Bool.{true≢false}
use Rattle.cas_io.specs.Causes.{Rose}
use Rattle.cas_types.specs.declared.schema.TableSchema.{TableSchema}
use Rattle.cas_atoms.specs.declared.atom.Mutation.{Mutation}
use Rattle.cas_changes.specs.declared.entry.Entry.{Entry as ManifestEntry}
use Rattle.cas_effects.specs.declared.refusal.TheConstants.{TOO_MANY}
use Rattle.cas_journal.specs.Reach.{Reach, IsFull}
use Rattle.cas_render.specs.declared.reply.Failure.TheVariants as failure
use Rattle.cas_render.specs.declared.reply.Reply.{Reply}
use Rattle.cas_render.specs.declared.reply.Reply.TheVariants as reply
use Rattle.cas_shard.specs.declared.entry.Entry.{Entry}
use Rattle.cas_shard.specs.Shards.{ShardHistory, take_refusal}
use Rattle.cas_sessions.specs.declared.answer.Fault.{Fault}
use Rattle.cas_sessions.specs.declared.answer.Fault.TheVariants as fault
use Rattle.cas_sessions.specs.Dropping.{EndsAfter}
use Rattle.cas_sessions.specs.Filling.{FlushesFull, FlushesIn}
use Rattle.cas_sessions.specs.Flushes.{FlushesTable, WhyNoFurther}
use Rattle.cas_lasting.specs.Flushed.{WhyTooMany, numbers_added}
use Rattle.cas_lasting.specs.History.{History, DiskState, Takes, Defines, SameFiles, shard_at, tells_want}
use Rattle.cas_node.specs.Lines.{is_want, reply_of_flush}
use Rattle.cas_node.specs.Laws.{FitsFiles, IsRoomy, StaysWell, WhatFitsIsFlushed}
use Rattle.cas_node.proofs.FilesFew.{numbers_few}
use Rattle.cas_node.proofs.EntryRoom.{room_for_change, room_for_drop}
use Rattle.cas_node.proofs.Stopping.{Counts, IsBegun, IsFurther}

-- ---- a disk that is well

rose_on : (a b c d : ℕ) → a ≤ b → Rose b c → c ≤ d → Rose a d
rose_on a b c d le rose more = omega (arith, le, rose, more)

roomy_before : (r s : Reach) → IsFurther r s → IsRoomy s → IsRoomy r
roomy_before r s far room = (omega (arith, far.segment, room.0), omega (arith, far.manifest, room.1))

-- up to some disk on the way
pub first_stays : (d e f : DiskState) → Counts e f → StaysWell d f → StaysWell d e
first_stays d e f counts well = (
  well.0,
  λ rose. well.1 (rose_on d.faults d.faults e.faults f.faults (omega arith) rose counts.faults),
  roomy_before e.reach f.reach counts.reach well.2,
  λ rose. well.3 (rose_on d.reads d.reads e.reads f.reads (omega arith) rose counts.reads),
)

-- and from there to the end
pub rest_stays : (d e f : DiskState) → Counts d e → StaysWell d f → e.stopped ≡ false → StaysWell e f
rest_stays d e f counts well goes = (
  goes,
  λ rose. well.1 (rose_on d.faults e.faults f.faults f.faults counts.faults rose (omega arith)),
  well.2,
  λ rose. well.3 (rose_on d.reads e.reads f.reads f.reads counts.reads rose (omega arith)),
)

not_full : (r : Reach) → IsRoomy r → IsFull r → ⊥
not_full r room (inl segment) = absurd (omega (arith, room.0, segment))
not_full r room (inr manifest) = absurd (omega (arith, room.1, manifest))

pub no_true : (b : Bool) → b ≡ false → b ≡ true → ⊥
no_true b f t = true≢false (sym t ∙ f)

-- ---- one step, where the disk is well

-- what a write answers then, and takes
abbrev pub answer_of : Option ℕ → Mutation → Reply
answer_of None m = reply.Wrote m.number
answer_of (Some why) m = reply.Refused why

abbrev pub entries_of : Option ℕ → Entry → List Entry
entries_of None x = x ∷ []
entries_of (Some why) x = []

pub record Settled (refusal : Option ℕ) (m : Mutation) (x : Entry) (d : DiskState) (r : Reply) (entries : List Entry) (e : DiskState) : Type 0 where
  pub reply_is : r ≡ answer_of refusal m
  pub entries_are : entries ≡ entries_of refusal x
  pub goes : e.stopped ≡ false
  pub files : SameFiles d e

by_refusal : (o p : Option ℕ) (m : Mutation) (x : Entry) (d : DiskState) (r : Reply) (entries : List Entry) (e : DiskState) → o ≡ p → r ≡ answer_of p m → entries ≡ entries_of p x
    → e.stopped ≡ false → SameFiles d e → Settled o m x d r entries e
by_refusal o p m x d r entries e same is are goes files = record {
  reply_is = is ∙ ap (λ q. answer_of q m) (sym same);
  entries_are = are ∙ ap (λ q. entries_of q x) (sym same);
  goes = goes;
  files = files;
}

pub settled : (segment : ℕ) (m : Mutation) (x : Entry) (d : DiskState) (r : Reply) (entries : List Entry) (e : DiskState) → Takes segment m x d r entries e → tells_want r ≡ false → StaysWell d e
    → Settled (take_refusal segment m) m x d r entries e
settled segment m x d reply.Done entries e t v well = absurd t
settled segment m x d (reply.Wrote number) entries e t v well =
    by_refusal (take_refusal segment m) None m x d _ entries e t.0 (ap (λ n. reply.Wrote n) t.1) t.2 (t.3.1.stopped ∙ t.3.0) t.3.1.files
settled segment m x d (reply.Rows rows shard front now) entries e t v well = absurd t
settled segment m x d (reply.Flushed files) entries e t v well = absurd t
settled segment m x d (reply.Verified files) entries e t v well = absurd t
settled segment m x d (reply.Status tables) entries e t v well = absurd t
settled segment m x d (reply.Refused why) entries e t v well = by t.0
  where
    by : (take_refusal segment m ≡ Some why) ⊎ ((take_refusal segment m ≡ None) × (d.stopped ≡ false) × (why ≡ TOO_MANY) × IsFull e.reach)
        → Settled (take_refusal segment m) m x d (reply.Refused why) entries e
    by (inl some) = by_refusal (take_refusal segment m) (Some why) m x d _ entries e some refl t.1 (t.2.stopped ∙ well.0) t.2.files
    by (inr full) = absurd (not_full e.reach well.2 full.3)
settled segment m x d (reply.Failed failure.Memory) entries e t v well = absurd (true≢false v)
settled segment m x d (reply.Failed failure.Stopped) entries e t v well = absurd (no_true d.stopped well.0 t.2.0)
settled segment m x d (reply.Failed failure.Disk) entries e t v well = absurd (well.1 t.2.rose)
settled segment m x d (reply.Failed failure.Read) entries e t v well = absurd t
settled segment m x d (reply.Failed (failure.Block n at)) entries e t v well = absurd t

pub record Agreed (new tables : List TableSchema) (d : DiskState) (r : Reply) (e : DiskState) : Type 0 where
  pub done : r ≡ reply.Done
  pub are : tables ≡ new
  pub goes : e.stopped ≡ false
  pub files : SameFiles d e

pub agreed : (x : ManifestEntry) (old new : List TableSchema) (d : DiskState) (r : Reply) (tables : List TableSchema) (e : DiskState) → Defines x old new d r tables e → tells_want r ≡ false
    → StaysWell d e → Agreed new tables d r e
agreed x old new d reply.Done tables e t v well = record { done = refl; are = t.0; goes = t.2.stopped ∙ t.1; files = t.2.files }
agreed x old new d (reply.Wrote number) tables e t v well = absurd t
agreed x old new d (reply.Rows rows shard front now) tables e t v well = absurd t
agreed x old new d (reply.Flushed files) tables e t v well = absurd t
agreed x old new d (reply.Verified files) tables e t v well = absurd t
agreed x old new d (reply.Status listed) tables e t v well = absurd t
agreed x old new d (reply.Refused why) tables e t v well = absurd (omega (arith, t.2, t.3, t.4.1.reach.manifest, well.2.1))
agreed x old new d (reply.Failed failure.Memory) tables e t v well = absurd (true≢false v)
agreed x old new d (reply.Failed failure.Stopped) tables e t v well = absurd (no_true d.stopped well.0 t.1.0)
agreed x old new d (reply.Failed failure.Disk) tables e t v well = absurd (well.1 t.1.rose)
agreed x old new d (reply.Failed failure.Read) tables e t v well = absurd t
agreed x old new d (reply.Failed (failure.Block n at)) tables e t v well = absurd t

-- ---- a flush, where the disk is well

-- there isn't too much of anything
fits : (h : History) (t : TableSchema) (n count more : ℕ) (e : DiskState) → FitsFiles h t → IsRoomy e.reach → e.live ≡ h.disk.live + more → more ≤ count → count ≤ length h.shards
    → e.last_file ≤ h.disk.last_file + count + 1 → WhyTooMany t n (shard_at h n) (h.unflushed n t.number) e → ⊥
fits h t n count more e fit room live few many last (inl (inl full)) = absurd (omega (arith, fit.live, live, few, many, full))
fits h t n count more e fit room live few many last (inl (inr full)) = absurd (omega (arith, fit.numbers, last, many, full))
fits h t n count more e fit room live few many last (inr (inl entry)) =
    room_for_change t.number n (shard_at h n) entry.file entry.change e.reach entry.lists entry.fits room entry.full
fits h t n count more e fit room live few many last (inr (inr much)) = fit.no_more n much

-- why a flush went no further is none of these, but that memory ran out
no_fault : (t : TableSchema) (n : ℕ) (q : ShardHistory) (ws : List Mutation) (d e : DiskState) (f : Fault) → WhyNoFurther t n q ws d e f → (WhyTooMany t n q ws e → ⊥) → StaysWell d e
    → (f ≡ fault.Mem → ⊥) → ⊥
no_fault t n q ws d e (fault.Refused why) w few well fed = few w.2
no_fault t n q ws d e (fault.Stopped first) w few well fed = w
no_fault t n q ws d e (fault.Disk None) w few well fed = by w
  where
    by : Rose d.faults e.faults ⊎ ((e.stopped ≡ false) × Rose d.reads e.reads) → ⊥
    by (inl rose) = well.1 rose
    by (inr other) = well.3 other.1
no_fault t n q ws d e (fault.Disk (Some number)) w few well fed = w
no_fault t n q ws d e fault.Read w few well fed = well.3 w.1
no_fault t n q ws d e (fault.BadBlock number at) w few well fed = w
no_fault t n q ws d e fault.Mem w few well fed = fed refl

begun_well : (h : History) (t : TableSchema) (f : Fault) (after : History) → IsBegun h t (Err f) after → FitsFiles h t → StaysWell h.disk after.disk → (f ≡ fault.Mem → ⊥) → ⊥
begun_well h t f after a fit well fed =
    let here : StaysWell h.disk a.2 = subst (StaysWell h.disk) (ap (λ (k : History). k.disk) a.6) well in
    no_fault t (length a.0) (shard_at h (length a.0)) (h.unflushed (length a.0) t.number) h.disk a.2 f a.5.1
    (fits h t (length a.0) (length a.0) (length (numbers_added a.0)) a.2 fit here.2 a.4.live (numbers_few h t a.0 a.2 a.4) (omega (arith, a.5.0)) a.4.last_file.1) here fed

fed_flush : (f : Fault) → tells_want (reply_of_flush (Err f)) ≡ false → f ≡ fault.Mem → ⊥
fed_flush f v is = true≢false (ap (λ (g : Fault). tells_want (reply_of_flush (Err g))) (sym is) ∙ v)

pub table_flushed : (h : History) (t : TableSchema) (r : Result (List ℕ) Fault) (after : History) → FlushesTable h t r after → tells_want (reply_of_flush r) ≡ false → FitsFiles h t
    → StaysWell h.disk after.disk → (told : List ℕ) × (r ≡ Ok told)
table_flushed h t (Ok told) after a v fit well = (told, refl)
table_flushed h t (Err (fault.Stopped first)) after a v fit well = absurd (no_true h.disk.stopped well.0 a.0)
table_flushed h t (Err (fault.Refused why)) after a v fit well = absurd (begun_well h t (fault.Refused why) after a fit well (fed_flush (fault.Refused why) v))
table_flushed h t (Err (fault.Disk number)) after a v fit well = absurd (begun_well h t (fault.Disk number) after a fit well (fed_flush (fault.Disk number) v))
table_flushed h t (Err fault.Read) after a v fit well = absurd (begun_well h t fault.Read after a fit well (fed_flush fault.Read v))
table_flushed h t (Err (fault.BadBlock number at)) after a v fit well =
    absurd (begun_well h t (fault.BadBlock number at) after a fit well (fed_flush (fault.BadBlock number at) v))
table_flushed h t (Err fault.Mem) after a v fit well = absurd (true≢false v)

one_well : (h : History) (t : TableSchema) (n : ℕ) (f : Fault) (after : History) → FlushesIn h t n (Err f) after → FitsFiles h t → StaysWell h.disk after.disk → (f ≡ fault.Mem → ⊥) → ⊥
one_well h t n f after a fit well fed =
    let here : StaysWell h.disk a.disk = subst (StaysWell h.disk) (ap (λ (k : History). k.disk) a.follows) well in
    no_fault t n (shard_at h n) (h.unflushed n t.number) h.disk a.disk f a.ends.why
    (fits h t n 0 0 a.disk fit here.2 (omega (arith, a.ends.live)) (omega arith) (omega arith) (omega (arith, a.last_file))) here fed

fed_full : (f : Fault) → is_want {T = Option ℕ} (Err f) ≡ false → f ≡ fault.Mem → ⊥
fed_full f v is = true≢false (ap (λ (g : Fault). is_want {T = Option ℕ} (Err g)) (sym is) ∙ v)

pub full_flushed : (h : History) (n table : ℕ) (r : Result (Option ℕ) Fault) (after : History) → FlushesFull h n table r after → is_want r ≡ false
    → ((t : TableSchema) → slice_get h.tables table ≡ Some t → FitsFiles h t) → StaysWell h.disk after.disk → (told : Option ℕ) × (r ≡ Ok told)
full_flushed h n table (Ok told) after a v fit well = (told, refl)
full_flushed h n table (Err (fault.Stopped first)) after a v fit well = absurd (no_true h.disk.stopped well.0 a.0)
full_flushed h n table (Err (fault.Refused why)) after a v fit well =
    absurd (one_well h a.0 n (fault.Refused why) after a.3 (fit a.0 a.1) well (fed_full (fault.Refused why) v))
full_flushed h n table (Err (fault.Disk number)) after a v fit well = absurd (one_well h a.0 n (fault.Disk number) after a.3 (fit a.0 a.1) well (fed_full (fault.Disk number) v))
full_flushed h n table (Err fault.Read) after a v fit well = absurd (one_well h a.0 n fault.Read after a.3 (fit a.0 a.1) well (fed_full fault.Read v))
full_flushed h n table (Err (fault.BadBlock number at)) after a v fit well =
    absurd (one_well h a.0 n (fault.BadBlock number at) after a.3 (fit a.0 a.1) well (fed_full (fault.BadBlock number at) v))
full_flushed h n table (Err fault.Mem) after a v fit well = absurd (true≢false v)

fed_table : (r : Result (List ℕ) Fault) → is_want r ≡ false → tells_want (reply_of_flush r) ≡ false
fed_table (Ok told) v = refl
fed_table (Err (fault.Refused why)) v = refl
fed_table (Err (fault.Stopped first)) v = refl
fed_table (Err (fault.Disk number)) v = refl
fed_table (Err fault.Read) v = refl
fed_table (Err (fault.BadBlock number at)) v = refl
fed_table (Err fault.Mem) v = v

pub what_fits_is_flushed : WhatFitsIsFlushed
what_fits_is_flushed = record {
  told = λ h t r after flushes fed fits well.
      let (told, is) = table_flushed h t r after flushes (fed_table r fed) fits well in
      subst IsOk (sym is) refl;
  full = λ h n table r after flushes fed fits well.
      let (told, is) = full_flushed h n table r after flushes fed fits well in
      subst IsOk (sym is) refl;
}

-- and segments are dropped, none but for memory
pub record Dropped (r : Result ℕ Fault) (e : DiskState) : Type 0 where
  pub well : is_ok r ≡ true
  pub goes : e.stopped ≡ false

pub dropped_well : (count : ℕ) (r : Result ℕ Fault) (d e : DiskState) → EndsAfter count r d e → is_want r ≡ false → StaysWell d e → Dropped r e
dropped_well count (Ok told) d e ends v well = record { well = refl; goes = ends.2 }
dropped_well count (Err (fault.Refused why)) d e ends v well = absurd (room_for_drop ends.2.0 e.reach well.2 ends.2.1)
dropped_well count (Err (fault.Stopped first)) d e ends v well = absurd (no_true d.stopped well.0 ends.0)
dropped_well count (Err (fault.Disk None)) d e ends v well = absurd (well.1 ends.1)
dropped_well count (Err (fault.Disk (Some number))) d e ends v well = absurd ends
dropped_well count (Err fault.Read) d e ends v well = absurd ends
dropped_well count (Err (fault.BadBlock number at)) d e ends v well = absurd ends
dropped_well count (Err fault.Mem) d e ends v well = absurd (true≢false v)
