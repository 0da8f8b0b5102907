-- A write: what its steps come to in the history.
use Rattle.std.proofs.Common.{◌≡◌, ◌≢◌, ◌<◌, ◌≤◌, ◌+◌, ◌^◌, ◌/◌, ◌-◌, min, inl, inr, ℕ, ℤ, zero, suc, Bool, true, false, List, [], ◌∷◌, ◌++◌, length, map, Option, Some, None, Result, Ok, Err, is_some, refl, sym, ap, ◌∙◌, subst, arith, length-append}
use Rattle.std.specs.Prelude.{slice_get, slice_set, slice_index_or, ◌⊎◌}
use Rattle.std.proofs.lemmas.Bool.{lt-ltb}
use Rattle.std.proofs.lemmas.List.{flat_map_more}
use Rattle.std.proofs.lemmas.Option.{same_Some}
use Rattle.cas_types.specs.declared.schema.TableSchema.{TableSchema}
use Rattle.cas_io.specs.Causes.{Rose}
use Rattle.cas_disk.specs.Disk.{Disk, During, Image}
use Rattle.cas_gates.specs.declared.first.First.{First}
use Rattle.cas_atoms.specs.Fits.{FitsMutation}
use Rattle.cas_atoms.specs.LogLength.{record_length}
use Rattle.cas_atoms.specs.declared.atom.Mutation.{Mutation}
use Rattle.cas_bind.specs.Fitting.{BoundFits}
use Rattle.cas_bind.specs.declared.bound.Bound.TheVariants as bound
use Rattle.cas_effects.specs.declared.effect.BoundWrite.{BoundWrite}
use Rattle.cas_shard.specs.declared.entry.Entry.{Entry}
use Rattle.cas_shard.specs.declared.entry.Entry.TheVariants as entry
use Rattle.cas_history.specs.declared.item.Item.TheVariants.{Wrote}
use Rattle.cas_journal.specs.Ends.{Prepares as JournalPrepares, Ends, EndsBy, IsOfFolder}
use Rattle.cas_journal.specs.Journals.{MayTake}
use Rattle.cas_journal.specs.Reach.{Reach, GoesOn, IsFull, reach_of}
use Rattle.cas_journal.specs.Stores.{FailedToName, MadeRoom, SameTables, Told, took}
use Rattle.cas_journal.specs.declared.fault.Counted.{Counted}
use Rattle.cas_journal.specs.declared.fault.JournalFault.{JournalFault}
use Rattle.cas_journal.specs.declared.fault.JournalFault.TheVariants.{TooLarge, TooMany, Stopped, Failed, Mem}
use Rattle.cas_history.specs.Hands.{numbers}
use Rattle.cas_render.specs.declared.reply.Failure.TheVariants as failure
use Rattle.cas_render.specs.declared.reply.Reply.{Reply}
use Rattle.cas_render.specs.declared.reply.Reply.TheVariants as reply
use Rattle.cas_room.specs.declared.event.Event.TheVariants as event
use Rattle.cas_room.specs.Keeping.{Keeps}
use Rattle.cas_room.specs.Rooms.{accepted_in, mutation_of as accepted_of}
use Rattle.cas_opening.specs.Opening.{is_above}
use Rattle.cas_changes.specs.Saying.{part_of, said_by}
use Rattle.cas_memtable.specs.Kept.{bytes_of}
use Rattle.cas_shard.specs.Flushing.{KeepsBytes, bytes_at, one_of}
use Rattle.cas_shard.specs.declared.entry.ShardOpening.{ShardOpening}
use Rattle.cas_shard.specs.Shards.{ShardHistory, Prepares, empty_shard, found_shard, mutation_at, number_of, prepare_answer, raised, restored, take_refusal, taken_unless, wants, entered as with_entered}
use Rattle.cas_shard.specs.Stands.{Belongs, IsPrepared, IsReady, KeepsFiles, ShardState, Stands, Suits, files_at}
use Rattle.cas_sstread.specs.Loading.{Held}
use Rattle.cas_view.specs.Views.{File}
use Rattle.cas_shard.specs.declared.answers.TakeFault.{TakeFault}
use Rattle.cas_shard.specs.declared.answers.TakeFault.TheVariants as fault
use Rattle.cas_recovery.specs.Restored.{RememberAll, RemembersJust}
use Rattle.cas_lasting.specs.History.{History, DiskState, SameFiles, Takes, WritesAt, Stays, acknowledges, after_entries, after_write, entry_of, shard_at, with_shard}
use Rattle.cas_lasting.specs.Entered.{entries_in}
use Rattle.cas_lasting.specs.Explained.{IsNotAhead}
use Rattle.cas_lasting.specs.Nodes.{Explains, State, StandsFor, LastsFor, disk_of, files_in, Moves}
use Rattle.cas_lasting.specs.Inner.Sound.{IsSoundState}
use Rattle.cas_lasting.specs.Inner.Printed.{reply_for}
use Rattle.cas_recovery.proofs.Places.{get_within, get_map, index_here, index_other, length_set}
use Rattle.cas_lasting.proofs.Explaining.{GoesFurther, KeepFilesOf, entered_ahead, explains_named, explains_still, explains_taken, further_at, goes_nowhere, keep_files, keep_files_none, raised_further}
use Rattle.cas_lasting.proofs.Filing.{files_still}
use Rattle.cas_lasting.proofs.Filled.{as_entry, filled_more}
use Rattle.cas_lasting.proofs.Moving.{none_more, one_more, with_entries, raised_is, stands_write}
use Rattle.cas_lasting.proofs.Remembering.{all_entered, all_still, just_with, with_entry, with_none}
use Rattle.cas_lasting.proofs.Lasting.{lasts_still, may_be_taken, lasts_with_room, lasts_taken, untrimmed}

-- ---- places

pub seat_at : {X : Type 0} (xs : List X) (n : ℕ) (x : X) → n < length xs → x ≡ slice_index_or xs n x → slice_get xs n ≡ Some x
seat_at [] n x lt e = absurd (omega (arith, lt))
seat_at (z ∷ xs) zero x lt e = ap Some (sym e)
seat_at (z ∷ xs) (suc n) x lt e = seat_at xs n x (omega (arith, lt)) e

pub set_twice : {X : Type 0} (xs : List X) (n : ℕ) (a b : X) → slice_set (slice_set xs n a) n b ≡ slice_set xs n b
set_twice [] n a b = refl
set_twice (x ∷ xs) zero a b = refl
set_twice (x ∷ xs) (suc n) a b = ap (λ ys. x ∷ ys) (set_twice xs n a b)

length_numbers : (k m : ℕ) → length (numbers k m) ≡ m
length_numbers k zero = refl
length_numbers k (suc m) = ap suc (length_numbers (suc k) m)

get_numbers : (m k n : ℕ) → n < m → slice_get (numbers k m) n ≡ Some (k + n)
get_numbers zero k n lt = absurd (omega (arith, lt))
get_numbers (suc m) k zero lt = ap Some (omega arith)
get_numbers (suc m) k (suc n) lt = get_numbers m (suc k) n (omega (arith, lt)) ∙ ap Some (omega arith)

length_map : {X Y : Type 0} (f : X → Y) (xs : List X) → length (map f xs) ≡ length xs
length_map f [] = refl
length_map f (x ∷ xs) = ap suc (length_map f xs)

-- the seat in a place, and its place
pub seated : {X : Type 0} (place : X → ℕ) (fs : List X) (m n : ℕ) (f : X) → map place fs ≡ numbers 0 m → n < m → f ≡ slice_index_or fs n f → slice_get fs n ≡ Some f
seated place fs m n f places lt is = seat_at fs n f (omega (arith, lt, long)) is
  where
    long : length fs ≡ m
    long = sym (length_map place fs) ∙ ap length places ∙ length_numbers 0 m

pub place_is : {X : Type 0} (place : X → ℕ) (fs : List X) (m n : ℕ) (f : X) → map place fs ≡ numbers 0 m → n < m → slice_get fs n ≡ Some f → place f ≡ n
place_is place fs m n f places lt there =
    same_Some (place f) n (sym (get_map place fs n f there) ∙ ap (λ ns. slice_get ns n) places ∙ get_numbers m 0 n lt ∙ ap Some (omega arith))

pub number_is : {X Y : Type 0} (a : X → ℕ) (b : Y → ℕ) (fs : List X) (xs : List Y) (n : ℕ) (f : X) (x : Y) → map a fs ≡ map b xs → slice_get fs n ≡ Some f
    → slice_get xs n ≡ Some x → a f ≡ b x
number_is a b fs xs n f x same at_f at_x =
    same_Some (a f) (b x) (sym (get_map a fs n f at_f) ∙ ap (λ ns. slice_get ns n) same ∙ get_map b xs n x at_x)

-- ---- what is prepared

refusal_is : (o : Option ℕ) (m : Mutation) (why : ℕ) → Err (fault.Refused why) ≡ taken_unless o m → o ≡ Some why
refusal_is None m why e = cc
refusal_is (Some x) m why e = cc

prepared_is : (o : Option ℕ) (m p : Mutation) → Ok p ≡ taken_unless o m → (o ≡ None) × (p ≡ m)
prepared_is None m p e = (refl, cc)
prepared_is (Some x) m p e = (cc, cc)

-- What is known when a shard was asked to prepare a write: it stood in its place, and what it gave.
pub record Asked (s : State) (w : BoundWrite) (reading : ℤ) (x y : ShardState) (result : Result Mutation TakeFault) : Type 0 where
  pub sound : IsSoundState s
  pub within : w.shard < s.limits.shards
  pub fits : BoundFits s.limits.shards s.tables (bound.Write w)
  pub seat : x ≡ slice_index_or s.shards w.shard x
  pub files : KeepsFiles x y
  pub answered : (tables : List TableSchema) (q : ShardHistory) → Stands tables q x → Prepares s.limits.segment q reading w result
  pub stands : (tables : List TableSchema) (shards : ℕ) (q : ShardHistory) → Stands tables q x → Suits tables shards w → Stands tables (raised reading q) y
  pub number : y.number ≡ x.number
  pub memory : (table : ℕ) (ws : List Mutation) → RemembersJust s.tables table ws x → RemembersJust s.tables table ws y
  pub bytes : KeepsBytes x y

-- the mutation of a write, in a history
abbrev pub mutation_in : History → ℤ → BoundWrite → Mutation
mutation_in h reading w = mutation_at reading (shard_at h w.shard) w

module _ (s : State) (w : BoundWrite) (reading : ℤ) (x y : ShardState) (result : Result Mutation TakeFault) (asked : Asked s w reading x y result) where
  pub there : slice_get s.shards w.shard ≡ Some x
  there = seat_at s.shards w.shard x (subst (λ (k : ℕ). w.shard < k) (sym asked.sound.count) asked.within) asked.seat

  module _ (h : History) (stands : StandsFor h s) where
    stood : Stands h.tables (shard_at h w.shard) x
    stood = stands.shards w.shard x there

    suits : Suits h.tables s.limits.shards w
    suits = (asked.fits.0, subst (λ (ts : List TableSchema). slice_get ts w.table ≡ Some asked.fits.0) (sym stands.tables) asked.fits.1, asked.fits.2)

    raises : Stands h.tables (raised reading (shard_at h w.shard)) y
    raises = asked.stands h.tables s.limits.shards (shard_at h w.shard) stood suits

    stands_raised : Stands h.tables (after_entries reading [] (shard_at h w.shard)) y
    stands_raised = subst (λ (q : ShardHistory). Stands h.tables q y) (raised_is reading (shard_at h w.shard)) raises

    refused_for : (why : ℕ) → result ≡ Err (fault.Refused why) → take_refusal h.limits.segment (mutation_in h reading w) ≡ Some why
    unfolding take_refusal prepare_answer
    refused_for why is =
        subst (λ l. take_refusal l.segment (mutation_in h reading w) ≡ Some why) (sym stands.limits)
        (refusal_is (take_refusal s.limits.segment (mutation_in h reading w)) (mutation_in h reading w) why
        (sym is ∙ asked.answered h.tables (shard_at h w.shard) stood (ap wants is)))

    prepared_for : (m : Mutation) → result ≡ Ok m → (take_refusal h.limits.segment (mutation_in h reading w) ≡ None) × (m ≡ mutation_in h reading w)
    unfolding take_refusal prepare_answer
    prepared_for m is =
        let both = prepared_is (take_refusal s.limits.segment (mutation_in h reading w)) (mutation_in h reading w) m
        (sym is ∙ asked.answered h.tables (shard_at h w.shard) stood (ap wants is)) in
        (subst (λ l. take_refusal l.segment (mutation_in h reading w) ≡ None) (sym stands.limits) both.0, both.1)

-- ---- a write that wasn't taken

-- what may be left explains it still, where the shard only met a reading
module _ (s : State) (w : BoundWrite) (reading : ℤ) (x y : ShardState) (result : Result Mutation TakeFault) (asked : Asked s w reading x y result) (h : History) (stands : StandsFor h s) where
  still_explained : (r : Reply) (entries : List Entry) (t : State) (d e : Disk) (told : Told) → t.shards ≡ slice_set s.shards w.shard y → (stood : DiskState) → t.tables ≡ s.tables
      → accepted_in t.list ≡ accepted_in s.list → entries ≡ [] → KeepFilesOf told d e → GoesFurther (shard_at h w.shard) (after_entries reading entries (shard_at h w.shard))
      → (found : List Mutation) (openings : ℕ → ShardOpening) → Explains openings h found s d told
      → Explains openings (after_write h w.shard reading r entries stood) found t e told
  still_explained r entries t d e told shards stood tables list none files further found openings explained =
      let at : slice_get s.shards w.shard ≡ Some x = there s w reading x y result asked in
      explains_still openings h (after_write h w.shard reading r entries stood) found s t d e told
      (further_at h w.shard (after_entries reading entries (shard_at h w.shard)) (subst (λ (k : ℕ). w.shard < k) (sym stands.count) (get_within s.shards w.shard x at)) further)
      (length_set h.shards w.shard (after_entries reading entries (shard_at h w.shard))) list files
      (λ ms have.
      subst (λ (ts : List TableSchema). RememberAll ts ms t.shards) (sym tables)
      (subst (RememberAll s.tables ms) (sym shards) (all_still s.tables s.shards w.shard x y ms at asked.memory have)))
      explained

abbrev pub prepared_only : State → ℕ → ShardState → State
prepared_only s n y = record s { shards = slice_set s.shards n y }

module _ (s : State) (w : BoundWrite) (reading : ℤ) (x y : ShardState) (result : Result Mutation TakeFault) (asked : Asked s w reading x y result) (d : Disk) where
  abbrev disk_now : DiskState
  disk_now = disk_of (prepared_only s w.shard y)

  -- nothing was written to the disk
  stays_same : Stays (disk_of s) disk_now
  stays_same = record {
    stopped = refl;
    faults = omega arith;
    reach = record { segment = omega arith; segment_next = omega arith; manifest = omega arith; manifest_next = omega arith };
    files = (files_still s.shards w.shard x y (there s w reading x y result asked) asked.files, refl, refl, refl);
  }

  at_once : (r : Reply) → acknowledges r ≡ 0
      → ((h : History) → StandsFor h s → Takes h.limits.segment (mutation_in h reading w) (entry_of h (mutation_in h reading w)) h.disk r [] disk_now)
      → Moves (λ h after. WritesAt h reading w r after) s (prepared_only s w.shard y) d d
  at_once r quiet takes h stands =
      let after : History = after_write h w.shard reading r [] disk_now in (
        after,
        ([], disk_now, takes h stands, refl),
        record {
          stands = stands_write h s (prepared_only s w.shard y) w.shard x y reading [] stands (there s w reading x y result asked) refl (stands_raised s w reading x y result asked h stands)
              (λ k. none_more w.shard k (entries_in k s.list))
              (just_with s.tables h.unflushed s.shards w.shard x y [] (there s w reading x y result asked) (with_none s.tables x y asked.memory) stands.memory)
              (filled_more h.filled s.shards w.shard x y (there s w reading x y result asked) stands.filled [] asked.bytes) r refl refl refl refl (omega arith);
          lasts = λ found told lasts. (
            told,
            lasts_still h after found s (prepared_only s w.shard y) d d told w.shard x y (omega (arith, quiet)) refl (there s w reading x y result asked) refl asked.number
                (λ l el c ec keeps. subst (λ j. Keeps s.journal d l j found told) (sym ec) (subst (λ j. Keeps s.journal d j s.committed found told) (sym el) keeps))
                refl refl refl refl refl (λ on. on) refl refl (files_still s.shards w.shard x y (there s w reading x y result asked) asked.files) refl untrimmed lasts,
            still_explained s w reading x y result asked h stands r [] (prepared_only s w.shard y) d d told refl (disk_of (prepared_only s w.shard y)) refl refl refl (keep_files_none told d)
                (raised_further reading (shard_at h w.shard)) found,
          );
        },
      )

  pub refused_at_once : (why told : ℕ) → why ≡ told → result ≡ Err (fault.Refused told)
      → Moves (λ h after. WritesAt h reading w (reply.Refused why) after) s (prepared_only s w.shard y) d d
  refused_at_once why told same is =
      at_once (reply.Refused why) refl
      (λ h stands. (
        inl (refused_for s w reading x y result asked h stands why (is ∙ ap (λ k. Err (fault.Refused k)) (sym same))),
        refl,
        subst (λ e. Stays e disk_now) (sym stands.disk) stays_same,
      ))

  pub starved_at_once : Moves (λ h after. WritesAt h reading w (reply.Failed failure.Memory) after) s (prepared_only s w.shard y) d d
  starved_at_once =
      at_once (reply.Failed failure.Memory) refl (λ h stands. (refl, subst (λ e. Stays e disk_now) (sym stands.disk) stays_same))

-- ---- a write that the room didn't take

-- the table files, by shard and table
abbrev Files : Type 0
Files = ℕ → ℕ → List (File Held)

-- how a disk stands: what fault is kept, the folder's count of faults, and how far the files have come; what table files there are, how often a read
-- of one failed, the last number of one, and how many are listed
abbrev standing : Option First → ℕ → Reach → Files → ℕ → ℕ → ℕ → DiskState
standing first faults reach files reads last live =
    record { stopped = is_some first; faults = faults; reach = reach; files = files; reads = reads; last_file = last; live = live }

abbrev failed : {T : Type 0} → JournalFault → Result T JournalFault
failed f = Err f

err_is : {T : Type 0} (a b : JournalFault) → failed {T = T} a ≡ failed {T = T} b → a ≡ b
err_is a b e = cc

many_not : (what : Counted) (n : ℕ) (g : First) → TooMany what n ≡ Stopped g → ⊥
many_not what n g e = cc

failed_not : (g : First) → Failed ≡ Stopped g → ⊥
failed_not g e = cc

mem_not : (g : First) → Mem ≡ Stopped g → ⊥
mem_not g e = cc

-- nothing was kept before, or what was kept stopped the call
ended : (first kept : Option First) (before now : ℕ) (f : JournalFault) → Ends {T = Unit {0}} first kept before now (Err f)
    → ((first ≡ None) × EndsBy f kept before now) ⊎ ((g : First) × (f ≡ Stopped g) × (first ≡ Some g) × (kept ≡ Some g))
ended None kept before now f p = inl (refl, p)
ended (Some g) kept before now f p = inr (g, err_is f (Stopped g) p.0, refl, p.1)

module _ (old new : Files) (reads reads_now last last_now live live_now : ℕ)
    (same : (new ≡ old) × (reads_now ≡ reads) × (last_now ≡ last) × (live_now ≡ live)) where
  fault_takes : (f : JournalFault) (first kept : Option First) (before now : ℕ) (a b : Reach) (segment long most : ℕ) (m : Mutation) (x : Entry)
      → JournalPrepares {T = ℕ} long most first kept before now (Err f) → long ≤ most → take_refusal segment m ≡ None → GoesOn a b → before ≤ now
      → ((what : Counted) (n : ℕ) → f ≡ TooMany what n → IsFull b)
      → Takes segment m x (standing first before a old reads last live) (reply_for f) [] (standing kept now b new reads_now last_now live_now)
  fault_takes (TooLarge length limit) first kept before now a b segment long most m x p short none goes rises full = absurd (omega (arith, p.0, short))
  fault_takes (TooMany what n) first kept before now a b segment long most m x p short none goes rises full = by (ended first kept before now (TooMany what n) p.1)
    where
      by : ((first ≡ None) × EndsBy (TooMany what n) kept before now) ⊎ ((g : First) × (TooMany what n ≡ Stopped g) × (first ≡ Some g) × (kept ≡ Some g))
          → Takes segment m x (standing first before a old reads last live) (reply_for (TooMany what n)) [] (standing kept now b new reads_now last_now live_now)
      by (inl c) =
          (inr (none, ap is_some c.0, refl, full what n refl), refl, record { stopped = ap is_some c.1 ∙ sym (ap is_some c.0); faults = rises; reach = goes; files = same })
      by (inr c) = absurd (many_not what n c.0 c.1)
  fault_takes (Stopped g) first kept before now a b segment long most m x p short none goes rises full = by (ended first kept before now (Stopped g) p.1)
    where
      by : ((first ≡ None) × EndsBy (Stopped g) kept before now) ⊎ ((h : First) × (Stopped g ≡ Stopped h) × (first ≡ Some h) × (kept ≡ Some h))
          → Takes segment m x (standing first before a old reads last live) (reply.Failed failure.Stopped) [] (standing kept now b new reads_now last_now live_now)
      by (inl c) = absurd c.1
      by (inr c) = (none, refl, (ap is_some c.2, record { stopped = ap is_some c.3 ∙ sym (ap is_some c.2); faults = rises; reach = goes; files = same }))
  fault_takes Failed first kept before now a b segment long most m x p short none goes rises full = by (ended first kept before now Failed p.1)
    where
      by : ((first ≡ None) × EndsBy Failed kept before now) ⊎ ((g : First) × (Failed ≡ Stopped g) × (first ≡ Some g) × (kept ≡ Some g))
          → Takes segment m x (standing first before a old reads last live) (reply.Failed failure.Disk) [] (standing kept now b new reads_now last_now live_now)
      by (inl c) =
          (none, inl refl, record { before = ap is_some c.0; stopped = ap is_some c.1.1; faults = rises; rose = c.1.0; reach = goes; files = same })
      by (inr c) = absurd (failed_not c.0 c.1)
  fault_takes Mem first kept before now a b segment long most m x p short none goes rises full = by (ended first kept before now Mem p.1)
    where
      by : ((first ≡ None) × EndsBy Mem kept before now) ⊎ ((g : First) × (Mem ≡ Stopped g) × (first ≡ Some g) × (kept ≡ Some g))
          → Takes segment m x (standing first before a old reads last live) (reply.Failed failure.Memory) [] (standing kept now b new reads_now last_now live_now)
      by (inl c) = (refl, record { stopped = ap is_some c.1 ∙ sym (ap is_some c.0); faults = rises; reach = goes; files = same })
      by (inr c) = absurd (mem_not c.0 c.1)

quiet : (f : JournalFault) → acknowledges (reply_for f) ≡ 0
quiet (TooLarge length limit) = refl
quiet (TooMany what n) = refl
quiet (Stopped g) = refl
quiet Failed = refl
quiet Mem = refl

-- what is left where the room didn't take the mutation
pub record NotTaken (s t : State) (d e : Disk) (n : ℕ) (y : ShardState) (m : Mutation) (f : JournalFault) : Type 0 where
  pub shards : t.shards ≡ slice_set s.shards n y
  pub limits : t.limits ≡ s.limits
  pub tables : t.tables ≡ s.tables
  pub clock : t.clock ≡ s.clock
  pub session : t.session ≡ s.session
  pub calls : t.calls ≡ s.calls
  pub list : t.list ≡ s.list
  pub accepted : t.accepted ≡ s.accepted
  pub committed : t.committed ≡ s.committed
  pub keeps : (found : List Mutation) (told : Told) → Keeps s.journal d s.list s.committed found told → MayTake told m
      → (u : Told) × MadeRoom told u × Keeps t.journal e t.list t.committed found u
  pub ends : JournalPrepares {T = ℕ} (record_length m) (s.journal.size / 2) s.journal.first t.journal.first s.faults t.faults (Err f)
  pub reach : GoesOn (reach_of s.journal) (reach_of t.journal)
  pub full : (what : Counted) (n : ℕ) → f ≡ TooMany what n → IsFull (reach_of t.journal)
  pub count : s.faults ≤ t.faults
  pub reads : t.reads ≡ s.reads
  pub last_file : t.last_file ≡ s.last_file
  pub live : t.live ≡ s.live
  pub frontiers : t.frontiers ≡ s.frontiers
  pub during : During SameTables d e

-- nothing was kept before, where nothing is kept now
kept_since : (first kept : Option First) (before now : ℕ) (f : JournalFault) → Ends {T = Unit {0}} first kept before now (Err f)
    → is_some kept ≡ false → is_some first ≡ false
kept_since first kept before now f p off = by (ended first kept before now f p)
  where
    by : ((first ≡ None) × EndsBy f kept before now) ⊎ ((g : First) × (f ≡ Stopped g) × (first ≡ Some g) × (kept ≡ Some g)) → is_some first ≡ false
    by (inl c) = ap is_some c.0
    by (inr c) = ap is_some (c.2 ∙ sym c.3) ∙ off

going_since : (f : JournalFault) (first kept : Option First) (before now long most : ℕ) → JournalPrepares {T = ℕ} long most first kept before now (Err f)
    → long ≤ most → is_some kept ≡ false → is_some first ≡ false
going_since (TooLarge length limit) first kept before now long most p short off = absurd (omega (arith, p.0, short))
going_since (TooMany what n) first kept before now long most p short off = kept_since first kept before now (TooMany what n) p.1 off
going_since (Stopped g) first kept before now long most p short off = kept_since first kept before now (Stopped g) p.1 off
going_since Failed first kept before now long most p short off = kept_since first kept before now Failed p.1 off
going_since Mem first kept before now long most p short off = kept_since first kept before now Mem p.1 off

module _ (s : State) (w : BoundWrite) (reading : ℤ) (x y : ShardState) (result : Result Mutation TakeFault) (asked : Asked s w reading x y result) (m : Mutation)
    (is : result ≡ Ok m) (prepared : IsPrepared y m) (ready : IsReady s.limits.segment w m) where
  abbrev pub table : TableSchema
  table = asked.fits.0

  pub fits : FitsMutation table s.limits.shards m
  fits = ready.fits table s.limits.shards asked.fits.2

  pub of_a_table : (t : TableSchema) × (shards : ℕ) × FitsMutation t shards m
  of_a_table = (table, s.limits.shards, fits)

  pub next : m.number ≡ x.number + 1
  next = prepared.next ∙ ap (λ k. k + 1) asked.number

  short_for : record_length m ≤ s.journal.size / 2
  short_for = subst (λ (k : ℕ). record_length m ≤ k / 2) (sym asked.sound.size.0) ready.short

  half_of : (long size : ℕ) → long ≤ size / 2 → size ≤ 2 ^ 25 → long < 2 ^ 32
  half_of long size short most = omega (arith, short, most)

  pub may_take : (h : History) (found : List Mutation) (d : Disk) (told : Told) → LastsFor h found s d told → MayTake told m
  may_take h found d told lasts =
      may_be_taken h found s d told m table x lasts (subst (λ (k : ℕ). slice_get s.tables k ≡ Some table) (sym ready.table) asked.fits.1) fits
      (half_of (record_length m) s.limits.segment ready.short asked.sound.size.1.1)
      (subst (λ (k : ℕ). slice_get s.shards k ≡ Some x) (sym ready.shard) (there s w reading x y result asked)) next

  pub not_taken : (t : State) (d e : Disk) (f : JournalFault) (r : Reply) → r ≡ reply_for f → NotTaken s t d e w.shard y m f
      → Moves (λ h after. WritesAt h reading w r after) s t d e
  not_taken t d e f r told left =
      subst (λ (q : Reply). Moves (λ h after. WritesAt h reading w q after) s t d e) (sym told) moves
    where
      moves : Moves (λ h after. WritesAt h reading w (reply_for f) after) s t d e
      moves h stands =
          let at : slice_get s.shards w.shard ≡ Some x = there s w reading x y result asked in
          let after : History = after_write h w.shard reading (reply_for f) [] (disk_of t) in
          let both = prepared_for s w reading x y result asked h stands m is in
          let takes : Takes h.limits.segment (mutation_in h reading w) (entry_of h (mutation_in h reading w)) (disk_of s) (reply_for f) [] (disk_of t) =
          fault_takes (files_in s.shards) (files_in t.shards) s.reads t.reads s.last_file t.last_file s.live t.live
          (ap files_in left.shards ∙ files_still s.shards w.shard x y at asked.files, left.reads, left.last_file, left.live) f s.journal.first t.journal.first s.faults t.faults (reach_of s.journal) (reach_of t.journal) h.limits.segment (record_length m) (s.journal.size / 2)
          (mutation_in h reading w) (entry_of h (mutation_in h reading w)) left.ends short_for both.0 left.reach left.count left.full in (
            after,
            (
              [],
              disk_of t,
              subst (λ (o : DiskState). Takes h.limits.segment (mutation_in h reading w) (entry_of h (mutation_in h reading w)) o (reply_for f) [] (disk_of t))
                  (sym stands.disk) takes,
              refl,
            ),
            record {
              stands = stands_write h s t w.shard x y reading [] stands at left.shards (stands_raised s w reading x y result asked h stands)
                  (λ k. ap (entries_in k) left.list ∙ none_more w.shard k (entries_in k s.list))
                  (just_with s.tables h.unflushed s.shards w.shard x y [] at (with_none s.tables x y asked.memory) stands.memory)
                  (filled_more h.filled s.shards w.shard x y at stands.filled [] asked.bytes) (reply_for f) left.limits left.tables left.clock
                  left.session (omega (arith, left.calls));
              lasts = λ found was lasts.
                  let got = left.keeps found was lasts.keeps (may_take h found d was lasts) in (
                    got.0,
                    lasts_with_room h after found s t d e was got.0 w.shard x y (omega (arith, quiet f)) refl at left.shards asked.number got.1 got.2 left.list left.committed
                        left.tables left.limits left.accepted
                        (going_since f s.journal.first t.journal.first s.faults t.faults (record_length m) (s.journal.size / 2) left.ends short_for) left.last_file left.live
                        (ap files_in left.shards ∙ files_still s.shards w.shard x y at asked.files) left.frontiers refl lasts,
                    λ openings explained.
                        explains_named openings after found t e was got.0 got.1.numbers got.1.entries got.1.failed got.1.taken (λ i leaves. got.1.committed)
                        (still_explained s w reading x y result asked h stands (reply_for f) [] t d e was left.shards (disk_of t) left.tables (ap accepted_in left.list) refl
                        (keep_files was d e left.during) (raised_further reading (shard_at h w.shard)) found openings explained),
                  );
            },
          )

-- ---- a write that the room took

abbrev done : {T : Type 0} → T → Result T JournalFault
done x = Ok x

is_done : {T : Type 0} → Result T JournalFault → Bool
is_done (Ok x) = true
is_done (Err f) = false

false_not : true ≡ false → ⊥
false_not e = cc

done_not : {T : Type 0} (x : T) (f : JournalFault) → done x ≡ failed {T = T} f → ⊥
unfolding is_done
done_not x f e = absurd (false_not (ap is_done e))

some_not : (g : First) → Some g ≡ None → ⊥
some_not g e = false_not (ap is_some e)

-- nothing was kept before a call that was done, and nothing is kept since
going_on : {T : Type 0} (first kept : Option First) (before now : ℕ) (x : T) → Ends {T = T} first kept before now (Ok x) → (first ≡ None) × (kept ≡ None)
going_on None kept before now x p = (refl, p)
going_on {T = T} (Some g) kept before now x p = absurd (done_not {T = T} x (Stopped g) p.0)

over_none : {T : Type 0} (first kept : Option First) (before now : ℕ) (x : T) → Ends {T = T} first kept before now (Ok x) → first ≡ None → kept ≡ None
over_none None kept before now x p none = p
over_none (Some g) kept before now x p none = absurd (some_not g none)

-- a commit after which the folder failed
failed_since : (T : Type 0) (first kept : Option First) (before now : ℕ) (f : JournalFault) → Ends {T = T} first kept before now (Err f) → first ≡ None
    → IsOfFolder f → Rose before now × (is_some kept ≡ true)
failed_since T (Some g) kept before now f p none of = absurd (some_not g none)
failed_since T None kept before now Failed p none of = (p.0, ap is_some p.1)
failed_since T None kept before now (Stopped g) p none of = absurd p
failed_since T None kept before now (TooLarge length limit) p none of = absurd p
failed_since T None kept before now (TooMany what n) p none of = absurd of
failed_since T None kept before now Mem p none of = absurd of

on_and_off : (o : Option First) → is_some o ≡ true → is_some o ≡ false → ⊥
on_and_off o on off = false_not (sym on ∙ off)

rose_since : (a b c : ℕ) → a ≤ b → Rose b c → Rose a c
rose_since a b c le rose = omega (arith, le, rose)

-- what is left where the room took the mutation, and its shard
pub record Took (s t : State) (d e : Disk) (w : BoundWrite) (y yy z : ShardState) (m : Mutation) : Type 0 where
  pub shards : t.shards ≡ slice_set (slice_set s.shards w.shard y) w.shard z
  pub seat : yy ≡ slice_index_or (slice_set s.shards w.shard y) w.shard yy
  pub limits : t.limits ≡ s.limits
  pub tables : t.tables ≡ s.tables
  pub clock : t.clock ≡ s.clock
  pub session : t.session ≡ s.session
  pub calls : t.calls ≡ s.calls + 1
  pub few : s.accepted + 1 < 2 ^ 64
  pub list : t.list ≡ s.list ++ Wrote m.shard s.session (s.calls + 1) m.number (event.Accepted m) ∷ []
  pub accepted : t.accepted ≡ min (s.accepted + 1) (2 ^ 64 - 1)
  pub stands : (tables : List TableSchema) (shards : ℕ) (q : ShardHistory) (session call : ℕ) → Stands tables q yy → Belongs tables shards m
      → Stands tables (with_entered (entry.Wrote session call m ∷ []) q) z
  pub number : z.number ≡ m.number
  pub memory : (table : ℕ) (ws : List Mutation) → RemembersJust s.tables table ws yy → RemembersJust s.tables table (ws ++ one_of table m) z
  pub bytes : (table : ℕ) → bytes_at (slice_get z.stores table) ≡ bytes_of (bytes_at (slice_get yy.stores table)) (one_of table m)
  pub keeps : (found : List Mutation) (told : Told) → Keeps s.journal d s.list s.committed found told → MayTake told m
      → (u : Told) × (v : Told) × MadeRoom told u × (v.entries ≡ u.entries) × (v.failed ≡ u.failed) × (v.taken ≡ u.taken ++ m ∷ [])
      × ((u.committed ≤ v.committed) ⊎ (v.committed ≡ length v.taken)) × Keeps t.journal e t.list t.committed found v
  pub first : Option First
  pub faults : ℕ
  pub ended : Ends {T = Unit {0}} s.journal.first first s.faults faults (Ok tt)
  pub reach : (r : Reach) × GoesOn (reach_of s.journal) r × (reach_of t.journal ≡ r)
  pub rises : (s.faults ≤ faults) × (faults ≤ t.faults)
  pub files : KeepsFiles yy z
  pub reads : t.reads ≡ s.reads
  pub last_file : t.last_file ≡ s.last_file
  pub live : t.live ≡ s.live
  pub frontiers : t.frontiers ≡ s.frontiers
  pub during : During SameTables d e

module _ (s : State) (w : BoundWrite) (reading : ℤ) (x y : ShardState) (result : Result Mutation TakeFault) (asked : Asked s w reading x y result) (m : Mutation)
    (is : result ≡ Ok m) (prepared : IsPrepared y m) (ready : IsReady s.limits.segment w m)
    (t : State) (d e : Disk) (yy z : ShardState) (left : Took s t d e w y yy z m) where
  abbrev new : List Entry
  new = entry.Wrote s.session (s.calls + 1) m ∷ []

  begun : (s.journal.first ≡ None) × (left.first ≡ None)
  begun = going_on s.journal.first left.first s.faults left.faults tt left.ended

  goes : GoesOn (reach_of s.journal) (reach_of t.journal)
  goes = subst (λ (r : Reach). GoesOn (reach_of s.journal) r) (sym left.reach.2) left.reach.1

  rises : s.faults ≤ t.faults
  rises = omega (arith, left.rises.0, left.rises.1)

  at_x : slice_get s.shards w.shard ≡ Some x
  at_x = there s w reading x y result asked

  same_shard : y ≡ yy
  same_shard = sym (index_here s.shards w.shard y yy (get_within s.shards w.shard x at_x)) ∙ sym left.seat

  shards_now : t.shards ≡ slice_set s.shards w.shard z
  shards_now = left.shards ∙ set_twice s.shards w.shard y z

  same_files : SameFiles (disk_of s) (disk_of t)
  same_files = (
    ap files_in shards_now
        ∙ files_still s.shards w.shard x z at_x (λ table. left.files table ∙ ap (λ (q : ShardState). files_at (slice_get q.stores table)) (sym same_shard) ∙ asked.files table),
    left.reads,
    left.last_file,
    left.live,
  )

  lists : (k : ℕ) → entries_in k t.list ≡ with_entries w.shard k new (entries_in k s.list)
  lists k =
      ap (entries_in k) left.list ∙ one_more s.list m s.session (s.calls + 1) k ∙ ap (λ (j : ℕ). with_entries j k new (entries_in k s.list)) ready.shard

  remembers : (table : ℕ) (ws : List Mutation) → RemembersJust s.tables table ws x → RemembersJust s.tables table (ws ++ one_of table m) z
  remembers table ws k = left.memory table ws (subst (RemembersJust s.tables table ws) same_shard (asked.memory table ws k))

  adds_bytes : (table : ℕ) → bytes_at (slice_get z.stores table) ≡ bytes_of (bytes_at (slice_get x.stores table)) (one_of table m)
  adds_bytes table =
      left.bytes table ∙ ap (λ (q : ShardState). bytes_of (bytes_at (slice_get q.stores table)) (one_of table m)) (sym same_shard)
      ∙ ap (λ (b : ℕ). bytes_of b (one_of table m)) (asked.bytes table)

  -- what may be left explains it
  explains : (h : History) → StandsFor h s → (after : History) → after.shards ≡ (with_shard h w.shard (after_entries reading new (shard_at h w.shard))).shards → m ≡ mutation_in h reading w
      → (found : List Mutation) (was v : Told) → LastsFor h found s d was → (u : Told) → MadeRoom was u → v.entries ≡ u.entries → v.failed ≡ u.failed → v.taken ≡ u.taken ++ m ∷ []
      → ((u.committed ≤ v.committed) ⊎ (v.committed ≡ length v.taken)) → Keeps t.journal e t.list t.committed found v
      → (openings : ℕ → ShardOpening) → Explains openings h found s d was → Explains openings after found t e v
  explains h stands after shards_are same found was v lasts u made entries failed taken committed keeps openings explained =
      explains_named openings after found t e (took m was) v made.numbers (entries ∙ made.entries)
      (subst (λ es. FailedToName was.failed es) (sym failed) made.failed) (taken ∙ ap (λ ms. ms ++ m ∷ []) made.taken)
      (λ i leaves.
      let (b, before, its) = keep_files was d e left.during i leaves in
      by_then b before committed)
      (explains_still openings after after found t t d e (took m was) (λ n. goes_nowhere (shard_at after n)) refl refl (keep_files (took m was) d e left.during) (λ ms have. have)
      (explains_taken openings h after found s t d was m (lasts.keeps.lasts.goes begun.0).none_failed (may_take s w reading x y result asked m is prepared ready h found d was lasts).fits above
      (λ low. next_is) (lasts.shards ∙ sym asked.sound.count ∙ sym stands.count)
      (ap accepted_in left.list ∙ sym (flat_map_more accepted_of [] s.list (Wrote m.shard s.session (s.calls + 1) m.number (event.Accepted m))))
      (λ i leaves. within_all i leaves) (ap length shards_are ∙ length_set h.shards w.shard (after_entries reading new (shard_at h w.shard))) ahead others
      (λ ms have.
      subst (λ (ts : List TableSchema). RememberAll ts (ms ++ m ∷ []) t.shards) (sym left.tables)
      (subst (RememberAll s.tables (ms ++ m ∷ [])) (sym shards_now) (all_entered s.tables s.shards w.shard x z ms m at_x ready.shard remembers have)))
      explained))
    where
      seat : slice_get s.shards m.shard ≡ Some x
      seat = subst (λ (k : ℕ). slice_get s.shards k ≡ Some x) (sym ready.shard) at_x

      low_h : w.shard < length h.shards
      low_h = subst (λ (k : ℕ). w.shard < k) (sym stands.count) (get_within s.shards w.shard x at_x)

      number_is : x.number ≡ number_of (shard_at h w.shard)
      number_is = (stands.shards w.shard x at_x).number

      next_is : m.number ≡ number_of (shard_at h m.shard) + 1
      next_is =
          next s w reading x y result asked m is prepared ready ∙ ap (λ k. k + 1) (number_is ∙ ap (λ (k : ℕ). number_of (shard_at h k)) (sym ready.shard))

      above : is_above (said_by was.entries) m ≡ true
      above =
          let below = lasts.behind.frontiers m.shard m.table x seat in
          lt-ltb (part_of (said_by was.entries) m.table m.shard).frontier m.number (omega (arith, below, next s w reading x y result asked m is prepared ready))

      within_all : (i : Image) → d.may_leave i → was.committed ≤ length was.taken
      within_all i leaves =
          let holds = lasts.keeps.lasts.holds i leaves in
          omega (arith, holds.least, holds.most)

      by_then : (b : Image) → d.may_leave b → ((u.committed ≤ v.committed) ⊎ (v.committed ≡ length v.taken)) → was.committed ≤ v.committed
      by_then b before (inl more) = omega (arith, made.committed, more)
      by_then b before (inr all) =
          let holds = lasts.keeps.lasts.holds b before in
          omega (arith, all, holds.least, holds.most, ap length taken, ap length made.taken, length-append u.taken (m ∷ []))

      here : shard_at after w.shard ≡ after_entries reading new (shard_at h w.shard)
      here =
          ap (λ qs. slice_index_or qs w.shard (found_shard empty_shard)) shards_are
          ∙ index_here h.shards w.shard (after_entries reading new (shard_at h w.shard)) (found_shard empty_shard) low_h

      elsewhere : (n : ℕ) → n ≢ w.shard → shard_at after n ≡ shard_at h n
      elsewhere n other =
          ap (λ qs. slice_index_or qs n (found_shard empty_shard)) shards_are
          ∙ index_other h.shards w.shard n (after_entries reading new (shard_at h w.shard)) (found_shard empty_shard) other

      ahead : (o : ShardOpening) → IsNotAhead (shard_at h m.shard) o → IsNotAhead (shard_at after m.shard) (restored m o)
      ahead o is_not =
          subst (λ (k : ℕ). IsNotAhead (shard_at after k) (restored m o)) (sym ready.shard)
          (subst (λ (q : ShardHistory). IsNotAhead q (restored m o)) (sym here)
          (entered_ahead reading (shard_at h w.shard) w s.session (s.calls + 1) m o same (next_is ∙ ap (λ (k : ℕ). number_of (shard_at h k) + 1) ready.shard)
          (subst (λ (k : ℕ). IsNotAhead (shard_at h k) o) ready.shard is_not)))

      others : (n : ℕ) → n ≢ m.shard → (o : ShardOpening) → IsNotAhead (shard_at h n) o → IsNotAhead (shard_at after n) o
      others n other o is_not = subst (λ (q : ShardHistory). IsNotAhead q o) (sym (elsewhere n (λ at. other (at ∙ sym ready.shard)))) is_not

  moves_taken : (r : Reply) → acknowledges r ≤ 1
      → ((h : History) → StandsFor h s → take_refusal h.limits.segment (mutation_in h reading w) ≡ None → m ≡ mutation_in h reading w
      → new ≡ entry_of h (mutation_in h reading w) ∷ []
      → Takes h.limits.segment (mutation_in h reading w) (entry_of h (mutation_in h reading w)) (disk_of s) r new (disk_of t))
      → ((acknowledges r ≡ 0) × (s.committed ≤ t.committed)) ⊎ (t.committed ≡ t.accepted) → (is_some t.journal.first ≡ false → t.committed ≡ t.accepted)
      → Moves (λ h after. WritesAt h reading w r after) s t d e
  moves_taken r one takes either going h stands =
      let both = prepared_for s w reading x y result asked h stands m is in
      let after : History = after_write h w.shard reading r new (disk_of t) in
      let belongs : Belongs h.tables s.limits.shards m = (
        asked.fits.0,
        subst (λ (k : ℕ). slice_get h.tables k ≡ Some asked.fits.0) (sym ready.table)
            (subst (λ (ts : List TableSchema). slice_get ts w.table ≡ Some asked.fits.0) (sym stands.tables) asked.fits.1),
        fits s w reading x y result asked m is prepared ready,
      ) in
      let stands_new : Stands h.tables (after_entries reading new (shard_at h w.shard)) z =
      left.stands h.tables s.limits.shards (raised reading (shard_at h w.shard)) s.session (s.calls + 1)
      (subst (λ (q : ShardState). Stands h.tables (raised reading (shard_at h w.shard)) q) same_shard (raises s w reading x y result asked h stands)) belongs in
      let its_entry : new ≡ entry_of h (mutation_in h reading w) ∷ [] =
      ap (λ (q : Mutation). entry.Wrote s.session (s.calls + 1) q ∷ []) both.1
      ∙ ap (λ (j : ℕ). entry.Wrote j (s.calls + 1) (mutation_in h reading w) ∷ []) (sym stands.session)
      ∙ ap (λ (j : ℕ). entry.Wrote h.session (j + 1) (mutation_in h reading w) ∷ []) (sym stands.calls) in (
        after,
        (
          new,
          disk_of t,
          subst (λ (o : DiskState). Takes h.limits.segment (mutation_in h reading w) (entry_of h (mutation_in h reading w)) o r new (disk_of t)) (sym stands.disk)
              (takes h stands both.0 both.1 its_entry),
          refl,
        ),
        record {
          stands = stands_write h s t w.shard x z reading new stands at_x shards_now stands_new lists
              (just_with s.tables h.unflushed s.shards w.shard x z new at_x (with_entry s.tables x z m s.session (s.calls + 1) remembers) stands.memory)
              (filled_more h.filled s.shards w.shard x z at_x stands.filled new (as_entry x z m s.session (s.calls + 1) adds_bytes)) r left.limits left.tables left.clock left.session left.calls;
          lasts = λ found was lasts.
              let got = left.keeps found was lasts.keeps (may_take s w reading x y result asked m is prepared ready h found d was lasts) in (
                got.1,
                lasts_taken h after found s t d e was got.0 got.1 m x z (subst (λ (k : ℕ). slice_get s.shards k ≡ Some x) (sym ready.shard) at_x)
                    (subst (λ (k : ℕ). t.shards ≡ slice_set s.shards k z) (sym ready.shard) shards_now) (next s w reading x y result asked m is prepared ready) left.number
                    got.2 got.3 got.4 lasts s.session (s.calls + 1) left.list left.tables left.limits left.accepted left.few got.7
                    (omega (arith, one)) (acked h after either refl) going left.last_file left.live same_files.0 left.frontiers refl refl,
                explains h stands after refl both.1 found was got.1 lasts got.0 got.2 got.3 got.4 got.5 got.6 got.7,
              );
        },
      )
    where
      acked : (h after : History) → ((acknowledges r ≡ 0) × (s.committed ≤ t.committed)) ⊎ (t.committed ≡ t.accepted) → after.acknowledged ≡ h.acknowledged + acknowledges r
          → ((after.acknowledged ≤ h.acknowledged) × (s.committed ≤ t.committed)) ⊎ (t.committed ≡ t.accepted)
      acked h after (inl c) sum = inl (omega (arith, c.0, sum), c.1)
      acked h after (inr c) sum = inr c

  pub taken_and_committed : (number : ℕ) → number ≡ m.number → {T : Type 0} (x : T) → Ends {T = T} left.first t.journal.first left.faults t.faults (Ok x) → t.committed ≡ t.accepted
      → Moves (λ h after. WritesAt h reading w (reply.Wrote number) after) s t d e
  taken_and_committed number told x over all =
      let none : t.journal.first ≡ None = over_none left.first t.journal.first left.faults t.faults x over begun.1 in
      moves_taken (reply.Wrote number) (omega arith)
      (λ h stands unrefused same its_entry. (
        unrefused,
        told ∙ ap (λ (q : Mutation). q.number) same,
        its_entry,
        (
          ap is_some begun.0,
          record {
            stopped = ap is_some none ∙ sym (ap is_some begun.0);
            faults = rises;
            reach = goes;
            files = same_files;
          },
        ),
      )) (inr all) (λ on. all)

  pub taken_and_failed : (T : Type 0) (f : JournalFault) → Ends {T = T} left.first t.journal.first left.faults t.faults (Err f) → IsOfFolder f → s.committed ≤ t.committed
      → Moves (λ h after. WritesAt h reading w (reply.Failed failure.Disk) after) s t d e
  taken_and_failed T f over of more =
      let off : Rose left.faults t.faults × (is_some t.journal.first ≡ true) = failed_since T left.first t.journal.first left.faults t.faults f over begun.1 of in
      moves_taken (reply.Failed failure.Disk) (omega arith)
      (λ h stands unrefused same its_entry. (
        unrefused,
        inr its_entry,
        record {
          before = ap is_some begun.0;
          stopped = off.1;
          faults = rises;
          rose = rose_since s.faults left.faults t.faults left.rises.0 off.0;
          reach = goes;
          files = same_files;
        },
      )) (inl (refl, more)) (λ on. absurd (on_and_off t.journal.first off.1 on))
