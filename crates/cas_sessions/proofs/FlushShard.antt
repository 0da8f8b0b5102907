-- A flush of a table in a shard.
use Rattle.std.proofs.Common.{◌≡◌, ◌≢◌, ◌⊎◌, inl, inr, ◌<◌, ◌≤◌, ◌+◌, ℕ, Bool, true, false, ◌==◌, List, [], ◌∷◌, ◌++◌, length, map, take, drop, Option, None, Some, Result, Ok, Err, is_some, ℤ, refl, sym, ap, ◌∙◌, subst, arith, append-nil}
use Rattle.std.proofs.lemmas.List.{take_all}
use Rattle.std.proofs.Math.Bool.{and-false}
use Rattle.std.proofs.lemmas.Option.{same_Some}
use Rattle.std.specs.Prelude.{◌&&◌, if◌then◌else◌, slice_get, slice_set, IfOk, IfErr, IfSome}
use Rattle.std.specs.List.{AllByRecursion}
use Rattle.std.specs.Int.{int_max}
use Rattle.cas_types.specs.declared.schema.TableSchema.{TableSchema}
use Rattle.cas_bounds.specs.ClusteringOrder.{clustering_order}
use Rattle.cas_bounds.specs.declared.order.Ordered.{Ordered}
use Rattle.cas_io.specs.Causes.{Rose}
use Rattle.cas_disk.specs.Disk.{Disk, During, Image}
use Rattle.cas_disk.proofs.Moments.{no_call}
use Rattle.cas_gates.specs.declared.first.First.{First}
use Rattle.cas_atoms.specs.declared.atom.Mutation.{Mutation}
use Rattle.cas_changes.specs.Saying.{said_by}
use Rattle.cas_changes.specs.declared.entry.Change.{Change}
use Rattle.cas_changes.specs.declared.entry.Entry.TheVariants.{Change as change_entry}
use Rattle.cas_changes.specs.declared.said.TheConstants.{FIRST_DRAWN, LISTED_LIMIT}
use Rattle.cas_info.specs.Allowed.{FitsInfo}
use Rattle.cas_info.specs.declared.info.TableInfo.{TableInfo}
use Rattle.cas_journal.specs.Ends.{Ends}
use Rattle.cas_journal.specs.Reach.{HasNoPlace, IsOver, Reach, reach_of}
use Rattle.cas_journal.specs.Stores.{Told, Holds as HoldsTold}
use Rattle.cas_journal.specs.declared.fault.Counted.{Counted}
use Rattle.cas_journal.specs.declared.fault.Counted.TheVariants.{Segments, Manifest, Files}
use Rattle.cas_journal.specs.declared.fault.JournalFault.{JournalFault}
use Rattle.cas_journal.specs.declared.fault.JournalFault.TheVariants as journal
use Rattle.cas_manifest.specs.Manifests.{place_of as manifest_place}
use Rattle.cas_memtable.specs.Kept.{HoldJust, atoms_under}
use Rattle.cas_memtable.proofs.Keeping.{mapped_more}
use Rattle.cas_memtable.specs.declared.memtable.MemPart.{MemPart}
use Rattle.cas_shard.specs.Flushing.{HasInMemory, KeepsBytes, SaysWhatTheyDo, bytes_at, frozen_at, memtables_at}
use Rattle.cas_shard.specs.Shards.{ShardHistory, all_entries}
use Rattle.cas_shard.specs.Stands.{Holds, ShardState, Stands, files_at, mutations_of, order_at, order_of}
use Rattle.cas_sstread.specs.Loading.{Held}
use Rattle.cas_streams.specs.Streams.{IsThere}
use Rattle.cas_view.specs.Views.{File}
use Rattle.cas_room.specs.declared.table_files.TheConstants.{LIVE_LIMIT}
use Rattle.cas_recovery.proofs.Places.{get_here, get_other, is_other, is_same, length_set, same_place}
use Rattle.cas_sessions.specs.declared.answer.Fault.{Fault}
use Rattle.cas_sessions.specs.declared.answer.Fault.TheVariants.{Refused, Stopped, Disk as Failed, Read, BadBlock, Mem}
use Rattle.cas_lasting.specs.Flushed.{AreInFiles, AscendTo, Grows, ListsOne, SaySomething, WhyTooMany, numbers_in, reach_by, FlushedOne, filled_with, rest_with}
use Rattle.cas_sessions.specs.Flushes.{WhyNoFurther}
use Rattle.cas_recovery.specs.Restored.{Remember, RemembersJust}
use Rattle.cas_lasting.specs.Listing.{SameUpTo}
use Rattle.cas_lasting.specs.History.{History, DiskState, shard_at}
use Rattle.cas_lasting.specs.Nodes.{AreFilled, RememberJust, State, StandsFor, LastsFor, LastsForOne, disk_of, files_in, files_of, filled_of}
use Rattle.cas_sessions.specs.Inner.Faults.{fault_for}
use Rattle.cas_sessions.specs.Filling.{EndsIn, IsBegun, SaysNone, TellsIt, listed_of}
use Rattle.cas_lasting.specs.Inner.Going.{AddsFile, GoesOn, GoesOnAs, IsChangeFor, Lists, Quiet, StandsSo}
use Rattle.cas_sessions.specs.Inner.Flushing.{Fills, FlushesOne, IsOwn, Moved, NewFile, SaysSo, TakesFile, TellsReads, WhyNotMade}
use Rattle.cas_lasting.proofs.Filled.{filled_still}
use Rattle.cas_lasting.proofs.FlushChange.{below_next, lists_done, lists_failed}
use Rattle.cas_lasting.proofs.FlushExplains.{explains_told, explains_untold}
use Rattle.cas_lasting.proofs.FlushFiles.{SayNothing, in_files, memory_says_nothing, rest_says_nothing}
use Rattle.cas_lasting.proofs.FlushSteps.{amid_then, beside_then, files_again, one_goes_on, quiet_amid, quiet_beside, quiet_explains, quiet_goes, quiet_lasts, quiet_stands, same_shards, stands_again, with_state}
use Rattle.cas_lasting.proofs.Lasting.{lasts_as}
use Rattle.cas_lasting.proofs.Listing.{up_to_same}
use Rattle.cas_lasting.proofs.Remembering.{some_of_just}

-- ---- nothing is done

pub quiet_still : (s : State) (d : Disk) → Quiet s s d d
quiet_still s d = record {
  limits = refl;
  tables = refl;
  clock = refl;
  list = refl;
  session = refl;
  calls = refl;
  accepted = refl;
  committed = refl;
  journal = refl;
  live = refl;
  frontiers = refl;
  shards = same_shards s.shards;
  last = omega arith;
  faults = omega arith;
  reads = omega arith;
  keeps = λ found told keeps. keeps;
  crash = λ found told keeps. no_call (λ _ c. HoldsTold told c) d;
  tells = λ c reads. (c, reads);
}

-- one shard goes on as what it was
pub quiet_one : (s : State) (d : Disk) (n : ℕ) (x y : ShardState) → slice_get s.shards n ≡ Some x → GoesOnAs x y → Quiet s (record s { shards = slice_set s.shards n y }) d d
quiet_one s d n x y there goes =
    let still = quiet_still s d in
    record {
      limits = refl;
      tables = refl;
      clock = refl;
      list = refl;
      session = refl;
      calls = refl;
      accepted = refl;
      committed = refl;
      journal = refl;
      live = refl;
      frontiers = refl;
      shards = one_goes_on s.shards n x y there goes;
      last = still.last;
      faults = still.faults;
      reads = still.reads;
      keeps = still.keeps;
      crash = still.crash;
      tells = still.tells;
    }

-- ---- a table in a shard

-- how it orders its rows
order_is : (tables : List TableSchema) (t : TableSchema) → slice_get tables t.number ≡ Some t → order_at tables t.number ≡ clustering_order t.columns
order_is tables t there = ap order_of there

-- the files of a table in the shard of that number
files_there : (xs : List ShardState) (n table : ℕ) (x : ShardState) → slice_get xs n ≡ Some x → files_in xs n table ≡ files_at (slice_get x.stores table)
files_there xs n table x there = ap (λ o. files_of o table) there

-- all that was written to it stands in its files, where memory says nothing
all_in_files : (h : History) (u : State) (t : TableSchema) (n : ℕ) (y : ShardState) → StandsFor (with_state h u) u → slice_get u.tables t.number ≡ Some t → slice_get u.shards n ≡ Some y
    → SayNothing (clustering_order t.columns) (memtables_at (slice_get y.stores t.number))
    → AreInFiles (clustering_order t.columns) (files_in u.shards n t.number) (mutations_of t.number (all_entries (shard_at h n)))
all_in_files h u t n y stands table there nothing =
    let one : Stands u.tables (shard_at h n) y = subst (λ (ts : List TableSchema). Stands ts (shard_at h n) y) stands.tables (stands.shards n y there) in
    let holds : Holds (clustering_order t.columns) (slice_get y.stores t.number) (mutations_of t.number (all_entries (shard_at h n))) =
    subst (λ (order : List Ordered). Holds order (slice_get y.stores t.number) (mutations_of t.number (all_entries (shard_at h n)))) (order_is u.tables t table) (one.kept t.number) in
    subst (λ (fs : List (File Held)). AreInFiles (clustering_order t.columns) fs (mutations_of t.number (all_entries (shard_at h n)))) (sym (files_there u.shards n t.number y there))
    (in_files (clustering_order t.columns) (slice_get y.stores t.number) (mutations_of t.number (all_entries (shard_at h n))) holds nothing)

-- ---- no file is listed

-- what is just in memory says nothing, where that says nothing
just_says_none : (t : TableSchema) (ws : List Mutation) (y : ShardState) → SayNothing (clustering_order t.columns) (memtables_at (slice_get y.stores t.number))
    → HoldJust t.columns (memtables_at (slice_get y.stores t.number)) ws → SaySomething ws → ⊥
just_says_none t ws y says has (key, there) =
    subst IsThere (ap (atoms_under key) (sym has.all) ∙ says has.places has.held.stand key) there

module _ (t : TableSchema) (n : ℕ) (s u : State) (d e : Disk) (quiet : Quiet s u d e) (going : s.journal.first ≡ None) where
  still_going : u.journal.first ≡ None
  still_going = ap (λ j. j.first) quiet.journal ∙ going

  -- memory had nothing that says more
  pub quiet_none : (y : ShardState) → slice_get s.tables t.number ≡ Some t → slice_get u.shards n ≡ Some y
      → (Remember u.tables u.shards → SayNothing (clustering_order t.columns) (memtables_at (slice_get y.stores t.number)))
      → Moved (rest_with t.number n None) (λ h before now. EndsIn t n (shard_at h n) (h.unflushed n t.number) None (Ok None) before now × SaysNone (Ok None) None (h.unflushed n t.number)) s u
  quiet_none y table there nothing h stands =
      let now : StandsFor (with_state h u) u = quiet_stands s u d e quiet h stands in
      let at_t : slice_get u.tables t.number ≡ Some t = ap (λ (ts : List TableSchema). slice_get ts t.number) quiet.tables ∙ table in
      let says = nothing (some_of_just u.tables h.unflushed u.shards now.memory) in (
        now,
        (
          record {
            files = files_again s.shards u.shards quiet.shards n t.number;
            others = λ k table other. files_again s.shards u.shards quiet.shards k table;
            all = all_in_files h u t n y now at_t there says;
            reach = ap reach_of quiet.journal;
            live = omega (arith, quiet.live);
            stopped = ap is_some still_going;
          },
          just_says_none t (h.unflushed n t.number) y says
              (now.memory n t.number y there [] t (ap (λ (ts : List TableSchema). slice_get ts t.number) (append-nil u.tables) ∙ at_t)),
        ),
      )

  -- the same, where the table is looked at by its place
  pub quiet_none_at : (y : ShardState) (k : ℕ) → t.number ≡ k → slice_get s.tables k ≡ Some t → slice_get u.shards n ≡ Some y → bytes_at (slice_get y.stores k) ≡ 0
      → (Remember u.tables u.shards → SayNothing (clustering_order t.columns) (frozen_at (slice_get y.stores k)))
      → Moved (rest_with t.number n None) (λ h before now. EndsIn t n (shard_at h n) (h.unflushed n t.number) None (Ok None) before now × SaysNone (Ok None) None (h.unflushed n t.number)) s u
  quiet_none_at y k same table there none says =
      quiet_none y (subst (λ (j : ℕ). slice_get s.tables j ≡ Some t) (sym same) table) there
      (λ have.
      memory_says_nothing (clustering_order t.columns) (slice_get y.stores t.number) (subst (λ (j : ℕ). bytes_at (slice_get y.stores j) ≡ 0) (sym same) none)
      (subst (λ (j : ℕ). SayNothing (clustering_order t.columns) (frozen_at (slice_get y.stores j))) (sym same) (says have)))

  -- a fault came between
  pub quiet_fails : (Full : Type 0) (f : Fault) → WhyNotMade Full s.faults u.faults s.reads u.reads f
      → ((h : History) → StandsFor h s → Full → WhyTooMany t n (shard_at h n) (h.unflushed n t.number) (disk_of u))
      → Moved (rest_with t.number n None) (λ h before now. EndsIn t n (shard_at h n) (h.unflushed n t.number) None (Err f) before now × SaysNone (Err f) None (h.unflushed n t.number)) s u
  quiet_fails Full f why full h stands = (
    quiet_stands s u d e quiet h stands,
    (
      record {
        files = λ k table. files_again s.shards u.shards quiet.shards k table;
        reach = ap reach_of quiet.journal;
        live = quiet.live;
        why = by f why;
      },
      tt,
    ),
  )
    where
      off : is_some u.journal.first ≡ false
      off = ap is_some still_going

      by : (f : Fault) → WhyNotMade Full s.faults u.faults s.reads u.reads f → WhyNoFurther t n (shard_at h n) (h.unflushed n t.number) (disk_of s) (disk_of u) f
      by (Refused why) is = (is.0, off, full h stands is.1)
      by (Stopped first) is = absurd is
      by (Failed None) (inl rose) = inl rose
      by (Failed None) (inr rose) = inr (off, rose)
      by (Failed (Some number)) is = absurd is
      by Read rose = (off, rose)
      by (BadBlock number at) is = absurd is
      by Mem is = off

  -- memory ran out
  pub quiet_starves : Moved (rest_with t.number n None)
      (λ h before now. EndsIn t n (shard_at h n) (h.unflushed n t.number) None (Err Mem) before now × SaysNone (Err Mem) None (h.unflushed n t.number)) s u
  quiet_starves = quiet_fails ⊥ Mem tt (λ h stands none. absurd none)

rose_since : (a b c : ℕ) → a ≤ b → Rose b c → Rose a c
rose_since a b c le rose = omega (arith, le, rose)

-- the same fault, since an earlier moment
pub not_made_since : (Full : Type 0) (a b c p q r : ℕ) (f : Fault) → a ≤ b → p ≤ q → WhyNotMade Full b c q r f → WhyNotMade Full a c p r f
not_made_since Full a b c p q r (Refused why) faults reads is = is
not_made_since Full a b c p q r (Stopped first) faults reads is = is
not_made_since Full a b c p q r (Failed None) faults reads (inl rose) = inl (rose_since a b c faults rose)
not_made_since Full a b c p q r (Failed None) faults reads (inr rose) = inr (rose_since p q r reads rose)
not_made_since Full a b c p q r (Failed (Some number)) faults reads is = is
not_made_since Full a b c p q r Read faults reads rose = rose_since p q r reads rose
not_made_since Full a b c p q r (BadBlock number at) faults reads is = is
not_made_since Full a b c p q r Mem faults reads is = is

-- ---- the file is listed, and takes the place of memtables

-- a shard's table took these files in the place of so many frozen memtables
pub record Swapped (table count : ℕ) (files : List (File Held)) (x y : ShardState) : Type 0 where
  pub stands : (tables : List TableSchema) (s : ShardHistory) (f : File Held) → files ≡ files_at (slice_get x.stores table) ++ f ∷ []
      → SaysWhatTheyDo (order_at tables table) (take count (frozen_at (slice_get x.stores table))) f → Stands tables s x → Stands tables s y
  pub files_are : files_at (slice_get y.stores table) ≡ files
  pub memory : memtables_at (slice_get y.stores table) ≡ drop count (memtables_at (slice_get x.stores table))
  pub emptied : (tables : List TableSchema) (ws : List Mutation) → count ≡ length (frozen_at (slice_get x.stores table)) → bytes_at (slice_get x.stores table) ≡ 0
      → HasInMemory tables table ws x → HasInMemory tables table [] y
  pub others : (k : ℕ) → (k ≡ table → ⊥) → slice_get y.stores k ≡ slice_get x.stores k
  pub bytes : KeepsBytes x y
  pub number : y.number ≡ x.number

-- what it has in memory then
pub swapped_has : (tables : List TableSchema) (table count : ℕ) (files : List (File Held)) (x y : ShardState) → Swapped table count files x y
    → count ≡ length (frozen_at (slice_get x.stores table)) → bytes_at (slice_get x.stores table) ≡ 0 → (k : ℕ)
    → (ws : List Mutation) × ((more : List TableSchema) → HasInMemory (tables ++ more) k ws x) → (ws : List Mutation) × ((more : List TableSchema) → HasInMemory (tables ++ more) k ws y)
swapped_has tables table count files x y swapped all none k has = by (same_place k table)
  where
    by : (k ≡ table) ⊎ (k ≢ table) → (ws : List Mutation) × ((more : List TableSchema) → HasInMemory (tables ++ more) k ws y)
    by (inl here) = (
      [],
      λ more. subst (λ (j : ℕ). HasInMemory (tables ++ more) j [] y) (sym here)
          (swapped.emptied (tables ++ more) has.0 all none (subst (λ (j : ℕ). HasInMemory (tables ++ more) j has.0 x) here (has.1 more))),
    )
    by (inr other) = (has.0, λ more t at. subst (λ o. HoldJust t.columns (memtables_at o) has.0) (sym (swapped.others k other)) (has.1 more t at))

pub ok_goes : {T : Type 0} (first kept : Option First) (before now : ℕ) (x : T) → Ends {T = T} first kept before now (Ok x) → first ≡ None → kept ≡ None
ok_goes None kept before now x ends none = ends
ok_goes (Some f) kept before now x ends none = absurd cc

-- the change lists the new file
lists_one : (t : TableSchema) (n number : ℕ) (s : State) (c : Change) (x : ShardState) (told : TableInfo) (files : List (File Held)) → slice_get s.shards n ≡ Some x
    → (adds : AddsFile s.tables s.shards n number c) → adds.x ≡ x → adds.told ≡ told → c.table ≡ t.number → (new : NewFile t (slice_get x.stores t.number) told files)
    → (h : History) → StandsFor h s → ListsOne t.number n (shard_at h n) new.file c
lists_one t n number s c x told files there adds is_x is_told of_table new h stands =
    let one : Stands h.tables (shard_at h n) x = stands.shards n x there in
    record {
      of_table = of_table;
      of_shard = adds.is.of_shard;
      frontier = adds.is.frontier.0 ∙ ap (λ (q : ShardState). q.number) is_x ∙ one.number;
      moment = adds.is.moment.0 ∙ ap (λ (q : ShardState). q.moment) is_x ∙ one.moment;
      drawn = adds.is.drawn.0 ∙ ap (λ (q : ShardState). int_max q.drawn FIRST_DRAWN) is_x ∙ ap (λ (at : ℤ). int_max at FIRST_DRAWN) one.drawn;
      removed = adds.is.removed;
      added = adds.is.added ∙ ap (λ (i : TableInfo). i ∷ []) (is_told ∙ sym new.info);
    }

module _ {T : Type 0} (t : TableSchema) (n number count : ℕ) (s m : State) (d e : Disk) (c : Change) (x y : ShardState) (told : TableInfo) (files : List (File Held))
    (table : slice_get s.tables t.number ≡ Some t) (many : length s.shards ≡ s.limits.shards) (there : slice_get s.shards n ≡ Some x) (going : s.journal.first ≡ None)
    (adds : AddsFile s.tables s.shards n number c) (is_x : adds.x ≡ x) (is_told : adds.told ≡ told) (of_table : c.table ≡ t.number) (low : number ≤ s.last_file)
    (new : NewFile t (slice_get x.stores t.number) told files) (answer : T) (lists : Lists c (Ok answer) s m d e) (swapped : Swapped t.number count files x y)
    (all : count ≡ length (frozen_at (slice_get x.stores t.number))) (none : bytes_at (slice_get x.stores t.number) ≡ 0) where
  abbrev Left : Type 0
  Left = StandsSo t n told (slice_get x.stores t.number) d

  abbrev u : State
  u = record m { shards = slice_set m.shards n y }

  at_m : slice_get m.shards n ≡ Some x
  at_m = ap (λ (xs : List ShardState). slice_get xs n) lists.shards ∙ there

  at_u : slice_get (slice_set m.shards n y) n ≡ Some y
  at_u = get_here m.shards n x y at_m

  -- each shard is as it was but for this one
  each : (k : ℕ) (z : ShardState) → slice_get (slice_set m.shards n y) k ≡ Some z → ((k ≡ n) × (y ≡ z)) ⊎ ((k ≢ n) × (slice_get s.shards k ≡ Some z))
  each k z got = by (same_place k n)
    where
      by : (k ≡ n) ⊎ (k ≢ n) → ((k ≡ n) × (y ≡ z)) ⊎ ((k ≢ n) × (slice_get s.shards k ≡ Some z))
      by (inl here) = inl (here, same_Some y z (sym at_u ∙ ap (λ (j : ℕ). slice_get (slice_set m.shards n y) j) (sym here) ∙ got))
      by (inr other) = inr (other, ap (λ (xs : List ShardState). slice_get xs k) (sym lists.shards) ∙ sym (get_other m.shards n k y other) ∙ got)

  numbers : (k : ℕ) (z : ShardState) → slice_get (slice_set m.shards n y) k ≡ Some z → (w : ShardState) × (slice_get m.shards k ≡ Some w) × (z.number ≡ w.number)
  numbers k z got = by (each k z got)
    where
      by : ((k ≡ n) × (y ≡ z)) ⊎ ((k ≢ n) × (slice_get s.shards k ≡ Some z)) → (w : ShardState) × (slice_get m.shards k ≡ Some w) × (z.number ≡ w.number)
      by (inl (here, same)) =
          (x, ap (λ (j : ℕ). slice_get m.shards j) here ∙ at_m, ap (λ (q : ShardState). q.number) (sym same) ∙ swapped.number)
      by (inr (other, at)) = (z, ap (λ (xs : List ShardState). slice_get xs k) lists.shards ∙ at, refl)

  -- so are the files of each table but for this one
  other_files : (k j : ℕ) → ((k ≡ n) × (j ≡ t.number) → ⊥) → files_in (slice_set m.shards n y) k j ≡ files_in s.shards k j
  other_files k j other = by (same_place k n)
    where
      by : (k ≡ n) ⊎ (k ≢ n) → files_in (slice_set m.shards n y) k j ≡ files_in s.shards k j
      by (inl here) =
          ap (λ (i : ℕ). files_in (slice_set m.shards n y) i j) here ∙ files_there (slice_set m.shards n y) n j y at_u
          ∙ ap files_at (swapped.others j (λ same. other (here, same))) ∙ sym (files_there s.shards n j x there) ∙ ap (λ (i : ℕ). files_in s.shards i j) (sym here)
      by (inr apart) =
          ap (λ o. files_of o j) (get_other m.shards n k y apart ∙ ap (λ (xs : List ShardState). slice_get xs k) lists.shards)

  -- and this one has the new file behind its own
  one_more : files_in (slice_set m.shards n y) n t.number ≡ files_in s.shards n t.number ++ new.file ∷ []
  one_more =
      files_there (slice_set m.shards n y) n t.number y at_u ∙ swapped.files_are ∙ new.are
      ∙ ap (λ (fs : List (File Held)). fs ++ new.file ∷ []) (sym (files_there s.shards n t.number x there))

  its_added : new.file.info ∷ [] ≡ c.added
  its_added = sym (adds.is.added ∙ ap (λ (i : TableInfo). i ∷ []) (is_told ∙ sym new.info))

  its_file : map (λ f. f.info) (files_in (slice_set m.shards n y) c.shard c.table) ≡ map (λ f. f.info) (files_in s.shards c.shard c.table) ++ c.added
  its_file =
      subst (λ (k : ℕ). map (λ f. f.info) (files_in (slice_set m.shards n y) k c.table) ≡ map (λ f. f.info) (files_in s.shards k c.table) ++ c.added) (sym adds.is.of_shard)
      (subst (λ (j : ℕ). map (λ f. f.info) (files_in (slice_set m.shards n y) n j) ≡ map (λ f. f.info) (files_in s.shards n j) ++ c.added) (sym of_table)
      (ap (λ (fs : List (File Held)). map (λ f. f.info) fs) one_more ∙ mapped_more (λ (f : File Held). f.info) (files_in s.shards n t.number) new.file
      ∙ ap (λ (is : List TableInfo). map (λ f. f.info) (files_in s.shards n t.number) ++ is) its_added))

  its_change : IsChangeFor t.number n told x c
  its_change =
      subst (λ (k : ℕ). IsChangeFor k n told x c) of_table
      (subst (λ (i : TableInfo). IsChangeFor c.table n i x c) is_told (subst (λ (z : ShardState). IsChangeFor c.table n adds.told z c) is_x adds.is))

  -- the shard has none of the table in memory then, and what it had of the others
  swapped_just : (k : ℕ) (ws : List Mutation) → RemembersJust s.tables k ws x → ((k ≡ t.number) × RemembersJust s.tables k [] y) ⊎ ((k ≢ t.number) × RemembersJust s.tables k ws y)
  swapped_just k ws has = by (same_place k t.number)
    where
      by : (k ≡ t.number) ⊎ (k ≢ t.number) → ((k ≡ t.number) × RemembersJust s.tables k [] y) ⊎ ((k ≢ t.number) × RemembersJust s.tables k ws y)
      by (inl here) =
          inl (
            here,
            λ more. subst (λ (j : ℕ). HasInMemory (s.tables ++ more) j [] y) (sym here)
                (swapped.emptied (s.tables ++ more) ws all none (subst (λ (j : ℕ). HasInMemory (s.tables ++ more) j ws x) here (has more))),
          )
      by (inr other) = inr (other, λ more v at. subst (λ o. HoldJust v.columns (memtables_at o) ws) (sym (swapped.others k other)) (has more v at))

  keeps_on : (h : History) (found : List Mutation) (was : Told) → h.tables ≡ s.tables → LastsFor h found s d was → AllByRecursion (λ k. k < number) (said_by was.entries).numbers
      → GoesOn Left h (h.changes ++ c ∷ []) found was s u d e
  keeps_on h found was tables so below =
      lists_done s m d e n number c many adds low h found was so below Left answer lists tables going (slice_set m.shards n y) numbers its_file
      (λ k j other. other_files k j (λ both. other (both.0 ∙ sym adds.is.of_shard, both.1 ∙ sym of_table)))
      (λ left stood openings explained.
      explains_told openings h found s u d e was c t x n told so going its_change table there many none left lists.during stood lists.list explained y lists.tables
      (λ k z got. each k z got) swapped_just)

  -- so it is with what stands in no file
  remembers : (ws : ℕ → ℕ → List Mutation) → RememberJust s.tables ws s.shards → RememberJust m.tables (rest_with t.number n (Some c) ws) (slice_set m.shards n y)
  remembers ws have k j z got =
      subst (λ (ts : List TableSchema). RemembersJust ts j (if (k == n) && (j == t.number) then [] else ws k j) z) (sym lists.tables) (by (each k z got))
    where
      of : k ≡ n → ((j ≡ t.number) × RemembersJust s.tables j [] y) ⊎ ((j ≢ t.number) × RemembersJust s.tables j (ws k j) y)
          → RemembersJust s.tables j (if (k == n) && (j == t.number) then [] else ws k j) y
      of here (inl (of_it, empty)) =
          subst (λ (b : Bool). RemembersJust s.tables j (if b then [] else ws k j) y)
          (sym ((λ i. (here i == n) && (of_it i == t.number)) ∙ (λ i. is_same n i && is_same t.number i))) empty
      of here (inr (other, has)) =
          subst (λ (b : Bool). RemembersJust s.tables j (if b then [] else ws k j) y)
          (sym (ap (λ (b : Bool). (k == n) && b) (is_other j t.number (λ e. other (sym e))) ∙ and-false (k == n))) has

      by : ((k ≡ n) × (y ≡ z)) ⊎ ((k ≢ n) × (slice_get s.shards k ≡ Some z)) → RemembersJust s.tables j (if (k == n) && (j == t.number) then [] else ws k j) z
      by (inl (here, same)) =
          subst (λ (q : ShardState). RemembersJust s.tables j (if (k == n) && (j == t.number) then [] else ws k j) q) same
          (of here (swapped_just j (ws k j) (have k j x (ap (λ (i : ℕ). slice_get s.shards i) here ∙ there))))
      by (inr (other, at)) =
          subst (λ (b : Bool). RemembersJust s.tables j (if b && (j == t.number) then [] else ws k j) z) (sym (is_other k n (λ e. other (sym e)))) (have k j z at)

  module _ (says : SaysSo t (slice_get x.stores t.number) new.file) (h : History) (stands : StandsFor h s) where
    one_stands : (q : ShardHistory) → Stands s.tables q x → Stands s.tables q y
    one_stands q so =
        swapped.stands s.tables q new.file new.are
        (subst (λ (ms : List MemPart). SaysWhatTheyDo (order_at s.tables t.number) ms new.file)
        (sym (take_all count (frozen_at (slice_get x.stores t.number)) (omega (arith, all)))) (says s.tables table)) so

    now_stands : StandsFor (record h { unflushed = rest_with t.number n (Some c) h.unflushed; filled = filled_of u; disk = disk_of u }) u
    now_stands =
        stands_again h s u stands lists.limits lists.tables lists.clock lists.list lists.session lists.calls (length_set m.shards n y ∙ ap length lists.shards) by
        (rest_with t.number n (Some c) h.unflushed) (remembers h.unflushed stands.memory)
      where
        by : (k : ℕ) (z : ShardState) → slice_get (slice_set m.shards n y) k ≡ Some z
            → (w : ShardState) × (slice_get s.shards k ≡ Some w) × ((q : ShardHistory) → Stands s.tables q w → Stands s.tables q z)
        by k z got = at (each k z got)
          where
            at : ((k ≡ n) × (y ≡ z)) ⊎ ((k ≢ n) × (slice_get s.shards k ≡ Some z))
                → (w : ShardState) × (slice_get s.shards k ≡ Some w) × ((q : ShardHistory) → Stands s.tables q w → Stands s.tables q z)
            at (inl (here, same)) =
                (x, ap (λ (j : ℕ). slice_get s.shards j) here ∙ there, λ q so. subst (λ (v : ShardState). Stands s.tables q v) same (one_stands q so))
            at (inr (other, got)) = (z, got, λ q so. so)

    flushed : FlushedOne t n (shard_at h n) (Some c) (disk_of s) (disk_of u)
    flushed = record {
      files = (
        new.file,
        one_more,
        lists_one t n number s c x told files there adds is_x is_told of_table new h stands,
      );
      others = other_files;
      all =
          all_in_files (record h { unflushed = rest_with t.number n (Some c) h.unflushed }) u t n y now_stands
          (ap (λ (ts : List TableSchema). slice_get ts t.number) lists.tables ∙ table) at_u
          (subst (SayNothing (clustering_order t.columns)) (sym swapped.memory) (rest_says_nothing (clustering_order t.columns) (slice_get x.stores t.number) count none all));
      reach = lists.reach;
      live = lists.live ∙ ap (λ (is : List TableInfo). s.live + length (map (λ i. i.number) is)) (sym adds.is.added);
      stopped = ap is_some (ok_goes s.journal.first m.journal.first s.faults m.faults answer lists.outcome going);
    }

  pub takes_file : TakesFile t n number (SaysSo t (slice_get x.stores t.number) new.file) Left (Ok (Some number)) s u d e
  takes_file = record {
    beside = record {
      limits = lists.limits;
      tables = lists.tables;
      list = lists.list;
      calls = lists.calls;
      accepted = lists.accepted;
      count = length_set m.shards n y ∙ ap length lists.shards;
      numbers = λ k z got.
          let (w, at, same) = numbers k z got in
          (w, ap (λ (xs : List ShardState). slice_get xs k) (sym lists.shards) ∙ at, same);
      last = omega (arith, lists.last);
      faults = lists.faults;
      reads = omega (arith, lists.reads);
      during = up_to_same s.last_file d e lists.during;
      tells = lists.tells;
    };
    numbers = lists.last;
    change = Some c;
    answer = ap (λ (is : List TableInfo). map (λ i. i.number) is) adds.is.added ∙ ap (λ (k : ℕ). k ∷ []) adds.numbered;
    lasts = keeps_on;
    numbered = ap (λ (is : List TableInfo). map (λ i. i.number) is) adds.is.added ∙ ap (λ (k : ℕ). k ∷ []) adds.numbered;
    fills = λ before full.
        subst (λ (xs : List ShardState). AreFilled before (slice_set xs n y)) (sym lists.shards) (filled_still before s.shards n x y there full swapped.bytes);
    moves = λ says fine h stands. (now_stands says h stands, flushed says h stands);
    own = tt;
  }

-- the same, where the table is looked at by its place
pub takes_file_at : {T : Type 0} (t : TableSchema) (n number count k : ℕ) (s m : State) (d e : Disk) (c : Change) (x y : ShardState) (told : TableInfo) (files : List (File Held))
    (answer : T) → t.number ≡ k → slice_get s.tables k ≡ Some t → length s.shards ≡ s.limits.shards → slice_get s.shards n ≡ Some x → s.journal.first ≡ None
    → (adds : AddsFile s.tables s.shards n number c) → adds.x ≡ x → adds.told ≡ told → c.table ≡ k → number ≤ s.last_file → (new : NewFile t (slice_get x.stores k) told files)
    → Lists c (Ok answer) s m d e → Swapped k count files x y → count ≡ length (frozen_at (slice_get x.stores k)) → bytes_at (slice_get x.stores k) ≡ 0
    → TakesFile t n number (SaysSo t (slice_get x.stores k) new.file) (StandsSo t n told (slice_get x.stores k) d) (Ok (Some number)) s
    (record m { shards = slice_set m.shards n y }) d e
takes_file_at t n number count k s m d e c x y told files answer same table many there going adds is_x is_told of_table low new lists swapped all none =
    subst (λ (j : ℕ). slice_get s.tables j ≡ Some t → c.table ≡ j → (new : NewFile t (slice_get x.stores j) told files) → Swapped j count files x y
    → count ≡ length (frozen_at (slice_get x.stores j)) → bytes_at (slice_get x.stores j) ≡ 0
    → TakesFile t n number (SaysSo t (slice_get x.stores j) new.file) (StandsSo t n told (slice_get x.stores j) d) (Ok (Some number)) s
    (record m { shards = slice_set m.shards n y }) d e) same
    (λ table of_table new swapped all none.
    takes_file t n number count s m d e c x y told files table many there going adds is_x is_told of_table low new answer lists swapped all none) table of_table new swapped all none

-- ---- it isn't listed

-- as many table files are listed as the store counts, so that there is room for one more
not_over : (h : History) (found : List Mutation) (s : State) (d : Disk) (told : Told) (c : Change) (i : TableInfo) → LastsFor h found s d told → s.journal.first ≡ None
    → s.live < LIVE_LIMIT → c.removed ≡ [] → c.added ≡ i ∷ [] → IsOver Files (change_entry c) s.journal → ⊥
not_over h found s d told c i lasts going room removed added over =
    let listed : (said_by told.entries).listed ≡ (manifest_place s.journal.manifest).listed = (lasts.keeps.lasts.goes going).manifest.listed in
    let limits : LIVE_LIMIT ≡ LISTED_LIMIT = refl in
    let none : length c.removed ≡ 0 = ap (λ (ns : List ℕ). length ns) removed in
    let one : length c.added ≡ 1 = ap (λ (is : List TableInfo). length is) added in
    let count : (said_by told.entries).listed ≡ s.live = lasts.behind.listed in
    omega (arith, over, room, listed, limits, none, one, count)

module _ (t : TableSchema) (n number : ℕ) (s m : State) (d e : Disk) (c : Change) (x : ShardState) (told : TableInfo) (files : List (File Held))
    (many : length s.shards ≡ s.limits.shards) (going : s.journal.first ≡ None) (there : slice_get s.shards n ≡ Some x)
    (adds : AddsFile s.tables s.shards n number c) (is_x : adds.x ≡ x) (is_told : adds.told ≡ told) (of_table : c.table ≡ t.number)
    (new : NewFile t (slice_get x.stores t.number) told files) (low : number ≤ s.last_file) (room : s.live < LIVE_LIMIT) where
  -- the manifest has no place
  no_place : (what : Counted) (most : ℕ) → Lists {T = Unit {0}} c (Err (journal.TooMany what most)) s m d e → IsOver what (change_entry c) s.journal
      → LastsForOne s d → (h : History) → StandsFor h s → WhyTooMany t n (shard_at h n) (h.unflushed n t.number) (disk_of m)
  no_place Manifest most lists over lasts h stands =
      inr (inl (record {
        file = new.file;
        change = c;
        lists = lists_one t n number s c x told files there adds is_x is_told of_table new h stands;
        fits = subst FitsInfo (sym new.info) new.fits;
        full = subst (HasNoPlace (change_entry c)) (sym lists.reach) over;
      }))
  no_place Files most lists over (k, found, was, at, lasts) h stands = absurd (not_over k found s d was c adds.told lasts going room adds.is.removed adds.is.added over)
  no_place Segments most lists over lasts h stands = absurd over

  why_unlisted : (f : JournalFault) (first : Option First) → first ≡ None → Ends {T = Unit {0}} first m.journal.first s.faults m.faults (Err f)
      → Lists {T = Unit {0}} c (Err f) s m d e → LastsForOne s d → (h : History) → StandsFor h s → WhyNoFurther t n (shard_at h n) (h.unflushed n t.number) (disk_of s) (disk_of m) (fault_for f)
  why_unlisted (journal.TooLarge long most) None none ends lists lasts h stands = absurd ends
  why_unlisted (journal.TooMany what most) None none ends lists lasts h stands =
      (refl, ap is_some ends, no_place what most lists (lists.full what most refl) lasts h stands)
  why_unlisted (journal.Stopped first) None none ends lists lasts h stands = absurd ends
  why_unlisted journal.Failed None none ends lists lasts h stands = inl ends.0
  why_unlisted journal.Mem None none ends lists lasts h stands = ap is_some ends
  why_unlisted f (Some first) none ends lists lasts h stands = absurd cc

  own_fault : (f : JournalFault) (first : Option First) → first ≡ None → Ends {T = Unit {0}} first m.journal.first s.faults m.faults (Err f) → IsOwn (fault_for f)
  own_fault (journal.TooLarge long most) first none ends = tt
  own_fault (journal.TooMany what most) first none ends = tt
  own_fault (journal.Stopped kept) None none ends = absurd ends
  own_fault (journal.Stopped kept) (Some first) none ends = absurd cc
  own_fault journal.Failed first none ends = tt
  own_fault journal.Mem first none ends = tt

  its_own : IsChangeFor t.number n told x c
  its_own =
      subst (λ (k : ℕ). IsChangeFor k n told x c) of_table
      (subst (λ (i : TableInfo). IsChangeFor c.table n i x c) is_told (subst (λ (z : ShardState). IsChangeFor c.table n adds.told z c) is_x adds.is))

  pub takes_none : (Says : Type 0) → slice_get s.tables t.number ≡ Some t → bytes_at (slice_get x.stores t.number) ≡ 0 → (f : JournalFault)
      → Lists {T = Unit {0}} c (Err f) s m d e → TakesFile t n number Says (StandsSo t n told (slice_get x.stores t.number) d) (Err (fault_for f)) s m d e
  takes_none Says table none f lists = record {
    beside = record {
      limits = lists.limits;
      tables = lists.tables;
      list = lists.list;
      calls = lists.calls;
      accepted = lists.accepted;
      count = ap length lists.shards;
      numbers = λ k z got. (z, ap (λ (xs : List ShardState). slice_get xs k) (sym lists.shards) ∙ got, refl);
      last = omega (arith, lists.last);
      faults = lists.faults;
      reads = omega (arith, lists.reads);
      during = up_to_same s.last_file d e lists.during;
      tells = lists.tells;
    };
    numbers = lists.last;
    change = None;
    answer = refl;
    lasts = λ h found was tables lasts below.
        lists_failed s m d e n number c many adds low h found was lasts below (StandsSo t n told (slice_get x.stores t.number) d) (Unit {0}) f lists tables
        (λ v may left stood openings explained.
        explains_untold openings h found s m d e was c t x n told lasts going its_own table there many none left lists.during stood lists.list explained lists.tables lists.shards f v may);
    numbered = tt;
    fills = λ before full. subst (AreFilled before) (sym lists.shards) full;
    moves = λ says one h stands.
        let still : RememberJust m.tables h.unflushed m.shards =
        subst (λ (xs : List ShardState). RememberJust m.tables h.unflushed xs) (sym lists.shards)
        (subst (λ (ts : List TableSchema). RememberJust ts h.unflushed s.shards) (sym lists.tables) stands.memory) in (
          stands_again h s m stands lists.limits lists.tables lists.clock lists.list lists.session lists.calls (ap length lists.shards)
              (λ k z got. (z, ap (λ (xs : List ShardState). slice_get xs k) (sym lists.shards) ∙ got, λ q so. so)) h.unflushed still,
          record {
            files = λ k table. ap (λ (xs : List ShardState). files_in xs k table) lists.shards;
            reach = lists.reach;
            live = lists.live;
            why = why_unlisted f s.journal.first going lists.outcome lists one h stands;
          },
        );
    own = own_fault f s.journal.first going lists.outcome;
  }

-- the same, where the table is looked at by its place, and the fault is called otherwise
pub takes_none_as : (t : TableSchema) (n number k : ℕ) (s m : State) (d e : Disk) (c : Change) (x : ShardState) (told : TableInfo) (files : List (File Held))
    (Says : Type 0) (f : JournalFault) (r : Fault) → t.number ≡ k → slice_get s.tables k ≡ Some t → length s.shards ≡ s.limits.shards → s.journal.first ≡ None
    → slice_get s.shards n ≡ Some x → (adds : AddsFile s.tables s.shards n number c) → adds.x ≡ x → adds.told ≡ told → c.table ≡ k
    → NewFile t (slice_get x.stores k) told files → bytes_at (slice_get x.stores k) ≡ 0 → number ≤ s.last_file → s.live < LIVE_LIMIT
    → Lists {T = Unit {0}} c (Err f) s m d e → r ≡ fault_for f → TakesFile t n number Says (StandsSo t n told (slice_get x.stores k) d) (Err r) s m d e
takes_none_as t n number k s m d e c x told files Says f r same table many going there adds is_x is_told of_table new none low room lists is =
    subst (λ (q : Fault). TakesFile t n number Says (StandsSo t n told (slice_get x.stores k) d) (Err q) s m d e) (sym is)
    (subst (λ (j : ℕ). TakesFile t n number Says (StandsSo t n told (slice_get x.stores j) d) (Err (fault_for f)) s m d e) same
    (takes_none t n number s m d e c x told files many going there adds is_x is_told (of_table ∙ sym same)
    (subst (λ (j : ℕ). NewFile t (slice_get x.stores j) told files) (sym same) new) low room Says (subst (λ (j : ℕ). slice_get s.tables j ≡ Some t) (sym same) table)
    (subst (λ (j : ℕ). bytes_at (slice_get x.stores j) ≡ 0) (sym same) none) f lists))

-- memory ran out before
pub takes_nothing : (t : TableSchema) (n number : ℕ) (Says Left : Type 0) (s : State) (d : Disk) → s.journal.first ≡ None → TakesFile t n number Says Left (Err Mem) s s d d
takes_nothing t n number Says Left s d going = record {
  beside = quiet_beside s s d d (quiet_still s d) (no_call (SameUpTo s.last_file) d);
  numbers = refl;
  change = None;
  answer = refl;
  lasts = λ h found was tables lasts below. quiet_goes s s d d (quiet_still s d) Left h found was tables lasts (λ openings explained. explained);
  numbered = tt;
  fills = λ before full. full;
  moves = λ says one h stands.
      let (now, ends) = quiet_starves t n s s d d (quiet_still s d) going h stands in
      (now, ends.0);
  own = tt;
}

-- ---- all steps

-- how it ends, since an earlier moment with the same files
ends_since : (t : TableSchema) (n : ℕ) (q : ShardHistory) (ws : List Mutation) (c : Option Change) (r : Result (Option ℕ) Fault) (d m e : DiskState)
    → ((k j : ℕ) → m.files k j ≡ d.files k j) → m.reach ≡ d.reach
    → m.live ≡ d.live → d.faults ≤ m.faults → d.reads ≤ m.reads → EndsIn t n q ws c r m e → EndsIn t n q ws c r d e
ends_since t n q ws c (Ok told) d m e files reach live faults reads one = record {
  files = subst (λ (fs : List (File Held)). Grows t.number n q c fs (e.files n t.number)) (files n t.number) one.files;
  others = λ k j other. one.others k j other ∙ files k j;
  all = one.all;
  reach = one.reach ∙ ap (λ (r : Reach). reach_by r c) reach;
  live = one.live ∙ ap (λ (k : ℕ). k + length (numbers_in c)) live;
  stopped = one.stopped;
}
ends_since t n q ws c (Err f) d m e files reach live faults reads none =
    record { files = λ k j. none.files k j ∙ files k j; reach = none.reach ∙ reach; live = none.live ∙ live; why = by f none.why }
  where
    by : (f : Fault) → WhyNoFurther t n q ws m e f → WhyNoFurther t n q ws d e f
    by (Refused why) is = is
    by (Stopped first) is = is
    by (Failed None) (inl rose) = inl (rose_since d.faults m.faults e.faults faults rose)
    by (Failed None) (inr rose) = inr (rose.0, rose_since d.reads m.reads e.reads reads rose.1)
    by (Failed (Some number)) is = is
    by Read rose = (rose.0, rose_since d.reads m.reads e.reads reads rose.1)
    by (BadBlock number at) is = is
    by Mem is = is

-- what is known where a call failed
pub where_failed : {T E A B : Type 0} (r : Result T E) → (A → B) → IfErr r (λ f. A) → IfErr r (λ f. B)
where_failed (Ok x) goes one = tt
where_failed (Err f) goes one = goes one

-- the disk still keeps what some history says for which the store stands
pub quiet_lasts_for_one : (s m : State) (d e : Disk) → Quiet s m d e → LastsForOne s d → LastsForOne m e
quiet_lasts_for_one s m d e quiet (h, found, told, stands, lasts) =
    (with_state h m, found, told, quiet_stands s m d e quiet h stands, lasts_as h (with_state h m) found m e told refl refl (λ on. on) (quiet_lasts s m d e quiet h found told lasts))

-- it got a new memtable
pub all_begun : (r : Result (Option ℕ) Fault) → IsBegun r true
all_begun (Ok told) = refl
all_begun (Err (Refused why)) = refl
all_begun (Err (Stopped first)) = refl
all_begun (Err (Failed number)) = refl
all_begun (Err Read) = refl
all_begun (Err (BadBlock number at)) = refl
all_begun (Err Mem) = tt

-- quiet steps, and then the file is listed or not
pub flushes_then : (t : TableSchema) (n number last : ℕ) (Says Left : Type 0) (r : Result (Option ℕ) Fault) (s m u : State) (d e f : Disk) → Quiet s m d e
    → During (SameUpTo s.last_file) d e → s.journal.first ≡ None → TakesFile t n number Says Left r m u e f → Left → s.last_file ≤ last → last < number
    → number ≤ m.last_file → m.last_file ≤ s.last_file + 1 → ((h : History) → StandsFor h s → SaySomething (h.unflushed n t.number))
    → ((c : Image) → d.reads c → Remember s.tables s.shards → Says) → Fills (filled_with t.number n true) s m → FlushesOne t n r s u d f
flushes_then t n number last Says Left r s m u d e f quiet during going takes left low above up next some says fills = record {
  beside = beside_then s m u d e f (quiet_beside s m d e quiet during) takes.beside;
  numbers = omega (arith, takes.numbers, next);
  change = takes.change;
  numbered = one_number r takes.change takes.answer takes.numbered;
  some = some_then takes.change;
  answer = takes.answer;
  lasts = λ h found told tables lasts.
      let (now, amid) = takes.lasts h found told (tables ∙ sym quiet.tables) (quiet_lasts s m d e quiet h found told lasts)
      (below_next s.last_file number (said_by told.entries).numbers (omega (arith, low, above)) lasts.behind.numbers) in (
        (
          now.0,
          now.1,
          λ tells stood openings explained.
              now.2 left (quiet_stands s m d e quiet (with_state h s) stood) openings (quiet_explains s m d e quiet during going h found told lasts openings explained),
        ),
        amid_then h found s m d e f quiet.list (quiet_amid s m d e quiet h found told tables lasts) amid,
      );
  begun = true;
  begins = all_begun r;
  drawn = drawn_so r takes.change takes.answer takes.numbered;
  fills = λ before full. takes.fills (filled_with t.number n true before) (fills before full);
  moves = λ c reads one h stands.
      let (now, ends) =
      takes.moves (says c reads (some_of_just s.tables h.unflushed s.shards stands.memory)) (where_failed r (quiet_lasts_for_one s m d e quiet) one) (with_state h m)
      (quiet_stands s m d e quiet h stands) in (
        now,
        (
          ends_since t n (shard_at h n) (h.unflushed n t.number) takes.change r (disk_of s) (disk_of m) (disk_of u) (λ k j. files_again s.shards m.shards quiet.shards k j)
              (ap reach_of quiet.journal) quiet.live quiet.faults quiet.reads ends,
          listed_or_failed r takes.change (h.unflushed n t.number) takes.numbered,
        ),
      );
  own = takes.own;
}
  where
    one_number : (r : Result (Option ℕ) Fault) (c : Option Change) → TellsIt c r → IfOk r (λ told. numbers_in c ≡ number ∷ []) → AscendTo s.last_file (numbers_in c) u.last_file
    one_number (Ok told) c answer is = subst (λ ns. AscendTo s.last_file ns u.last_file) (sym is) (omega (arith, low, above), omega (arith, up, takes.numbers))
    one_number (Err f) c answer is = subst (λ x. AscendTo s.last_file (numbers_in x) u.last_file) (sym answer) (omega (arith, quiet.last, takes.numbers))

    drawn_so : (r : Result (Option ℕ) Fault) (c : Option Change) → TellsIt c r → IfOk r (λ told. numbers_in c ≡ number ∷ [])
        → IfOk r (λ told. u.last_file ≡ s.last_file + length (listed_of told))
    drawn_so (Ok told) c answer is =
        let one : length (listed_of told) ≡ 1 = ap length (sym answer ∙ is) in
        omega (arith, one, low, above, up, next, takes.numbers)
    drawn_so (Err f) c answer is = tt

    listed_or_failed : (r : Result (Option ℕ) Fault) (c : Option Change) (ws : List Mutation) → IfOk r (λ told. numbers_in c ≡ number ∷ []) → SaysNone r c ws
    listed_or_failed (Ok told) None ws is = absurd cc
    listed_or_failed (Ok told) (Some c) ws is = tt
    listed_or_failed (Err f) c ws is = tt

    some_then : (c : Option Change) → IfSome c (λ x. (h : History) → StandsFor h s → SaySomething (h.unflushed n t.number))
    some_then None = tt
    some_then (Some c) = some

-- quiet steps alone
pub flushes_quietly : (t : TableSchema) (n : ℕ) (r : Result (Option ℕ) Fault) (s u : State) (d e : Disk) → Quiet s u d e → During (SameUpTo s.last_file) d e
    → s.journal.first ≡ None → u.last_file ≤ s.last_file + 1
    → ((c : Image) → d.reads c → Remember s.tables s.shards → Moved (rest_with t.number n None)
    (λ h before now. EndsIn t n (shard_at h n) (h.unflushed n t.number) None r before now × SaysNone r None (h.unflushed n t.number)) s u) → IfErr r IsOwn
    → TellsIt None r → (begun : Bool) → IsBegun r begun → Fills (filled_with t.number n begun) s u
    → IfOk r (λ told. u.last_file ≡ s.last_file + length (listed_of told)) → FlushesOne t n r s u d e
flushes_quietly t n r s u d e quiet during going next moves own answer begun begins fills drawn = record {
  beside = quiet_beside s u d e quiet during;
  numbers = next;
  change = None;
  numbered = quiet.last;
  some = tt;
  answer = answer;
  lasts = λ h found told tables lasts. quiet_goes s u d e quiet (TellsReads d) h found told tables lasts (quiet_explains s u d e quiet during going h found told lasts);
  begun = begun;
  begins = begins;
  drawn = drawn;
  fills = fills;
  moves = λ c reads one h stands. moves c reads (some_of_just s.tables h.unflushed s.shards stands.memory) h stands;
  own = own;
}
