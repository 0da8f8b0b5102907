-- The steps of a flush before the manifest gets the change.
use Rattle.std.proofs.Common.{◌≡◌, ◌≢◌, ◌⊎◌, inl, inr, ◌≤◌, ◌+◌, ℕ, zero, suc, false, List, [], ◌∷◌, ◌++◌, length, Option, None, Some, is_some, refl, sym, ap, ◌∙◌, subst, arith, append-nil}
use Rattle.std.specs.Prelude.{slice_get, slice_set}
use Rattle.std.specs.List.{AllByRecursion}
use Rattle.std.proofs.lemmas.Option.{same_Some}
use Rattle.cas_types.specs.declared.schema.TableSchema.{TableSchema}
use Rattle.cas_disk.specs.Disk.{Disk, During, Leaves}
use Rattle.cas_disk.proofs.Moments.{leaves_either, reworded}
use Rattle.cas_atoms.specs.declared.atom.Mutation.{Mutation}
use Rattle.cas_changes.specs.Saying.{said_by}
use Rattle.cas_changes.specs.declared.entry.Change.{Change}
use Rattle.cas_replay.specs.Grammar.{AscendByOne, numbers_of}
use Rattle.cas_history.specs.declared.item.Item.{Item}
use Rattle.cas_room.specs.declared.event.Event.{Event}
use Rattle.cas_journal.specs.Stores.{Told, Holds}
use Rattle.cas_room.specs.Keeping.{Keeps}
use Rattle.cas_room.specs.Rooms.{accepted_in}
use Rattle.cas_shard.specs.Flushing.{HasInMemory}
use Rattle.cas_shard.specs.declared.entry.ShardOpening.{ShardOpening}
use Rattle.cas_shard.specs.Shards.{ShardHistory}
use Rattle.cas_shard.specs.Stands.{ShardState, Stands}
use Rattle.cas_recovery.proofs.Places.{get_here, get_other, length_set, same_place}
use Rattle.cas_lasting.specs.History.{History, shard_at}
use Rattle.cas_lasting.specs.Entered.{IsLeftAmid, entries_in}
use Rattle.cas_lasting.specs.Listing.{SameUpTo}
use Rattle.cas_recovery.specs.Restored.{Remember}
use Rattle.cas_lasting.proofs.Lasting.{lasts_as, still_in_order, still_next, still_trimmed, untrimmed}
use Rattle.cas_lasting.specs.Nodes.{Explains, RememberJust, State, StandsFor, LastsFor, all_in, disk_of, filled_of, files_in, files_of}
use Rattle.cas_lasting.specs.Inner.Going.{AllGoOn, GoesOn, GoesOnAs, IsBeside, Quiet, SameNumbers}
use Rattle.cas_lasting.proofs.Crashing.{holds_amid}
use Rattle.cas_lasting.proofs.Explaining.{explains_still, goes_nowhere, keep_files_below}
use Rattle.cas_lasting.proofs.Files.{list_still}
use Rattle.cas_lasting.proofs.Filled.{filled_are}
use Rattle.cas_lasting.proofs.Remembering.{in_log}
use Rattle.cas_lasting.proofs.Listing.{up_to_twice}

-- ---- shards

pub same_shard : (x : ShardState) → GoesOnAs x x
same_shard x = record { number = refl; files = λ table. refl; stands = λ ts s h. h; memory = λ ts n ws h. h }

pub same_shards : (xs : List ShardState) → AllGoOn xs xs
same_shards xs = record { count = refl; each = λ n y there. (y, there, same_shard y) }

then_goes : (x y z : ShardState) → GoesOnAs x y → GoesOnAs y z → GoesOnAs x z
then_goes x y z first second = record {
  number = second.number ∙ first.number;
  files = λ table. second.files table ∙ first.files table;
  stands = λ ts s h. second.stands ts s (first.stands ts s h);
  memory = λ ts n ws h. second.memory ts n ws (first.memory ts n ws h);
}

then_go : (xs ys zs : List ShardState) → AllGoOn xs ys → AllGoOn ys zs → AllGoOn xs zs
then_go xs ys zs first second = record {
  count = second.count ∙ first.count;
  each = λ n z there.
      let (y, at_y, later) = second.each n z there in
      let (x, at_x, sooner) = first.each n y at_y in
      (x, at_x, then_goes x y z sooner later);
}

-- one shard is in another state
pub one_goes_on : (xs : List ShardState) (n : ℕ) (x y : ShardState) → slice_get xs n ≡ Some x → GoesOnAs x y → AllGoOn xs (slice_set xs n y)
one_goes_on xs n x y there goes = record { count = length_set xs n y; each = λ k z got. at k z got (same_place k n) }
  where
    at : (k : ℕ) (z : ShardState) → slice_get (slice_set xs n y) k ≡ Some z → (k ≡ n) ⊎ (k ≢ n) → (w : ShardState) × (slice_get xs k ≡ Some w) × GoesOnAs w z
    at k z got (inl here) =
        let at_k : slice_get (slice_set xs n y) k ≡ Some y = subst (λ (j : ℕ). slice_get (slice_set xs n y) j ≡ Some y) (sym here) (get_here xs n x y there) in
        (x, subst (λ (j : ℕ). slice_get xs j ≡ Some x) (sym here) there, subst (λ (w : ShardState). GoesOnAs x w) (same_Some y z (sym at_k ∙ got)) goes)
    at k z got (inr other) = (z, sym (get_other xs n k y other) ∙ got, same_shard z)

-- ---- a step more

pub quiet_then : (s t u : State) (d e f : Disk) → Quiet s t d e → Quiet t u e f → Quiet s u d f
quiet_then s t u d e f first second = record {
  limits = second.limits ∙ first.limits;
  tables = second.tables ∙ first.tables;
  clock = second.clock ∙ first.clock;
  list = second.list ∙ first.list;
  session = second.session ∙ first.session;
  calls = second.calls ∙ first.calls;
  accepted = second.accepted ∙ first.accepted;
  committed = second.committed ∙ first.committed;
  journal = second.journal ∙ first.journal;
  live = second.live ∙ first.live;
  frontiers = second.frontiers ∙ first.frontiers;
  shards = then_go s.shards t.shards u.shards first.shards second.shards;
  last = omega (arith, first.last, second.last);
  faults = omega (arith, first.faults, second.faults);
  reads = omega (arith, first.reads, second.reads);
  keeps = λ found told keeps. second.keeps found told (first.keeps found told keeps);
  crash = λ found told keeps.
      leaves_either (λ c. Holds told c) (λ c. Holds told c) (λ c. Holds told c) d e f (first.crash found told keeps) (second.crash found told (first.keeps found told keeps))
      (λ c h. h) (λ c h. h);
  tells = λ c reads. let (b, now) = first.tells c reads in second.tells b now;
}

-- ---- the disk keeps what it kept

all_below : (a b : ℕ) (ks : List ℕ) → a ≤ b → AllByRecursion (λ k. k ≤ a) ks → AllByRecursion (λ k. k ≤ b) ks
all_below a b [] le all = tt
all_below a b (k ∷ ks) le all = (omega (arith, le, all.0), all_below a b ks le all.1)

pub lasts_again : (h : History) (found : List Mutation) (s t : State) (d e : Disk) (told : Told) → LastsFor h found s d told → Keeps t.journal e t.list t.committed found told
    → t.tables ≡ s.tables → t.limits ≡ s.limits → t.list ≡ s.list → t.accepted ≡ s.accepted → t.committed ≡ s.committed
    → (is_some t.journal.first ≡ false → is_some s.journal.first ≡ false) → SameNumbers s.shards t.shards → s.last_file ≤ t.last_file → t.live ≡ s.live
    → ((n table : ℕ) → files_in t.shards n table ≡ files_in s.shards n table) → t.frontiers ≡ s.frontiers → (is_some s.journal.first ≡ false → is_some t.journal.first ≡ false)
    → LastsFor h found t e told
lasts_again h found s t d e told lasts keeps tables limits list accepted committed going shards last live files frontiers on = record {
  keeps = keeps;
  tables = lasts.tables ∙ sym tables;
  shards = lasts.shards ∙ ap (λ l. l.shards) (sym limits);
  few = lasts.few;
  ordered = still_in_order found s t list lasts.ordered;
  next = still_next found s t t.shards list (λ n y there.
      let (x, at, same) = shards n y there in
      subst (λ (k : ℕ). AscendByOne (numbers_of n (all_in found s) ++ (k + 1) ∷ [])) (sym same) (lasts.next n x at));
  counted = omega (arith, lasts.counted, accepted, ap (λ l. length (accepted_in l)) list);
  acknowledged = (omega (arith, lasts.acknowledged.0, committed), omega (arith, lasts.acknowledged.1, ap (λ l. length (accepted_in l)) list));
  whole = λ on. let all = lasts.whole (going on) in omega (arith, all, committed, ap (λ l. length (accepted_in l)) list);
  behind = record {
    frontiers = λ n table y there.
        let (x, at, same) = shards n y there in
        let below = lasts.behind.frontiers n table x at in
        omega (arith, below, same);
    numbers = all_below s.last_file t.last_file (said_by told.entries).numbers last lasts.behind.numbers;
    listed = lasts.behind.listed ∙ sym live;
  };
  files = list_still (said_by told.entries) (files_in s.shards) (files_in t.shards) files lasts.files;
  changes = lasts.changes;
  frontiers = frontiers ∙ lasts.frontiers;
  trimmed = still_trimmed h h found s t told list (λ was. (was, on)) lasts.trimmed;
}

-- memory says nothing of changes, nor whether the log is trimmed
pub stands_with : (h : History) (changes : List Change) (s : State) → StandsFor h s → StandsFor (record h { changes = changes; trimmed = false }) s
stands_with h changes s stands = record {
  limits = stands.limits;
  tables = stands.tables;
  clock = stands.clock;
  session = stands.session;
  calls = stands.calls;
  disk = stands.disk;
  count = stands.count;
  shards = stands.shards;
  entered = stands.entered;
  memory = stands.memory;
  filled = stands.filled;
}

-- ---- memory stands for the same

-- all but how the disk stands
abbrev pub with_disk : History → State → History
with_disk h t = record h { disk = disk_of t }

-- and how full memtables are
abbrev pub with_state : History → State → History
with_state h t = record h { filled = filled_of t; disk = disk_of t }

pub stands_again : (h : History) (s t : State) → StandsFor h s → t.limits ≡ s.limits → t.tables ≡ s.tables → t.clock ≡ s.clock → t.list ≡ s.list → t.session ≡ s.session
    → t.calls ≡ s.calls → length t.shards ≡ length s.shards
    → ((n : ℕ) (y : ShardState) → slice_get t.shards n ≡ Some y → (x : ShardState) × (slice_get s.shards n ≡ Some x) × ((q : ShardHistory) → Stands s.tables q x → Stands s.tables q y))
    → (left : ℕ → ℕ → List Mutation) → RememberJust t.tables left t.shards → StandsFor (record h { unflushed = left; filled = filled_of t; disk = disk_of t }) t
stands_again h s t stands limits tables clock list session calls count shards left remembers = record {
  limits = stands.limits ∙ sym limits;
  tables = stands.tables ∙ sym tables;
  clock = stands.clock ∙ sym clock;
  session = stands.session ∙ sym session;
  calls = stands.calls ∙ sym calls;
  disk = refl;
  count = stands.count ∙ sym count;
  shards = λ n y there.
      let (x, at, so) = shards n y there in
      subst (λ (ts : List TableSchema). Stands ts (shard_at h n) y) (sym stands.tables)
      (so (shard_at h n) (subst (λ (ts : List TableSchema). Stands ts (shard_at h n) x) stands.tables (stands.shards n x at)));
  entered = λ n lt. stands.entered n lt ∙ ap (entries_in n) (sym list);
  memory = remembers;
  filled = filled_are t;
}

-- ---- what such a step comes to

none_past : {X Y : Type 0} (xs : List X) (ys : List Y) (n : ℕ) → length ys ≡ length xs → slice_get ys n ≡ None → slice_get xs n ≡ None
none_past [] [] n same none = refl
none_past (x ∷ xs) [] n same none = absurd (omega (arith, same))
none_past [] (y ∷ ys) n same none = refl
none_past (x ∷ xs) (y ∷ ys) zero same none = absurd cc
none_past (x ∷ xs) (y ∷ ys) (suc n) same none = none_past xs ys n (omega (arith, same)) none

pub files_again : (xs ys : List ShardState) → AllGoOn xs ys → (n table : ℕ) → files_in ys n table ≡ files_in xs n table
files_again xs ys all n table = by (slice_get ys n) refl
  where
    by : (o : Option ShardState) → slice_get ys n ≡ o → files_of o table ≡ files_in xs n table
    by None none = ap (λ o. files_of o table) (sym (none_past xs ys n all.count none))
    by (Some y) there =
        let (x, at, goes) = all.each n y there in
        goes.files table ∙ ap (λ o. files_of o table) (sym at)

module _ (s t : State) (d e : Disk) (quiet : Quiet s t d e) where
  pub same_numbers : SameNumbers s.shards t.shards
  same_numbers n y there =
      let (x, at, goes) = quiet.shards.each n y there in
      (x, at, goes.number)

  pub quiet_lasts : (h : History) (found : List Mutation) (told : Told) → LastsFor h found s d told → LastsFor h found t e told
  quiet_lasts h found told lasts =
      lasts_again h found s t d e told lasts (quiet.keeps found told lasts.keeps) quiet.tables quiet.limits quiet.list quiet.accepted quiet.committed
      (λ on. ap (λ j. is_some j.first) (sym quiet.journal) ∙ on) same_numbers quiet.last quiet.live
      (files_again s.shards t.shards quiet.shards) quiet.frontiers (λ off. ap (λ j. is_some j.first) quiet.journal ∙ off)

  pub quiet_amid : (h : History) (found : List Mutation) (told : Told) → h.tables ≡ s.tables → LastsFor h found s d told → Leaves (IsLeftAmid found s.list h) d e
  quiet_amid h found told tables lasts =
      reworded (λ _ c. Holds told c) (λ _ c. IsLeftAmid found s.list h c) d e (quiet.crash found told lasts.keeps)
      (λ b c was holds.
      holds_amid told h found (accepted_in s.list) [] s.committed s.list c (sym (append-nil (accepted_in s.list))) lasts.keeps.has lasts.acknowledged.0
      (lasts.tables ∙ sym tables) lasts.few holds)

  pub quiet_goes : (Left : Type 0) (h : History) (found : List Mutation) (told : Told) → h.tables ≡ s.tables → LastsFor h found s d told
      → ((openings : ℕ → ShardOpening) → Explains openings h found s d told → Explains openings h found t e told) → GoesOn Left h h.changes found told s t d e
  quiet_goes Left h found told tables lasts explains = (
    (
      told,
      lasts_as h (record h { changes = h.changes; trimmed = false }) found t e told refl refl untrimmed (quiet_lasts h found told lasts),
      λ left stood openings. explains openings,
    ),
    quiet_amid h found told tables lasts,
  )

  pub quiet_just : (ws : ℕ → ℕ → List Mutation) → RememberJust s.tables ws s.shards → RememberJust t.tables ws t.shards
  quiet_just ws have n table y there =
      let (x, at, goes) = quiet.shards.each n y there in
      λ more. subst (λ (ts : List TableSchema). HasInMemory (ts ++ more) table (ws n table) y) (sym quiet.tables)
      (goes.memory (s.tables ++ more) table (ws n table) (have n table x at more))

  pub quiet_explains : During (SameUpTo s.last_file) d e → s.journal.first ≡ None → (h : History) (found : List Mutation) (told : Told) → LastsFor h found s d told
      → (openings : ℕ → ShardOpening) → Explains openings h found s d told → Explains openings h found t e told
  quiet_explains during going h found told lasts openings was =
      explains_still openings h h found s t d e told (λ n. goes_nowhere (shard_at h n)) refl (ap accepted_in quiet.list)
      (keep_files_below told s.last_file d e (lasts.keeps.lasts.goes going).none_failed lasts.behind.numbers during) (λ ms. quiet_just (in_log ms)) was

  pub quiet_remembers : Remember s.tables s.shards → Remember t.tables t.shards
  quiet_remembers have n table y there =
      let (x, at, goes) = quiet.shards.each n y there in
      let (ws, has) = have n table x at in
      (ws, λ more. subst (λ (ts : List TableSchema). HasInMemory (ts ++ more) table ws y) (sym quiet.tables) (goes.memory (s.tables ++ more) table ws (has more)))

  pub quiet_stands : (h : History) → StandsFor h s → StandsFor (with_state h t) t
  quiet_stands h stands =
      stands_again h s t stands quiet.limits quiet.tables quiet.clock quiet.list quiet.session quiet.calls quiet.shards.count
      (λ n y there. let (x, at, goes) = quiet.shards.each n y there in (x, at, λ q. goes.stands s.tables q)) h.unflushed (quiet_just h.unflushed stands.memory)

  pub quiet_beside : During (SameUpTo s.last_file) d e → IsBeside s t d e
  quiet_beside during = record {
    limits = quiet.limits;
    tables = quiet.tables;
    list = quiet.list;
    calls = quiet.calls;
    accepted = quiet.accepted;
    count = quiet.shards.count;
    numbers = same_numbers;
    last = quiet.last;
    faults = quiet.faults;
    reads = quiet.reads;
    during = during;
    tells = quiet.tells;
  }

-- ---- beside

pub beside_then : (s t u : State) (d e f : Disk) → IsBeside s t d e → IsBeside t u e f → IsBeside s u d f
beside_then s t u d e f first second = record {
  limits = second.limits ∙ first.limits;
  tables = second.tables ∙ first.tables;
  list = second.list ∙ first.list;
  calls = second.calls ∙ first.calls;
  accepted = second.accepted ∙ first.accepted;
  count = second.count ∙ first.count;
  numbers = λ n z there.
      let (y, at_y, later) = second.numbers n z there in
      let (x, at_x, sooner) = first.numbers n y at_y in
      (x, at_x, later ∙ sooner);
  last = omega (arith, first.last, second.last);
  faults = omega (arith, first.faults, second.faults);
  reads = omega (arith, first.reads, second.reads);
  during = up_to_twice s.last_file t.last_file d e f first.last first.during second.during;
  tells = λ c reads. let (b, now) = first.tells c reads in second.tells b now;
}

-- what a crash leaves, in the words of a history with other changes
pub amid_with : (h : History) (left : ℕ → ℕ → List Mutation) (changes : List Change) (found : List Mutation) (list : List (Item Event)) (d e : Disk)
    → Leaves (IsLeftAmid found list (record h { unflushed = left; changes = changes; trimmed = false })) d e → Leaves (IsLeftAmid found list h) d e
amid_with h left changes found list d e leaves =
    reworded (λ _ c. IsLeftAmid found list (record h { unflushed = left; changes = changes; trimmed = false }) c) (λ _ c. IsLeftAmid found list h c) d e leaves
    (λ b c was left. record {
      entries = left.entries;
      told = left.told;
      more = left.more;
      are = left.are;
      tables = left.tables;
      few = left.few;
      count = left.count;
      least = left.least;
      most = left.most;
      store = left.store;
    })

-- what a crash leaves in one part of a call and then in the next
pub amid_then : (h : History) (found : List Mutation) (s t : State) (d e f : Disk) → t.list ≡ s.list → Leaves (IsLeftAmid found s.list h) d e → Leaves (IsLeftAmid found t.list h) e f
    → Leaves (IsLeftAmid found s.list h) d f
amid_then h found s t d e f same first second =
    leaves_either (λ c. IsLeftAmid found s.list h c) (λ c. IsLeftAmid found t.list h c) (λ c. IsLeftAmid found s.list h c) d e f first second (λ c is. is)
    (λ c is. subst (λ l. IsLeftAmid found l h c) same is)
