-- A run over a store that was opened, from its beginning to what a crash leaves of it.
use Rattle.std.proofs.Common.{◌≡◌, ◌<◌, ◌≤◌, ◌+◌, ℕ, ℤ, zero, suc, pos, inl, inr, true, false, List, [], ◌∷◌, ◌++◌, length, map, Option, Some, None, is_some, refl, sym, ap, ◌∙◌, subst, arith, append-nil, take}
use Rattle.std.specs.Prelude.{◌⊎◌, ◌≤ℤ◌, slice_get, slice_index_or}
use Rattle.std.specs.Int.{int_max}
use Rattle.std.proofs.lemmas.Int.{clamps, ints}
use Rattle.std.proofs.lemmas.Bool.{cases_lt}
use Rattle.cas_disk.specs.Disk.{Disk, Image}
use Rattle.cas_gates.specs.declared.first.First.{First}
use Rattle.cas_history.specs.Hands.{numbers}
use Rattle.cas_atoms.specs.declared.atom.Mutation.{Mutation}
use Rattle.cas_bind.specs.declared.bound.Limits.{Limits}
use Rattle.cas_types.specs.declared.schema.TableSchema.{TableSchema}
use Rattle.cas_changes.specs.Saying.{Saying, part_of, said_by}
use Rattle.cas_changes.specs.declared.entry.Entry.{Entry as ManifestEntry}
use Rattle.cas_changes.specs.declared.said.Part.{Part}
use Rattle.cas_history.specs.declared.item.Item.{Item}
use Rattle.cas_journal.specs.Journals.{Lasts}
use Rattle.cas_journal.specs.Stores.{Found, MayList, Told}
use Rattle.cas_opening.specs.Opening.{IsOfBytes}
use Rattle.cas_journal.specs.declared.journal.Journal.{Journal}
use Rattle.cas_replay.specs.Grammar.{AreInOrder, AscendByOne, numbers_of}
use Rattle.cas_room.specs.Dropping.{IsTrimmed}
use Rattle.cas_room.specs.Keeping.{AreFlushed, MayFail, StandsFor as ImageStands}
use Rattle.cas_room.specs.Rooms.{accepted_in}
use Rattle.cas_room.specs.declared.event.Event.{Event}
use Rattle.cas_sstread.specs.Loading.{Held}
use Rattle.cas_view.specs.Views.{File}
use Rattle.cas_listed.specs.Listed.{AreLoaded}
use Rattle.cas_shard.specs.declared.entry.ShardOpening.{ShardOpening}
use Rattle.cas_shard.specs.Shards.{ShardHistory, found_shard, empty_shard}
use Rattle.cas_shard.specs.Stands.{ShardState, Stands, files_at}
use Rattle.cas_lasting.specs.History.{History, changes_told, shard_at}
use Rattle.cas_lasting.specs.Explained.{IsNotAhead, OpensIn, as_told, only, with_more}
use Rattle.cas_lasting.specs.Next.{IsExplained}
use Rattle.cas_lasting.specs.Starts.{AreExplained, AreItsFiles, BeginsAs, IsInMemory, IsStarted, start}
use Rattle.cas_lasting.specs.Entered.{HasTables, IsLeft, ListFiles, entries_in}
use Rattle.cas_shard.proofs.Numbers.{drawn_of_none, last_of_none}
use Rattle.cas_recovery.specs.Openings.{AreOpenings, IsOpening, MayHaveBeen, times_of, unflushed_of}
use Rattle.cas_recovery.specs.Recovered.{IsRecovered}
use Rattle.cas_recovery.specs.Restored.{IsTold, RememberAll}
use Rattle.cas_lasting.specs.Nodes.{Explains, State, StandsFor, LastsFor, disk_of, files_in, files_of, all_in}
use Rattle.cas_recovery.proofs.Explained.{opened_goes_on}
use Rattle.cas_recovery.proofs.Places.{get_within}
use Rattle.cas_lasting.proofs.Behind.{behind_said}
use Rattle.cas_lasting.proofs.Explaining.{explains_named}
use Rattle.cas_lasting.proofs.Files.{list_said, told_named}
use Rattle.cas_lasting.proofs.Lasting.{untrimmed}
use Rattle.cas_lasting.proofs.Parts.{no_more, said_few, there_at}
use Rattle.cas_lasting.proofs.Dropped.{opening_behind}
use Rattle.cas_room.proofs.Standing.{front_lacks, holds_front}

-- ---- numbers

pub many_numbers : (m n : ℕ) → length (numbers m n) ≡ n
many_numbers m zero = refl
many_numbers m (suc n) = ap suc (many_numbers (suc m) n)

pub many_mapped : {X Y : Type 0} (f : X → Y) (xs : List X) → length (map f xs) ≡ length xs
many_mapped f [] = refl
many_mapped f (x ∷ xs) = ap suc (many_mapped f xs)

pub numbered : {X : Type 0} (f : ℕ → X) (d : X) (m n k : ℕ) → k < n → slice_index_or (map f (numbers m n)) k d ≡ f (m + k)
numbered f d m zero k lt = absurd (omega (arith, lt))
numbered f d m (suc n) zero lt = ap f (omega arith)
numbered f d m (suc n) (suc k) lt = numbered f d (suc m) n k (omega (arith, lt)) ∙ ap f (omega arith)

from_none : (n : ℕ) → 0 + n ≡ n
from_none n = omega arith

-- ---- the beginning

empty_of : {X : Type 0} (xs : List X) → length xs ≡ 0 → xs ≡ []
empty_of [] e = refl
empty_of (x ∷ xs) e = cc

-- what was read back is in memory, whatever the shards may have been
module _ (given limits : Limits) (tables : List TableSchema) (shards : List ShardState) (frontiers : List ℕ) (last live : ℕ) (journal : Journal) (old new : Disk)
    (is : IsRecovered given limits tables shards frontiers last live journal old new) where
  many_read : length shards ≡ (said_by is.entries).shards
  many_read = is.count ∙ ap (λ (l : Limits). l.shards) is.same

  -- where no shard or no table is, no file is
  none_there : (n table : ℕ) → ((said_by is.entries).shards ≤ n) ⊎ (length (said_by is.entries).tables ≤ table) → (o : Option ShardState) → slice_get shards n ≡ o → files_of o table ≡ []
  none_there n table beyond None at_n = refl
  none_there n table (inl past) (Some x) at_n = absurd (omega (arith, past, many_read, get_within shards n x at_n))
  none_there n table (inr high) (Some x) at_n =
      empty_of (files_at (slice_get x.stores table)) (is.no_more n x at_n table (subst (λ (ts : List TableSchema). length ts ≤ table) (sym is.tables_are) high))

  its_files : AreItsFiles is.entries old (files_in shards)
  its_files = record {
    listed = λ n table t low there.
        let (x, at_n) = there_at shards n (subst (λ (k : ℕ). n < k) (sym many_read) low) in
        ap (λ o. map (λ f. f.info) (files_of o table)) at_n ∙ is.listed n x at_n table t (in_memory table t there);
    loaded = λ c reads bytes n table t low there.
        let (x, at_n) = there_at shards n (subst (λ (k : ℕ). n < k) (sym many_read) low) in
        subst (λ (fs : List (File Held)). (e : Image) × old.may_leave e × AreLoaded t n e (part_of (said_by is.entries) table n).listed fs)
        (ap (λ o. files_of o table) (sym at_n)) (is.loaded c reads bytes n x at_n table t (in_memory table t there));
    no_more = λ n table beyond. none_there n table beyond (slice_get shards n) refl;
  }
    where
      in_memory : (table : ℕ) (t : TableSchema) → slice_get (said_by is.entries).tables table ≡ Some t → slice_get tables table ≡ Some t
      in_memory table t there = ap (λ (ts : List TableSchema). slice_get ts table) is.tables_are ∙ there

  -- so the entries list just its files
  just_listed : ListFiles (said_by is.entries) (files_in shards)
  just_listed n table low = by (cases_lt table (length (said_by is.entries).tables))
    where
      by : (table < length (said_by is.entries).tables) ⊎ (length (said_by is.entries).tables ≤ table)
          → map (λ f. f.info) (files_in shards n table) ≡ (part_of (said_by is.entries) table n).listed
      by (inl lt) =
          let (t, at) = there_at (said_by is.entries).tables table lt in
          its_files.listed n table t low at
      by (inr high) =
          ap (λ (l : List (File Held)). map (λ f. f.info) l) (its_files.no_more n table (inr high))
          ∙ ap (λ (p : Part). p.listed) (sym (no_more (said_by is.entries) table n (said_few is.entries is.found.of_a_store.follow) high))

  read_back : (openings : ℕ → ShardOpening) → AreOpenings is.entries is.mutations old openings → IsInMemory given is.entries is.mutations openings limits tables shards frontiers last live
  read_back openings were = record {
    same = is.same;
    tables_are = is.tables_are;
    count = is.count;
    stands = λ n x there. is.stands n x (openings n) there (may n x there);
    ordered = is.found.of_a_store.log.ordered;
    next = λ n x there.
        opened_goes_on is.entries is.mutations is.found.of_a_store.log old n (openings n) (low n x there) (may n x there) tables x (is.stands n x (openings n) there (may n x there));
    behind = is.behind;
    frontiers_are = is.frontiers_are;
    last_is = is.last_is;
    files = just_listed;
    memory = is.memory;
    filled = is.filled;
  }
    where
      low : (n : ℕ) (x : ShardState) → slice_get shards n ≡ Some x → n < (said_by is.entries).shards
      low n x there = subst (λ (k : ℕ). n < k) many_read (get_within shards n x there)

      may : (n : ℕ) (x : ShardState) → slice_get shards n ≡ Some x → MayHaveBeen (said_by is.entries) is.mutations old n (openings n)
      may n x there = were n (low n x there)

  pub started : IsStarted given limits tables shards frontiers last live journal old new
  started = record { back = is; memory = read_back; files = its_files }

module _ (given : Limits) (entries : List ManifestEntry) (mutations : List Mutation) (openings : ℕ → ShardOpening) (s : State)
    (memory : IsInMemory given entries mutations openings s.limits s.tables s.shards s.frontiers s.last_file s.live) (clock : s.clock ≡ pos 0) (list : s.list ≡ []) (calls : s.calls ≡ 0) where
  abbrev count : ℕ
  count = (said_by entries).shards

  many : length s.shards ≡ count
  many = memory.count ∙ ap (λ (l : Limits). l.shards) memory.same

  at : (n : ℕ) → n < count → shard_at (start given entries mutations openings s.session (disk_of s)) n ≡ found_shard (openings n)
  unfolding start
  at n lt = numbered (λ (k : ℕ). found_shard (openings k)) (found_shard empty_shard) 0 count n lt ∙ ap (λ (k : ℕ). found_shard (openings k)) (from_none n)

  first_stands : StandsFor (start given entries mutations openings s.session (disk_of s)) s
  unfolding start
  first_stands = record {
    limits = sym memory.same;
    tables = sym memory.tables_are;
    clock = sym clock;
    session = refl;
    calls = sym calls;
    disk = refl;
    count = many_mapped _ (numbers 0 count) ∙ many_numbers 0 count ∙ sym many;
    shards = λ n x there.
        let lt : n < count = subst (λ (k : ℕ). n < k) many (get_within s.shards n x there) in
        subst (λ (q : ShardHistory). Stands (said_by entries).tables q x) (sym (at n lt))
        (subst (λ ts. Stands ts (found_shard (openings n)) x) memory.tables_are (memory.stands n x there));
    entered = λ n lt.
        ap (λ (q : ShardHistory). q.entries) (at n (subst (λ (k : ℕ). n < k) (many_mapped _ (numbers 0 count) ∙ many_numbers 0 count) lt))
        ∙ ap (entries_in n) (sym list);
    memory = memory.memory;
    filled = memory.filled;
  }

  -- nothing was accepted yet
  whole_list : all_in mutations s ≡ mutations
  whole_list = ap (λ (l : List (Item Event)). mutations ++ accepted_in l) list ∙ append-nil mutations

  first_lasts : (d : Disk) (t : Told) → IsTold entries mutations t → Lasts s.journal d t → s.committed ≡ 0
      → LastsFor (start given entries mutations openings s.session (disk_of s)) mutations s d t
  unfolding start
  first_lasts d t told lasts committed = record {
    keeps = record {
      lasts = lasts;
      has = record {
        origin = ap (λ (f : Found). f.mutations) told.found;
        dropped = [];
        all = told.taken ∙ sym whole_list;
        committed = omega (arith, told.committed, committed);
        flushed = tt;
        few = omega (arith, told.whole);
        leaving = subst (λ (n : ℕ). AreFlushed t.entries (take n t.taken)) (sym told.whole) tt;
        failing = subst (MayFail (said_by t.entries)) (sym told.failed) tt;
      };
    };
    tables = told.tables ∙ sym memory.tables_are;
    shards = told.shards ∙ ap (λ (l : Limits). l.shards) (sym memory.same);
    few = subst (λ (es : List ManifestEntry). length es ≤ 1) (sym told.failed) (omega arith);
    ordered = subst AreInOrder (sym whole_list) memory.ordered;
    next =
        subst (λ (ms : List Mutation). (n : ℕ) (x : ShardState) → slice_get s.shards n ≡ Some x → AscendByOne (numbers_of n ms ++ (x.number + 1) ∷ [])) (sym whole_list)
        memory.next;
    counted = none s.accepted;
    acknowledged = (omega arith, omega arith);
    whole = λ on. none s.committed;
    behind = behind_said (said_by entries) (said_by t.entries) s.shards s.last_file s.live told.shards told.parts told.numbers told.listed memory.behind;
    files = list_said (said_by entries) (said_by t.entries) (files_in s.shards) told.shards told.parts memory.files;
    changes = ap changes_told told.begun.1 ∙ told_named entries told.begun.0;
    frontiers = memory.frontiers_are ∙ ap (λ (parts : List Part). map (λ (p : Part). p.frontier) parts) (sym told.parts);
    trimmed = untrimmed;
  }
    where
      none : (n : ℕ) → length (accepted_in s.list) ≤ n
      none n = subst (λ (l : List (Item Event)). length (accepted_in l) ≤ n) (sym list) (omega arith)

  abbrev first_history : History
  first_history = start given entries mutations openings s.session (disk_of s)

  abbrev alone : Told → Told
  alone t = record t { entries = entries; failed = []; taken = mutations }

  -- what a crash may leave explains it
  first_explains : (d : Disk) (t : Told) → IsTold entries mutations t → AreExplained entries mutations openings d
      → Explains openings (start given entries mutations openings s.session (disk_of s)) mutations s d t
  unfolding start
  first_explains d t told explained =
      explains_named openings first_history mutations s d (alone t) t told.begun.0 told.begun.1 (inl told.failed) told.taken (λ i leaves. omega arith) (record {
        behind = λ n low.
            let lt : n < count = subst (λ (k : ℕ). n < k) (many_mapped _ (numbers 0 count) ∙ many_numbers 0 count) low in
            subst (λ ms. IsNotAhead (shard_at first_history n) (with_more n ms (openings n))) (sym nothing)
            (subst (λ (q : ShardHistory). IsNotAhead q (openings n)) (sym (at n lt)) (record {
              number = sym (last_of_none (openings n).number);
              drawn = subst (λ (at : ℤ). (openings n).drawn ≤ℤ at) (sym (drawn_of_none (openings n).drawn)) (omega (arith, ints));
              moment = omega (arith, ints);
            }));
        opens = λ i leaves es may many least most n low.
            let none : take many (accepted_in s.list) ≡ [] = take_none many (accepted_in s.list) nothing in
            subst (λ ms. OpensIn mutations ms es i n (openings n)) (sym none)
            (subst (λ l. OpensIn mutations [] l i n (openings n)) (sym (only_entries es may))
            (as_it_is (said_by entries) n i (openings n) (explained i leaves n (subst (λ l. n < (said_by l).shards) (only_entries es may) low))));
        memory = subst (λ ms. RememberAll s.tables (unflushed_of (said_by entries) ms) s.shards) (sym whole_list) memory.memory;
      })
    where
      nothing : accepted_in s.list ≡ []
      nothing = ap accepted_in list

      take_none : (k : ℕ) (ms : List Mutation) → ms ≡ [] → take k ms ≡ []
      take_none zero ms e = refl
      take_none (suc k) [] e = refl
      take_none (suc k) (m ∷ ms) e = absurd cc

      only_entries : (es : List ManifestEntry) → MayList (alone t) es → es ≡ entries
      only_entries es (inl same) = same
      only_entries es (inr more) = more ∙ append-nil entries

      as_it_is : (q : Saying) (n : ℕ) (i : Image) (o : ShardOpening) → IsOpening q mutations (only i) n o → IsOpening q (mutations ++ []) (only i) n (as_told q n o)
      as_it_is q n i o is =
          let drawn : int_max o.drawn (times_of q n).drawn ≡ o.drawn = omega (arith, ints, clamps, is.drawn) in
          let moment : int_max o.moment (times_of q n).moment ≡ o.moment = omega (arith, ints, clamps, is.moment) in
          subst (λ ms. IsOpening q ms (only i) n (as_told q n o)) (sym (append-nil mutations))
          (subst (λ (p : ShardOpening). IsOpening q mutations (only i) n p) (sym (λ j. record o { drawn = drawn j; moment = moment j })) is)

-- the store stands for the history that begins with whatever its shards were
pub begins : (given : Limits) (entries : List ManifestEntry) (mutations : List Mutation) (openings : ℕ → ShardOpening) (s : State) (d : Disk)
    → IsInMemory given entries mutations openings s.limits s.tables s.shards s.frontiers s.last_file s.live → s.clock ≡ pos 0 → s.list ≡ [] → s.calls ≡ 0 → s.committed ≡ 0
    → BeginsAs given entries mutations openings d s
begins given entries mutations openings s d memory clock list calls committed = record {
  stands = first_stands given entries mutations openings s memory clock list calls;
  lasts = λ t told lasts. first_lasts given entries mutations openings s memory clock list calls d t told lasts committed;
  explains = λ t told explained. first_explains given entries mutations openings s memory clock list calls d t told explained;
  counts = (memory.last_is, sym memory.behind.listed);
}

-- ---- what a crash leaves

not_first : (first : Option First) → is_some first ≡ false → first ≡ None
not_first None e = refl
not_first (Some first) e = cc

-- an image lists what was told, where nothing had failed
just_told : (t : Told) (entries : List ManifestEntry) → t.failed ≡ [] → MayList t entries → entries ≡ t.entries
just_told t entries none (inl same) = same
just_told t entries none (inr more) = more ∙ ap (λ (es : List ManifestEntry). t.entries ++ es) none ∙ append-nil t.entries

module _ (final : History) (mutations : List Mutation) (s : State) (d : Disk) (t : Told) (stands : StandsFor final s) (lasts : LastsFor final mutations s d t) where
  going : final.disk.stopped ≡ false → s.journal.first ≡ None
  going on = not_first s.journal.first (ap (λ disk. disk.stopped) (sym stands.disk) ∙ on)

  its_listed : ListFiles (said_by t.entries) final.disk.files
  its_listed = subst (ListFiles (said_by t.entries)) (sym (ap (λ disk. disk.files) stands.disk)) lasts.files

  has_tables : (entries : List ManifestEntry) → MayList t entries → HasTables final entries
  has_tables entries (inl same) = record {
    told = t.entries;
    more = [];
    are = same ∙ sym (append-nil t.entries);
    tables = lasts.tables ∙ sym stands.tables;
    files = its_listed;
    changes = lasts.changes;
    few = omega arith;
    none = λ on. refl;
  }
  has_tables entries (inr more) = record {
    told = t.entries;
    more = t.failed;
    are = more;
    tables = lasts.tables ∙ sym stands.tables;
    files = its_listed;
    changes = lasts.changes;
    few = lasts.few;
    none = λ on. (lasts.keeps.lasts.goes (going on)).none_failed;
  }

  -- where its log is trimmed, nothing had failed, so that the image lists just what was told
  its_trimmed : final.trimmed ≡ true → (entries : List ManifestEntry) → MayList t entries → IsTrimmed (said_by entries) (mutations ++ accepted_in s.list)
  its_trimmed on entries may =
      let (off, is) = lasts.trimmed on in
      let none : t.failed ≡ [] = (lasts.keeps.lasts.goes (not_first s.journal.first off)).none_failed in
      subst (λ (es : List ManifestEntry). IsTrimmed (said_by es) (mutations ++ accepted_in s.list)) (sym (just_told t entries none may)) is

  pub is_left : (i : Image) → ImageStands (MayList t) mutations (accepted_in s.list) s.committed i → IsLeft mutations s.list final i
  is_left i image = record {
    entries = image.entries;
    tables = has_tables image.entries image.may;
    count = image.count;
    least = omega (arith, lasts.acknowledged.0, image.least);
    most = image.most;
    all = λ on. let whole = lasts.whole (ap (λ disk. disk.stopped) (sym stands.disk) ∙ on) in omega (arith, whole, image.least, image.most);
    store = image.store;
    trimmed = λ on. its_trimmed on image.entries image.may;
  }

  -- it explains the history to the next run
  pub is_explained : (openings : ℕ → ShardOpening) → Explains openings final mutations s d t → (i : Image) → d.may_leave i → IsOfBytes i → IsExplained mutations s.list final openings i
  unfolding is_left
  is_explained openings explains i leaves bytes =
      let holds = lasts.keeps.lasts.holds i leaves in
      let image : ImageStands (MayList t) mutations (accepted_in s.list) s.committed i = holds_front t mutations (accepted_in s.list) s.committed i lasts.keeps.has holds in
      let least : t.committed + length (accepted_in s.list) ≤ length t.taken + image.count = front_lacks t mutations (accepted_in s.list) s.committed i lasts.keeps.has holds in
      record {
        left = is_left i image;
        next = λ n low.
            let o : ShardOpening = as_told (said_by image.entries) n (with_more n (take image.count (accepted_in s.list)) (openings n)) in
            inl (
              (i, (λ k. refl), bytes),
              opening_behind (said_by image.entries) image.store.dropped image.store.logged (only i) n o image.store.flushed
                  (subst (λ ms. IsOpening (said_by image.entries) ms (only i) n o) image.store.are (explains.opens i leaves image.entries image.may image.count least image.most n low)),
            );
      }
