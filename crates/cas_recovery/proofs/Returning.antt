-- A store that was read back into memory: each shard stands for whatever it may have been before.
use Rattle.std.proofs.Common.{◌≡◌, ◌⊎◌, inl, inr, ◌<◌, ◌≤◌, max, ℕ, zero, suc, List, [], ◌∷◌, ◌++◌, length, map, Option, Some, refl, sym, ap, ◌∙◌, subst, arith}
use Rattle.std.proofs.lemmas.Option.{get_or_from_slice_get, slice_get_past}
use Rattle.std.proofs.lemmas.List.Elements.{All-get_or}
use Rattle.std.specs.Prelude.{slice_get}
use Rattle.std.specs.List.{AllByRecursion, fold}
use Rattle.cas_types.specs.Limits.{IsNarrow}
use Rattle.cas_types.specs.declared.schema.TableSchema.{TableSchema}
use Rattle.cas_bounds.specs.ClusteringOrder.{clustering_order}
use Rattle.cas_bounds.specs.declared.cuts.Slice.{Slice}
use Rattle.cas_disk.specs.Disk.{Disk, During, Image, Same}
use Rattle.cas_atoms.specs.declared.atom.Mutation.{Mutation}
use Rattle.cas_bind.specs.Tables.{AreTables}
use Rattle.cas_bind.specs.declared.bound.Limits.{Limits}
use Rattle.cas_changes.specs.declared.entry.Entry.{Entry}
use Rattle.cas_changes.specs.declared.said.Part.{Part}
use Rattle.cas_changes.specs.Saying.{Saying, frontiers_in, no_part, part_of, said_by}
use Rattle.cas_index.specs.Searches.{IsSliceOf}
use Rattle.cas_manifest.specs.Loading.{first_entries}
use Rattle.cas_journal.specs.Stores.{IsStore, Told}
use Rattle.cas_journal.specs.Journals.{Lasts}
use Rattle.cas_journal.specs.declared.journal.Journal.{Journal}
use Rattle.cas_opening.specs.Opening.{IsOfBytes, IsReadWith, MayBeOpened, OpensAs, is_above, next_segment}
use Rattle.cas_opening.specs.declared.opened.OpenStore.{OpenStore}
use Rattle.cas_listed.proofs.Holding.{listed_files_hold}
use Rattle.cas_sstread.specs.Loading.{Held}
use Rattle.cas_view.specs.Views.{File}
use Rattle.cas_listed.specs.Listed.{AreLoaded}
use Rattle.cas_stored.specs.Reading.{AreReadIn}
use Rattle.cas_stored.specs.Stored.{HoldEach, IsFileOf, StoredTable}
use Rattle.cas_shard.specs.declared.entry.ShardOpening.{ShardOpening}
use Rattle.cas_shard.specs.Shards.{found_shard}
use Rattle.cas_shard.specs.Stands.{HasNoFiles, Holds, ShardState, Stands, files_at, mutations_of}
use Rattle.define_laws.proofs.Told.{told_tables_are_tables}
use Rattle.cas_recovery.specs.Found.{IsUnflushed, found_in}
use Rattle.cas_recovery.specs.Openings.{MayHaveBeen, SayAll, greatest_frontier, unflushed_of}
use Rattle.cas_recovery.specs.Recovered.{IsRecovered}
use Rattle.cas_recovery.specs.Restored.{AreFilledBy, HaveNoMore, IsBehind, IsTold, MayBeRead, RememberAll, greatest_of}
use Rattle.cas_recovery.specs.Inner.Filling.{HasTaken, IsBroughtBack, IsFilled, IsWithin}
use Rattle.cas_recovery.specs.Inner.Restoring.{MayBeGiven}
use Rattle.cas_recovery.proofs.Afterwards.{still_lasts}
use Rattle.cas_recovery.proofs.Founding.{log_given, some_given}
use Rattle.cas_recovery.proofs.Places.{get_within, same_place}
use Rattle.cas_recovery.proofs.Standing.{loaded_left, opening_stands, table_holds}
use Rattle.cas_recovery.proofs.Explained.{all_unflushed, explained}
use Rattle.cas_recovery.proofs.Within.{named_alone, within}

-- ---- files that may be read

all_read : (t : TableSchema) (fs : List (File Held)) → IsNarrow t.columns → AllByRecursion (IsFileOf t.columns) fs → (q : Slice) → IsSliceOf (clustering_order t.columns) q
    → AreReadIn q fs
all_read t [] narrow own q is = tt
all_read t (f ∷ fs) narrow own q is = (
  record {
    narrow = subst IsNarrow (sym own.0) narrow;
    slice = subst (λ columns. IsSliceOf (clustering_order columns) q) (sym own.0) is;
  },
  all_read t fs narrow own.1 q is,
)

pub may_be_read : (given limits : Limits) (mutations : List Mutation) (s : Saying) (disk : Disk) (tables : List TableSchema) (shards : List ShardState) → AreTables s.tables
    → IsBroughtBack given mutations s disk limits tables shards → MayBeRead tables shards
may_be_read given limits mutations s disk tables shards good back n x there table t is q slice =
    let (was, before, filled) = back.filled.filled n x (omega (arith, get_within shards n x there, back.count)) there in
    let here : slice_get s.tables table ≡ Some t = ap (λ (ts : List TableSchema). slice_get ts table) (sym back.tables_are) ∙ is in
    let narrow : IsNarrow t.columns = subst (λ (u : TableSchema). IsNarrow u.columns) (get_or_from_slice_get s.tables table t t here)
    (All-get_or (λ u. IsNarrow u.columns) s.tables table t (get_within s.tables table t here) good.narrow) in
    all_read t (files_at (slice_get x.stores table)) narrow (filled.tables table t here).own q slice

-- ---- a store without tables

-- a new store has no tables
pub no_tables : (shards : ℕ) → (said_by (first_entries shards)).tables ≡ []
unfolding said_by
no_tables shards = refl

pub no_table : (ts : List TableSchema) (table : ℕ) (t : TableSchema) → ts ≡ [] → slice_get ts table ≡ Some t → ⊥
no_table [] table t none is = cc
no_table (u ∷ ts) table t none is = cc

none_mapped : {X Y : Type 0} (f : X → Y) (xs : List X) → map f xs ≡ [] → xs ≡ []
none_mapped f [] is = refl
none_mapped f (x ∷ xs) is = cc

-- ---- numbers

low_or_high : (n m : ℕ) → (n < m) ⊎ (m ≤ n)
low_or_high n zero = inr (omega arith)
low_or_high zero (suc m) = inl (omega arith)
low_or_high (suc n) (suc m) = elim (low_or_high n m) [ inl low ↦ inl (omega (arith, low)) | inr high ↦ inr (omega (arith, high)) ]

-- the greatest so far is none of these above
it_rises : (n : ℕ) (ms : List ℕ) → n ≤ fold max n ms
it_rises n [] = omega arith
it_rises n (m ∷ ms) = let more = it_rises (max n m) ms in omega (arith, more)

all_below : (n : ℕ) (ms : List ℕ) → AllByRecursion (λ k. k ≤ fold max n ms) ms
all_below n [] = tt
all_below n (m ∷ ms) = (let more = it_rises (max n m) ms in omega (arith, more), all_below (max n m) ms)

-- ---- what was read

module _ (entries : List Entry) (mutations handed : List Mutation) (o : OpenStore) (read : IsReadWith entries mutations handed o.journal o.said) where
  abbrev s : Saying
  s = said_by entries

  -- what is said changed in its segments alone
  pub said_is : (segments : List ℕ) × (last : ℕ) × (o.said ≡ record s { segments = segments; last_segment = last })
  said_is = let (segments, last, is) = named_alone entries read.numbers in (segments, last, read.said ∙ is)

  pub read_within : IsWithin o.said
  read_within = let (segments, last, is) = said_is in subst IsWithin (sym is) (record {
    numbers = (within entries read.follow).numbers;
    frontiers = (within entries read.follow).frontiers;
    no_more = (within entries read.follow).no_more;
    listed = (within entries read.follow).listed;
    moments = (within entries read.follow).moments;
    drawn = (within entries read.follow).drawn;
  })

  as_told : (disk : Disk) (n : ℕ) (x y : ShardState) → IsFilled o.said disk n x y → IsFilled s disk n x y
  as_told disk n x y filled =
      let (segments, last, is) = said_is in
      let same : IsFilled (record s { segments = segments; last_segment = last }) disk n x y = subst (λ (q : Saying). IsFilled q disk n x y) is filled in
      record { tables = same.tables; few = same.few; number = same.number; drawn = same.drawn; moment = same.moment; memory = same.memory; bytes = same.bytes }

  pub tables_said : o.said.tables ≡ s.tables
  tables_said = let (segments, last, is) = said_is in ap (λ (q : Saying). q.tables) is

  shards_said : o.said.shards ≡ s.shards
  shards_said = let (segments, last, is) = said_is in ap (λ (q : Saying). q.shards) is

  numbers_said : o.said.numbers ≡ s.numbers
  numbers_said = let (segments, last, is) = said_is in ap (λ (q : Saying). q.numbers) is

  parts_said : o.said.parts ≡ s.parts
  parts_said = let (segments, last, is) = said_is in ap (λ (q : Saying). q.parts) is

  listed_said : o.said.listed ≡ s.listed
  listed_said = let (segments, last, is) = said_is in ap (λ (q : Saying). q.listed) is

  given_all : MayBeGiven s.tables s.shards handed
  given_all = subst (MayBeGiven s.tables s.shards) (sym read.above) (some_given (is_above s) s.tables s.shards mutations (log_given s.tables s.shards mutations read.log))

  -- what stands in the files of a table, of a store or of a new one
  files_stand : (shards : ℕ) (old mid : Disk) (c : Image) → old.reads c → OpensAs shards entries mutations c
      → (IsStore entries mutations c → During (MayBeOpened entries mutations) old mid) → (n : ℕ) → n < s.shards
      → (table : ℕ) (t : TableSchema) (a b : Option StoredTable) (log all : List Mutation) → slice_get s.tables table ≡ Some t → files_at a ≡ []
      → HasTaken t mid n (part_of s table n).listed a b → SayAll old t n (part_of s table n).listed log all → Holds (clustering_order t.columns) a log
      → Holds (clustering_order t.columns) b all
  files_stand shards old mid c reads (inl store) stays n low table t a b log all there none taken say holds =
      table_holds entries mutations old mid c reads (stays store) listed_files_hold table n t there low a b log all none taken say holds
  files_stand shards old mid c reads (inr (new, first, empty)) stays n low table t a b log all there none taken say holds =
      absurd (no_table s.tables table t (ap (λ (es : List Entry). (said_by es).tables) first ∙ no_tables shards) there)

  -- of a table that isn't there nothing is stored
  no_more : (given limits : Limits) (tables : List TableSchema) (shards : List ShardState) (mid : Disk) → IsBroughtBack given handed o.said mid limits tables shards
      → HaveNoMore tables shards
  no_more given limits tables shards mid back n x there table high =
      let (was, before, filled) = back.filled.filled n x (omega (arith, get_within shards n x there, back.count)) there in
      let stood : Stands s.tables (found_shard (found_in n handed)) was = back.restored.1 s.tables s.shards given_all n was before in
      let few : length x.stores ≤ length s.tables = (as_told mid n was x filled).few stood.few in
      ap (λ q. length (files_at q)) (slice_get_past x.stores table (omega (arith, few, high, ap length (back.tables_are ∙ tables_said))))

  -- in memory is what was handed on, all above the frontiers
  remembered : (given limits : Limits) (tables : List TableSchema) (shards : List ShardState) (mid : Disk) → IsBroughtBack given handed o.said mid limits tables shards
      → RememberAll tables (unflushed_of s mutations) shards
  remembered given limits tables shards mid back =
      subst (λ (ms : List Mutation). RememberAll tables ms shards) read.above
      (subst (λ (ts : List TableSchema). RememberAll ts handed shards) (sym (back.tables_are ∙ tables_said)) (λ n table x there more.
      let (was, before, filled) = back.filled.filled n x (omega (arith, get_within shards n x there, back.count)) there in
      filled.memory (s.tables ++ more) table (mutations_of table (found_in n handed).entries)
      (back.restored.2 s.tables s.shards given_all n table was before more)))

  -- and has their bytes
  filled_by : (given limits : Limits) (tables : List TableSchema) (shards : List ShardState) (mid : Disk) → IsBroughtBack given handed o.said mid limits tables shards
      → AreFilledBy (unflushed_of s mutations) shards
  filled_by given limits tables shards mid back =
      subst (λ (ms : List Mutation). AreFilledBy ms shards) read.above (λ n table x there.
      let (was, before, filled) = back.filled.filled n x (omega (arith, get_within shards n x there, back.count)) there in
      filled.bytes table ∙ back.restored.3 n table was before)

  -- no table's frontier is above the greatest
  is_below : (n count table : ℕ) → table < count → (part_of s table n).frontier ≤ greatest_frontier s n count
  is_below n zero table low = absurd (omega (arith, low))
  is_below n (suc count) table low =
      let further : greatest_frontier s n (suc count) ≡ max (greatest_frontier s n count) (part_of s count n).frontier = refl in
      elim (same_place table count) [
        | inl here ↦ let is = ap (λ (k : ℕ). (part_of s k n).frontier) here in omega (arith, is, further)
        | inr other ↦ let before = is_below n count table (omega (arith, low, other)) in omega (arith, before, further)
      ]

  -- nor above a shard's number
  frontiers_below : (mid : Disk) (n : ℕ) (was x : ShardState) → IsFilled s mid n was x → (table : ℕ) → (part_of s table n).frontier ≤ x.number
  frontiers_below mid n was x filled table = elim (low_or_high table (length s.tables)) [
    | inl low ↦ let below = is_below n (length s.tables) table low in omega (arith, below, filled.number)
    | inr high ↦ let none = (within entries read.follow).no_more table n high in omega (arith, none)
  ]

  behind_all : (given limits : Limits) (tables : List TableSchema) (shards : List ShardState) (mid : Disk) (last live : ℕ)
      → IsBroughtBack given handed o.said mid limits tables shards → last ≡ greatest_of s.numbers → live ≡ s.listed → IsBehind s shards last live
  behind_all given limits tables shards mid last live back last_is live_is = record {
    frontiers = λ n table x there.
        let (was, before, filled) = back.filled.filled n x (omega (arith, get_within shards n x there, back.count)) there in
        frontiers_below mid n was x (as_told mid n was x filled) table;
    numbers = subst (λ (k : ℕ). AllByRecursion (λ m. m ≤ k) s.numbers) (sym last_is) (all_below 0 s.numbers);
    listed = sym live_is;
  }

  -- as what a table's files are loaded
  files_left : (shards : ℕ) (old mid : Disk) (c : Image) → old.reads c → OpensAs shards entries mutations c
      → (IsStore entries mutations c → During (MayBeOpened entries mutations) old mid) → (n : ℕ) → n < s.shards → (table : ℕ) (t : TableSchema)
      → slice_get s.tables table ≡ Some t → (fs : List (File Held)) → ((e : Image) → mid.reads e → AreLoaded t n e (part_of s table n).listed fs)
      → (d : Image) × old.may_leave d × AreLoaded t n d (part_of s table n).listed fs
  files_left shards old mid c reads (inl store) stays n low table t there fs loaded = loaded_left entries mutations old mid c reads (stays store) table n t there low fs loaded
  files_left shards old mid c reads (inr (new, first, empty)) stays n low table t there fs loaded =
      absurd (no_table s.tables table t (ap (λ (es : List Entry). (said_by es).tables) first ∙ no_tables shards) there)

  -- where no file is listed a table holds what it held
  nothing_stands : IsUnflushed s → (mid : Disk) (n : ℕ) → n < s.shards → (table : ℕ) (t : TableSchema) (a b : Option StoredTable) (log : List Mutation)
      → slice_get s.tables table ≡ Some t → files_at a ≡ [] → HasTaken t mid n (part_of s table n).listed a b → Holds (clustering_order t.columns) a log
      → Holds (clustering_order t.columns) b log
  nothing_stands none mid n low table t a b log there empty taken holds =
      let part : part_of s table n ≡ no_part = none.parts table n (get_within s.tables table t there) low in
      let free : files_at b ≡ [] = none_mapped (λ f. f.info) (files_at b) (taken.infos ∙ ap (λ (p : Part). p.listed) part) in
      taken.holds (clustering_order t.columns) [] log empty (subst (λ fs. HoldEach (clustering_order t.columns) fs [] []) (sym free) tt) holds

  pub recovered : (given limits : Limits) (tables : List TableSchema) (shards : List ShardState) (frontiers : List ℕ) (last live : ℕ) (journal : Journal) (old mid new : Disk)
      → IsBroughtBack given handed o.said mid limits tables shards → ((c : Image) → old.reads c → IsOfBytes c → OpensAs given.shards entries mutations c)
      → ((c : Image) → old.reads c → IsOfBytes c → IsStore entries mutations c → During (MayBeOpened entries mutations) old mid) → journal ≡ o.journal
      → ((c : Image) → old.reads c → IsOfBytes c → (t : Told) × IsTold entries mutations t × Lasts o.journal mid t) → During Same mid new
      → last ≡ greatest_of o.said.numbers → live ≡ o.said.listed → frontiers ≡ frontiers_in o.said → IsRecovered given limits tables shards frontiers last live journal old new
  recovered given limits tables shards frontiers last live journal old mid new back opens stays same lasts loading last_is live_is frontiers_are = record {
    entries = entries;
    mutations = mutations;
    found = record { of_a_store = record { made = read.made; follow = read.follow; shards = read.shards; log = read.log }; told = opens };
    same = back.same ∙ ap (λ (n : ℕ). record given { shards = n }) shards_said;
    tables_are = back.tables_are ∙ tables_said;
    good = subst AreTables (sym (back.tables_are ∙ tables_said)) (told_tables_are_tables entries read.follow);
    count = back.count ∙ ap (λ (l : Limits). l.shards) (sym back.same);
    stands = λ n x p there may. one_stands n x p there may;
    listed = λ n x there table t is. (one_taken n x there table t is).infos;
    loaded = λ c reads bytes n x there table t is.
        files_left given.shards old mid c reads (opens c reads bytes) (stays c reads bytes) n
        (omega (arith, get_within shards n x there, back.count, shards_said)) table t (said_there table t is) (files_at (slice_get x.stores table)) (one_taken n x there table t is).loaded;
    no_more = no_more given limits tables shards mid back;
    memory = remembered given limits tables shards mid back;
    frontiers_are = frontiers_are ∙ ap (λ (parts : List Part). map (λ (p : Part). p.frontier) parts) parts_said;
    last_is = last_is ∙ ap greatest_of numbers_said;
    behind = behind_all given limits tables shards mid last live back (last_is ∙ ap greatest_of numbers_said) (live_is ∙ listed_said);
    segment = subst (λ (j : Journal). j.last_segment ≤ next_segment entries) (sym same) read.last;
    lasts = λ c reads bytes.
        let (t, told, holds) = lasts c reads bytes in
        (t, told, subst (λ (j : Journal). Lasts j new t) (sym same) (still_lasts mid new loading o.journal t holds));
    filled = filled_by given limits tables shards mid back;
  }
    where
      by : (n : ℕ) (x was : ShardState) (p : ShardOpening) → n < s.shards → Stands s.tables (found_shard (found_in n (unflushed_of s mutations))) was → HasNoFiles was
          → IsFilled s mid n was x → MayHaveBeen s mutations old n p → Stands s.tables (found_shard p) x
      by n x was p low stood none filled (inl ((c, reads, bytes), is)) =
          opening_stands s mutations old mid n was x p
          (λ table t there free taken holds.
          files_stand given.shards old mid c reads (opens c reads bytes) (stays c reads bytes) n low table t (slice_get was.stores table) (slice_get x.stores table)
          (mutations_of table (found_in n (unflushed_of s mutations)).entries) (mutations_of table p.entries) there free taken (is.says table t there) holds)
          stood none filled is
      by n x was p low stood none filled (inr (unflushed, e)) =
          subst (λ (q : ShardOpening). Stands s.tables (found_shard q) x) (sym e)
          (opening_stands s mutations old mid n was x (found_in n mutations)
          (λ table t there free taken holds.
          subst (λ ms. Holds (clustering_order t.columns) (slice_get x.stores table) (mutations_of table (found_in n ms).entries))
          (all_unflushed entries mutations read.log unflushed)
          (nothing_stands unflushed mid n low table t (slice_get was.stores table) (slice_get x.stores table)
          (mutations_of table (found_in n (unflushed_of s mutations)).entries) there free taken holds))
          stood none filled (explained entries mutations read.log unflushed n low old))

      said_there : (table : ℕ) (t : TableSchema) → slice_get tables table ≡ Some t → slice_get s.tables table ≡ Some t
      said_there table t is = ap (λ (ts : List TableSchema). slice_get ts table) (sym (back.tables_are ∙ tables_said)) ∙ is

      -- what a table had before, whatever that was
      one_taken : (n : ℕ) (x : ShardState) → (there : slice_get shards n ≡ Some x) → (table : ℕ) (t : TableSchema) → slice_get tables table ≡ Some t
          → HasTaken t mid n (part_of s table n).listed
          (slice_get (back.filled.filled n x (omega (arith, get_within shards n x there, back.count)) there).0.stores table) (slice_get x.stores table)
      one_taken n x there table t is =
          let filled = (back.filled.filled n x (omega (arith, get_within shards n x there, back.count)) there).2 in
          (as_told mid n _ x filled).tables table t (said_there table t is)

      one_stands : (n : ℕ) (x : ShardState) (p : ShardOpening) → slice_get shards n ≡ Some x → MayHaveBeen s mutations old n p → Stands tables (found_shard p) x
      one_stands n x p there may =
          let low : n < o.said.shards = omega (arith, get_within shards n x there, back.count) in
          let (was, before, filled) = back.filled.filled n x low there in
          let stood : Stands s.tables (found_shard (found_in n (unflushed_of s mutations))) was =
          subst (λ ms. Stands s.tables (found_shard (found_in n ms)) was) read.above (back.restored.1 s.tables s.shards given_all n was before) in
          subst (λ ts. Stands ts (found_shard p) x) (sym (back.tables_are ∙ tables_said))
          (by n x was p (omega (arith, low, shards_said)) stood (back.restored.0 n was before) (as_told mid n was x filled) may)
