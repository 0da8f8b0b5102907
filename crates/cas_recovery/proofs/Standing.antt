-- Shards that were given their listed files stand for whatever they may have been before.
use Rattle.std.proofs.Common.{◌≡◌, ◌⊎◌, inl, inr, ◌<◌, ◌≤◌, ◌==◌, ◌||◌, max, ℕ, zero, suc, Bool, true, false, Option, None, Some, List, [], ◌∷◌, ◌++◌, length, refl, sym, ap, ◌∙◌, subst, arith, append-nil}
use Rattle.std.proofs.lemmas.Option.{slice_get_past}
use Rattle.std.specs.Prelude.{slice_get}
use Rattle.std.specs.Int.{int_max}
use Rattle.std.specs.List.{AllByRecursion}
use Rattle.cas_types.specs.declared.schema.TableSchema.{TableSchema}
use Rattle.cas_bounds.specs.ClusteringOrder.{clustering_order}
use Rattle.cas_bounds.specs.declared.order.Ordered.{Ordered}
use Rattle.cas_atoms.specs.declared.atom.Mutation.{Mutation}
use Rattle.cas_info.specs.declared.info.TableInfo.{TableInfo}
use Rattle.cas_disk.specs.Disk.{Disk, During, Image}
use Rattle.cas_disk.specs.declared.name.Name.TheVariants.{Table as table_name}
use Rattle.cas_disk.proofs.Moments.{left_after}
use Rattle.cas_memtable.specs.Kept.{all_of}
use Rattle.cas_changes.specs.Saying.{Saying, has_file, part_of, said_by}
use Rattle.cas_changes.specs.declared.entry.Entry.{Entry}
use Rattle.cas_stored.specs.Stored.{HoldEach, StoredTable}
use Rattle.cas_sstread.specs.Loading.{Held}
use Rattle.cas_view.specs.Views.{File}
use Rattle.cas_listed.specs.Listed.{AreLoaded, StandInFiles}
use Rattle.cas_listed.specs.Laws.{ListedFilesHold}
use Rattle.cas_opening.specs.Opening.{IsListedTable, MayBeOpened}
use Rattle.cas_shard.specs.declared.entry.ShardOpening.{ShardOpening}
use Rattle.cas_shard.specs.Shards.{all_entries, found_shard}
use Rattle.cas_shard.specs.Stands.{HasNoFiles, Holds, ShardState, Stands, files_at, mutations_of, order_at, order_of}
use Rattle.cas_shard.proofs.Memory.{holds_alike, say_alike}
use Rattle.cas_shard.proofs.Numbers.{drawn_of_none, last_of_none}
use Rattle.cas_recovery.specs.Found.{found_in}
use Rattle.cas_recovery.specs.Openings.{IsOpening, SayAll, greatest_frontier, times_of, unflushed_of}
use Rattle.cas_recovery.specs.Inner.Filling.{HasTaken, IsFilled}
use Rattle.cas_recovery.proofs.Places.{get_within, is_same}

-- ---- listed files stay while a store is opened

abbrev pub AreAlike : Image → Image → List TableInfo → Type 0
AreAlike d c infos = AllByRecursion (λ i. c (table_name i.number) ≡ d (table_name i.number)) infos

is_either : (b c : Bool) → c ≡ true → (b || c) ≡ true
is_either true c is = refl
is_either false c is = is

pub own_file : (all infos : List TableInfo) → ((n : ℕ) → has_file infos n ≡ true → has_file all n ≡ true) → AllByRecursion (λ i. has_file all i.number ≡ true) infos
own_file all [] more = tt
own_file all (i ∷ infos) more = (
  more i.number (ap (λ (b : Bool). b || has_file infos i.number) (is_same i.number)),
  own_file all infos (λ n is. more n (is_either (i.number == n) (has_file infos n) is)),
)

pub all_listed : (s : Saying) (d c : Image) (table shard : ℕ) (infos : List TableInfo) → table < length s.tables → shard < s.shards
    → ((number : ℕ) → IsListedTable s number → c (table_name number) ≡ d (table_name number))
    → AllByRecursion (λ i. has_file (part_of s table shard).listed i.number ≡ true) infos → AreAlike d c infos
all_listed s d c table shard [] defined within stay are = tt
all_listed s d c table shard (i ∷ infos) defined within stay are = (
  stay i.number (record { table = table; shard = shard; defined = defined; within = within; has = are.0 }),
  all_listed s d c table shard infos defined within stay are.1,
)

-- an image in which they are the same has what the other has in them
stand_alike : (t : TableSchema) (shard : ℕ) (d c : Image) (infos : List TableInfo) (wss : List (List Mutation)) → AreAlike d c infos → StandInFiles t shard d infos wss
    → StandInFiles t shard c infos wss
stand_alike t shard d c [] [] alike stand = tt
stand_alike t shard d c [] (ws ∷ wss) alike stand = absurd stand
stand_alike t shard d c (i ∷ infos) [] alike stand = absurd stand
stand_alike t shard d c (i ∷ infos) (ws ∷ wss) alike stand = (
  record {
    contents = stand.0.contents;
    file = record {
      facts = stand.0.file.facts;
      fits = stand.0.file.fits;
      of_atoms = stand.0.file.of_atoms;
      table_is = stand.0.file.table_is;
      shard_is = stand.0.file.shard_is;
      listed = stand.0.file.listed;
      there = alike.0 ∙ stand.0.file.there;
    };
    says = stand.0.says;
    none = stand.0.none;
  },
  stand_alike t shard d c infos wss alike.1 stand.1,
)

-- the listed files are loaded as an image has them that has the same in them
pub loaded_alike : (t : TableSchema) (shard : ℕ) (d c : Image) (infos : List TableInfo) (fs : List (File Held)) → AreAlike d c infos → AreLoaded t shard c infos fs
    → AreLoaded t shard d infos fs
loaded_alike t shard d c [] [] alike are = tt
loaded_alike t shard d c [] (f ∷ fs) alike are = absurd are
loaded_alike t shard d c (i ∷ infos) [] alike are = absurd are
loaded_alike t shard d c (i ∷ infos) (f ∷ fs) alike are = (
  record {
    bytes = are.0.bytes;
    there = sym alike.0 ∙ are.0.there;
    contents = are.0.contents;
    columns = are.0.columns;
    info = are.0.info;
    own_info = are.0.own_info;
    kept = are.0.kept;
  },
  loaded_alike t shard d c infos fs alike.1 are.1,
)

-- ---- what stands in the files of a table

module _ (entries : List Entry) (mutations : List Mutation) (old mid : Disk) (image : Image) (read : old.reads image)
    (call : During (MayBeOpened entries mutations) old mid) where
  abbrev s : Saying
  s = said_by entries

  -- what is read then of the listed files is what a crash might have left before
  pub left_before : (c : Image) → mid.reads c → (d : Image) × old.may_leave d × ((number : ℕ) → IsListedTable s number → c (table_name number) ≡ d (table_name number))
  left_before c now = by (left_after (MayBeOpened entries mutations) old mid call c (mid.is_image c now))
    where
      opened : (d : Image) → old.may_leave d → MayBeOpened entries mutations d c
          → (d : Image) × old.may_leave d × ((number : ℕ) → IsListedTable s number → c (table_name number) ≡ d (table_name number))
      opened d left (inl same) = (d, left, λ number listed. same (table_name number))
      opened d left (inr stayed) = (d, left, λ number listed. stayed.stays (table_name number) (λ e. absurd cc) listed)

      by : old.may_leave c ⊎ ((d : Image) × old.may_leave d × MayBeOpened entries mutations d c)
          → (d : Image) × old.may_leave d × ((number : ℕ) → IsListedTable s number → c (table_name number) ≡ d (table_name number))
      by (inl left) = (c, left, λ number listed. refl)
      by (inr (d, left, step)) = opened d left step

  pub loaded_left : (table shard : ℕ) (t : TableSchema) → slice_get s.tables table ≡ Some t → shard < s.shards → (fs : List (File Held))
      → ((c : Image) → mid.reads c → AreLoaded t shard c (part_of s table shard).listed fs)
      → (d : Image) × old.may_leave d × AreLoaded t shard d (part_of s table shard).listed fs
  loaded_left table shard t there within fs loaded =
      let infos = (part_of s table shard).listed in
      let (c, now) = call.tells image read in
      let (d, left, stay) = left_before c now in
      (d, left, loaded_alike t shard d c infos fs (all_listed s d c table shard infos (get_within s.tables table t there) within stay (own_file infos infos (λ n is. is))) (loaded c now))

  module _ (hold : ListedFilesHold) (table shard : ℕ) (t : TableSchema) (there : slice_get s.tables table ≡ Some t) (within : shard < s.shards) where
    pub files_hold : (a b : Option StoredTable) (log all : List Mutation) → HasTaken t mid shard (part_of s table shard).listed a b
        → (say : SayAll old t shard (part_of s table shard).listed log all) → HoldEach (clustering_order t.columns) (files_at b) [] say.written
    files_hold a b log all has say =
        let infos = (part_of s table shard).listed in
        let (c, now) = call.tells image read in
        let (d, left, stay) = left_before c now in
        let alike : AreAlike d c infos =
        all_listed s d c table shard infos (get_within s.tables table t there) within stay (own_file infos infos (λ n is. is)) in
        hold t shard c infos (files_at b) say.written (has.loaded c now) (stand_alike t shard d c infos say.written alike (say.stand d left))

    pub table_holds : (a b : Option StoredTable) (log all : List Mutation) → files_at a ≡ [] → HasTaken t mid shard (part_of s table shard).listed a b
        → SayAll old t shard (part_of s table shard).listed log all → Holds (clustering_order t.columns) a log → Holds (clustering_order t.columns) b all
    table_holds a b log all none has say h =
        holds_alike (clustering_order t.columns) b (all_of say.written ++ log) all say.says
        (has.holds (clustering_order t.columns) say.written log none (files_hold a b log all has say) h)

-- ---- a shard

no_file : {X : Type 0} (fs : List X) → length fs ≡ 0 → fs ≡ []
no_file [] is = refl
no_file (f ∷ fs) is = absurd (omega (arith, is))

-- of a table that isn't there, nothing is said
none_held : (order : List Ordered) (o : Option StoredTable) (ws : List Mutation) → o ≡ None → ws ≡ [] → Holds order o ws
none_held order o ws none empty =
    subst (λ p. Holds order p ws) (sym none) (record { places = []; holds = refl; says = say_alike [] ws (sym empty) })

pub past : {X : Type 0} (xs : List X) (k : ℕ) → slice_get xs k ≡ None → length xs ≤ k
past [] k e = omega arith
past (x ∷ xs) zero e = absurd cc
past (x ∷ xs) (suc k) e = let low = past xs k e in omega (arith, low)

pub opening_stands : (s : Saying) (mutations : List Mutation) (folder disk : Disk) (n : ℕ) (x y : ShardState) (o : ShardOpening)
    → ((table : ℕ) (t : TableSchema) → slice_get s.tables table ≡ Some t → files_at (slice_get x.stores table) ≡ []
    → HasTaken t disk n (part_of s table n).listed (slice_get x.stores table) (slice_get y.stores table)
    → Holds (clustering_order t.columns) (slice_get x.stores table) (mutations_of table (found_in n (unflushed_of s mutations)).entries)
    → Holds (clustering_order t.columns) (slice_get y.stores table) (mutations_of table o.entries))
    → Stands s.tables (found_shard (found_in n (unflushed_of s mutations))) x → HasNoFiles x → IsFilled s disk n x y → IsOpening s mutations folder n o
    → Stands s.tables (found_shard o) y
opening_stands s mutations folder disk n x y o hold stands none filled is = record {
  numbers = is.rise;
  number = filled.number ∙ ap (λ (k : ℕ). max k (greatest_frontier s n (length s.tables))) (stands.number ∙ last_of_none found.number) ∙ sym is.number ∙ sym (last_of_none o.number);
  drawn = filled.drawn ∙ ap (λ k. int_max k (times_of s n).drawn) (stands.drawn ∙ drawn_of_none found.drawn) ∙ sym is.drawn ∙ sym (drawn_of_none o.drawn);
  moment = filled.moment ∙ ap (λ k. int_max k (times_of s n).moment) stands.moment ∙ sym is.moment;
  kept = λ table. by table (slice_get s.tables table) refl;
  few = filled.few stands.few;
}
  where
    found : ShardOpening
    found = found_in n (unflushed_of s mutations)

    own : (p : ShardOpening) (table : ℕ) → mutations_of table p.entries ≡ mutations_of table (all_entries (found_shard p))
    own p table = ap (mutations_of table) (sym (append-nil p.entries))

    by : (table : ℕ) (t : Option TableSchema) → slice_get s.tables table ≡ t
        → Holds (order_at s.tables table) (slice_get y.stores table) (mutations_of table (all_entries (found_shard o)))
    by table None e =
        let high : length s.tables ≤ table = past s.tables table e in
        let few : length y.stores ≤ length s.tables = filled.few stands.few in
        none_held (order_at s.tables table) (slice_get y.stores table) (mutations_of table (all_entries (found_shard o)))
        (slice_get_past y.stores table (omega (arith, high, few))) (sym (own o table) ∙ is.no_others table high)
    by table (Some t) e =
        let order : order_at s.tables table ≡ clustering_order t.columns = ap order_of e in
        subst (λ q. Holds q (slice_get y.stores table) (mutations_of table (all_entries (found_shard o)))) (sym order)
        (subst (Holds (clustering_order t.columns) (slice_get y.stores table)) (own o table)
        (hold table t e (no_file (files_at (slice_get x.stores table)) (none table)) (filled.tables table t e)
        (subst (Holds (clustering_order t.columns) (slice_get x.stores table)) (sym (own found table))
        (subst (λ q. Holds q (slice_get x.stores table) (mutations_of table (all_entries (found_shard found)))) order (stands.kept table)))))
