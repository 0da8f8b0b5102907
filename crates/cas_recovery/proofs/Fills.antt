-- Shards that are given what a store has of them, table by table and shard by shard.
use Rattle.std.proofs.Common.{◌≡◌, ◌≢◌, ◌⊎◌, inl, inr, ◌<◌, ◌≤◌, ◌+◌, max, ℕ, zero, suc, List, [], ◌∷◌, ◌++◌, length, map, Option, Some, refl, sym, ap, ◌∙◌, subst, arith}
use native.Mathlib.Numerals.{unary_clauses}
use Rattle.std.specs.Prelude.{slice_get, slice_set}
use Rattle.std.specs.Int.{int_max}
use Rattle.std.specs.List.{AllByRecursion}
use Rattle.cas_types.specs.declared.schema.TableSchema.{TableSchema}
use Rattle.cas_info.specs.declared.info.TableInfo.{TableInfo}
use Rattle.cas_disk.specs.Disk.{Disk, During, Follows, Image, Same}
use Rattle.cas_disk.specs.declared.name.Name.TheVariants.{Import as import_name, Log as log_name, Manifest as manifest_name, Table as table_name}
use Rattle.cas_disk.proofs.Moments.{reads_on}
use Rattle.cas_memtable.specs.Kept.{HoldJust, all_of}
use Rattle.cas_changes.specs.Saying.{Saying, part_of}
use Rattle.cas_sstread.specs.Loading.{Held}
use Rattle.cas_view.specs.Views.{File}
use Rattle.cas_stored.specs.Stored.{HoldEach, IsFileOf, StoredTable}
use Rattle.cas_listed.proofs.Behind.{bad_as}
use Rattle.cas_listed.specs.Listed.{AreLoaded, IsBadFile, Loads}
use Rattle.cas_listed.specs.declared.fault.ListedFault.{ListedFault}
use Rattle.cas_listed.specs.declared.fault.ListedFault.TheVariants as listed
use Rattle.cas_shard.specs.Flushing.{KeepsBytes, bytes_at, memtables_at}
use Rattle.cas_shard.specs.Stands.{ShardState, TakesFiles, files_at}
use Rattle.cas_shard.proofs.Memory.{same_number}
use Rattle.cas_recovery.specs.Openings.{greatest_frontier, times_of}
use Rattle.cas_recovery.specs.Inner.Filling.{AreFilled, AreGiven, HasStayed, HasTaken, IsBadIn, IsBadOf, IsBadOfShard, IsFilled, IsGiven, KeepsMemory}
use Rattle.cas_recovery.specs.Inner.Faults.{of_listed}
use Rattle.cas_recovery.specs.declared.fault.RecoveryFault.{RecoveryFault}
use Rattle.cas_recovery.specs.declared.fault.RecoveryFault.TheVariants as fault
use Rattle.cas_recovery.proofs.Places.{get_here, get_other, length_set}

-- ---- files as images have them

-- the listed files are loaded as any image has them that is the same
pub loaded_same : (t : TableSchema) (shard : ℕ) (c d : Image) (infos : List TableInfo) (fs : List (File Held)) → Same c d → AreLoaded t shard d infos fs
    → AreLoaded t shard c infos fs
loaded_same t shard c d [] [] same are = tt
loaded_same t shard c d [] (f ∷ fs) same are = absurd are
loaded_same t shard c d (i ∷ infos) [] same are = absurd are
loaded_same t shard c d (i ∷ infos) (f ∷ fs) same are = (
  record {
    bytes = are.0.bytes;
    there = sym (same (table_name i.number)) ∙ are.0.there;
    contents = are.0.contents;
    columns = are.0.columns;
    info = are.0.info;
    own_info = are.0.own_info;
    kept = are.0.kept;
  },
  loaded_same t shard c d infos fs same are.1,
)

-- ---- one table

module _ (t : TableSchema) (shard : ℕ) (infos : List TableInfo) (start disk : Disk) (during : During Same start disk) (reads : Follows Same start.reads disk.reads) where
  pub loaded_before : (fs : List (File Held)) → ((c : Image) → disk.reads c → AreLoaded t shard c infos fs) → (c : Image) → start.reads c → AreLoaded t shard c infos fs
  loaded_before fs are c read =
      let (d, now, same) = reads_on start disk during reads c read in
      loaded_same t shard c d infos fs (λ k. same k) (are d now)

  pub taken_before : (old new : Option StoredTable) → HasTaken t disk shard infos old new → HasTaken t start shard infos old new
  taken_before old new has = record { loaded = loaded_before (files_at new) has.loaded; infos = has.infos; own = has.own; holds = has.holds }

-- by what it has stored a shard has in memory what another has
pub remembers : (x m y : ShardState) → m.stores ≡ x.stores → KeepsMemory m y → KeepsMemory x y
remembers x m y same keeps tables table ws has =
    keeps tables table ws (λ t at. subst (λ ps. HoldJust t.columns (memtables_at (slice_get ps table)) ws) (sym same) (has t at))

-- from what a shard's call says
pub is_given : (s : Saying) (disk : Disk) (shard : ℕ) (t : TableSchema) (files : List (File Held)) (x m y : ShardState) → m.stores ≡ x.stores
    → TakesFiles t.number files m.stores y.stores → ((c : Image) → disk.reads c → AreLoaded t shard c (part_of s t.number shard).listed files)
    → map (λ f. f.info) files ≡ (part_of s t.number shard).listed → AllByRecursion (IsFileOf t.columns) files → y.number ≡ max x.number (part_of s t.number shard).frontier → y.drawn ≡ x.drawn → y.moment ≡ x.moment → KeepsMemory m y
    → KeepsBytes m y → IsGiven s disk shard t x y
is_given s disk shard t files x m y same takes loaded infos own number drawn moment memory bytes =
    let took : TakesFiles t.number files x.stores y.stores = subst (λ ps. TakesFiles t.number files ps y.stores) same takes in
    record {
      taken = record {
        loaded = λ c read. subst (AreLoaded t shard c (part_of s t.number shard).listed) (sym took.files_are) (loaded c read);
        infos = ap (map (λ f. f.info)) took.files_are ∙ infos;
        own = subst (AllByRecursion (IsFileOf t.columns)) (sym took.files_are) own;
        holds = λ order vss ws none each h. took.holds order vss ws none (subst (λ fs. HoldEach order fs [] vss) took.files_are each) h;
      };
      stayed = λ table apart. record { holds = λ order ws h. took.others table order ws apart h; files = took.other_files table apart };
      few = took.few;
      number = number;
      drawn = drawn;
      moment = moment;
      memory = remembers x m y same memory;
      bytes = λ n. bytes n ∙ ap (λ ps. bytes_at (slice_get ps n)) same;
    }

-- ---- table by table

stayed_then : (a b c : Option StoredTable) → HasStayed a b → HasStayed b c → HasStayed a c
stayed_then a b c first next = record { holds = λ order ws h. next.holds order ws (first.holds order ws h); files = next.files ∙ first.files }

taken_then : (t : TableSchema) (disk : Disk) (shard : ℕ) (infos : List TableInfo) (a b c : Option StoredTable) → HasTaken t disk shard infos a b → HasStayed b c
    → HasTaken t disk shard infos a c
taken_then t disk shard infos a b c first next = record {
  loaded = λ i read. subst (AreLoaded t shard i infos) (sym next.files) (first.loaded i read);
  infos = ap (map (λ f. f.info)) next.files ∙ first.infos;
  own = subst (AllByRecursion (IsFileOf t.columns)) (sym next.files) first.own;
  holds = λ order vss ws none each h. next.holds order (all_of vss ++ ws) (first.holds order vss ws none (subst (λ fs. HoldEach order fs [] vss) next.files each) h);
}

stayed_taken : (t : TableSchema) (disk : Disk) (shard : ℕ) (infos : List TableInfo) (a b c : Option StoredTable) → HasStayed a b → HasTaken t disk shard infos b c
    → HasTaken t disk shard infos a c
stayed_taken t disk shard infos a b c first next = record {
  loaded = next.loaded;
  infos = next.infos;
  own = next.own;
  holds = λ order vss ws none each h. next.holds order vss ws (first.files ∙ none) each (first.holds order ws h);
}

pub none_given : (s : Saying) (disk : Disk) (shard : ℕ) (x : ShardState) → AreGiven s disk shard 0 x x
none_given s disk shard x = record {
  taken = λ table t low there. absurd (omega (arith, low));
  stayed = λ table low. record { holds = λ order ws h. h; files = refl };
  few = λ n low some. low;
  number = omega arith;
  drawn = refl;
  moment = refl;
  memory = λ tables table ws has. has;
  bytes = λ n. refl;
}

pub one_given : (s : Saying) (start disk : Disk) (shard count : ℕ) (t : TableSchema) (x y z : ShardState) → During Same start disk → Follows Same start.reads disk.reads
    → slice_get s.tables count ≡ Some t → t.number ≡ count → AreGiven s start shard count x y → IsGiven s disk shard t y z → AreGiven s start shard (count + 1) x z
one_given s start disk shard count t x y z during reads there own before more = record {
  taken = λ table u low is. by table (same_number table count) u low is;
  stayed = λ table low.
      stayed_then (slice_get x.stores table) (slice_get y.stores table) (slice_get z.stores table) (before.stayed table (omega (arith, low)))
      (more.stayed table (λ e. absurd (omega (arith, low, e, own))));
  few = λ n low some. more.few n (before.few n low (omega (arith, some))) (omega (arith, own, some));
  number =
      let further : greatest_frontier s shard (count + 1) ≡ max (greatest_frontier s shard count) (part_of s count shard).frontier = simp unary_clauses refl in
      omega (arith, more.number, before.number, ap (λ (k : ℕ). (part_of s k shard).frontier) own, further);
  drawn = more.drawn ∙ before.drawn;
  moment = more.moment ∙ before.moment;
  memory = λ tables table ws has. more.memory tables table ws (before.memory tables table ws has);
  bytes = λ n. more.bytes n ∙ before.bytes n;
}
  where
    some_same : (a b : TableSchema) → Some a ≡ Some b → a ≡ b
    some_same a b e = cc

    here : (u : TableSchema) → slice_get s.tables count ≡ Some u → HasTaken u start shard (part_of s count shard).listed (slice_get x.stores count) (slice_get z.stores count)
    here u is =
        let taken : HasTaken t disk shard (part_of s count shard).listed (slice_get y.stores count) (slice_get z.stores count) =
        subst (λ (k : ℕ). HasTaken t disk shard (part_of s k shard).listed (slice_get y.stores k) (slice_get z.stores k)) own more.taken in
        subst (λ (v : TableSchema). HasTaken v start shard (part_of s count shard).listed (slice_get x.stores count) (slice_get z.stores count)) (some_same t u (sym there ∙ is))
        (stayed_taken t start shard (part_of s count shard).listed (slice_get x.stores count) (slice_get y.stores count) (slice_get z.stores count) (before.stayed count (omega arith))
        (taken_before t shard (part_of s count shard).listed start disk during reads (slice_get y.stores count) (slice_get z.stores count) taken))

    by : (table : ℕ) → (table ≡ count) ⊎ (table ≢ count) → (u : TableSchema) → table < count + 1 → slice_get s.tables table ≡ Some u
        → HasTaken u start shard (part_of s table shard).listed (slice_get x.stores table) (slice_get z.stores table)
    by table (inl e) u low is =
        subst (λ (k : ℕ). HasTaken u start shard (part_of s k shard).listed (slice_get x.stores k) (slice_get z.stores k)) (sym e)
        (here u (ap (slice_get s.tables) (sym e) ∙ is))
    by table (inr apart) u low is =
        taken_then u start shard (part_of s table shard).listed (slice_get x.stores table) (slice_get y.stores table) (slice_get z.stores table)
        (before.taken table u (omega (arith, low, apart)) is) (more.stayed table (λ e. apart (e ∙ own)))

-- ---- a shard

pub is_filled : (s : Saying) (disk : Disk) (shard : ℕ) (x m y : ShardState) → m.stores ≡ x.stores → m.number ≡ x.number
    → m.drawn ≡ int_max x.drawn (times_of s shard).drawn → m.moment ≡ int_max x.moment (times_of s shard).moment → AreGiven s disk shard (length s.tables) m y
    → IsFilled s disk shard x y
is_filled s disk shard x m y same number drawn moment given = record {
  tables = λ table t there.
      subst (λ ps. HasTaken t disk shard (part_of s table shard).listed (slice_get ps table) (slice_get y.stores table)) same
      (given.taken table t (within s.tables table t there) there);
  few = λ low. given.few (length s.tables) (subst (λ ps. length ps ≤ length s.tables) (sym same) low) (omega arith);
  number = given.number ∙ ap (λ (k : ℕ). max k (greatest_frontier s shard (length s.tables))) number;
  drawn = given.drawn ∙ drawn;
  moment = given.moment ∙ moment;
  memory = remembers x m y same given.memory;
  bytes = λ n. given.bytes n ∙ ap (λ ps. bytes_at (slice_get ps n)) same;
}
  where
    within : (ts : List TableSchema) (n : ℕ) (t : TableSchema) → slice_get ts n ≡ Some t → n < length ts
    within [] n t is = absurd cc
    within (u ∷ ts) zero t is = omega arith
    within (u ∷ ts) (suc n) t is = let low = within ts n t is in omega (arith, low)

pub filled_before : (s : Saying) (start disk : Disk) (shard : ℕ) (x y : ShardState) → During Same start disk → Follows Same start.reads disk.reads → IsFilled s disk shard x y
    → IsFilled s start shard x y
filled_before s start disk shard x y during reads is = record {
  tables = λ table t there.
      taken_before t shard (part_of s table shard).listed start disk during reads (slice_get x.stores table) (slice_get y.stores table) (is.tables table t there);
  few = is.few;
  number = is.number;
  drawn = is.drawn;
  moment = is.moment;
  memory = is.memory;
  bytes = is.bytes;
}

-- ---- shard by shard

pub none_filled : (s : Saying) (disk : Disk) (xs : List ShardState) → AreFilled s disk 0 xs xs
none_filled s disk xs = record { length_is = refl; filled = λ n y low is. absurd (omega (arith, low)); others = λ n low. refl }

pub one_filled : (s : Saying) (start disk : Disk) (count : ℕ) (xs ys : List ShardState) (x y : ShardState) → During Same start disk → Follows Same start.reads disk.reads
    → slice_get ys count ≡ Some x → AreFilled s start count xs ys → IsFilled s disk count x y → AreFilled s start (count + 1) xs (slice_set ys count y)
one_filled s start disk count xs ys x y during reads there before more = record {
  length_is = length_set ys count y ∙ before.length_is;
  filled = λ n z low is. by n (same_number n count) z low is;
  others = λ n low. get_other ys count n y (λ e. absurd (omega (arith, low, e))) ∙ before.others n (omega (arith, low));
}
  where
    some_same : (a b : ShardState) → Some a ≡ Some b → a ≡ b
    some_same a b e = cc

    by : (n : ℕ) → (n ≡ count) ⊎ (n ≢ count) → (z : ShardState) → n < count + 1 → slice_get (slice_set ys count y) n ≡ Some z
        → (w : ShardState) × (slice_get xs n ≡ Some w) × IsFilled s start n w z
    by n (inl e) z low is =
        let same : y ≡ z = some_same y z (sym (get_here ys count x y there) ∙ ap (slice_get (slice_set ys count y)) (sym e) ∙ is) in (
          x,
          ap (slice_get xs) e ∙ sym (before.others count (omega arith)) ∙ there,
          subst (λ (k : ℕ). IsFilled s start k x z) (sym e)
              (subst (IsFilled s start count x) same (filled_before s start disk count x y during reads more)),
        )
    by n (inr apart) z low is = before.filled n z (omega (arith, low, apart)) (sym (get_other ys count n y apart) ∙ is)

-- ---- files that aren't as they must be

pub bad_of : (s : Saying) (c : Image) (t : TableSchema) (shard : ℕ) (infos : List TableInfo) (f : ListedFault) → infos ≡ (part_of s t.number shard).listed
    → ((number at : ℕ) → f ≡ listed.Bad number at → IsBadFile t shard c infos number at) → IsBadOf s c t shard (of_listed f)
bad_of s c t shard infos listed.Failed are bad = tt
bad_of s c t shard infos listed.Read are bad = tt
bad_of s c t shard infos (listed.Bad number at) are bad = subst (λ is. IsBadFile t shard c is number at) are (bad number at refl)
bad_of s c t shard infos listed.Mem are bad = tt

all_load : (t : TableSchema) (shard : ℕ) (c d : Image) (infos : List TableInfo) → Same c d → AllByRecursion (Loads t shard d) infos → AllByRecursion (Loads t shard c) infos
all_load t shard c d [] same all = tt
all_load t shard c d (i ∷ infos) same all =
    let (bytes, kept, there, loads) = all.0 in
    ((bytes, kept, sym (same (table_name i.number)) ∙ there, loads), all_load t shard c d infos same all.1)

bad_alike : (t : TableSchema) (shard : ℕ) (c d : Image) (infos : List TableInfo) (number at : ℕ) → Same c d → IsBadFile t shard d infos number at → IsBadFile t shard c infos number at
bad_alike t shard c d infos number at same is = record {
  before = is.before;
  info = is.info;
  behind = is.behind;
  place = is.place;
  others = all_load t shard c d is.before same is.others;
  bad = bad_as t shard c d is.info number at (same (table_name is.info.number)) is.bad;
}

-- the same of any image that is the same
pub bad_same : (s : Saying) (c d : Image) (t : TableSchema) (shard : ℕ) (f : RecoveryFault) → Same c d → IsBadOf s d t shard f → IsBadOf s c t shard f
bad_same s c d t shard (fault.Bad (table_name number) at) same bad = bad_alike t shard c d (part_of s t.number shard).listed number at same bad
bad_same s c d t shard (fault.Bad manifest_name at) same bad = bad
bad_same s c d t shard (fault.Bad (log_name number) at) same bad = bad
bad_same s c d t shard (fault.Bad (import_name number) at) same bad = bad
bad_same s c d t shard fault.Failed same bad = tt
bad_same s c d t shard fault.Read same bad = tt
bad_same s c d t shard fault.Mem same bad = tt

-- of one of the tables, and of one of the shards
pub bad_in : (s : Saying) (c : Image) (t : TableSchema) (table shard : ℕ) (f : RecoveryFault) → slice_get s.tables table ≡ Some t → IsBadOf s c t shard f → IsBadIn s c shard f
bad_in s c t table shard (fault.Bad name at) there bad = (t, table, there, bad)
bad_in s c t table shard fault.Failed there bad = tt
bad_in s c t table shard fault.Read there bad = tt
bad_in s c t table shard fault.Mem there bad = tt

pub bad_in_same : (s : Saying) (c d : Image) (shard : ℕ) (f : RecoveryFault) → Same c d → IsBadIn s d shard f → IsBadIn s c shard f
bad_in_same s c d shard (fault.Bad name at) same (t, table, there, bad) = (t, table, there, bad_same s c d t shard (fault.Bad name at) same bad)
bad_in_same s c d shard fault.Failed same bad = tt
bad_in_same s c d shard fault.Read same bad = tt
bad_in_same s c d shard fault.Mem same bad = tt

pub bad_of_shard : (s : Saying) (c : Image) (n : ℕ) (f : RecoveryFault) → n < s.shards → IsBadIn s c n f → IsBadOfShard s c f
bad_of_shard s c n (fault.Bad name at) low bad = (n, low, bad)
bad_of_shard s c n fault.Failed low bad = tt
bad_of_shard s c n fault.Read low bad = tt
bad_of_shard s c n fault.Mem low bad = tt
