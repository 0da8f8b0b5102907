-- The shards of a store with the mutations of its log, one after another.
use Rattle.std.proofs.Common.{◌≡◌, ◌≢◌, ◌⊎◌, inl, inr, ◌<◌, ◌==◌, ℕ, zero, suc, Bool, List, [], ◌∷◌, ◌++◌, take, length, Some, sym, ap, ◌∙◌, subst, append-nil}
use Rattle.std.proofs.Math.Logic.{∥∥₁_map}
use Rattle.std.proofs.lemmas.Grind.{flat_map-append}
use Rattle.std.specs.Prelude.{slice_get, slice_set, if◌then◌else◌}
use Rattle.std.specs.List.{AllByRecursion}
use Rattle.cas_types.specs.declared.schema.TableSchema.{TableSchema}
use Rattle.cas_atoms.specs.declared.atom.Mutation.{Mutation}
use Rattle.cas_memtable.specs.Kept.{bytes_of}
use Rattle.cas_memtable.proofs.Keeping.{bytes_both}
use Rattle.cas_mutations.specs.Allowed.{FitsRecord}
use Rattle.cas_replay.specs.Grammar.{numbers_of}
use Rattle.cas_shard.specs.Entries.{last_number}
use Rattle.cas_shard.specs.declared.entry.Entry.TheVariants.{Wrote}
use Rattle.cas_shard.specs.declared.entry.ShardOpening.{ShardOpening}
use Rattle.cas_shard.specs.Shards.{empty_shard, found_shard, restored}
use Rattle.cas_shard.specs.Flushing.{HasInMemory, bytes_at, one_of}
use Rattle.cas_shard.specs.Stands.{Belongs, HasNoFiles, KeepsFiles, ShardState, Stands, files_at, mutations_of, of_table}
use Rattle.cas_sstread.specs.Loading.{Held}
use Rattle.cas_view.specs.Views.{File}
use Rattle.cas_recovery.specs.Found.{found_in}
use Rattle.cas_recovery.specs.Restored.{AreFilledBy, HaveMemory, Remember, RememberAll, Remembers, RemembersJust}
use Rattle.cas_recovery.specs.Inner.Restoring.{AreRestored, HaveNoFiles, MayBeGiven, Rise}
use Rattle.cas_recovery.proofs.Founding.{found_reads, front_rises, is_above, numbers_more, one_more}
use Rattle.cas_recovery.proofs.Places.{get_here, get_other, is_other, is_same, same_place}

-- ---- shards without a mutation

get_pushed : {X : Type 0} (xs : List X) (x y : X) (n : ℕ) → slice_get (xs ++ x ∷ []) n ≡ Some y → (slice_get xs n ≡ Some y) ⊎ (x ≡ y)
get_pushed [] x y zero is = inr cc
get_pushed [] x y (suc n) is = cc
get_pushed (z ∷ xs) x y zero is = inl is
get_pushed (z ∷ xs) x y (suc n) is = get_pushed xs x y n is

pub one_new : (tables : List TableSchema) (shards : List ShardState) (x : ShardState) → AreRestored tables [] shards → Stands tables (found_shard empty_shard) x
    → AreRestored tables [] (shards ++ x ∷ [])
one_new tables shards x are stands n y is =
    elim (get_pushed shards x y n is) [ inl before ↦ are n y before | inr same ↦ subst (λ (z : ShardState). Stands tables (found_shard empty_shard) z) same stands ]

pub no_files_new : (shards : List ShardState) (x : ShardState) → HaveNoFiles shards → HasNoFiles x → HaveNoFiles (shards ++ x ∷ [])
no_files_new shards x are none n y is =
    elim (get_pushed shards x y n is) [ inl before ↦ are n y before | inr same ↦ subst HasNoFiles same none ]

pub memory_new : (tables : List TableSchema) (shards : List ShardState) (x : ShardState) → RememberAll tables [] shards
    → ((ts : List TableSchema) (table : ℕ) → HasInMemory ts table [] x) → RememberAll tables [] (shards ++ x ∷ [])
memory_new tables shards x have none n table y is =
    elim (get_pushed shards x y n is) [
      | inl before ↦ have n table y before
      | inr same ↦ subst (RemembersJust tables table []) same (λ more. none (tables ++ more) table)
    ]

pub filled_new : (shards : List ShardState) (x : ShardState) → AreFilledBy [] shards → ((table : ℕ) → bytes_at (slice_get x.stores table) ≡ 0) → AreFilledBy [] (shards ++ x ∷ [])
filled_new shards x are none n table y is =
    elim (get_pushed shards x y n is) [
      | inl before ↦ are n table y before
      | inr same ↦ subst (λ (z : ShardState). bytes_at (slice_get z.stores table) ≡ 0) same (none table)
    ]

-- ---- a mutation more

front_fits : (P : Mutation → Type 0) (pre rest : List Mutation) → AllByRecursion P (pre ++ rest) → AllByRecursion P pre
front_fits P [] rest all = tt
front_fits P (m ∷ pre) rest all = (all.0, front_fits P pre rest all.1)

here_fits : (P : Mutation → Type 0) (pre : List Mutation) (m : Mutation) (rest : List Mutation) → AllByRecursion P (pre ++ m ∷ rest) → P m
here_fits P [] m rest all = all.0
here_fits P (x ∷ pre) m rest all = here_fits P pre m rest all.1

module _ (tables : List TableSchema) (shards : ℕ) (done : List Mutation) (m : Mutation) (rest all : List Mutation) (are : done ++ m ∷ rest ≡ all)
    (given : MayBeGiven tables shards all) where
  fit_all : AllByRecursion (FitsRecord tables shards) (done ++ m ∷ rest)
  fit_all = subst (AllByRecursion (FitsRecord tables shards)) (sym are) given.fit

  fits_here : FitsRecord tables shards m
  fits_here = here_fits (FitsRecord tables shards) done m rest fit_all

  pub belongs_here : Belongs tables shards m
  belongs_here = (fits_here.table, fits_here.there, fits_here.fits)

  rise_all : (n : ℕ) → Rise 0 (numbers_of n done ++ ((if m.shard == n then m.number ∷ [] else []) ++ numbers_of n rest))
  rise_all n = subst (Rise 0) (ap (numbers_of n) (sym are) ∙ numbers_more n done m rest) (given.rise n)

  rise_here : Rise 0 (numbers_of m.shard done ++ m.number ∷ numbers_of m.shard rest)
  rise_here =
      subst (λ (b : Bool). Rise 0 (numbers_of m.shard done ++ ((if b then m.number ∷ [] else []) ++ numbers_of m.shard rest))) (is_same m.shard) (rise_all m.shard)

  pub front_given : MayBeGiven tables shards done
  front_given = record {
    fit = front_fits (FitsRecord tables shards) done (m ∷ rest) fit_all;
    rise = λ n. front_rises 0 (numbers_of n done) _ (rise_all n);
  }

  pub above_here : last_number 0 (found_in m.shard done).entries < m.number
  above_here =
      is_above (numbers_of m.shard done) (found_in m.shard done) m.number (numbers_of m.shard rest) rise_here (found_reads m.shard done (front_given.rise m.shard))

found_here : (done : List Mutation) (m : Mutation) → found_in m.shard (done ++ m ∷ []) ≡ restored m (found_in m.shard done)
found_here done m = one_more m.shard done m ∙ ap (λ (b : Bool). if b then restored m (found_in m.shard done) else found_in m.shard done) (is_same m.shard)

found_other : (n : ℕ) (done : List Mutation) (m : Mutation) → n ≢ m.shard → found_in n (done ++ m ∷ []) ≡ found_in n done
found_other n done m other =
    one_more n done m ∙ ap (λ (b : Bool). if b then restored m (found_in n done) else found_in n done) (is_other m.shard n other)

pub more_restored : (tables : List TableSchema) (done : List Mutation) (m : Mutation) (shards : List ShardState) (old new : ShardState) → AreRestored tables done shards
    → slice_get shards m.shard ≡ Some old → Stands tables (found_shard (restored m (found_in m.shard done))) new
    → AreRestored tables (done ++ m ∷ []) (slice_set shards m.shard new)
more_restored tables done m shards old new are there stands n x is = at (same_place n m.shard)
  where
    at : (n ≡ m.shard) ⊎ (n ≢ m.shard) → Stands tables (found_shard (found_in n (done ++ m ∷ []))) x
    at (inl here) =
        let same : new ≡ x = (let set = get_here shards m.shard old new there in let its = ap (slice_get (slice_set shards m.shard new)) here in cc) in
        let found : found_in n (done ++ m ∷ []) ≡ restored m (found_in m.shard done) = ap (λ (k : ℕ). found_in k (done ++ m ∷ [])) here ∙ found_here done m in
        subst (λ (o : ShardOpening). Stands tables (found_shard o) x) (sym found)
        (subst (λ (y : ShardState). Stands tables (found_shard (restored m (found_in m.shard done))) y) same stands)
    at (inr other) =
        subst (λ (o : ShardOpening). Stands tables (found_shard o) x) (sym (found_other n done m other))
        (are n x (sym (get_other shards m.shard n new other) ∙ is))

-- of each table a mutation that is restored is the last
one_last : (table : ℕ) (m : Mutation) (o : ShardOpening) → mutations_of table (restored m o).entries ≡ mutations_of table o.entries ++ one_of table m
one_last table m o =
    flat_map-append (of_table table) o.entries (Wrote 0 0 m ∷ []) ∙ ap (λ l. mutations_of table o.entries ++ l) (append-nil (of_table table (Wrote 0 0 m)))

-- what is in memory of the shards, where one of them took a mutation more
pub more_remembered : (tables : List TableSchema) (done : List Mutation) (m : Mutation) (shards : List ShardState) (old new : ShardState)
    → RememberAll tables done shards → slice_get shards m.shard ≡ Some old
    → ((table : ℕ) (ws : List Mutation) → RemembersJust tables table ws old → RemembersJust tables table (ws ++ one_of table m) new)
    → RememberAll tables (done ++ m ∷ []) (slice_set shards m.shard new)
more_remembered tables done m shards old new have there step n table x is = at (same_place n m.shard)
  where
    at : (n ≡ m.shard) ⊎ (n ≢ m.shard) → RemembersJust tables table (mutations_of table (found_in n (done ++ m ∷ [])).entries) x
    at (inl here) =
        let same : new ≡ x = (let set = get_here shards m.shard old new there in let its = ap (slice_get (slice_set shards m.shard new)) here in cc) in
        let found : found_in n (done ++ m ∷ []) ≡ restored m (found_in m.shard done) = ap (λ (k : ℕ). found_in k (done ++ m ∷ [])) here ∙ found_here done m in
        let before : List Mutation = mutations_of table (found_in m.shard done).entries in
        let now : mutations_of table (found_in n (done ++ m ∷ [])).entries ≡ before ++ one_of table m =
        ap (λ (o : ShardOpening). mutations_of table o.entries) found ∙ one_last table m (found_in m.shard done) in
        subst (λ (ws : List Mutation). RemembersJust tables table ws x) (sym now)
        (subst (RemembersJust tables table (before ++ one_of table m)) same (step table before (have m.shard table old there)))
    at (inr other) =
        subst (λ (o : ShardOpening). RemembersJust tables table (mutations_of table o.entries) x) (sym (found_other n done m other))
        (have n table x (sym (get_other shards m.shard n new other) ∙ is))

-- and what bytes they have
pub more_filled : (done : List Mutation) (m : Mutation) (shards : List ShardState) (old new : ShardState) → AreFilledBy done shards → slice_get shards m.shard ≡ Some old
    → ((table : ℕ) → bytes_at (slice_get new.stores table) ≡ bytes_of (bytes_at (slice_get old.stores table)) (one_of table m))
    → AreFilledBy (done ++ m ∷ []) (slice_set shards m.shard new)
more_filled done m shards old new are there step n table x is = at (same_place n m.shard)
  where
    at : (n ≡ m.shard) ⊎ (n ≢ m.shard) → bytes_at (slice_get x.stores table) ≡ bytes_of 0 (mutations_of table (found_in n (done ++ m ∷ [])).entries)
    at (inl here) =
        let same : new ≡ x = (let set = get_here shards m.shard old new there in let its = ap (slice_get (slice_set shards m.shard new)) here in cc) in
        let found : found_in n (done ++ m ∷ []) ≡ restored m (found_in m.shard done) = ap (λ (k : ℕ). found_in k (done ++ m ∷ [])) here ∙ found_here done m in
        let before : List Mutation = mutations_of table (found_in m.shard done).entries in
        let now : mutations_of table (found_in n (done ++ m ∷ [])).entries ≡ before ++ one_of table m =
        ap (λ (o : ShardOpening). mutations_of table o.entries) found ∙ one_last table m (found_in m.shard done) in
        ap (λ (y : ShardState). bytes_at (slice_get y.stores table)) (sym same) ∙ step table ∙ ap (λ b. bytes_of b (one_of table m)) (are m.shard table old there)
        ∙ sym (bytes_both 0 before (one_of table m)) ∙ ap (bytes_of 0) (sym now)
    at (inr other) =
        are n table x (sym (get_other shards m.shard n new other) ∙ is)
        ∙ ap (λ (o : ShardOpening). bytes_of 0 (mutations_of table o.entries)) (sym (found_other n done m other))

-- what holds of the files of each table in each shard
abbrev pub OfFiles : (ℕ → List (File Held) → Type 0) → List ShardState → Type 0
OfFiles P shards = (n : ℕ) (x : ShardState) → slice_get shards n ≡ Some x → (table : ℕ) → P table (files_at (slice_get x.stores table))

-- where a shard keeps its files, and the others stay, it holds of them again
pub one_keeps : (P : ℕ → List (File Held) → Type 0) (shards : List ShardState) (place : ℕ) (old new : ShardState) → OfFiles P shards → slice_get shards place ≡ Some old
    → KeepsFiles old new → OfFiles P (slice_set shards place new)
one_keeps P shards place old new are there keeps n x is = at (same_place n place)
  where
    at : (n ≡ place) ⊎ (n ≢ place) → (table : ℕ) → P table (files_at (slice_get x.stores table))
    at (inl here) =
        let same : new ≡ x = (let set = get_here shards place old new there in let its = ap (slice_get (slice_set shards place new)) here in cc) in
        subst (λ (y : ShardState). (table : ℕ) → P table (files_at (slice_get y.stores table))) same
        (λ table. subst (P table) (sym (keeps table)) (are place old there table))
    at (inr other) = are n x (sym (get_other shards place n new other) ∙ is)

pub one_keeps_none : (shards : List ShardState) (place : ℕ) (old new : ShardState) → HaveNoFiles shards → slice_get shards place ≡ Some old → KeepsFiles old new
    → HaveNoFiles (slice_set shards place new)
one_keeps_none shards place old new are there keeps = one_keeps (λ table fs. length fs ≡ 0) shards place old new are there keeps

-- what is in memory of the shards, where one of them is in another state
pub one_remembers : (tables : List TableSchema) (shards : List ShardState) (place : ℕ) (old new : ShardState) → Remember tables shards
    → slice_get shards place ≡ Some old → ((table : ℕ) → Remembers tables table old → Remembers tables table new) → Remember tables (slice_set shards place new)
one_remembers tables shards place old new have there step n table x is = at (same_place n place)
  where
    at : (n ≡ place) ⊎ (n ≢ place) → Remembers tables table x
    at (inl here) =
        let same : new ≡ x = (let set = get_here shards place old new there in let its = ap (slice_get (slice_set shards place new)) here in cc) in
        subst (Remembers tables table) same (step table (have place table old there))
    at (inr other) = have n table x (sym (get_other shards place n new other) ∙ is)

-- the same, whichever mutations these are
pub one_has_memory : (tables : List TableSchema) (shards : List ShardState) (place : ℕ) (old new : ShardState) → HaveMemory tables shards
    → slice_get shards place ≡ Some old → ((table : ℕ) → Remembers tables table old → Remembers tables table new) → HaveMemory tables (slice_set shards place new)
one_has_memory tables shards place old new have there step n table x is = at (same_place n place)
  where
    at : (n ≡ place) ⊎ (n ≢ place) → ∥ Remembers tables table x ∥₁
    at (inl here) =
        let same : new ≡ x = (let set = get_here shards place old new there in let its = ap (slice_get (slice_set shards place new)) here in cc) in
        subst (λ (y : ShardState). ∥ Remembers tables table y ∥₁) same (∥∥₁_map (have place table old there) (step table))
    at (inr other) = have n table x (sym (get_other shards place n new other) ∙ is)

-- a table is the same where there are tables more
pub get_first : {X : Type 0} (xs ys : List X) (n : ℕ) (x : X) → slice_get xs n ≡ Some x → slice_get (xs ++ ys) n ≡ Some x
get_first [] ys n x is = absurd cc
get_first (z ∷ xs) ys zero x is = is
get_first (z ∷ xs) ys (suc n) x is = get_first xs ys n x is

pub belongs_too : (tables more : List TableSchema) (count : ℕ) (m : Mutation) → Belongs tables count m → Belongs (tables ++ more) count m
belongs_too tables more count m belongs = (belongs.0, get_first tables more m.table belongs.0 belongs.1, belongs.2)

-- ---- the first shards

get_front : {X : Type 0} (n : ℕ) (xs : List X) (k : ℕ) (x : X) → slice_get (take n xs) k ≡ Some x → slice_get xs k ≡ Some x
get_front zero xs k x is = absurd cc
get_front (suc n) [] k x is = is
get_front (suc n) (y ∷ ys) zero x is = is
get_front (suc n) (y ∷ ys) (suc k) x is = get_front n ys k x is

pub first_restored : (tables : List TableSchema) (mutations : List Mutation) (n : ℕ) (shards : List ShardState) → AreRestored tables mutations shards
    → AreRestored tables mutations (take n shards)
first_restored tables mutations n shards are k x is = are k x (get_front n shards k x is)

pub first_no_files : (n : ℕ) (shards : List ShardState) → HaveNoFiles shards → HaveNoFiles (take n shards)
first_no_files n shards are k x is = are k x (get_front n shards k x is)

pub first_memory : (tables : List TableSchema) (mutations : List Mutation) (n : ℕ) (shards : List ShardState) → RememberAll tables mutations shards
    → RememberAll tables mutations (take n shards)
first_memory tables mutations n shards have k table x is = have k table x (get_front n shards k x is)

pub first_filled : (mutations : List Mutation) (n : ℕ) (shards : List ShardState) → AreFilledBy mutations shards → AreFilledBy mutations (take n shards)
first_filled mutations n shards are k table x is = are k table x (get_front n shards k x is)
