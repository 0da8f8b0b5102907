-- What is collected table by table has what is said of each table in each shard.
use Rattle.std.proofs.Common.{◌≡◌, ◌⊎◌, inl, inr, ⊎_elim, ℕ, zero, suc, ◌+◌, ◌*◌, ◌<◌, eqb, Bool, true, false, cond, ◌||◌, List, [], ◌∷◌, ◌++◌, length, filter, Option, Some, refl, sym, ◌∙◌, ap, arith, length-append, nat_lt}
use Rattle.std.specs.Prelude.{slice_get, unwrap_or}
use Rattle.std.specs.List.{AllByRecursion}
use Rattle.std.proofs.lemmas.List.Folds.{list_any-append}
use Rattle.cas_types.specs.declared.schema.TableSchema.{TableSchema}
use Rattle.cas_info.specs.declared.info.TableInfo.{TableInfo}
use Rattle.cas_atoms.specs.declared.atom.Mutation.{Mutation}
use Rattle.cas_mutations.specs.Allowed.{FitsRecord}
use Rattle.cas_changes.specs.Saying.{Saying, part_of, is_listed, has_file}
use Rattle.cas_replay.specs.Reading.{is_above as is_above_in}
use Rattle.cas_opening.specs.Opening.{IsListedTable, is_above}
use Rattle.cas_opening.specs.Inner.Counting.{numbers_of, frontiers_in, frontiers_below, listed_in, listed_below}

-- ---- listed files

either_or : (a b : Bool) → (a ≡ true) ⊎ (b ≡ true) → (a || b) ≡ true
either_or true b some = refl
either_or false b (inl is) = absurd cc
either_or false b (inr is) = is

among_more : (xs ys : List ℕ) (n : ℕ) → (is_listed xs n ≡ true) ⊎ (is_listed ys n ≡ true) → is_listed (xs ++ ys) n ≡ true
among_more xs ys n some = list_any-append (λ m. eqb m n) xs ys ∙ either_or (is_listed xs n) (is_listed ys n) some

has_number : (infos : List TableInfo) (n : ℕ) → has_file infos n ≡ is_listed (numbers_of infos) n
has_number [] n = refl
has_number (i ∷ infos) n = ap (λ (b : Bool). eqb i.number n || b) (has_number infos n)

-- a number below the next one is that one or below it
below_suc : (i n : ℕ) → i < suc n → (i ≡ n) ⊎ (i < n)
below_suc zero zero low = inl refl
below_suc (suc i) zero low = absurd (omega arith)
below_suc zero (suc n) low = inr (omega arith)
below_suc (suc i) (suc n) low = ⊎_elim (λ is. inl (ap suc is)) (λ less. inr (omega (arith, less))) (below_suc i n (omega (arith, low)))

module _ (s : Saying) (n : ℕ) where
  in_shards : (table shards shard : ℕ) → shard < shards → has_file (part_of s table shard).listed n ≡ true → is_listed (listed_in s table shards) n ≡ true
  in_shards table zero shard low has = absurd (omega arith)
  in_shards table (suc shards) shard low has =
      among_more (listed_in s table shards) (numbers_of (part_of s table shards).listed) n
      (⊎_elim (λ is. inr (sym (has_number (part_of s table shards).listed n) ∙ ap (λ (k : ℕ). has_file (part_of s table k).listed n) (sym is) ∙ has))
      (λ less. inl (in_shards table shards shard less has)) (below_suc shard shards low))

  in_tables : (tables table shard : ℕ) → table < tables → shard < s.shards → has_file (part_of s table shard).listed n ≡ true → is_listed (listed_below s tables) n ≡ true
  in_tables zero table shard low within has = absurd (omega arith)
  in_tables (suc tables) table shard low within has =
      among_more (listed_below s tables) (listed_in s tables s.shards) n
      (⊎_elim (λ is. inr (in_shards tables s.shards shard within (ap (λ (k : ℕ). has_file (part_of s k shard).listed n) (sym is) ∙ has)))
      (λ less. inl (in_tables tables table shard less within has)) (below_suc table tables low))

  -- a listed file's number is collected
  pub collected : IsListedTable s n → is_listed (listed_below s (length s.tables)) n ≡ true
  collected is = in_tables (length s.tables) is.table is.shard is.defined is.within is.has

-- ---- frontiers

get_first : {A : Type 0} (xs ys : List A) (i : ℕ) → i < length xs → slice_get (xs ++ ys) i ≡ slice_get xs i
get_first [] ys i low = absurd (omega arith)
get_first (x ∷ xs) ys zero low = refl
get_first (x ∷ xs) ys (suc i) low = get_first xs ys i (omega (arith, low))

get_behind : {A : Type 0} (xs ys : List A) (i : ℕ) → slice_get (xs ++ ys) (length xs + i) ≡ slice_get ys i
get_behind [] ys i = ap (slice_get ys) (omega arith)
get_behind (x ∷ xs) ys i =
    let step : length (x ∷ xs) + i ≡ suc (length xs + i) = omega arith in
    ap (slice_get (x ∷ (xs ++ ys))) step ∙ get_behind xs ys i

module _ (s : Saying) where
  in_long : (table shards : ℕ) → length (frontiers_in s table shards) ≡ shards
  in_long table zero = refl
  in_long table (suc shards) = omega (arith, length-append (frontiers_in s table shards) ((part_of s table shards).frontier ∷ []), in_long table shards)

  below_long : (tables : ℕ) → length (frontiers_below s tables) ≡ tables * s.shards
  below_long zero = omega arith
  below_long (suc tables) = omega (arith, length-append (frontiers_below s tables) (frontiers_in s tables s.shards), in_long tables s.shards, below_long tables)

  one_of : (table shards shard : ℕ) → shard < shards → slice_get (frontiers_in s table shards) shard ≡ Some (part_of s table shard).frontier
  one_of table zero shard low = absurd (omega arith)
  one_of table (suc shards) shard low =
      let front = frontiers_in s table shards in
      let last = (part_of s table shards).frontier ∷ [] in
      ⊎_elim
      (λ is.
      let place : shard ≡ length front + 0 = omega (arith, is, in_long table shards) in
      ap (slice_get (front ++ last)) place ∙ get_behind front last 0 ∙ ap (λ (k : ℕ). Some (part_of s table k).frontier) (sym is))
      (λ less. get_first front last shard (omega (arith, less, in_long table shards)) ∙ one_of table shards shard less)
      (below_suc shard shards low)

  at_place : (tables table shard : ℕ) → table < tables → shard < s.shards → slice_get (frontiers_below s tables) (table * s.shards + shard) ≡ Some (part_of s table shard).frontier
  at_place zero table shard low within = absurd (omega arith)
  at_place (suc tables) table shard low within =
      let front = frontiers_below s tables in
      let last = frontiers_in s tables s.shards in
      ⊎_elim
      (λ is.
      let place : table * s.shards + shard ≡ length front + shard = ap (λ (k : ℕ). k * s.shards + shard) is ∙ ap (λ (k : ℕ). k + shard) (sym (below_long tables)) in
      ap (slice_get (front ++ last)) place ∙ get_behind front last shard ∙ one_of tables s.shards shard within
      ∙ ap (λ (k : ℕ). Some (part_of s k shard).frontier) (sym is))
      (λ less. get_first front last (table * s.shards + shard) (before tables table shard less within) ∙ at_place tables table shard less within)
      (below_suc table tables low)
    where
      before : (tables table shard : ℕ) → table < tables → shard < s.shards → table * s.shards + shard < length (frontiers_below s tables)
      before tables table shard less within = grind (arith, below_long tables)

  -- a mutation of the log is above its frontier by what is said where it is by the collected ones
  pub above_same : (m : Mutation) → FitsRecord s.tables s.shards m → is_above_in s.shards (frontiers_below s (length s.tables)) m ≡ is_above s m
  above_same m fits =
      let table : m.table < length s.tables = within s.tables m.table fits.table fits.there in
      ap (λ (f : Option ℕ). nat_lt (unwrap_or f 0) m.number) (at_place (length s.tables) m.table m.shard table fits.fits.shard)
    where
      within : (tables : List TableSchema) (i : ℕ) (t : TableSchema) → slice_get tables i ≡ Some t → i < length tables
      within [] i t is = absurd cc
      within (x ∷ tables) zero t is = omega arith
      within (x ∷ tables) (suc i) t is = omega (arith, within tables i t is)

  pub filter_same : (ms : List Mutation) → AllByRecursion (FitsRecord s.tables s.shards) ms
      → filter (is_above_in s.shards (frontiers_below s (length s.tables))) ms ≡ filter (is_above s) ms
  filter_same [] fit = refl
  filter_same (m ∷ ms) fit =
      let rest = filter_same ms fit.1 in
      let same = above_same m fit.0 in
      λ i. cond (same i) (m ∷ rest i) (rest i)
