-- Each table file that a manifest lists has one of the numbers that it told of.
use Rattle.std.proofs.Common.{◌≡◌, ◌≤◌, ◌∙◌, ℕ, zero, suc, Bool, true, false, cond, ◌||◌, List, [], ◌∷◌, ◌++◌, map, filter, refl, ap, subst, arith}
use Rattle.std.proofs.lemmas.Bool.Decides.{nat_tests}
use Rattle.std.specs.Prelude.{◌==◌, not, slice_set, replicate}
use Rattle.std.specs.List.{AllByRecursion, fold}
use Rattle.std.proofs.lemmas.List.Folds.{list_any-append}
use Rattle.cas_info.specs.declared.info.TableInfo.{TableInfo}
use Rattle.cas_changes.specs.declared.entry.Entry.{Entry}
use Rattle.cas_changes.specs.declared.entry.Entry.TheVariants as entry
use Rattle.cas_changes.specs.declared.said.Part.{Part}
use Rattle.cas_changes.specs.Saying.{Saying, after, has_file, is_listed, no_part, nothing, part_after, part_of, place_in, said_by}
use Rattle.cas_opening.specs.Opening.{IsListedTable}
use Rattle.cas_recovery.proofs.Within.{at_place}

-- ---- lists

all_filtered : {A : Type 0} (P : A → Type 0) (p : A → Bool) (xs : List A) → AllByRecursion P xs → AllByRecursion P (filter p xs)
all_filtered P p [] all = tt
all_filtered P p (x ∷ xs) all =
    let rest = all_filtered P p xs all.1 in
    elim (p x) as (λ b. AllByRecursion P (cond b (x ∷ filter p xs) (filter p xs))) [ true ↦ (all.0, rest) | false ↦ rest ]

all_both : {A : Type 0} (P : A → Type 0) (xs ys : List A) → AllByRecursion P xs → AllByRecursion P ys → AllByRecursion P (xs ++ ys)
all_both P [] ys all more = more
all_both P (x ∷ xs) ys all more = (all.0, all_both P xs ys all.1 more)

all_same : {A : Type 0} (P : A → Type 0) (x : A) → P x → (n : ℕ) → AllByRecursion P (replicate n x)
all_same P x is zero = tt
all_same P x is (suc n) = (is, all_same P x is n)

all_set : {A : Type 0} (P : A → Type 0) (xs : List A) (n : ℕ) (x : A) → AllByRecursion P xs → P x → AllByRecursion P (slice_set xs n x)
all_set P [] n x all is = tt
all_set P (y ∷ ys) zero x all is = (is, all.1)
all_set P (y ∷ ys) (suc n) x all is = (all.0, all_set P ys n x all.1 is)

-- ---- numbers

either_of : (a b : Bool) → b ≡ true → (a || b) ≡ true
either_of true b is = refl
either_of false b is = is

first_of : (a b : Bool) → a ≡ true → (a || b) ≡ true
first_of a b is = ap (λ (x : Bool). x || b) is

own_number : (n : ℕ) → (n == n) ≡ true
own_number n = grind (arith, nat_tests)

equal_numbers : (m n : ℕ) → (m == n) ≡ true → m ≡ n
equal_numbers m n e = grind (arith, nat_tests, e)

-- of such numbers each of these files has one
abbrev AreOf : List ℕ → List TableInfo → Type 0
AreOf numbers infos = AllByRecursion (λ i. is_listed numbers i.number ≡ true) infos

-- so has each file that is listed
abbrev PartOf : List ℕ → Part → Type 0
PartOf numbers p = AreOf numbers p.listed

more_before : (ms ns : List ℕ) (n : ℕ) → is_listed ms n ≡ true → is_listed (ms ++ ns) n ≡ true
more_before ms ns n is = list_any-append (λ m. m == n) ms ns ∙ first_of (is_listed ms n) (is_listed ns n) is

more_behind : (ms ns : List ℕ) (n : ℕ) → is_listed ns n ≡ true → is_listed (ms ++ ns) n ≡ true
more_behind ms ns n is = list_any-append (λ m. m == n) ms ns ∙ either_of (is_listed ms n) (is_listed ns n) is

files_before : (ms ns : List ℕ) (infos : List TableInfo) → AreOf ms infos → AreOf (ms ++ ns) infos
files_before ms ns [] of = tt
files_before ms ns (i ∷ infos) of = (more_before ms ns i.number of.0, files_before ms ns infos of.1)

parts_before : (ms ns : List ℕ) (parts : List Part) → AllByRecursion (PartOf ms) parts → AllByRecursion (PartOf (ms ++ ns)) parts
parts_before ms ns [] of = tt
parts_before ms ns (p ∷ parts) of = (files_before ms ns p.listed of.0, parts_before ms ns parts of.1)

files_behind : (ms ns : List ℕ) (infos : List TableInfo) → AreOf ns infos → AreOf (ms ++ ns) infos
files_behind ms ns [] of = tt
files_behind ms ns (i ∷ infos) of = (more_behind ms ns i.number of.0, files_behind ms ns infos of.1)

-- files have their own numbers
own_files : (infos : List TableInfo) → AreOf (map (λ i. i.number) infos) infos
own_files [] = tt
own_files (i ∷ infos) = (
  first_of (i.number == i.number) (is_listed (map (λ j. j.number) infos) i.number) (own_number i.number),
  files_behind (i.number ∷ []) (map (λ j. j.number) infos) infos (own_files infos),
)

-- ---- one entry more

numbered_after : (s : Saying) (e : Entry) → AllByRecursion (PartOf s.numbers) s.parts → AllByRecursion (PartOf (after s e).numbers) (after s e).parts
numbered_after s (entry.Store shards) of = of
numbered_after s (entry.Schema t) of =
    all_both (PartOf s.numbers) s.parts (replicate s.shards no_part) of (all_same (PartOf s.numbers) no_part tt s.shards)
numbered_after s (entry.NewSegment n) of = of
numbered_after s (entry.DropSegment n) of = of
numbered_after s (entry.Change c) of =
    let part : Part = part_of s c.table c.shard in
    let new = map (λ i. i.number) c.added in
    let more : AllByRecursion (PartOf (s.numbers ++ new)) s.parts = parts_before s.numbers new s.parts of in
    let had : PartOf (s.numbers ++ new) part = at_place (PartOf (s.numbers ++ new)) s.parts (place_in s c.table c.shard) no_part more tt in
    all_set (PartOf (s.numbers ++ new)) s.parts (place_in s c.table c.shard) (part_after part c) more
    (all_both (λ i. is_listed (s.numbers ++ new) i.number ≡ true) (filter (λ i. not (is_listed c.removed i.number)) part.listed) c.added
    (all_filtered (λ i. is_listed (s.numbers ++ new) i.number ≡ true) (λ i. not (is_listed c.removed i.number)) part.listed had)
    (files_behind s.numbers new c.added (own_files c.added)))
numbered_after s (entry.AddColumns table columns) of = of

numbered_all : (s : Saying) (entries : List Entry) → AllByRecursion (PartOf s.numbers) s.parts
    → AllByRecursion (PartOf (fold after s entries).numbers) (fold after s entries).parts
numbered_all s [] of = of
numbered_all s (e ∷ entries) of = numbered_all (after s e) entries (numbered_after s e of)

said_numbered : (entries : List Entry) → AllByRecursion (PartOf (said_by entries).numbers) (said_by entries).parts
unfolding said_by
said_numbered entries = numbered_all nothing entries tt

-- ---- a listed file

file_within : (numbers : List ℕ) (infos : List TableInfo) (n : ℕ) → AreOf numbers infos → has_file infos n ≡ true → is_listed numbers n ≡ true
file_within numbers [] n of has = absurd cc
file_within numbers (i ∷ infos) n of has = by (i.number == n) refl has (file_within numbers infos n of.1)
  where
    by : (b : Bool) → (i.number == n) ≡ b → (b || has_file infos n) ≡ true → (has_file infos n ≡ true → is_listed numbers n ≡ true) → is_listed numbers n ≡ true
    by true same some more = subst (λ k. is_listed numbers k ≡ true) (equal_numbers i.number n same) of.0
    by false other some more = more some

low_of : (last : ℕ) (numbers : List ℕ) (n : ℕ) → AllByRecursion (λ k. k ≤ last) numbers → is_listed numbers n ≡ true → n ≤ last
low_of last [] n low is = absurd cc
low_of last (m ∷ numbers) n low is = by (m == n) refl is (low_of last numbers n low.1)
  where
    by : (b : Bool) → (m == n) ≡ b → (b || is_listed numbers n) ≡ true → (is_listed numbers n ≡ true → n ≤ last) → n ≤ last
    by true same some more = subst (λ k. k ≤ last) (equal_numbers m n same) low.0
    by false other some more = more some

-- where all numbers of table files go up to some last one, that of each listed file does
pub listed_low : (entries : List Entry) (last : ℕ) → AllByRecursion (λ k. k ≤ last) (said_by entries).numbers → (number : ℕ) → IsListedTable (said_by entries) number
    → number ≤ last
listed_low entries last low number is =
    let part = at_place (PartOf (said_by entries).numbers) (said_by entries).parts (place_in (said_by entries) is.table is.shard) no_part (said_numbered entries) tt in
    low_of last (said_by entries).numbers number low
    (file_within (said_by entries).numbers (part_of (said_by entries) is.table is.shard).listed number part is.has)
