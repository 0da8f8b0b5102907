-- Mutations that stand in table files go on standing there, whatever the manifest is told.
use Rattle.std.proofs.Common.{◌≡◌, ⊎_elim, ℕ, zero, suc, ◌+◌, ◌*◌, ◌≤◌, ◌<◌, List, [], ◌∷◌, ◌++◌, length, map, take, refl, sym, ap, subst, ◌∙◌, arith, length-append}
use Rattle.std.proofs.lemmas.List.{append-nil, length-map}
use Rattle.std.proofs.lemmas.List.Sums.{fold-append, fold_push}
use Rattle.std.specs.Prelude.{replicate, slice_get, slice_set, unwrap_or}
use Rattle.std.specs.List.{AllByRecursion, fold}
use Rattle.cas_atoms.specs.declared.atom.Mutation.{Mutation}
use Rattle.cas_changes.specs.Allowed.{FitsEntry}
use Rattle.cas_changes.specs.Saying.{Saying, after, no_part, nothing, part_after, part_of, place_in, said_by, with_columns}
use Rattle.cas_changes.specs.declared.said.Part.{Part}
use Rattle.cas_changes.specs.declared.entry.Entry.{Entry}
use Rattle.cas_changes.specs.declared.entry.Entry.TheVariants as entry
use Rattle.cas_journal.specs.Ends.{IsTold}
use Rattle.cas_journal.specs.Stores.{FailedToName, named}
use Rattle.cas_room.specs.Keeping.{AreFlushed, IsFlushed, MayFail}

-- ---- what a manifest says goes further

-- its shards stay, no table goes, and no frontier falls
pub record GoesFurther (s u : Saying) : Type 0 where
  pub shards : u.shards ≡ s.shards
  pub tables : length s.tables ≤ length u.tables
  pub frontiers : (table shard : ℕ) → (part_of s table shard).frontier ≤ (part_of u table shard).frontier

flushed_further : (s u : Saying) → GoesFurther s u → (ms : List Mutation) → AllByRecursion (IsFlushed s) ms → AllByRecursion (IsFlushed u) ms
flushed_further s u goes [] all = tt
flushed_further s u goes (m ∷ ms) all = (
  record {
    table = omega (arith, all.0.table, goes.tables);
    shard = omega (arith, all.0.shard, goes.shards);
    below = omega (arith, all.0.below, goes.frontiers m.table m.shard);
  },
  flushed_further s u goes ms all.1,
)

-- ---- one entry more

abbrev frontier_at : List Part → ℕ → ℕ
frontier_at parts i = (unwrap_or (slice_get parts i) no_part).frontier

appended_up : (parts more : List Part) (i : ℕ) → frontier_at parts i ≤ frontier_at (parts ++ more) i
appended_up [] more i = omega arith
appended_up (p ∷ parts) more zero = omega arith
appended_up (p ∷ parts) more (suc i) = appended_up parts more i

set_up : (parts : List Part) (k : ℕ) (p : Part) (i : ℕ) → frontier_at parts k ≤ p.frontier → frontier_at parts i ≤ frontier_at (slice_set parts k p) i
set_up [] k p i up = omega arith
set_up (q ∷ parts) zero p zero up = up
set_up (q ∷ parts) zero p (suc i) up = omega arith
set_up (q ∷ parts) (suc k) p zero up = omega arith
set_up (q ∷ parts) (suc k) p (suc i) up = set_up parts k p i up

further_after : (s : Saying) (e : Entry) → MayFail s (e ∷ []) → GoesFurther s (after s e)
further_after s (entry.Store shards) may = absurd may
further_after s (entry.Schema t) may = record {
  shards = refl;
  tables = omega (arith, length-append s.tables (t ∷ []));
  frontiers = λ table shard. appended_up s.parts (replicate s.shards no_part) (place_in s table shard);
}
further_after s (entry.NewSegment n) may = record { shards = refl; tables = omega arith; frontiers = λ table shard. omega arith }
further_after s (entry.DropSegment n) may = record { shards = refl; tables = omega arith; frontiers = λ table shard. omega arith }
further_after s (entry.Change c) may = record {
  shards = refl;
  tables = omega arith;
  frontiers = λ table shard. set_up s.parts (place_in s c.table c.shard) (part_after (part_of s c.table c.shard) c) (place_in s table shard) may;
}
further_after s (entry.AddColumns table columns) may =
    record { shards = refl; tables = omega (arith, length-map s.tables (with_columns table columns)); frontiers = λ table shard. omega arith }

-- an entry that may follow, and is told
pub told_may_fail : (s : Saying) (e : Entry) → FitsEntry s e → IsTold e → MayFail s (e ∷ [])
told_may_fail s (entry.Store shards) fits told = absurd told
told_may_fail s (entry.Schema t) fits told = tt
told_may_fail s (entry.NewSegment n) fits told = absurd told
told_may_fail s (entry.DropSegment n) fits told = absurd told
told_may_fail s (entry.Change c) fits told = fits.1.frontier.0
told_may_fail s (entry.AddColumns table columns) fits told = tt

pub flushed_more : (entries : List Entry) (e : Entry) → MayFail (said_by entries) (e ∷ []) → (ms : List Mutation) → AreFlushed entries ms → AreFlushed (entries ++ e ∷ []) ms
unfolding said_by
flushed_more entries e may ms all =
    subst (λ (u : Saying). AllByRecursion (IsFlushed u) ms) (sym (fold_push after nothing entries e))
    (flushed_further (said_by entries) (after (said_by entries) e) (further_after (said_by entries) e may) ms all)

-- whether the entry that failed is there or not
pub flushed_failed : (entries failed : List Entry) → MayFail (said_by entries) failed → (ms : List Mutation) → AreFlushed entries ms → AreFlushed (entries ++ failed) ms
flushed_failed entries [] may ms all = subst (λ (es : List Entry). AreFlushed es ms) (sym (append-nil entries)) all
flushed_failed entries (e ∷ []) may ms all = flushed_more entries e may ms all
flushed_failed entries (e ∷ other ∷ others) may ms all = absurd may

-- ---- entries that leave parts, tables and shards as they are

-- segments are named or dropped
pub record SaysAs (s u : Saying) : Type 0 where
  pub shards : u.shards ≡ s.shards
  pub tables : u.tables ≡ s.tables
  pub parts : u.parts ≡ s.parts
  pub times : u.times ≡ s.times
  pub numbers : u.numbers ≡ s.numbers
  pub listed : u.listed ≡ s.listed

-- the name of a segment, or that one is dropped
abbrev IsOfSegment : Entry → Type 0
IsOfSegment (entry.NewSegment n) = Unit {0}
IsOfSegment (entry.DropSegment n) = Unit {0}
IsOfSegment _ = ⊥

as_segment : (s : Saying) (e : Entry) → IsOfSegment e → SaysAs s (after s e)
as_segment s (entry.NewSegment n) is = record { shards = refl; tables = refl; parts = refl; times = refl; numbers = refl; listed = refl }
as_segment s (entry.DropSegment n) is = record { shards = refl; tables = refl; parts = refl; times = refl; numbers = refl; listed = refl }
as_segment s (entry.Store shards) is = absurd is
as_segment s (entry.Schema t) is = absurd is
as_segment s (entry.Change c) is = absurd is
as_segment s (entry.AddColumns table columns) is = absurd is

as_segments : (s : Saying) (es : List Entry) → AllByRecursion IsOfSegment es → SaysAs s (fold after s es)
as_segments s [] all = record { shards = refl; tables = refl; parts = refl; times = refl; numbers = refl; listed = refl }
as_segments s (e ∷ es) all =
    let one = as_segment s e all.0 in
    let others = as_segments (after s e) es all.1 in
    record {
      shards = others.shards ∙ one.shards;
      tables = others.tables ∙ one.tables;
      parts = others.parts ∙ one.parts;
      times = others.times ∙ one.times;
      numbers = others.numbers ∙ one.numbers;
      listed = others.listed ∙ one.listed;
    }

as_more : (entries more : List Entry) → AllByRecursion IsOfSegment more → SaysAs (said_by entries) (said_by (entries ++ more))
unfolding said_by
as_more entries more all = subst (λ (u : Saying). SaysAs (said_by entries) u) (sym (fold-append after nothing entries more)) (as_segments (said_by entries) more all)

all_named : (numbers : List ℕ) → AllByRecursion IsOfSegment (named numbers)
all_named [] = tt
all_named (n ∷ numbers) = (tt, all_named numbers)

all_dropped : (numbers : List ℕ) → AllByRecursion IsOfSegment (map entry.DropSegment numbers)
all_dropped [] = tt
all_dropped (n ∷ numbers) = (tt, all_dropped numbers)

pub as_named : (entries : List Entry) (numbers : List ℕ) → SaysAs (said_by entries) (said_by (entries ++ named numbers))
as_named entries numbers = as_more entries (named numbers) (all_named numbers)

pub as_dropped : (entries : List Entry) (numbers : List ℕ) → SaysAs (said_by entries) (said_by (entries ++ map entry.DropSegment numbers))
as_dropped entries numbers = as_more entries (map entry.DropSegment numbers) (all_dropped numbers)

module _ (s u : Saying) (alike : SaysAs s u) where
  part_alike : (table shard : ℕ) → part_of u table shard ≡ part_of s table shard
  part_alike table shard = λ i. unwrap_or (slice_get (alike.parts i) (table * alike.shards i + shard)) no_part

  pub flushed_alike : (ms : List Mutation) → AllByRecursion (IsFlushed s) ms → AllByRecursion (IsFlushed u) ms
  flushed_alike ms all =
      flushed_further s u (record {
        shards = alike.shards;
        tables = omega (arith, ap length alike.tables);
        frontiers = λ table shard. omega (arith, ap (λ (p : Part). p.frontier) (part_alike table shard));
      }) ms all

  pub may_fail_alike : (failed : List Entry) → MayFail s failed → MayFail u failed
  may_fail_alike [] may = tt
  may_fail_alike (entry.Store shards ∷ []) may = may
  may_fail_alike (entry.Schema t ∷ []) may = tt
  may_fail_alike (entry.NewSegment n ∷ []) may = tt
  may_fail_alike (entry.DropSegment n ∷ []) may = tt
  may_fail_alike (entry.Change c ∷ []) may = omega (arith, may, ap (λ (p : Part). p.frontier) (part_alike c.table c.shard))
  may_fail_alike (entry.AddColumns table columns ∷ []) may = tt
  may_fail_alike (e ∷ other ∷ others) may = absurd may

pub named_may_fail : (s : Saying) (before now : List Entry) → FailedToName before now → MayFail s before → MayFail s now
named_may_fail s before now failed may =
    ⊎_elim (λ same. subst (MayFail s) (sym same) may) (λ one. subst (MayFail s) (sym one.1) tt) failed

-- ---- lists

pub all_both : {A : Type 0} (P : A → Type 0) (xs ys : List A) → AllByRecursion P xs → AllByRecursion P ys → AllByRecursion P (xs ++ ys)
all_both P [] ys front rest = rest
all_both P (x ∷ xs) ys front rest = (front.0, all_both P xs ys front.1 rest)

-- of the first ones of a front all is so that is so of the first ones
pub all_of_front : {A : Type 0} (P : A → Type 0) (n count : ℕ) (xs : List A) → AllByRecursion P (take n xs) → AllByRecursion P (take n (take count xs))
all_of_front P zero count xs all = tt
all_of_front P (suc n) zero xs all = tt
all_of_front P (suc n) (suc count) [] all = tt
all_of_front P (suc n) (suc count) (x ∷ xs) all = (all.0, all_of_front P n count xs all.1)

-- the first ones are those of the list with more behind
pub take_more : {A : Type 0} (n : ℕ) (xs ys : List A) → n ≤ length xs → take n (xs ++ ys) ≡ take n xs
take_more zero xs ys few = refl
take_more (suc n) [] ys few = absurd (omega (arith, few))
take_more (suc n) (x ∷ xs) ys few = ap (λ (zs : List _). x ∷ zs) (take_more n xs ys (omega (arith, few)))
