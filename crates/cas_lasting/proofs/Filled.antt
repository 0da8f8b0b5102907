-- How full the memtables are that are written to, where shards change.
use Rattle.std.proofs.Common.{◌≡◌, ◌≢◌, ◌⊎◌, inl, inr, ◌+◌, ℕ, Bool, true, false, ◌==◌, ◌&&◌, List, [], ◌∷◌, Some, refl, sym, ap, ◌∙◌, append-nil, arith}
use Rattle.std.specs.Prelude.{if◌then◌else◌, nat_lt, slice_get, slice_set}
use Rattle.std.proofs.lemmas.Option.{same_Some}
use Rattle.std.proofs.Math.Bool.{and-false}
use Rattle.std.proofs.lemmas.Bool.{le-ltb, lt-ltb, ltb-false, ltb-true}
use Rattle.cas_atoms.specs.declared.atom.Mutation.{Mutation}
use Rattle.cas_memtable.specs.Kept.{bytes_of}
use Rattle.cas_shard.specs.Flushing.{KeepsBytes, bytes_at, one_of}
use Rattle.cas_shard.specs.declared.entry.Entry.{Entry}
use Rattle.cas_shard.specs.declared.entry.Entry.TheVariants.{Wrote}
use Rattle.cas_shard.specs.Stands.{ShardState, mutations_of}
use Rattle.cas_recovery.proofs.Places.{get_here, get_other, is_other, is_same, same_place}
use Rattle.cas_lasting.specs.Flushed.{filled_with, without_begun}
use Rattle.cas_lasting.specs.History.{History, with_filled}
use Rattle.cas_lasting.specs.Nodes.{AreFilled, State, StandsFor, bytes_in, filled_of}

-- ---- a store

-- they are as full as they are
pub filled_are : (s : State) → AreFilled (filled_of s) s.shards
filled_are s n table x there = ap (λ o. bytes_in o table) (sym there)

-- memory stands for the history with any bytes that it has
pub stands_filled : (h : History) (f : ℕ → ℕ → ℕ) (s : State) → AreFilled f s.shards → StandsFor h s → StandsFor (record h { filled = f }) s
stands_filled h f s full stands = record {
  limits = stands.limits;
  tables = stands.tables;
  clock = stands.clock;
  session = stands.session;
  calls = stands.calls;
  disk = stands.disk;
  count = stands.count;
  shards = stands.shards;
  entered = stands.entered;
  memory = stands.memory;
  filled = full;
}

-- ---- one shard is another

module _ (f : ℕ → ℕ → ℕ) (xs : List ShardState) (n : ℕ) (x y : ShardState) (there : slice_get xs n ≡ Some x) (full : AreFilled f xs) where
  at_n : slice_get (slice_set xs n y) n ≡ Some y
  at_n = get_here xs n x y there

  its_own : (k : ℕ) (z : ShardState) → slice_get (slice_set xs n y) k ≡ Some z → ((k ≡ n) × (y ≡ z)) ⊎ ((k ≢ n) × (slice_get xs k ≡ Some z))
  its_own k z got = by (same_place k n)
    where
      by : (k ≡ n) ⊎ (k ≢ n) → ((k ≡ n) × (y ≡ z)) ⊎ ((k ≢ n) × (slice_get xs k ≡ Some z))
      by (inl here) = inl (here, same_Some y z (sym at_n ∙ ap (λ (j : ℕ). slice_get (slice_set xs n y) j) (sym here) ∙ got))
      by (inr other) = inr (other, sym (get_other xs n k y other) ∙ got)

  -- with as many bytes
  pub filled_still : KeepsBytes x y → AreFilled f (slice_set xs n y)
  filled_still keeps k table z got = by (its_own k z got)
    where
      by : ((k ≡ n) × (y ≡ z)) ⊎ ((k ≢ n) × (slice_get xs k ≡ Some z)) → bytes_at (slice_get z.stores table) ≡ f k table
      by (inl (here, same)) =
          ap (λ (w : ShardState). bytes_at (slice_get w.stores table)) (sym same) ∙ keeps table ∙ full n table x there ∙ ap (λ (j : ℕ). f j table) (sym here)
      by (inr (other, at)) = full k table z at

  -- with entries of it behind
  pub filled_more : (new : List Entry) → ((table : ℕ) → bytes_at (slice_get y.stores table) ≡ bytes_of (bytes_at (slice_get x.stores table)) (mutations_of table new))
      → AreFilled (with_filled n new f) (slice_set xs n y)
  filled_more new more k table z got = by (its_own k z got)
    where
      by : ((k ≡ n) × (y ≡ z)) ⊎ ((k ≢ n) × (slice_get xs k ≡ Some z)) → bytes_at (slice_get z.stores table) ≡ with_filled n new f k table
      by (inl (here, same)) =
          ap (λ (w : ShardState). bytes_at (slice_get w.stores table)) (sym same) ∙ more table ∙ ap (λ (b : ℕ). bytes_of b (mutations_of table new)) (full n table x there)
          ∙ ap (λ (b : Bool). if b then bytes_of (f n table) (mutations_of table new) else f n table) (sym (is_same n)) ∙ ap (λ (j : ℕ). with_filled n new f j table) (sym here)
      by (inr (other, at)) =
          full k table z at
          ∙ ap (λ (b : Bool). if b then bytes_of (f k table) (mutations_of table new) else f k table) (sym (is_other k n (λ e. other (sym e))))

  -- with a new memtable of a table
  pub filled_new : (table : ℕ) → bytes_at (slice_get y.stores table) ≡ 0 → ((j : ℕ) → (j ≡ table → ⊥) → slice_get y.stores j ≡ slice_get x.stores j)
      → AreFilled (filled_with table n true f) (slice_set xs n y)
  filled_new table none others k j z got = by (its_own k z got)
    where
      here_too : k ≡ n → (j ≡ table) ⊎ (j ≢ table) → bytes_at (slice_get y.stores j) ≡ (if (k == n) && (j == table) then 0 else f k j)
      here_too here (inl of_it) =
          ap (λ (i : ℕ). bytes_at (slice_get y.stores i)) of_it ∙ none
          ∙ ap (λ (b : Bool). if b then 0 else f k j) (sym ((λ i. (here i == n) && (of_it i == table)) ∙ (λ i. is_same n i && is_same table i)))
      here_too here (inr other) =
          ap bytes_at (others j other) ∙ full n j x there ∙ ap (λ (i : ℕ). f i j) (sym here)
          ∙ ap (λ (b : Bool). if b then 0 else f k j) (sym (ap (λ (b : Bool). (k == n) && b) (is_other j table (λ e. other (sym e))) ∙ and-false (k == n)))

      by : ((k ≡ n) × (y ≡ z)) ⊎ ((k ≢ n) × (slice_get xs k ≡ Some z)) → bytes_at (slice_get z.stores j) ≡ (if (k == n) && (j == table) then 0 else f k j)
      by (inl (here, same)) = ap (λ (w : ShardState). bytes_at (slice_get w.stores j)) (sym same) ∙ here_too here (same_place j table)
      by (inr (other, at)) = full k j z at ∙ ap (λ (b : Bool). if b && (j == table) then 0 else f k j) (sym (is_other k n (λ e. other (sym e))))

-- what a mutation adds, in the words of its entry
pub as_entry : (x y : ShardState) (m : Mutation) (session calls : ℕ)
    → ((table : ℕ) → bytes_at (slice_get y.stores table) ≡ bytes_of (bytes_at (slice_get x.stores table)) (one_of table m)) → (table : ℕ)
    → bytes_at (slice_get y.stores table) ≡ bytes_of (bytes_at (slice_get x.stores table)) (mutations_of table (Wrote session calls m ∷ []))
as_entry x y m session calls more table = more table ∙ ap (bytes_of (bytes_at (slice_get x.stores table))) (sym (append-nil (one_of table m)))

-- ---- the first shards got new memtables

below_none : (n : ℕ) → nat_lt n 0 ≡ false
below_none n = le-ltb n 0 (omega arith)

same_below : (n k : ℕ) → n ≢ k → (b : Bool) → nat_lt n k ≡ b → b ≡ nat_lt n (k + 1)
same_below n k other true is = let lt = ltb-true n k is in sym (lt-ltb n (k + 1) (omega (arith, lt)))
same_below n k other false is = let le = ltb-false n k is in sym (le-ltb n (k + 1) (omega (arith, le, other)))

-- the next one too
below_more : (n k : ℕ) → (if n == k then true else nat_lt n k) ≡ nat_lt n (k + 1)
below_more n k = by (same_place n k)
  where
    by : (n ≡ k) ⊎ (n ≢ k) → (if n == k then true else nat_lt n k) ≡ nat_lt n (k + 1)
    by (inl here) =
        ap (λ (b : Bool). if b then true else nat_lt n k) (ap (λ (j : ℕ). j == k) here ∙ is_same k) ∙ sym (lt-ltb n (k + 1) (omega (arith, here)))
    by (inr other) =
        ap (λ (b : Bool). if b then true else nat_lt n k) (is_other n k (λ e. other (sym e))) ∙ same_below n k other (nat_lt n k) refl

begun_each : (table k n j before : ℕ) → (if (n == k) && (j == table) then 0 else (if (j == table) && nat_lt n k then 0 else before)) ≡ (if (j == table) && nat_lt n (k + 1) then 0 else before)
begun_each table k n j before = by (j == table)
  where
    both : (b c : Bool) → (if b then 0 else (if c then 0 else before)) ≡ (if (if b then true else c) then 0 else before)
    both true c = refl
    both false c = refl

    and_true : (b : Bool) → (b && true) ≡ b
    and_true true = refl
    and_true false = refl

    by : (b : Bool) → (if (n == k) && b then 0 else (if b && nat_lt n k then 0 else before)) ≡ (if b && nat_lt n (k + 1) then 0 else before)
    by true =
        ap (λ (c : Bool). if c then 0 else (if nat_lt n k then 0 else before)) (and_true (n == k)) ∙ both (n == k) (nat_lt n k)
        ∙ ap (λ (c : Bool). if c then 0 else before) (below_more n k)
    by false = ap (λ (c : Bool). if c then 0 else before) (and-false (n == k))

pub begun_more : (table k : ℕ) (f : ℕ → ℕ → ℕ) (xs : List ShardState) → AreFilled (filled_with table k true (without_begun table k f)) xs → AreFilled (without_begun table (k + 1) f) xs
begun_more table k f xs full n j x there = full n j x there ∙ begun_each table k n j (f n j)

pub begun_none : (table : ℕ) (f : ℕ → ℕ → ℕ) (xs : List ShardState) → AreFilled f xs → AreFilled (without_begun table 0 f) xs
begun_none table f xs full n j x there =
    full n j x there ∙ ap (λ (b : Bool). if b then 0 else f n j) (sym (ap (λ (b : Bool). (j == table) && b) (below_none n) ∙ and-false (j == table)))
