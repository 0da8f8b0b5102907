-- What entries say together that may follow one another: numbers and lengths have their limits.
use Rattle.std.proofs.Common.{◌≡◌, ◌⊎◌, inl, inr, ⊎_elim, ℕ, zero, suc, ◌+◌, ◌<◌, ◌≤◌, ◌^◌, eqb, Bool, true, false, not, cond, ◌||◌, if◌then◌else◌, List, [], ◌∷◌, ◌++◌, length, filter, Option, None, Some, refl, sym, ◌∙◌, ap, subst, arith, length-append}
use Rattle.std.specs.Prelude.{slice_get, ◌==◌}
use Rattle.std.specs.List.{AllByRecursion, fold}
use Rattle.std.specs.Option.{option_map}
use Rattle.std.proofs.lemmas.Option.{slice_get-map}
use Rattle.std.proofs.lemmas.Bool.{eqb-true}
use Rattle.std.proofs.lemmas.Bool.Decides.{nat_tests}
use Rattle.cas_types.specs.declared.limits.TheConstants.{COLUMN_LIMIT}
use Rattle.cas_types.specs.declared.schema.Column.{Column}
use Rattle.cas_types.specs.declared.schema.TableSchema.{TableSchema}
use Rattle.cas_types.specs.Limits.{IsNarrow, IsShardCount}
use Rattle.cas_changes.specs.declared.entry.Entry.{Entry}
use Rattle.cas_changes.specs.declared.entry.Entry.TheVariants as entry
use Rattle.cas_changes.specs.declared.said.TheConstants.{SEGMENT_LIMIT}
use Rattle.cas_changes.specs.Saying.{Saying, IsSaid, nothing, after, said_by, is_listed, with_columns}
use Rattle.cas_changes.specs.Allowed.{FitsEntry, IsMade}
use Rattle.cas_mutations.specs.Allowed.{AreTables}
use Rattle.cas_manifest.specs.File.{MayFollow}
use Rattle.cas_manifest.proofs.ManifestLaws.{is_said_after, none_said}
use Rattle.cas_journal.proofs.Lists.{all_more, all_mapped}

-- ---- lists

all_filter : {A : Type 0} (P : A → Type 0) (p : A → Bool) (xs : List A) → AllByRecursion P xs → AllByRecursion P (filter p xs)
all_filter P p [] all = tt
all_filter P p (x ∷ xs) all =
    let rest = all_filter P p xs all.1 in
    elim (p x) as (λ b. AllByRecursion P (cond b (x ∷ filter p xs) (filter p xs))) [ true ↦ (all.0, rest) | false ↦ rest ]

-- an item of a list with one more behind it is of the list, or that one
item_pushed : {A : Type 0} (xs : List A) (x y : A) (i : ℕ) → slice_get (xs ++ x ∷ []) i ≡ Some y → (slice_get xs i ≡ Some y) ⊎ ((i ≡ length xs) × (x ≡ y))
item_pushed [] x y zero is = inr (refl, cc)
item_pushed [] x y (suc i) is = absurd cc
item_pushed (z ∷ xs) x y zero is = inl is
item_pushed (z ∷ xs) x y (suc i) is =
    ⊎_elim (λ before. inl before) (λ last. inr (omega (arith, last.0), last.1)) (item_pushed xs x y i is)

item_mapped : {A : Type 0} (f : A → A) (x : Option A) (y : A) → option_map f x ≡ Some y → (z : A) × (x ≡ Some z) × (f z ≡ y)
item_mapped f None y is = absurd cc
item_mapped f (Some z) y is = (z, refl, cc)

all_items : {A : Type 0} (P : A → Type 0) (xs : List A) → ((i : ℕ) (x : A) → slice_get xs i ≡ Some x → P x) → AllByRecursion P xs
all_items P [] each = tt
all_items P (x ∷ xs) each = (each 0 x refl, all_items P xs (λ i y is. each (suc i) y is))

-- ---- one entry more

-- tables have their places as numbers, and few columns; listed segments have numbers up to the last one's
pub record IsSound (s : Saying) : Type 0 where
  pub said : IsSaid s
  pub tables : (i : ℕ) (t : TableSchema) → slice_get s.tables i ≡ Some t → (t.number ≡ i) × IsNarrow t.columns
  pub segments : AllByRecursion (λ n. n ≤ s.last_segment) s.segments
  pub last : s.last_segment ≤ SEGMENT_LIMIT

with_more : (table : ℕ) (columns : List Column) (t : TableSchema) (i : ℕ) → t.number ≡ i → IsNarrow t.columns → (i ≡ table → length t.columns + length columns ≤ COLUMN_LIMIT)
    → ((with_columns table columns t).number ≡ i) × IsNarrow (with_columns table columns t).columns
with_more table columns t i number narrow room = by_number (t.number == table) refl
  where
    by_number : (b : Bool) → (t.number == table) ≡ b → ((with_columns table columns t).number ≡ i) × IsNarrow (with_columns table columns t).columns
    by_number true is =
        let here : t.number ≡ table = eqb-true t.number table is in
        let wide : IsNarrow (t.columns ++ columns) = omega (arith, length-append t.columns columns, room (sym number ∙ here)) in
        subst (λ (b : Bool). ((if b then record t { columns = t.columns ++ columns } else t).number ≡ i) × IsNarrow (if b then record t { columns = t.columns ++ columns } else t).columns) (sym is) (number, wide)
    by_number false is =
        subst (λ (b : Bool). ((if b then record t { columns = t.columns ++ columns } else t).number ≡ i) × IsNarrow (if b then record t { columns = t.columns ++ columns } else t).columns) (sym is) (number, narrow)

pub sound_after : (s : Saying) (e : Entry) → IsSound s → FitsEntry s e → IsSound (after s e)
sound_after s (entry.Store shards) is fit = record { said = is_said_after s (entry.Store shards) is.said fit; tables = is.tables; segments = is.segments; last = is.last }
sound_after s (entry.Schema t) is fit = record {
  said = is_said_after s (entry.Schema t) is.said fit;
  tables = λ i u there. ⊎_elim (λ before. is.tables i u before)
      (λ last. subst (λ (v : TableSchema). (v.number ≡ i) × IsNarrow v.columns) last.1 (fit.1.number ∙ sym last.0, fit.1.columns.1))
      (item_pushed s.tables t u i there);
  segments = is.segments;
  last = is.last;
}
sound_after s (entry.NewSegment n) is fit = record {
  said = is_said_after s (entry.NewSegment n) is.said fit;
  tables = is.tables;
  segments = all_more (λ m. m ≤ n) s.segments n
      (all_mapped (λ m. m ≤ s.last_segment) (λ m. m ≤ n) (λ m low. omega (arith, low, fit.1)) s.segments is.segments) (omega arith);
  last = fit.2;
}
sound_after s (entry.DropSegment n) is fit = record {
  said = is_said_after s (entry.DropSegment n) is.said fit;
  tables = is.tables;
  segments = all_filter (λ m. m ≤ s.last_segment) (λ m. not (m == n)) s.segments is.segments;
  last = is.last;
}
sound_after s (entry.Change c) is fit = record { said = is_said_after s (entry.Change c) is.said fit; tables = is.tables; segments = is.segments; last = is.last }
sound_after s (entry.AddColumns table columns) is fit = record {
  said = is_said_after s (entry.AddColumns table columns) is.said fit;
  tables = λ i u there.
      let (t, was, wider) = item_mapped (with_columns table columns) (slice_get s.tables i) u (sym (slice_get-map (with_columns table columns) s.tables i) ∙ there) in
      let old = is.tables i t was in
      subst (λ (v : TableSchema). (v.number ≡ i) × IsNarrow v.columns) wider (with_more table columns t i old.0 old.1 (λ here.
      let same : fit.1 ≡ t = some_same fit.1 t (sym fit.2 ∙ ap (slice_get s.tables) (sym here) ∙ was) in
      omega (arith, fit.3.1, ap (λ (v : TableSchema). length v.columns) same, old.1)));
  segments = is.segments;
  last = is.last;
}
  where
    some_same : (x y : TableSchema) → Some x ≡ Some y → x ≡ y
    some_same x y e = cc

none_sound : IsSound nothing
none_sound = record { said = none_said; tables = λ i t is. absurd cc; segments = tt; last = omega arith }

-- ---- all entries

sound_fold : (s : Saying) (entries : List Entry) → IsSound s → MayFollow s entries → IsSound (fold after s entries)
sound_fold s [] is follow = is
sound_fold s (e ∷ entries) is follow = sound_fold (after s e) entries (sound_after s e is follow.0.0) follow.1

pub sound : (entries : List Entry) → MayFollow nothing entries → IsSound (said_by entries)
unfolding said_by
sound entries follow = sound_fold nothing entries none_sound follow

-- the limits that a log's grammar asks for
pub are_tables : (s : Saying) → IsSound s → AreTables s.tables
are_tables s is = record {
  few = omega (arith, is.said.tables);
  narrow = all_items (λ t. IsNarrow t.columns) s.tables (λ i t there. (is.tables i t there).1);
}

pub shard_count : (s : Saying) → IsSound s → IsMade s → IsShardCount s.shards
shard_count s is made = (made, is.said.shards)

pub short_numbers : (s : Saying) → IsSound s → AllByRecursion (λ n. n < 2 ^ 64) s.segments
short_numbers s is = all_mapped (λ n. n ≤ s.last_segment) (λ n. n < 2 ^ 64) (λ n low. omega (arith, low, is.last)) s.segments is.segments

-- a number above the last one's isn't listed
above_all : (last : ℕ) (numbers : List ℕ) (n : ℕ) → AllByRecursion (λ m. m ≤ last) numbers → last < n → is_listed numbers n ≡ false
above_all last [] n all high = refl
above_all last (m ∷ numbers) n all high =
    let no : eqb m n ≡ false = below m (all.0) in
    ap (λ (b : Bool). b || is_listed numbers n) no ∙ above_all last numbers n all.1 high
  where
    below : (m : ℕ) → m ≤ last → eqb m n ≡ false
    below m low = grind (arith, nat_tests)

pub above_listed : (s : Saying) → IsSound s → (n : ℕ) → s.last_segment < n → is_listed s.segments n ≡ false
above_listed s is n high = above_all s.last_segment s.segments n is.segments high
