-- Entries are read exactly.
use Rattle.std.proofs.Common.{◌≡◌, ◌⊎◌, inl, inr, ℕ, ℤ, zero, suc, pos, ◌<◌, ◌≤◌, ◌≤ℤ◌, ◌+◌, ◌-◌, ◌^◌, leb, nat_lt, nat_le, Bool, true, false, T, ◌&&◌, cond, eqb, List, [], ◌∷◌, ◌++◌, length, Option, None, Some, Ok, Err, refl, sym, ap, subst, ◌∙◌, arith}
use Rattle.std.specs.Prelude.{slice_get, FitsSigned, int_le}
use Rattle.std.specs.Int.Signed.{le_z_yes}
use Rattle.std.proofs.lemmas.Int.{ints}
use Rattle.std.specs.Int.{w64, is_in_range}
use Rattle.std.specs.List.{flat_map, AllByRecursion}
use Rattle.std.proofs.lemmas.Bool.{eqb-true, ltb-true, lt-ltb, leb-true, le-leb, and_parts, and_from}
use Rattle.std.proofs.lemmas.Option.{slice_get_within}
use Rattle.cas_types.specs.Limits.{IsMoment, IsShardCount}
use Rattle.cas_types.specs.declared.limits.TheConstants.{KEY_LIMIT, LAST_DRAWN, LAST_SECOND, MUTATION_LIMIT, SHARD_LIMIT, COLUMN_LIMIT}
use Rattle.cas_atoms.specs.Fits.{FitsKey}
use Rattle.cas_types.specs.declared.schema.Column.{Column}
use Rattle.cas_types.specs.declared.schema.TableSchema.{TableSchema}
use Rattle.cas_codec.specs.Reading.{Left, Read, checked, is_within, u8_at, u16_at, u64_at, i64_at}
use Rattle.cas_codec.specs.Fields.{u8, u16, u64, i64}
use Rattle.cas_codec.specs.Exact.{AreBytes, Begins, IsExact}
use Rattle.cas_codec.proofs.Exactness.{read_left, exact_then, exact_checked, exact_map, exact_as, exact_never}
use Rattle.cas_codec.proofs.FieldLaws.{u8_field, u16_field, u64_field, i64_field}
use Rattle.cas_codec.proofs.Sequences.{exact_two, exact_three, exact_four}
use Rattle.cas_info.specs.declared.info.TableInfo.{TableInfo}
use Rattle.cas_info.specs.Allowed.{FitsInfo}
use Rattle.cas_info.specs.Spelling.{info_bytes}
use Rattle.cas_info.specs.Reading.{info_at}
use Rattle.cas_info.proofs.InfoLaws.{info_exact}
use Rattle.cas_schemas.specs.declared.schemas.TheConstants.{TABLE_LIMIT}
use Rattle.cas_schemas.specs.Allowed.{FitsTable}
use Rattle.cas_schemas.specs.Columns.{FitColumns}
use Rattle.cas_schemas.specs.Each.{each_at, EachFits}
use Rattle.cas_schemas.specs.Spelling.{schema_bytes, columns_bytes}
use Rattle.cas_schemas.specs.Reading.{schema_at, columns_at}
use Rattle.cas_schemas.proofs.CodeLaws.{ends, within}
use Rattle.cas_schemas.proofs.EachLaws.{AreEach, exact_each}
use Rattle.cas_schemas.proofs.SchemaLaws.{schema_exact, columns_exact, columns_spelled, spelled as schema_spelled}
use Rattle.cas_changes.specs.declared.said.TheConstants.{SEGMENT_LIMIT, LISTED_LIMIT, FIRST_DRAWN}
use Rattle.cas_changes.specs.declared.entry.Change.{Change}
use Rattle.cas_changes.specs.declared.entry.Entry.{Entry}
use Rattle.cas_changes.specs.declared.entry.Entry.TheVariants as entry
use Rattle.cas_changes.specs.Saying.{Saying, IsSaid, part_of, is_listed, has_file, listed_after}
use Rattle.cas_changes.specs.Allowed.{IsMade, IsDrawn, may_go, may_come, FitsChange, FitsEntry, FitsNext, IsListable, HasSpelling}
use Rattle.cas_changes.specs.Spelling.{where_bytes, marks_bytes, removed_bytes, added_bytes, change_bytes, entry_bytes}
use Rattle.cas_changes.specs.Reading.{is_below, where_at, marks_at, gone_at, come_at, counted_at, made_change, change_at, store_at, definition_at, new_segment_at, drop_segment_at, changing_at, behind_at, add_columns_at, may_be, kinded_at, fields_at, entry_at}

-- ---- numbers that pass a test

abbrev IsTested : ℕ → (ℕ → Bool) → ℕ → Type 0
IsTested limit test n = (n < limit) × (test n ≡ true)

tested8 : (test : ℕ → Bool) → IsExact (IsTested (2 ^ 8) test) u8 (checked test u8_at)
tested8 test = exact_checked (λ n. n < 2 ^ 8) u8 u8_at test u8_field.exact

tested16 : (test : ℕ → Bool) → IsExact (IsTested (2 ^ 16) test) u16 (checked test u16_at)
tested16 test = exact_checked (λ n. n < 2 ^ 16) u16 u16_at test u16_field.exact

tested64 : (test : ℕ → Bool) → IsExact (IsTested (2 ^ 64) test) u64 (checked test u64_at)
tested64 test = exact_checked (λ n. n < 2 ^ 64) u64 u64_at test u64_field.exact

abbrev IsSigned : (ℤ → Bool) → ℤ → Type 0
IsSigned test z = FitsSigned w64 z × (test z ≡ true)

signed : (test : ℤ → Bool) → IsExact (IsSigned test) i64 (checked test i64_at)
signed test = exact_checked (FitsSigned w64) i64 i64_at test i64_field.exact

below_of : (limit n : ℕ) → is_below limit n ≡ true → n < limit
unfolding is_below
below_of limit n e = ltb-true n limit e

of_below : (limit n : ℕ) → n < limit → is_below limit n ≡ true
unfolding is_below
of_below limit n below = lt-ltb n limit below

-- ---- the parts of a change

abbrev IsWhere : Saying → ℕ × ℕ → Type 0
IsWhere s p = IsTested (2 ^ 16) (is_below (length s.tables)) p.0 × IsTested (2 ^ 8) (is_below s.shards) p.1

where_exact : (s : Saying) → IsExact (IsWhere s) (λ p. where_bytes p.0 p.1) (where_at s)
unfolding where_at
where_exact s =
    exact_two (IsTested (2 ^ 16) (is_below (length s.tables))) u16 (checked (is_below (length s.tables)) u16_at)
    (λ t n. IsTested (2 ^ 8) (is_below s.shards) n) u8 (λ t. checked (is_below s.shards) u8_at) (IsWhere s) (λ p. where_bytes p.0 p.1) (λ t n. (t, n))
    (tested16 (is_below (length s.tables))) (λ t fit. tested8 (is_below s.shards))
    (λ t n fit-t fit-n. ((fit-t, fit-n), refl))
    (λ p fit. (p.0, p.1, fit.0, fit.1, refl))

abbrev AreMarks : ℕ → ℤ × ℕ × ℤ → Type 0
AreMarks frontier m =
    IsSigned (is_within (pos 0) LAST_SECOND) m.0 × IsTested (2 ^ 64) (is_in_range frontier MUTATION_LIMIT) m.1 × IsSigned (is_within FIRST_DRAWN LAST_DRAWN) m.2

marks_exact : (frontier : ℕ) → IsExact (AreMarks frontier) (λ m. marks_bytes m.0 m.1 m.2) (marks_at frontier)
unfolding marks_at
marks_exact frontier =
    exact_three (IsSigned (is_within (pos 0) LAST_SECOND)) i64 (checked (is_within (pos 0) LAST_SECOND) i64_at)
    (λ a b. IsTested (2 ^ 64) (is_in_range frontier MUTATION_LIMIT) b) u64 (λ a. checked (is_in_range frontier MUTATION_LIMIT) u64_at)
    (λ a b c. IsSigned (is_within FIRST_DRAWN LAST_DRAWN) c) i64 (λ a b. checked (is_within FIRST_DRAWN LAST_DRAWN) i64_at)
    (AreMarks frontier) (λ m. marks_bytes m.0 m.1 m.2) (λ a b c. (a, b, c))
    (signed (is_within (pos 0) LAST_SECOND)) (λ a fit. tested64 (is_in_range frontier MUTATION_LIMIT)) (λ a b fit-a fit-b. signed (is_within FIRST_DRAWN LAST_DRAWN))
    (λ a b c fit-a fit-b fit-c. ((fit-a, fit-b, fit-c), refl))
    (λ m fit. (m.0, m.1, m.2, fit.0, fit.1, fit.2, refl))

-- items after their count
abbrev AreCounted : {A : Type 0} → (List A → A → Type 0) → List A → Type 0
AreCounted Fits xs = (length xs < 2 ^ 16) × EachFits Fits [] xs

counted_text : {A : Type 0} → (A → List ℕ) → List A → List ℕ
counted_text spelling xs = u16 (length xs) ++ flat_map spelling xs

counted_exact : {A : Type 0} (Fits : List A → A → Type 0) (spelling : A → List ℕ) (reading : List A → Left → Read A)
    → ((before : List A) → IsExact (Fits before) spelling (reading before)) → IsExact (AreCounted Fits) (counted_text spelling) (counted_at reading)
unfolding counted_at counted_text
counted_exact {A} Fits spelling reading exact =
    exact_then (λ n. n < 2 ^ 16) u16 u16_at (AreCounted Fits) (counted_text spelling) (λ n xs. length xs ≡ n) (λ n xs. flat_map spelling xs)
    (λ left n after. each_at reading n [] after)
    (u16_field.exact)
    (λ left n few. exact_as (AreEach Fits n []) (λ xs. AreCounted Fits xs × (length xs ≡ n)) (flat_map spelling) (flat_map spelling) (each_at reading n []) (each_at reading n [])
    (exact_each Fits spelling reading exact n [])
    (λ xs fit. ((let long : length xs ≡ n = fit.0 in omega arith, fit.1), fit.0)) (λ xs fit. (fit.1, fit.0.1)) (λ xs. refl) (λ left. refl))
    (λ xs fit. (length xs, fit.0, refl))
    (λ n xs fit is. ap (λ (m : ℕ). u16 m ++ flat_map spelling xs) is)

abbrev MayGo : List TableInfo → List ℕ → ℕ → Type 0
MayGo listed before n = IsTested (2 ^ 64) (may_go listed before) n

gone_exact : (listed : List TableInfo) (before : List ℕ) → IsExact (MayGo listed before) u64 (gone_at listed before)
unfolding gone_at
gone_exact listed before = tested64 (may_go listed before)

abbrev MayCome : Saying → List TableInfo → TableInfo → Type 0
MayCome s before i = FitsInfo i × (may_come s before i.number ≡ true)

come_exact : (s : Saying) (before : List TableInfo) → IsExact (MayCome s before) info_bytes (come_at s before)
unfolding come_at
come_exact s before = exact_checked FitsInfo info_bytes info_at (λ i. may_come s before i.number) info_exact

-- ---- changes

int_between : (least greatest z : ℤ) → is_within least greatest z ≡ true → (least ≤ℤ z) × (z ≤ℤ greatest)
int_between least greatest z e =
    let p = and_parts (int_le least z) (int_le z greatest) e in
    (le_z_yes (subst T (sym p.0) tt), le_z_yes (subst T (sym p.1) tt))

yes_true : (b : Bool) → T b → b ≡ true
yes_true true t = refl
yes_true false t = absurd t

between_ints : (least greatest z : ℤ) → least ≤ℤ z → z ≤ℤ greatest → is_within least greatest z ≡ true
between_ints least greatest z low high = and_from (int_le least z) (int_le z greatest) (yes_true _ low.le) (yes_true _ high.le)

moment_fits : (z : ℤ) → IsMoment z → FitsSigned w64 z
moment_fits z fit = let least = fit.0 in let most = fit.1 in grind (arith, ints)

drawn_fits : (z : ℤ) → IsDrawn z → FitsSigned w64 z
drawn_fits z fit = let least = fit.0 in let most = fit.1 in grind (arith, ints)

fits_made : (s : Saying) (p : ℕ × ℕ) (m : ℤ × ℕ × ℤ) (removed : List ℕ) (added : List TableInfo) → IsWhere s p → AreMarks (part_of s p.0 p.1).frontier m
    → AreCounted (MayGo (part_of s p.0 p.1).listed) removed → AreCounted (MayCome s) added → FitsChange s (made_change p m removed added)
fits_made s p m removed added fit-p fit-m fit-r fit-a = record {
  table = below_of (length s.tables) p.0 fit-p.0.1;
  shard = below_of s.shards p.1 fit-p.1.1;
  moment = int_between (pos 0) LAST_SECOND m.0 fit-m.0.1;
  frontier = ends (part_of s p.0 p.1).frontier MUTATION_LIMIT m.1 fit-m.1.1;
  drawn = int_between FIRST_DRAWN LAST_DRAWN m.2 fit-m.2.1;
  few_removed = fit-r.0;
  removed = fit-r.1;
  few_added = fit-a.0;
  added = fit-a.1;
}

where_of : (s : Saying) (table shard : ℕ) → IsSaid s → table < length s.tables → shard < s.shards → IsWhere s (table, shard)
where_of s table shard is there within =
    ((omega (arith, is.tables), of_below (length s.tables) table there), (omega (arith, is.shards), of_below s.shards shard within))

marks_of : (moment : ℤ) (least frontier : ℕ) (drawn : ℤ) → IsMoment moment → least ≤ frontier → frontier ≤ MUTATION_LIMIT → IsDrawn drawn
    → AreMarks least (moment, frontier, drawn)
marks_of moment least frontier drawn fit-m low high fit-d = (
  (moment_fits moment fit-m, between_ints (pos 0) LAST_SECOND moment fit-m.0 fit-m.1),
  (omega arith, within least MUTATION_LIMIT frontier low high),
  (drawn_fits drawn fit-d, between_ints FIRST_DRAWN LAST_DRAWN drawn fit-d.0 fit-d.1),
)

change_exact : (s : Saying) → IsSaid s → IsExact (FitsChange s) change_bytes (change_at s)
unfolding change_at counted_text
change_exact s is =
    exact_four (IsWhere s) (λ p. where_bytes p.0 p.1) (where_at s)
    (λ p m. AreMarks (part_of s p.0 p.1).frontier m) (λ m. marks_bytes m.0 m.1 m.2) (λ p. marks_at (part_of s p.0 p.1).frontier)
    (λ p m r. AreCounted (MayGo (part_of s p.0 p.1).listed) r) (counted_text u64) (λ p m. counted_at (gone_at (part_of s p.0 p.1).listed))
    (λ p m r a. AreCounted (MayCome s) a) (counted_text info_bytes) (λ p m r. counted_at (come_at s))
    (FitsChange s) change_bytes (λ p m r a. made_change p m r a)
    (where_exact s) (λ p fit. marks_exact (part_of s p.0 p.1).frontier)
    (λ p m fit-p fit-m. counted_exact (MayGo (part_of s p.0 p.1).listed) u64 (gone_at (part_of s p.0 p.1).listed) (gone_exact (part_of s p.0 p.1).listed))
    (λ p m r fit-p fit-m fit-r. counted_exact (MayCome s) info_bytes (come_at s) (come_exact s))
    (λ p m r a fit-p fit-m fit-r fit-a. (fits_made s p m r a fit-p fit-m fit-r fit-a, refl))
    (λ c fit. (
      (c.table, c.shard),
      (c.moment, c.frontier, c.drawn),
      c.removed,
      c.added,
      where_of s c.table c.shard is fit.table fit.shard,
      marks_of c.moment (part_of s c.table c.shard).frontier c.frontier c.drawn fit.moment fit.frontier.0 fit.frontier.1 fit.drawn,
      (fit.few_removed, fit.removed),
      (fit.few_added, fit.added),
      refl,
    ))

-- ---- what follows each kind

abbrev kind_code : Entry → ℕ
kind_code (entry.Store shards) = 1
kind_code (entry.Schema t) = 2
kind_code (entry.NewSegment n) = 3
kind_code (entry.DropSegment n) = 4
kind_code (entry.Change c) = 5
kind_code (entry.AddColumns table columns) = 6

abbrev told : Entry → List ℕ
told (entry.Store shards) = u8 shards
told (entry.Schema t) = schema_bytes t
told (entry.NewSegment n) = u64 n
told (entry.DropSegment n) = u64 n
told (entry.Change c) = change_bytes c
told (entry.AddColumns table columns) = u16 table ++ columns_bytes columns

abbrev IsStore : Entry → Type 0
IsStore e = (n : ℕ) × IsTested (2 ^ 8) (is_in_range 1 SHARD_LIMIT) n × (entry.Store n ≡ e)

store_exact : IsExact IsStore told store_at
unfolding store_at
store_exact =
    exact_map (IsTested (2 ^ 8) (is_in_range 1 SHARD_LIMIT)) u8 (checked (is_in_range 1 SHARD_LIMIT) u8_at) IsStore told (λ n. entry.Store n)
    (tested8 (is_in_range 1 SHARD_LIMIT)) (λ n fit. ((n, fit, refl), refl)) (λ e fit. fit)

abbrev IsDefinition : Saying → Entry → Type 0
IsDefinition s e = (t : TableSchema) × FitsTable s.tables t × (entry.Schema t ≡ e)

definition_exact : (s : Saying) → IsExact (IsDefinition s) told (definition_at s)
unfolding definition_at
definition_exact s =
    exact_map (FitsTable s.tables) schema_bytes (schema_at s.tables) (IsDefinition s) told (λ t. entry.Schema t)
    (schema_exact s.tables) (λ t fit. ((t, fit, refl), refl)) (λ e fit. fit)

abbrev is_new_segment : Saying → ℕ → Bool
is_new_segment s n = nat_lt s.last_segment n && nat_le n SEGMENT_LIMIT

abbrev IsNewSegment : Saying → Entry → Type 0
IsNewSegment s e = (n : ℕ) × IsTested (2 ^ 64) (is_new_segment s) n × (entry.NewSegment n ≡ e)

new_segment_exact : (s : Saying) → IsExact (IsNewSegment s) told (new_segment_at s)
unfolding new_segment_at
new_segment_exact s =
    exact_map (IsTested (2 ^ 64) (is_new_segment s)) u64 (checked (is_new_segment s) u64_at) (IsNewSegment s) told (λ n. entry.NewSegment n)
    (tested64 (is_new_segment s)) (λ n fit. ((n, fit, refl), refl)) (λ e fit. fit)

abbrev IsDropSegment : Saying → Entry → Type 0
IsDropSegment s e = (n : ℕ) × IsTested (2 ^ 64) (is_listed s.segments) n × (entry.DropSegment n ≡ e)

drop_segment_exact : (s : Saying) → IsExact (IsDropSegment s) told (drop_segment_at s)
unfolding drop_segment_at
drop_segment_exact s =
    exact_map (IsTested (2 ^ 64) (is_listed s.segments)) u64 (checked (is_listed s.segments) u64_at) (IsDropSegment s) told (λ n. entry.DropSegment n)
    (tested64 (is_listed s.segments)) (λ n fit. ((n, fit, refl), refl)) (λ e fit. fit)

abbrev IsChanging : Saying → Entry → Type 0
IsChanging s e = (c : Change) × FitsChange s c × (entry.Change c ≡ e)

changing_exact : (s : Saying) → IsSaid s → IsExact (IsChanging s) told (changing_at s)
unfolding changing_at
changing_exact s is =
    exact_map (FitsChange s) change_bytes (change_at s) (IsChanging s) told (λ c. entry.Change c)
    (change_exact s is) (λ c fit. ((c, fit, refl), refl)) (λ e fit. fit)

-- columns of a table with this number, where it is this one
abbrev AreAdded : ℕ → Option TableSchema → Entry → Type 0
AreAdded n found e = (t : TableSchema) × (columns : List Column) × (found ≡ Some t) × FitColumns (COLUMN_LIMIT - length t.columns) false t.columns columns × (entry.AddColumns n columns ≡ e)

added_text : ℕ → Entry → List ℕ
added_text n (entry.AddColumns table columns) = columns_bytes columns
added_text n _ = []

some_is : {A : Type 0} (a b : A) → Some a ≡ Some b → a ≡ b
some_is a b e = cc

no_table : (t : TableSchema) → None ≡ Some t → ⊥
no_table t e = cc

behind_made : (n : ℕ) (t u : TableSchema) (columns : List Column) → Some t ≡ Some u → FitColumns (COLUMN_LIMIT - length u.columns) false u.columns columns
    → FitColumns (COLUMN_LIMIT - length t.columns) false t.columns columns
behind_made n t u columns e fit = subst (λ (x : TableSchema). FitColumns (COLUMN_LIMIT - length x.columns) false x.columns columns) (sym (some_is t u e)) fit

behind_exact : (place n : ℕ) (found : Option TableSchema) → IsExact (AreAdded n found) (added_text n) (λ left. behind_at place n left found)
unfolding added_text
behind_exact place n None = exact_never (AreAdded n None) (added_text n) _ (λ e fit. no_table fit.0 fit.2)
behind_exact place n (Some t) =
    exact_map (FitColumns (COLUMN_LIMIT - length t.columns) false t.columns) columns_bytes (columns_at (COLUMN_LIMIT - length t.columns) false t.columns) (AreAdded n (Some t)) (added_text n)
    (λ columns. entry.AddColumns n columns)
    (columns_exact (COLUMN_LIMIT - length t.columns) false t.columns (omega arith))
    (λ columns fit. ((t, columns, refl, fit, refl), refl))
    (λ e fit. (fit.1, behind_made n t fit.0 fit.1 fit.2 fit.3, fit.4))

abbrev IsAddColumns : Saying → Entry → Type 0
IsAddColumns s e = (n : ℕ) × (n < 2 ^ 16) × AreAdded n (slice_get s.tables n) e

add_spelled : (n : ℕ) (found : Option TableSchema) (e : Entry) → AreAdded n found e → told e ≡ u16 n ++ added_text n e
unfolding added_text
add_spelled n found e fit = subst (λ (x : Entry). told x ≡ u16 n ++ added_text n x) fit.4 refl

add_columns_exact : (s : Saying) → IsExact (IsAddColumns s) told (add_columns_at s)
unfolding add_columns_at
add_columns_exact s =
    exact_then (λ n. n < 2 ^ 16) u16 u16_at (IsAddColumns s) told (λ n e. (n < 2 ^ 16) × AreAdded n (slice_get s.tables n) e) (λ n e. added_text n e)
    (λ before n left. behind_at before.at n left (slice_get s.tables n))
    u16_field.exact
    (λ before n few. exact_as (AreAdded n (slice_get s.tables n)) (λ e. IsAddColumns s e × ((n < 2 ^ 16) × AreAdded n (slice_get s.tables n) e)) (added_text n) (added_text n)
    (λ left. behind_at before.at n left (slice_get s.tables n)) (λ left. behind_at before.at n left (slice_get s.tables n))
    (behind_exact before.at n (slice_get s.tables n)) (λ e fit. ((n, few, fit), (few, fit))) (λ e fit. fit.1.1) (λ e. refl) (λ left. refl))
    (λ e fit. (fit.0, fit.1, (fit.1, fit.2)))
    (λ n e fit is. add_spelled n (slice_get s.tables n) e is.1)

-- ---- the kind

abbrev IsKinded : Saying → ℕ → Entry → Type 0
IsKinded s n e = FitsEntry s e × (kind_code e ≡ n)

not_none : (n : ℕ) → eqb n 0 ≡ false → 1 ≤ n
not_none zero e = absurd cc
not_none (suc n) e = omega arith

kind_by : (s : Saying) (n : ℕ) (b : Bool) → eqb s.shards 0 ≡ b → cond b (eqb n 1) (is_in_range 2 6 n) ≡ true
    → ((s.shards ≡ 0) × (n ≡ 1)) ⊎ (IsMade s × (2 ≤ n) × (n ≤ 6))
kind_by s n true none e = inl (eqb-true s.shards 0 none, eqb-true n 1 e)
kind_by s n false some e =
    let bounds = ends 2 6 n e in
    inr (not_none s.shards some, bounds.0, bounds.1)

-- the kinds that there may be by what is said
kinds : (s : Saying) (n : ℕ) → may_be s n ≡ true → ((s.shards ≡ 0) × (n ≡ 1)) ⊎ (IsMade s × (2 ≤ n) × (n ≤ 6))
kinds s n e = kind_by s n (eqb s.shards 0) refl e

no_kind : (s : Saying) → may_be s 0 ≡ true → ⊥
no_kind s e = elim (kinds s 0 e) [
  | inl first ↦ let one : 0 ≡ 1 = first.1 in absurd (omega arith)
  | inr later ↦ absurd (omega (arith, later.1))
]

first_kind : (s : Saying) → may_be s 1 ≡ true → s.shards ≡ 0
first_kind s e = elim (kinds s 1 e) [
  | inl first ↦ first.0
  | inr later ↦ absurd (omega (arith, later.1))
]

later_kind : (s : Saying) (n : ℕ) → may_be s (suc (suc n)) ≡ true → IsMade s × (n ≤ 4)
later_kind s n e = elim (kinds s (suc (suc n)) e) [
  | inl first ↦ let one : suc (suc n) ≡ 1 = first.1 in absurd (omega arith)
  | inr later ↦ (later.0, omega (arith, later.2))
]

made_by : (s : Saying) (n : ℕ) (b : Bool) → IsMade s → 2 ≤ n → n ≤ 6 → eqb s.shards 0 ≡ b → cond b (eqb n 1) (is_in_range 2 6 n) ≡ true
made_by s n true made low high none = let zero : s.shards ≡ 0 = eqb-true s.shards 0 none in absurd (omega (arith, made))
made_by s n false made low high some = within 2 6 n low high

made_kind : (s : Saying) (n : ℕ) → IsMade s → 2 ≤ n → n ≤ 6 → may_be s n ≡ true
made_kind s n made low high = made_by s n (eqb s.shards 0) made low high refl

store_kind : (s : Saying) → s.shards ≡ 0 → may_be s 1 ≡ true
store_kind s none = ap (λ (m : ℕ). cond (eqb m 0) true false) none

abbrev IsKind : Saying → ℕ → Type 0
IsKind s n = (n < 2 ^ 8) × (may_be s n ≡ true)

kind_fits : (s : Saying) (e : Entry) → FitsEntry s e → IsKind s (kind_code e)
kind_fits s (entry.Store shards) fit = (omega arith, store_kind s fit.0)
kind_fits s (entry.Schema t) fit = (omega arith, made_kind s 2 fit.0 (omega arith) (omega arith))
kind_fits s (entry.NewSegment n) fit = (omega arith, made_kind s 3 fit.0 (omega arith) (omega arith))
kind_fits s (entry.DropSegment n) fit = (omega arith, made_kind s 4 fit.0 (omega arith) (omega arith))
kind_fits s (entry.Change c) fit = (omega arith, made_kind s 5 fit.0 (omega arith) (omega arith))
kind_fits s (entry.AddColumns table columns) fit = (omega arith, made_kind s 6 fit.0 (omega arith) (omega arith))

-- what is read after a kind is an entry of that kind, which stands there
abbrev HasRead : Saying → ℕ → Left → Entry × Left → Type 0
HasRead s n old y = IsKinded s n y.0 × Begins (told y.0) old y.1

new_segment_fits : (s : Saying) (n : ℕ) → IsMade s → is_new_segment s n ≡ true → FitsEntry s (entry.NewSegment n)
new_segment_fits s n made e =
    let both = and_parts (nat_lt s.last_segment n) (nat_le n SEGMENT_LIMIT) e in
    (made, ltb-true s.last_segment n both.0, leb-true n SEGMENT_LIMIT both.1)

kinded_found : (s : Saying) → IsSaid s → (n : ℕ) (old new : Left) (e : Entry) → may_be s n ≡ true → AreBytes old.bytes → kinded_at s n old ≡ Ok (e, new)
    → HasRead s n old (e, new)
kinded_found s is zero old new e may are read = absurd (no_kind s may)
kinded_found s is (suc zero) old new e may are read =
    let f = store_exact.found old new e are read in
    (subst (λ (x : Entry). IsKinded s 1 x) f.0.2 ((first_kind s may, ends 1 SHARD_LIMIT f.0.0 f.0.1.1), refl), f.1)
kinded_found s is (suc (suc zero)) old new e may are read =
    let f = (definition_exact s).found old new e are read in
    (subst (λ (x : Entry). IsKinded s 2 x) f.0.2 (((later_kind s 0 may).0, f.0.1), refl), f.1)
kinded_found s is (suc (suc (suc zero))) old new e may are read =
    let f = (new_segment_exact s).found old new e are read in
    (subst (λ (x : Entry). IsKinded s 3 x) f.0.2 (new_segment_fits s f.0.0 (later_kind s 1 may).0 f.0.1.1, refl), f.1)
kinded_found s is (suc (suc (suc (suc zero)))) old new e may are read =
    let f = (drop_segment_exact s).found old new e are read in
    (subst (λ (x : Entry). IsKinded s 4 x) f.0.2 (((later_kind s 2 may).0, f.0.1.0, f.0.1.1), refl), f.1)
kinded_found s is (suc (suc (suc (suc (suc zero))))) old new e may are read =
    let f = (changing_exact s is).found old new e are read in
    (subst (λ (x : Entry). IsKinded s 5 x) f.0.2 (((later_kind s 3 may).0, f.0.1), refl), f.1)
kinded_found s is (suc (suc (suc (suc (suc (suc zero)))))) old new e may are read =
    let f = (add_columns_exact s).found old new e are read in
    let g = f.0 in
    (subst (λ (x : Entry). IsKinded s 6 x) g.2.4 (((later_kind s 4 may).0, g.2.0, g.2.2, g.2.3), refl), f.1)
kinded_found s is (suc (suc (suc (suc (suc (suc (suc n))))))) old new e may are read =
    absurd (omega (arith, (later_kind s (suc (suc (suc (suc (suc n))))) may).1))

number_below : (s : Saying) (n : ℕ) → IsSaid s → (t : TableSchema) → slice_get s.tables n ≡ Some t → n < 2 ^ 16
number_below s n is t there = let within = slice_get_within s.tables n t there in omega (arith, is.tables)

kinded_again : (s : Saying) → IsSaid s → (e : Entry) (rest : List ℕ) (at : ℕ) → FitsEntry s e
    → kinded_at s (kind_code e) (read_left (told e ++ rest) at) ≡ Ok (e, read_left rest (at + length (told e)))
kinded_again s is (entry.Store shards) rest at fit =
    let few : shards ≤ SHARD_LIMIT = fit.1.1 in
    store_exact.again (entry.Store shards) rest at (shards, (omega arith, within 1 SHARD_LIMIT shards fit.1.0 few), refl)
kinded_again s is (entry.Schema t) rest at fit = (definition_exact s).again (entry.Schema t) rest at (t, fit.1, refl)
kinded_again s is (entry.NewSegment n) rest at fit =
    let most : n ≤ SEGMENT_LIMIT = fit.2 in
    (new_segment_exact s).again (entry.NewSegment n) rest at
    (n, (omega arith, and_from (nat_lt s.last_segment n) (nat_le n SEGMENT_LIMIT) (lt-ltb s.last_segment n fit.1) (le-leb n SEGMENT_LIMIT fit.2)), refl)
kinded_again s is (entry.DropSegment n) rest at fit = (drop_segment_exact s).again (entry.DropSegment n) rest at (n, (fit.1, fit.2), refl)
kinded_again s is (entry.Change c) rest at fit = (changing_exact s is).again (entry.Change c) rest at (c, fit.1, refl)
kinded_again s is (entry.AddColumns table columns) rest at fit =
    (add_columns_exact s).again (entry.AddColumns table columns) rest at
    (table, number_below s table is fit.1 fit.2, (fit.1, columns, fit.2, fit.3, refl))

kinded_exact : (s : Saying) → IsSaid s → (n : ℕ) → may_be s n ≡ true → IsExact (IsKinded s n) told (kinded_at s n)
kinded_exact s is n may = record {
  found = λ old new e are read. kinded_found s is n old new e may are read;
  again = λ e rest at fit. subst (λ (m : ℕ). kinded_at s m (read_left (told e ++ rest) at) ≡ Ok (e, read_left rest (at + length (told e)))) fit.1
      (kinded_again s is e rest at fit.0);
}

spelled_kind : (e : Entry) → entry_bytes e ≡ u8 (kind_code e) ++ told e
spelled_kind (entry.Store shards) = refl
spelled_kind (entry.Schema t) = refl
spelled_kind (entry.NewSegment n) = refl
spelled_kind (entry.DropSegment n) = refl
spelled_kind (entry.Change c) = refl
spelled_kind (entry.AddColumns table columns) = refl

fields_exact : (s : Saying) → IsSaid s → IsExact (FitsEntry s) entry_bytes (fields_at s)
unfolding fields_at
fields_exact s is =
    exact_then (IsKind s) u8 (checked (may_be s) u8_at) (FitsEntry s) entry_bytes (λ n e. kind_code e ≡ n) (λ n e. told e) (λ before n left. kinded_at s n left)
    (tested8 (may_be s))
    (λ before n kind. kinded_exact s is n kind.1)
    (λ e fit. (kind_code e, kind_fits s e fit, refl))
    (λ n e fit kind. spelled_kind e ∙ ap (λ (m : ℕ). u8 m ++ told e) kind)

pub entry_exact : (s : Saying) → IsSaid s → IsExact (FitsNext s) entry_bytes (entry_at s)
unfolding entry_at
entry_exact s is =
    exact_as (λ e. FitsEntry s e × (nat_le (listed_after s.listed e) LISTED_LIMIT ≡ true)) (FitsNext s) entry_bytes entry_bytes
    (checked (λ e. nat_le (listed_after s.listed e) LISTED_LIMIT) (fields_at s)) (checked (λ e. nat_le (listed_after s.listed e) LISTED_LIMIT) (fields_at s))
    (exact_checked (FitsEntry s) entry_bytes (fields_at s) (λ e. nat_le (listed_after s.listed e) LISTED_LIMIT) (fields_exact s is))
    (λ e fit. (fit.0, leb-true (listed_after s.listed e) LISTED_LIMIT fit.1)) (λ e fit. (fit.0, le-leb (listed_after s.listed e) LISTED_LIMIT fit.1))
    (λ e. refl) (λ left. refl)

-- ---- room in the fields

key_short : (key : List ℕ) → FitsKey key → length key < 2 ^ 16
key_short key fit = let most : length key ≤ KEY_LIMIT = fit.1 in omega arith

keys_short : (s : Saying) (before infos : List TableInfo) → EachFits (MayCome s) before infos → AllByRecursion (λ i. (length i.first < 2 ^ 16) × (length i.last < 2 ^ 16)) infos
keys_short s before [] fit = tt
keys_short s before (i ∷ infos) fit =
    let first = fit.0.0.first in
    let last = fit.0.0.last in
    ((key_short i.first first, key_short i.last last), keys_short s (before ++ i ∷ []) infos fit.1)

pub spelled : (s : Saying) (e : Entry) → FitsEntry s e → HasSpelling e
spelled s (entry.Store shards) fit = tt
spelled s (entry.Schema t) fit = schema_spelled s.tables t fit.1
spelled s (entry.NewSegment n) fit = tt
spelled s (entry.DropSegment n) fit = tt
spelled s (entry.Change c) fit = (fit.1.few_removed, fit.1.few_added, keys_short s [] c.added fit.1.added)
spelled s (entry.AddColumns table columns) fit =
    let t : TableSchema = fit.1 in
    columns_spelled (COLUMN_LIMIT - length t.columns) false t.columns columns (omega arith) fit.3
