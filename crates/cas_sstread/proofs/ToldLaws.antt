-- What a file tells of itself is read where it is what is listed, and nowhere else.
use Rattle.std.proofs.Common.{◌≡◌, ℕ, ℤ, ◌<◌, ◌≤◌, ◌^◌, leb, eqb, ◌&&◌, Bool, T, true, false, List, length, Option, None, Some, refl, sym, ap, subst, ◌∙◌, arith}
use Rattle.std.specs.Int.Signed.{le_z_yes}
use Rattle.std.specs.Prelude.{◌≤ℤ◌, int_le, IfSome, FitsSigned, slice_get}
use Rattle.std.specs.Int.{w64, is_in_range}
use Rattle.std.specs.List.{last_or}
use Rattle.std.specs.declared.cmp.Ordering.{Ordering}
use Rattle.std.specs.declared.cmp.Ordering.TheVariants.{Less, Equal, Greater}
use Rattle.std.specs.Ordering.{is_eq}
use Rattle.std.proofs.lemmas.Bool.{leb-true, le-leb, eqb-true, eq-eqb, and_parts, and_from}
use Rattle.std.proofs.lemmas.Int.{ints}
use Rattle.std.proofs.lemmas.Cmp.{nat_list_cmp_total, tied_itself}
use Rattle.cas_types.specs.Values.{bytes_cmp}
use Rattle.cas_types.proofs.OrderLaws.{bytes_orders}
use Rattle.cas_codec.specs.Reading.{checked, is_within, u8_at, u32_at, u64_at, i64_at, maybe_at, bytes16_at}
use Rattle.cas_codec.specs.Fields.{u8, u32, u64, i64, bytes16, maybe}
use Rattle.cas_codec.specs.Exact.{IsExact}
use Rattle.cas_codec.proofs.Exactness.{exact_checked, exact_map}
use Rattle.cas_codec.proofs.FieldLaws.{u8_field, u32_field, u64_field, i64_field, bytes16_field, maybe_i64_exact}
use Rattle.cas_codec.proofs.Sequences.{exact_two, exact_three, exact_four}
use Rattle.cas_info.specs.declared.info.TableInfo.{TableInfo}
use Rattle.cas_info.specs.Spelling.{sizes_bytes, range_bytes, times_bytes, rest_bytes, info_bytes}
use Rattle.cas_info.specs.Allowed.{FitsInfo}
use Rattle.cas_index.specs.declared.entries.PartitionEntry.{PartitionEntry}
use Rattle.cas_sstread.specs.Reading.{own_sizes_at, is_key_of, own_key_at, own_range_at, is_second, own_times_at, own_rest_at, own_info_at}
use Rattle.cas_sstread.specs.Laws.{HaveKeys}

abbrev Any : Unit {0} → Type 0
Any u = Unit {0}

-- ---- numbers

abbrev IsOnly : ℕ → ℕ → ℕ → Type 0
IsOnly limit m n = (n < limit) × (is_in_range m m n ≡ true)

only_is : (limit m n : ℕ) → IsOnly limit m n → m ≡ n
only_is limit m n fit =
    let p = and_parts (leb m n) (leb n m) fit.1 in
    let low : m ≤ n = leb-true m n p.0 in
    let high : n ≤ m = leb-true n m p.1 in
    omega arith

is_only : (limit m : ℕ) → m < limit → IsOnly limit m m
is_only limit m below = (below, and_from (leb m m) (leb m m) (le-leb m m (omega arith)) (le-leb m m (omega arith)))

sizes_exact : (info : TableInfo) → FitsInfo info → IsExact Any (λ u. sizes_bytes info.number info.bytes) (own_sizes_at info)
unfolding own_sizes_at
sizes_exact info fit =
    exact_two (IsOnly (2 ^ 64) info.number) u64 (checked (is_in_range info.number info.number) u64_at) (λ n b. IsOnly (2 ^ 64) info.bytes b) u64
    (λ n. checked (is_in_range info.bytes info.bytes) u64_at) Any (λ u. sizes_bytes info.number info.bytes) (λ n b. tt)
    (exact_checked (λ n. n < 2 ^ 64) u64 u64_at (is_in_range info.number info.number) u64_field.exact)
    (λ n fit-n. exact_checked (λ n. n < 2 ^ 64) u64 u64_at (is_in_range info.bytes info.bytes) u64_field.exact)
    (λ n b fit-n fit-b. (tt, λ i. sizes_bytes (only_is (2 ^ 64) info.number n fit-n i) (only_is (2 ^ 64) info.bytes b fit-b i)))
    (λ u fit-u. (
      info.number,
      info.bytes,
      is_only (2 ^ 64) info.number (let most = fit.number.1 in omega arith),
      is_only (2 ^ 64) info.bytes (let most = fit.bytes in omega arith),
      refl,
    ))

-- ---- keys

-- the partition is there and has the key
abbrev HasListed : List ℕ → Option PartitionEntry → Type 0
HasListed listed o = (p : PartitionEntry) × (o ≡ Some p) × (p.key ≡ listed)

eq_equal : (o : Ordering) → is_eq o ≡ true → o ≡ Equal
eq_equal Less e = absurd cc
eq_equal Equal e = refl
eq_equal Greater e = absurd cc

key_is : (listed : List ℕ) (o : Option PartitionEntry) (key : List ℕ) → is_key_of listed o key ≡ true → (key ≡ listed) × HasListed listed o
unfolding is_key_of
key_is listed None key e = absurd cc
key_is listed (Some p) key e =
    let t = and_parts (is_eq (bytes_cmp key listed)) (is_eq (bytes_cmp key p.key)) e in
    let one : key ≡ listed = bytes_orders.ties key listed (eq_equal _ t.0) in
    let two : key ≡ p.key = bytes_orders.ties key p.key (eq_equal _ t.1) in
    (one, (p, refl, sym two ∙ one))

is_key : (listed : List ℕ) (o : Option PartitionEntry) → HasListed listed o → is_key_of listed o listed ≡ true
unfolding is_key_of
is_key listed None has = absurd (let e = has.1 in cc)
is_key listed (Some q) has = and_from (is_eq (bytes_cmp listed listed)) (is_eq (bytes_cmp listed q.key)) (same listed listed refl) (same listed q.key (sym (own has.0 q has.1) ∙ has.2))
  where
    same : (a b : List ℕ) → b ≡ a → is_eq (bytes_cmp a b) ≡ true
    same a b e = ap (λ (x : List ℕ). is_eq (bytes_cmp a x)) e ∙ ap is_eq (tied_itself nat_list_cmp_total a)

    own : (p q : PartitionEntry) → Some q ≡ Some p → p.key ≡ q.key
    own p q e = cc

own_key_exact : (listed : List ℕ) (o : Option PartitionEntry) → length listed < 2 ^ 16
    → IsExact (λ u. HasListed listed o) (λ u. bytes16 listed) (own_key_at listed o)
unfolding own_key_at
own_key_exact listed o short =
    exact_map (λ k. (length k < 2 ^ 16) × (is_key_of listed o k ≡ true)) bytes16 (checked (is_key_of listed o) bytes16_at)
    (λ u. HasListed listed o) (λ u. bytes16 listed) (λ k. tt)
    (exact_checked (λ k. length k < 2 ^ 16) bytes16 bytes16_at (is_key_of listed o) bytes16_field.exact)
    (λ k fit. let t = key_is listed o k fit.1 in (t.1, ap bytes16 (sym t.0)))
    (λ u has. (listed, (short, is_key listed o has), refl))

range_exact : (info : TableInfo) (ps : List PartitionEntry) → FitsInfo info
    → IsExact (λ u. HasListed info.first (slice_get ps 0) × HasListed info.last (last_or None ps)) (λ u. range_bytes info.first info.last) (own_range_at info ps)
unfolding own_range_at
range_exact info ps fit =
    exact_two (λ u. HasListed info.first (slice_get ps 0)) (λ u. bytes16 info.first) (own_key_at info.first (slice_get ps 0))
    (λ u v. HasListed info.last (last_or None ps)) (λ u. bytes16 info.last) (λ u. own_key_at info.last (last_or None ps))
    (λ u. HasListed info.first (slice_get ps 0) × HasListed info.last (last_or None ps)) (λ u. range_bytes info.first info.last) (λ u v. tt)
    (own_key_exact info.first (slice_get ps 0) (let most = fit.first.1 in omega arith))
    (λ u first. own_key_exact info.last (last_or None ps) (let most = fit.last.1 in omega arith))
    (λ u v first last. ((first, last), refl))
    (λ u both. (tt, tt, both.0, both.1, refl))

-- ---- times

abbrev IsSame : ℤ → ℤ → Type 0
IsSame m z = FitsSigned w64 z × (is_within m m z ≡ true)

same_is : (m z : ℤ) → is_within m m z ≡ true → m ≡ z
same_is m z e =
    let p = and_parts (int_le m z) (int_le z m) e in
    let low : m ≤ℤ z = le_z_yes (subst T (sym p.0) tt) in
    let high : z ≤ℤ m = le_z_yes (subst T (sym p.1) tt) in
    omega (arith, ints)

yes_true : (b : Bool) → T b → b ≡ true
yes_true true t = refl
yes_true false t = absurd t

is_same : (m : ℤ) → is_within m m m ≡ true
is_same m =
    let own : m ≤ℤ m = omega (arith, ints) in
    and_from (int_le m m) (int_le m m) (yes_true _ own.le) (yes_true _ own.le)

second_is : (listed d : Option ℤ) → is_second listed d ≡ true → listed ≡ d
unfolding is_second
second_is None None e = refl
second_is None (Some d) e = absurd cc
second_is (Some l) None e = absurd cc
second_is (Some l) (Some d) e = ap (λ (z : ℤ). Some z) (same_is l d e)

is_own_second : (listed : Option ℤ) → is_second listed listed ≡ true
unfolding is_second
is_own_second None = refl
is_own_second (Some l) = is_same l

times_exact : (info : TableInfo) → FitsInfo info → IsExact Any (λ u. times_bytes info.least info.greatest info.dead) (own_times_at info)
unfolding own_times_at
times_exact info fit =
    exact_three (IsSame info.least) i64 (checked (is_within info.least info.least) i64_at)
    (λ a b. IsSame info.greatest b) i64 (λ a. checked (is_within info.greatest info.greatest) i64_at)
    (λ a b d. IfSome d (FitsSigned w64) × (is_second info.dead d ≡ true)) (maybe i64) (λ a b. checked (is_second info.dead) (maybe_at i64_at))
    Any (λ u. times_bytes info.least info.greatest info.dead) (λ a b d. tt)
    (exact_checked (FitsSigned w64) i64 i64_at (is_within info.least info.least) i64_field.exact)
    (λ a fit-a. exact_checked (FitsSigned w64) i64 i64_at (is_within info.greatest info.greatest) i64_field.exact)
    (λ a b fit-a fit-b. exact_checked (λ d. IfSome d (FitsSigned w64)) (maybe i64) (maybe_at i64_at) (is_second info.dead) maybe_i64_exact)
    (λ a b d fit-a fit-b fit-d. (
      tt,
      λ i. times_bytes (same_is info.least a fit-a.1 i) (same_is info.greatest b fit-b.1 i) (second_is info.dead d fit-d.1 i),
    ))
    (λ u fit-u. (
      info.least,
      info.greatest,
      info.dead,
      (fit.least.0, is_same info.least),
      (fit.greatest.0, is_same info.greatest),
      (fit.dead, is_own_second info.dead),
      refl,
    ))

-- ---- the level and the number of keys

abbrev IsCount : ℕ → ℕ → ℕ → Type 0
IsCount listed count n = (n < 2 ^ 32) × ((eqb n listed && eqb n count) ≡ true)

count_is : (listed count n : ℕ) → IsCount listed count n → (listed ≡ n) × (count ≡ listed)
count_is listed count n fit =
    let p = and_parts (eqb n listed) (eqb n count) fit.1 in
    let one : n ≡ listed = eqb-true n listed p.0 in
    let two : n ≡ count = eqb-true n count p.1 in
    (sym one, sym two ∙ one)

is_count : (listed count : ℕ) → listed < 2 ^ 32 → count ≡ listed → IsCount listed count listed
is_count listed count below same = (below, and_from (eqb listed listed) (eqb listed count) (eq-eqb listed listed refl) (eq-eqb listed count (sym same)))

level_short : (info : TableInfo) → FitsInfo info → info.level < 2 ^ 8
level_short info fit = let most = fit.level in omega arith

keys_short : (info : TableInfo) → FitsInfo info → info.keys < 2 ^ 32
keys_short info fit = let most = fit.keys.1 in omega arith

rest_exact : (info : TableInfo) (count : ℕ) → FitsInfo info → IsExact (λ u. count ≡ info.keys) (λ u. rest_bytes info.level info.keys) (own_rest_at info count)
unfolding own_rest_at
rest_exact info count fit =
    exact_two (IsOnly (2 ^ 8) info.level) u8 (checked (is_in_range info.level info.level) u8_at) (λ l n. IsCount info.keys count n) u32
    (λ l. checked (λ n. eqb n info.keys && eqb n count) u32_at) (λ u. count ≡ info.keys) (λ u. rest_bytes info.level info.keys) (λ l n. tt)
    (exact_checked (λ n. n < 2 ^ 8) u8 u8_at (is_in_range info.level info.level) u8_field.exact)
    (λ l fit-l. exact_checked (λ n. n < 2 ^ 32) u32 u32_at (λ n. eqb n info.keys && eqb n count) u32_field.exact)
    (λ l n fit-l fit-n. (
      (count_is info.keys count n fit-n).1,
      λ i. rest_bytes (only_is (2 ^ 8) info.level l fit-l i) ((count_is info.keys count n fit-n).0 i),
    ))
    (λ u same. (
      info.level,
      info.keys,
      is_only (2 ^ 8) info.level (level_short info fit),
      is_count info.keys count (keys_short info fit) same,
      refl,
    ))

-- ---- all of it

pub told_exact : (info : TableInfo) (ps : List PartitionEntry) → FitsInfo info → IsExact (λ u. HaveKeys info ps) (λ u. info_bytes info) (own_info_at info ps)
unfolding own_info_at
told_exact info ps fit =
    exact_four Any (λ u. sizes_bytes info.number info.bytes) (own_sizes_at info)
    (λ u v. HasListed info.first (slice_get ps 0) × HasListed info.last (last_or None ps)) (λ u. range_bytes info.first info.last) (λ u. own_range_at info ps)
    (λ u v w. Unit {0}) (λ u. times_bytes info.least info.greatest info.dead) (λ u v. own_times_at info)
    (λ u v w x. length ps ≡ info.keys) (λ u. rest_bytes info.level info.keys) (λ u v w. own_rest_at info (length ps))
    (λ u. HaveKeys info ps) (λ u. info_bytes info) (λ u v w x. tt)
    (sizes_exact info fit) (λ u any. range_exact info ps fit) (λ u v any range. times_exact info fit) (λ u v w any range times. rest_exact info (length ps) fit)
    (λ u v w x any range times count. (record { count = count; first = range.0; last = range.1 }, refl))
    (λ u have. (tt, tt, tt, tt, tt, (have.first, have.last), tt, have.count, refl))
