-- Options are read exactly.
use Rattle.std.proofs.Common.{◌≡◌, ℕ, ◌<◌, ◌≤◌, ◌^◌, Bool, true, false, nat_le, List, ◌++◌, refl, arith}
use Rattle.std.proofs.lemmas.Bool.{eqb-true, and_parts}
use Rattle.cas_types.specs.declared.limits.TheConstants.{TTL_LIMIT}
use Rattle.cas_types.specs.declared.schema.Options.{Options}
use Rattle.cas_types.specs.declared.schema.Strategy.{Strategy}
use Rattle.cas_types.specs.declared.schema.Unit.{Unit as WindowUnit}
use Rattle.cas_codec.specs.Reading.{checked, u16_at, u32_at, u64_at}
use Rattle.cas_codec.specs.Fields.{u8, u16, u32, u64}
use Rattle.cas_codec.specs.Exact.{IsExact}
use Rattle.cas_codec.proofs.Exactness.{exact_checked}
use Rattle.cas_codec.proofs.FieldLaws.{u16_field, u32_field, u64_field}
use Rattle.cas_codec.proofs.Sequences.{exact_two, exact_three, exact_four}
use Rattle.std.specs.Int.{is_in_range}
use Rattle.cas_schemas.specs.declared.ranges.Range.{Range}
use Rattle.cas_schemas.specs.declared.ranges.TheConstants.{GRACE_LIMIT, MIN_THRESHOLD, MAX_THRESHOLD, BUCKET_LOW, BUCKET_HIGH, MIN_SSTABLE_SIZE, SSTABLE_SIZE_IN_MB, FANOUT_SIZE, WINDOW_SIZE}
use Rattle.cas_schemas.specs.Codes.{strategy_code, unit_code, strategy_of, unit_of, coded_at}
use Rattle.cas_schemas.specs.Options.{allows, is_leveled, has_buckets, has_windows, allows_most, allows_unit, FitsOptions}
use Rattle.cas_schemas.specs.Reading.{ages_at, most_at, buckets_at, sizes_at, unit_at, window_at, made_options, options_at}
use Rattle.cas_schemas.specs.Spelling.{options_bytes}
use Rattle.cas_schemas.proofs.CodeLaws.{ends, within, strategy_exact, unit_exact}

-- what is allowed isn't above the range
allowed : (has : Bool) (range : Range) (n : ℕ) → range.default ≤ range.greatest → allows has range n ≡ true → n ≤ range.greatest
allowed true range n low e = (ends range.least range.greatest n e).1
allowed false range n low e = let same : n ≡ range.default = eqb-true n range.default e in omega arith

-- a number of that width which passes the test
abbrev IsTested : ℕ → (ℕ → Bool) → ℕ → Type 0
IsTested limit test n = (n < limit) × (test n ≡ true)

tested16 : (test : ℕ → Bool) → IsExact (IsTested (2 ^ 16) test) u16 (checked test u16_at)
tested16 test = exact_checked (λ n. n < 2 ^ 16) u16 u16_at test u16_field.exact

tested32 : (test : ℕ → Bool) → IsExact (IsTested (2 ^ 32) test) u32 (checked test u32_at)
tested32 test = exact_checked (λ n. n < 2 ^ 32) u32 u32_at test u32_field.exact

tested64 : (test : ℕ → Bool) → IsExact (IsTested (2 ^ 64) test) u64 (checked test u64_at)
tested64 test = exact_checked (λ n. n < 2 ^ 64) u64 u64_at test u64_field.exact

-- ---- the parts

abbrev AreAges : ℕ × ℕ × Strategy → Type 0
AreAges a = IsTested (2 ^ 32) (is_in_range 0 GRACE_LIMIT) a.0 × IsTested (2 ^ 32) (is_in_range 0 TTL_LIMIT) a.1

ages_text : ℕ × ℕ × Strategy → List ℕ
ages_text a = u32 a.0 ++ (u32 a.1 ++ u8 (strategy_code a.2))

ages_exact : IsExact AreAges ages_text ages_at
unfolding ages_at ages_text
ages_exact =
    exact_three (IsTested (2 ^ 32) (is_in_range 0 GRACE_LIMIT)) u32 (checked (is_in_range 0 GRACE_LIMIT) u32_at)
    (λ g t. IsTested (2 ^ 32) (is_in_range 0 TTL_LIMIT) t) u32 (λ g. checked (is_in_range 0 TTL_LIMIT) u32_at)
    (λ g t s. Unit {0}) (λ s. u8 (strategy_code s)) (λ g t. coded_at 2 strategy_of) AreAges ages_text (λ g t s. (g, t, s))
    (tested32 (is_in_range 0 GRACE_LIMIT)) (λ g fit. tested32 (is_in_range 0 TTL_LIMIT)) (λ g t fit-g fit-t. strategy_exact)
    (λ g t s fit-g fit-t fit-s. ((fit-g, fit-t), refl))
    (λ a fit. (a.0, a.1, a.2, fit.0, fit.1, tt, refl))

abbrev AreBuckets : Bool → ℕ × ℕ × ℕ × ℕ → Type 0
AreBuckets has b =
    IsTested (2 ^ 16) (allows has MIN_THRESHOLD) b.0 × IsTested (2 ^ 16) (allows_most has b.0) b.1 × IsTested (2 ^ 32) (allows has BUCKET_LOW) b.2
    × IsTested (2 ^ 32) (allows has BUCKET_HIGH) b.3

buckets_text : ℕ × ℕ × ℕ × ℕ → List ℕ
buckets_text b = u16 b.0 ++ (u16 b.1 ++ (u32 b.2 ++ u32 b.3))

buckets_exact : (has : Bool) → IsExact (AreBuckets has) buckets_text (buckets_at has)
unfolding buckets_at most_at buckets_text
buckets_exact has =
    exact_four (IsTested (2 ^ 16) (allows has MIN_THRESHOLD)) u16 (checked (allows has MIN_THRESHOLD) u16_at)
    (λ a b. IsTested (2 ^ 16) (allows_most has a) b) u16 (λ a. checked (allows_most has a) u16_at)
    (λ a b c. IsTested (2 ^ 32) (allows has BUCKET_LOW) c) u32 (λ a b. checked (allows has BUCKET_LOW) u32_at)
    (λ a b c d. IsTested (2 ^ 32) (allows has BUCKET_HIGH) d) u32 (λ a b c. checked (allows has BUCKET_HIGH) u32_at)
    (AreBuckets has) buckets_text (λ a b c d. (a, b, c, d))
    (tested16 (allows has MIN_THRESHOLD)) (λ a fit. tested16 (allows_most has a)) (λ a b fit-a fit-b. tested32 (allows has BUCKET_LOW))
    (λ a b c fit-a fit-b fit-c. tested32 (allows has BUCKET_HIGH))
    (λ a b c d fit-a fit-b fit-c fit-d. ((fit-a, fit-b, fit-c, fit-d), refl))
    (λ b fit. (b.0, b.1, b.2, b.3, fit.0, fit.1, fit.2, fit.3, refl))

abbrev AreSizes : Bool → Bool → ℕ × ℕ × ℕ → Type 0
AreSizes buckets levels s =
    IsTested (2 ^ 64) (allows buckets MIN_SSTABLE_SIZE) s.0 × IsTested (2 ^ 16) (allows levels SSTABLE_SIZE_IN_MB) s.1 × IsTested (2 ^ 16) (allows levels FANOUT_SIZE) s.2

sizes_text : ℕ × ℕ × ℕ → List ℕ
sizes_text s = u64 s.0 ++ (u16 s.1 ++ u16 s.2)

sizes_exact : (buckets levels : Bool) → IsExact (AreSizes buckets levels) sizes_text (sizes_at buckets levels)
unfolding sizes_at sizes_text
sizes_exact buckets levels =
    exact_three (IsTested (2 ^ 64) (allows buckets MIN_SSTABLE_SIZE)) u64 (checked (allows buckets MIN_SSTABLE_SIZE) u64_at)
    (λ a b. IsTested (2 ^ 16) (allows levels SSTABLE_SIZE_IN_MB) b) u16 (λ a. checked (allows levels SSTABLE_SIZE_IN_MB) u16_at)
    (λ a b c. IsTested (2 ^ 16) (allows levels FANOUT_SIZE) c) u16 (λ a b. checked (allows levels FANOUT_SIZE) u16_at)
    (AreSizes buckets levels) sizes_text (λ a b c. (a, b, c))
    (tested64 (allows buckets MIN_SSTABLE_SIZE)) (λ a fit. tested16 (allows levels SSTABLE_SIZE_IN_MB)) (λ a b fit-a fit-b. tested16 (allows levels FANOUT_SIZE))
    (λ a b c fit-a fit-b fit-c. ((fit-a, fit-b, fit-c), refl))
    (λ s fit. (s.0, s.1, s.2, fit.0, fit.1, fit.2, refl))

abbrev IsWindow : Bool → WindowUnit × ℕ → Type 0
IsWindow has w = (Unit {0} × (allows_unit has w.0 ≡ true)) × IsTested (2 ^ 16) (allows has WINDOW_SIZE) w.1

window_text : WindowUnit × ℕ → List ℕ
window_text w = u8 (unit_code w.0) ++ u16 w.1

window_exact : (has : Bool) → IsExact (IsWindow has) window_text (window_at has)
unfolding window_at unit_at window_text
window_exact has =
    exact_two (λ u. Unit {0} × (allows_unit has u ≡ true)) (λ u. u8 (unit_code u)) (checked (allows_unit has) (coded_at 2 unit_of))
    (λ u n. IsTested (2 ^ 16) (allows has WINDOW_SIZE) n) u16 (λ u. checked (allows has WINDOW_SIZE) u16_at) (IsWindow has) window_text (λ u n. (u, n))
    (exact_checked (λ u. Unit {0}) (λ u. u8 (unit_code u)) (coded_at 2 unit_of) (allows_unit has) unit_exact)
    (λ u fit. tested16 (allows has WINDOW_SIZE))
    (λ u n fit-u fit-n. ((fit-u, fit-n), refl))
    (λ w fit. (w.0, w.1, fit.0, fit.1, refl))

-- ---- the whole

fits_made : (a : ℕ × ℕ × Strategy) (b : ℕ × ℕ × ℕ × ℕ) (s : ℕ × ℕ × ℕ) (w : WindowUnit × ℕ) → AreAges a → AreBuckets (has_buckets a.2) b
    → AreSizes (has_buckets a.2) (is_leveled a.2) s → IsWindow (has_windows a.2) w → FitsOptions (made_options a b s w)
fits_made a b s w fit-a fit-b fit-s fit-w = record {
  grace = (ends 0 GRACE_LIMIT a.0 fit-a.0.1).1;
  ttl = (ends 0 TTL_LIMIT a.1 fit-a.1.1).1;
  fewest = fit-b.0.1;
  most = fit-b.1.1;
  low = fit-b.2.1;
  high = fit-b.3.1;
  least_size = fit-s.0.1;
  table_size = fit-s.1.1;
  fanout = fit-s.2.1;
  unit = fit-w.0.1;
  window = fit-w.1.1;
}

ages_of : (grace ttl : ℕ) (strategy : Strategy) → grace ≤ GRACE_LIMIT → ttl ≤ TTL_LIMIT → AreAges (grace, ttl, strategy)
ages_of grace ttl strategy low below =
    ((omega arith, within 0 GRACE_LIMIT grace (omega arith) low), (omega arith, within 0 TTL_LIMIT ttl (omega arith) below))

most_of : (has : Bool) (fewest n : ℕ) → allows_most has fewest n ≡ true → n ≤ 64
most_of has fewest n e = allowed has MAX_THRESHOLD n (omega arith) (and_parts (allows has MAX_THRESHOLD n) (nat_le fewest n) e).0

buckets_of : (o : Options) → FitsOptions o → AreBuckets (has_buckets o.strategy) (o.min_threshold, o.max_threshold, o.bucket_low, o.bucket_high)
buckets_of o fit =
    let has = has_buckets o.strategy in
    let fewest : o.min_threshold ≤ 64 = allowed has MIN_THRESHOLD o.min_threshold (omega arith) fit.fewest in
    let most : o.max_threshold ≤ 64 = most_of has o.min_threshold o.max_threshold fit.most in
    let low : o.bucket_low ≤ 99 = allowed has BUCKET_LOW o.bucket_low (omega arith) fit.low in
    let high : o.bucket_high ≤ 10000 = allowed has BUCKET_HIGH o.bucket_high (omega arith) fit.high in
    ((omega arith, fit.fewest), (omega arith, fit.most), (omega arith, fit.low), (omega arith, fit.high))

sizes_of : (o : Options) → FitsOptions o → AreSizes (has_buckets o.strategy) (is_leveled o.strategy) (o.min_sstable_size, o.sstable_size_in_mb, o.fanout_size)
sizes_of o fit =
    let least : o.min_sstable_size ≤ 1099511627776 = allowed (has_buckets o.strategy) MIN_SSTABLE_SIZE o.min_sstable_size (omega arith) fit.least_size in
    let table : o.sstable_size_in_mb ≤ 1024 = allowed (is_leveled o.strategy) SSTABLE_SIZE_IN_MB o.sstable_size_in_mb (omega arith) fit.table_size in
    let fanout : o.fanout_size ≤ 100 = allowed (is_leveled o.strategy) FANOUT_SIZE o.fanout_size (omega arith) fit.fanout in
    ((omega arith, fit.least_size), (omega arith, fit.table_size), (omega arith, fit.fanout))

window_of : (o : Options) → FitsOptions o → IsWindow (has_windows o.strategy) (o.unit, o.window)
window_of o fit =
    let size : o.window ≤ 65535 = allowed (has_windows o.strategy) WINDOW_SIZE o.window (omega arith) fit.window in
    ((tt, fit.unit), (omega arith, fit.window))

pub options_exact : IsExact FitsOptions options_bytes options_at
unfolding options_at ages_text buckets_text sizes_text window_text
options_exact =
    exact_four AreAges ages_text ages_at (λ a b. AreBuckets (has_buckets a.2) b) buckets_text (λ a. buckets_at (has_buckets a.2))
    (λ a b s. AreSizes (has_buckets a.2) (is_leveled a.2) s) sizes_text (λ a b. sizes_at (has_buckets a.2) (is_leveled a.2))
    (λ a b s w. IsWindow (has_windows a.2) w) window_text (λ a b s. window_at (has_windows a.2))
    FitsOptions options_bytes (λ a b s w. made_options a b s w)
    ages_exact (λ a fit. buckets_exact (has_buckets a.2)) (λ a b fit-a fit-b. sizes_exact (has_buckets a.2) (is_leveled a.2))
    (λ a b s fit-a fit-b fit-s. window_exact (has_windows a.2))
    (λ a b s w fit-a fit-b fit-s fit-w. (fits_made a b s w fit-a fit-b fit-s fit-w, refl))
    (λ o fit. (
      (o.gc_grace_seconds, o.default_time_to_live, o.strategy),
      (o.min_threshold, o.max_threshold, o.bucket_low, o.bucket_high),
      (o.min_sstable_size, o.sstable_size_in_mb, o.fanout_size),
      (o.unit, o.window),
      ages_of o.gc_grace_seconds o.default_time_to_live o.strategy fit.grace fit.ttl,
      buckets_of o fit,
      sizes_of o fit,
      window_of o fit,
      refl,
    ))
