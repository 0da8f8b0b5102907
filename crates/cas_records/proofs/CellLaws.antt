-- Deletions, what an INSERT leaves of a row, and cells are read exactly, and are as long as the log's measure says.
use Rattle.std.proofs.Common.{◌≡◌, ℕ, ℤ, zero, suc, ◌<◌, ◌≤◌, leb, ◌+◌, ◌^◌, Bool, true, false, List, [], ◌++◌, length, Ok, refl, sym, ap, ◌∙◌, arith}
use Rattle.std.specs.Prelude.{FitsSigned}
use Rattle.std.specs.Int.{w64, is_in_range}
use Rattle.std.proofs.lemmas.Bool.{leb-true, le-leb, and_parts, and_from}
use Rattle.std.proofs.lemmas.List.{length-append, append-nil}
use Rattle.cas_codec.specs.Reading.{◌>>=◌, checked, u8_at, u32_at, i64_at, flag_at, bytes16_at, bytes32_at}
use Rattle.cas_codec.specs.Fields.{u8, u32, i64, flag, bytes16, bytes32}
use Rattle.cas_codec.specs.Exact.{IsExact}
use Rattle.cas_codec.proofs.Exactness.{exact_then, exact_done, exact_checked, exact_map, exact_as}
use Rattle.cas_codec.proofs.FieldLaws.{u8_field, u32_field, i64_field, flag_field, bytes16_field, bytes32_field}
use Rattle.cas_codec.proofs.FieldLengths.{u8_long, u32_long, i64_long, bytes32_long}
use Rattle.cas_cell.specs.declared.deletion.Deletion.{Deletion}
use Rattle.cas_cell.specs.declared.liveness.Liveness.{Liveness}
use Rattle.cas_cell.specs.declared.liveness.Liveness.TheVariants as live
use Rattle.cas_cell.specs.declared.cell.Cell.{Cell}
use Rattle.cas_cell.specs.declared.cell.Cell.TheVariants as cell
use Rattle.cas_cell.specs.Cells.{cell_rank}
use Rattle.cas_atoms.specs.LogLength.{deletion_length, live_length, cell_length}
use Rattle.cas_atoms.specs.Fits.{is_timestamp, is_ttl, FitsTimestamp, FitsTtl, FitsDeletion, FitsLive, FitsCell, FitsKey}
use Rattle.cas_types.specs.declared.limits.TheConstants.{KEY_LIMIT}
use Rattle.cas_records.specs.Allowed.{FitsContent}
use Rattle.cas_records.specs.Spelling.{deletion_bytes, live_bytes, cell_bytes}
use Rattle.cas_records.specs.Reading.{timestamp_at, ttl_at, key_at, deletion_at, live_rest_at, live_at, content_at, cell_rest_at, cell_at}

true_false : true ≡ false → ⊥
true_false e = cc

pub timestamp_exact : IsExact FitsTimestamp i64 timestamp_at
unfolding timestamp_at is_timestamp
timestamp_exact = exact_checked (FitsSigned w64) i64 i64_at is_timestamp i64_field.exact

pub ttl_exact : IsExact FitsTtl u32 ttl_at
unfolding ttl_at is_ttl
ttl_exact = exact_checked (λ n. n < 2 ^ 32) u32 u32_at is_ttl u32_field.exact

content_exact : (allows : List ℕ → Bool) → IsExact (FitsContent allows) bytes32 (content_at allows)
unfolding content_at checked
content_exact allows = exact_checked (λ b. length b < 2 ^ 32) bytes32 bytes32_at allows bytes32_field.exact

key_within : (n : ℕ) → is_in_range 1 KEY_LIMIT n ≡ true → (1 ≤ n) × (n ≤ KEY_LIMIT)
key_within n e =
    let p = and_parts (leb 1 n) (leb n KEY_LIMIT) e in
    (leb-true 1 n p.0, leb-true n KEY_LIMIT p.1)

within_key : (n : ℕ) → 1 ≤ n → n ≤ KEY_LIMIT → is_in_range 1 KEY_LIMIT n ≡ true
within_key n least most = and_from (leb 1 n) (leb n KEY_LIMIT) (le-leb 1 n least) (le-leb n KEY_LIMIT most)

pub key_exact : IsExact FitsKey bytes16 key_at
unfolding key_at
key_exact =
    exact_as (λ b. (length b < 2 ^ 16) × (is_in_range 1 KEY_LIMIT (length b) ≡ true)) FitsKey bytes16 bytes16 _ key_at
    (exact_checked (λ b. length b < 2 ^ 16) bytes16 bytes16_at (λ b. is_in_range 1 KEY_LIMIT (length b)) bytes16_field.exact)
    (λ b fit. key_within (length b) fit.1)
    (λ b fit. let most : length b ≤ KEY_LIMIT = fit.1 in (omega arith, within_key (length b) fit.0 most))
    (λ b. refl) (λ left. refl)

-- ---- deletions

made_deletion : ℤ → ℤ → Deletion
made_deletion at second = record { at = at; second = second }

deletion_is : (d : Deletion) (at : ℤ) → d.at ≡ at → made_deletion at d.second ≡ d
unfolding made_deletion
deletion_is d at is = ap (λ (z : ℤ). made_deletion z d.second) (sym is)

pub deletion_exact : IsExact FitsDeletion deletion_bytes deletion_at
unfolding deletion_bytes deletion_at made_deletion
deletion_exact =
    exact_then FitsTimestamp i64 timestamp_at FitsDeletion deletion_bytes (λ at d. d.at ≡ at) (λ at d. i64 d.second)
    (λ before at left. i64_at left >>= λ second. Ok (made_deletion at second.0, second.1))
    timestamp_exact
    (λ before at fits. exact_map (FitsSigned w64) i64 i64_at (λ d. FitsDeletion d × (d.at ≡ at)) (λ d. i64 d.second) (λ second. made_deletion at second)
    i64_field.exact
    (λ second fit. (((fits, fit), refl), refl))
    (λ d fit. (d.second, fit.0.1, deletion_is d at fit.1)))
    (λ d fit. (d.at, fit.0, refl))
    (λ at d fit is. ap (λ (z : ℤ). i64 z ++ i64 d.second) is)

-- ---- what an INSERT leaves of a row

expires : Liveness → Bool
expires (live.Plain at) = false
expires (live.Expiring at expiry ttl) = true

live_stamp : Liveness → ℤ
live_stamp (live.Plain at) = at
live_stamp (live.Expiring at expiry ttl) = at

live_expiry : Liveness → ℤ
live_expiry (live.Plain at) = at
live_expiry (live.Expiring at expiry ttl) = expiry

live_ttl : Liveness → ℕ
live_ttl (live.Plain at) = 0
live_ttl (live.Expiring at expiry ttl) = ttl

live_tail : Liveness → List ℕ
live_tail (live.Plain at) = []
live_tail (live.Expiring at expiry ttl) = i64 expiry ++ u32 ttl

abbrev HasExpiry : Bool → ℤ → Liveness → Type 0
HasExpiry a at l = (FitsLive l × (expires l ≡ a)) × (live_stamp l ≡ at)

live_is : (l : Liveness) → live_bytes l ≡ flag (expires l) ++ (i64 (live_stamp l) ++ live_tail l)
unfolding expires live_stamp live_tail
live_is (live.Plain at) = ap (λ (t : List ℕ). u8 0 ++ t) (sym (append-nil (i64 at)))
live_is (live.Expiring at expiry ttl) = refl

live_spelled : (a : Bool) (l : Liveness) → expires l ≡ a → live_bytes l ≡ flag a ++ (i64 (live_stamp l) ++ live_tail l)
live_spelled a l is = live_is l ∙ ap (λ (b : Bool). flag b ++ (i64 (live_stamp l) ++ live_tail l)) is

live_stamp_fits : (l : Liveness) → FitsLive l → FitsTimestamp (live_stamp l)
unfolding live_stamp
live_stamp_fits (live.Plain at) fit = fit
live_stamp_fits (live.Expiring at expiry ttl) fit = fit.0

plain_alone : (l : Liveness) (at : ℤ) → HasExpiry false at l → (l ≡ live.Plain at) × (live_tail l ≡ [])
unfolding expires live_stamp live_tail
plain_alone (live.Plain z) at fit = (ap (λ (y : ℤ). live.Plain y) fit.1, refl)
plain_alone (live.Expiring z expiry ttl) at fit = absurd (true_false fit.0.1)

expiring_made : (l : Liveness) (at expiry : ℤ) → HasExpiry true at l × (live_expiry l ≡ expiry)
    → (n : ℕ) × FitsTtl n × (live.Expiring at expiry n ≡ l)
unfolding expires live_stamp live_expiry
expiring_made (live.Plain z) at expiry fit = absurd (true_false (sym fit.0.0.1))
expiring_made (live.Expiring z y n) at expiry fit =
    (n, fit.0.0.0.2, ap (λ (x : ℤ). live.Expiring x expiry n) (sym fit.0.1) ∙ ap (λ (x : ℤ). live.Expiring z x n) (sym fit.1))

live_expiry_fits : (l : Liveness) (at : ℤ) → HasExpiry true at l → FitsSigned w64 (live_expiry l)
unfolding expires live_expiry
live_expiry_fits (live.Plain z) at fit = absurd (true_false (sym fit.0.1))
live_expiry_fits (live.Expiring z y n) at fit = fit.0.0.1

live_tail_is : (l : Liveness) (at expiry : ℤ) → HasExpiry true at l → live_expiry l ≡ expiry → live_tail l ≡ i64 expiry ++ u32 (live_ttl l)
unfolding expires live_expiry live_tail live_ttl
live_tail_is (live.Plain z) at expiry fit is = absurd (true_false (sym fit.0.1))
live_tail_is (live.Expiring z y n) at expiry fit is = ap (λ (x : ℤ). i64 x ++ u32 n) is

live_rest_exact : (a : Bool) (at : ℤ) → FitsTimestamp at → IsExact (HasExpiry a at) live_tail (live_rest_at a at)
unfolding expires live_stamp live_expiry live_ttl live_tail
live_rest_exact false at fits =
    exact_done (HasExpiry false at) live_tail (live.Plain at) ((fits, refl), refl) (λ l fit. plain_alone l at fit)
live_rest_exact true at fits =
    exact_then (FitsSigned w64) i64 i64_at (HasExpiry true at) live_tail (λ e l. live_expiry l ≡ e) (λ e l. u32 (live_ttl l))
    (λ before e left. ttl_at left >>= λ ttl. Ok (live.Expiring at e ttl.0, ttl.1))
    i64_field.exact
    (λ before e fits-e. exact_map FitsTtl u32 ttl_at (λ l. HasExpiry true at l × (live_expiry l ≡ e)) (λ l. u32 (live_ttl l)) (λ n. live.Expiring at e n)
    ttl_exact
    (λ n fits-n. (((((fits, fits-e, fits-n), refl), refl), refl), refl))
    (λ l fit. expiring_made l at e fit))
    (λ l fit. (live_expiry l, live_expiry_fits l at fit, refl))
    (λ e l fit is. live_tail_is l at e fit is)

live_stamped : (a : Bool) → IsExact (λ l. FitsLive l × (expires l ≡ a)) (λ l. i64 (live_stamp l) ++ live_tail l)
    (λ left. timestamp_at left >>= λ at. live_rest_at a at.0 at.1)
live_stamped a =
    exact_then FitsTimestamp i64 timestamp_at (λ l. FitsLive l × (expires l ≡ a)) (λ l. i64 (live_stamp l) ++ live_tail l)
    (λ at l. live_stamp l ≡ at) (λ at l. live_tail l) (λ before at left. live_rest_at a at left)
    timestamp_exact
    (λ before at fits. live_rest_exact a at fits)
    (λ l fit. (live_stamp l, live_stamp_fits l fit.0, refl))
    (λ at l fit is. ap (λ (z : ℤ). i64 z ++ live_tail l) is)

pub live_exact : IsExact FitsLive live_bytes live_at
unfolding live_at
live_exact =
    exact_then (λ x. Unit {0}) flag flag_at FitsLive live_bytes (λ a l. expires l ≡ a) (λ a l. i64 (live_stamp l) ++ live_tail l)
    (λ before a left. timestamp_at left >>= λ at. live_rest_at a at.0 at.1)
    flag_field.exact
    (λ before a fit. live_stamped a)
    (λ l fit. (expires l, tt, refl))
    (λ a l fit is. live_spelled a l is)

-- ---- cells

cell_stamp : Cell → ℤ
cell_stamp (cell.Plain at value) = at
cell_stamp (cell.Expiring at expiry ttl value) = at
cell_stamp (cell.Tombstone at second) = at

cell_tail : Cell → List ℕ
cell_tail (cell.Plain at value) = bytes32 value
cell_tail (cell.Expiring at expiry ttl value) = i64 expiry ++ (u32 ttl ++ bytes32 value)
cell_tail (cell.Tombstone at second) = i64 second

cell_expiry : Cell → ℤ
cell_expiry (cell.Plain at value) = at
cell_expiry (cell.Expiring at expiry ttl value) = expiry
cell_expiry (cell.Tombstone at second) = at

cell_ttl : Cell → ℕ
cell_ttl (cell.Plain at value) = 0
cell_ttl (cell.Expiring at expiry ttl value) = ttl
cell_ttl (cell.Tombstone at second) = 0

cell_content : Cell → List ℕ
cell_content (cell.Plain at value) = value
cell_content (cell.Expiring at expiry ttl value) = value
cell_content (cell.Tombstone at second) = []

abbrev HasRank : (List ℕ → Bool) → ℕ → ℤ → Cell → Type 0
HasRank allows n at c = (FitsCell (FitsContent allows) c × (cell_rank c ≡ n)) × (cell_stamp c ≡ at)

abbrev IsRank : ℕ → Type 0
IsRank n = (n < 2 ^ 8) × (is_in_range 0 2 n ≡ true)

cell_is : (c : Cell) → cell_bytes c ≡ u8 (cell_rank c) ++ (i64 (cell_stamp c) ++ cell_tail c)
unfolding cell_stamp cell_tail
cell_is (cell.Plain at value) = refl
cell_is (cell.Expiring at expiry ttl value) = refl
cell_is (cell.Tombstone at second) = refl

cell_spelled : (n : ℕ) (c : Cell) → cell_rank c ≡ n → cell_bytes c ≡ u8 n ++ (i64 (cell_stamp c) ++ cell_tail c)
cell_spelled n c is = cell_is c ∙ ap (λ (m : ℕ). u8 m ++ (i64 (cell_stamp c) ++ cell_tail c)) is

cell_stamp_fits : (allows : List ℕ → Bool) (c : Cell) → FitsCell (FitsContent allows) c → FitsTimestamp (cell_stamp c)
unfolding cell_stamp
cell_stamp_fits allows (cell.Plain at value) fit = fit.0
cell_stamp_fits allows (cell.Expiring at expiry ttl value) fit = fit.0
cell_stamp_fits allows (cell.Tombstone at second) fit = fit.0

rank_fits : (c : Cell) → IsRank (cell_rank c)
rank_fits (cell.Plain at value) = (omega arith, refl)
rank_fits (cell.Expiring at expiry ttl value) = (omega arith, refl)
rank_fits (cell.Tombstone at second) = (omega arith, refl)

plain_made : (allows : List ℕ → Bool) (at : ℤ) (c : Cell) → HasRank allows 0 at c → (value : List ℕ) × FitsContent allows value × (cell.Plain at value ≡ c)
unfolding cell_stamp
plain_made allows at (cell.Plain z value) fit = (value, fit.0.0.1, ap (λ (y : ℤ). cell.Plain y value) (sym fit.1))
plain_made allows at (cell.Expiring z expiry ttl value) fit = let no : 1 ≡ 0 = fit.0.1 in absurd (omega arith)
plain_made allows at (cell.Tombstone z second) fit = let no : 2 ≡ 0 = fit.0.1 in absurd (omega arith)

tombstone_made : (allows : List ℕ → Bool) (at : ℤ) (c : Cell) → HasRank allows 2 at c → (second : ℤ) × FitsSigned w64 second × (cell.Tombstone at second ≡ c)
unfolding cell_stamp
tombstone_made allows at (cell.Plain z value) fit = let no : 0 ≡ 2 = fit.0.1 in absurd (omega arith)
tombstone_made allows at (cell.Expiring z expiry ttl value) fit = let no : 1 ≡ 2 = fit.0.1 in absurd (omega arith)
tombstone_made allows at (cell.Tombstone z second) fit = (second, fit.0.0.1, ap (λ (y : ℤ). cell.Tombstone y second) (sym fit.1))

ttl_made : (allows : List ℕ → Bool) (at : ℤ) (c : Cell) → HasRank allows 1 at c
    → (FitsSigned w64 (cell_expiry c)) × FitsTtl (cell_ttl c) × FitsContent allows (cell_content c) × (cell.Expiring at (cell_expiry c) (cell_ttl c) (cell_content c) ≡ c)
    × (cell_tail c ≡ i64 (cell_expiry c) ++ (u32 (cell_ttl c) ++ bytes32 (cell_content c)))
unfolding cell_stamp cell_expiry cell_ttl cell_content cell_tail
ttl_made allows at (cell.Plain z value) fit = let no : 0 ≡ 1 = fit.0.1 in absurd (omega arith)
ttl_made allows at (cell.Expiring z expiry ttl value) fit =
    (fit.0.0.1, fit.0.0.2, fit.0.0.3, ap (λ (y : ℤ). cell.Expiring y expiry ttl value) (sym fit.1), refl)
ttl_made allows at (cell.Tombstone z second) fit = let no : 2 ≡ 1 = fit.0.1 in absurd (omega arith)

expiring_exact : (allows : List ℕ → Bool) (at : ℤ) → FitsTimestamp at → IsExact (HasRank allows 1 at) cell_tail (cell_rest_at allows 1 at)
unfolding cell_stamp cell_expiry cell_ttl cell_content
expiring_exact allows at fits =
    exact_then (FitsSigned w64) i64 i64_at (HasRank allows 1 at) cell_tail (λ e c. cell_expiry c ≡ e) (λ e c. u32 (cell_ttl c) ++ bytes32 (cell_content c))
    (λ before e left. ttl_at left >>= λ ttl. content_at allows ttl.1 >>= λ value. Ok (cell.Expiring at e ttl.0 value.0, value.1))
    i64_field.exact
    (λ before e fits-e. exact_then FitsTtl u32 ttl_at (λ c. HasRank allows 1 at c × (cell_expiry c ≡ e)) (λ c. u32 (cell_ttl c) ++ bytes32 (cell_content c))
    (λ n c. cell_ttl c ≡ n) (λ n c. bytes32 (cell_content c))
    (λ before n left. content_at allows left >>= λ value. Ok (cell.Expiring at e n value.0, value.1))
    ttl_exact
    (λ before n fits-n. exact_map (FitsContent allows) bytes32 (content_at allows)
    (λ c. (HasRank allows 1 at c × (cell_expiry c ≡ e)) × (cell_ttl c ≡ n)) (λ c. bytes32 (cell_content c)) (λ value. cell.Expiring at e n value)
    (content_exact allows)
    (λ value fits-v. (((((((fits, fits-e, fits-n, fits-v), refl), refl), refl), refl)), refl))
    (λ c fit. let m = ttl_made allows at c fit.0.0 in (
      cell_content c,
      m.2,
      ap (λ (x : ℤ). cell.Expiring at x n (cell_content c)) (sym fit.0.1) ∙ ap (λ (x : ℕ). cell.Expiring at (cell_expiry c) x (cell_content c)) (sym fit.1) ∙ m.3,
    )))
    (λ c fit. (cell_ttl c, (ttl_made allows at c fit.0).1, refl))
    (λ n c fit is. ap (λ (x : ℕ). u32 x ++ bytes32 (cell_content c)) is))
    (λ c fit. (cell_expiry c, (ttl_made allows at c fit).0, refl))
    (λ e c fit is. (ttl_made allows at c fit).4 ∙ ap (λ (x : ℤ). i64 x ++ (u32 (cell_ttl c) ++ bytes32 (cell_content c))) is)

above_2 : (n : ℕ) → is_in_range 0 2 (suc (suc (suc n))) ≡ true → ⊥
above_2 n within =
    let most : suc (suc (suc n)) ≤ 2 = leb-true _ 2 (and_parts (leb 0 (suc (suc (suc n)))) (leb (suc (suc (suc n))) 2) within).1 in
    omega arith

cell_rest_exact : (allows : List ℕ → Bool) (n : ℕ) (at : ℤ) → IsRank n → FitsTimestamp at → IsExact (HasRank allows n at) cell_tail (cell_rest_at allows n at)
unfolding cell_stamp cell_tail
cell_rest_exact allows zero at rank fits =
    exact_map (FitsContent allows) bytes32 (content_at allows) (HasRank allows 0 at) cell_tail (λ value. cell.Plain at value)
    (content_exact allows)
    (λ value fit. ((((fits, fit), refl), refl), refl))
    (λ c fit. plain_made allows at c fit)
cell_rest_exact allows (suc zero) at rank fits = expiring_exact allows at fits
cell_rest_exact allows (suc (suc zero)) at rank fits =
    exact_map (FitsSigned w64) i64 i64_at (HasRank allows 2 at) cell_tail (λ second. cell.Tombstone at second)
    i64_field.exact
    (λ second fit. ((((fits, fit), refl), refl), refl))
    (λ c fit. tombstone_made allows at c fit)
cell_rest_exact allows (suc (suc (suc n))) at rank fits = absurd (above_2 n rank.1)

cell_stamped : (allows : List ℕ → Bool) (n : ℕ) → IsRank n → IsExact (λ c. FitsCell (FitsContent allows) c × (cell_rank c ≡ n)) (λ c. i64 (cell_stamp c) ++ cell_tail c)
    (λ left. timestamp_at left >>= λ at. cell_rest_at allows n at.0 at.1)
cell_stamped allows n rank =
    exact_then FitsTimestamp i64 timestamp_at (λ c. FitsCell (FitsContent allows) c × (cell_rank c ≡ n)) (λ c. i64 (cell_stamp c) ++ cell_tail c)
    (λ at c. cell_stamp c ≡ at) (λ at c. cell_tail c) (λ before at left. cell_rest_at allows n at left)
    timestamp_exact
    (λ before at fits. cell_rest_exact allows n at rank fits)
    (λ c fit. (cell_stamp c, cell_stamp_fits allows c fit.0, refl))
    (λ at c fit is. ap (λ (z : ℤ). i64 z ++ cell_tail c) is)

pub cell_exact : (allows : List ℕ → Bool) → IsExact (FitsCell (FitsContent allows)) cell_bytes (cell_at allows)
unfolding cell_at
cell_exact allows =
    exact_then IsRank u8 (checked (is_in_range 0 2) u8_at) (FitsCell (FitsContent allows)) cell_bytes (λ n c. cell_rank c ≡ n) (λ n c. i64 (cell_stamp c) ++ cell_tail c)
    (λ before n left. timestamp_at left >>= λ at. cell_rest_at allows n at.0 at.1)
    (exact_checked (λ n. n < 2 ^ 8) u8 u8_at (is_in_range 0 2) u8_field.exact)
    (λ before n rank. cell_stamped allows n rank)
    (λ c fit. (cell_rank c, rank_fits c, refl))
    (λ n c fit is. cell_spelled n c is)

-- ---- lengths

pub deletion_long : (d : Deletion) → length (deletion_bytes d) ≡ deletion_length
unfolding deletion_bytes
deletion_long d = omega (arith, length-append (i64 d.at) (i64 d.second), i64_long d.at, i64_long d.second)

pub live_long : (l : Liveness) → length (live_bytes l) ≡ live_length l
live_long (live.Plain at) = omega (arith, length-append (u8 0) (i64 at), u8_long 0, i64_long at)
live_long (live.Expiring at expiry ttl) =
    omega (
      arith,
      length-append (u8 1) (i64 at ++ (i64 expiry ++ u32 ttl)),
      length-append (i64 at) (i64 expiry ++ u32 ttl),
      length-append (i64 expiry) (u32 ttl),
      u8_long 1,
      i64_long at,
      i64_long expiry,
      u32_long ttl,
    )

pub cell_long : (c : Cell) → length (cell_bytes c) ≡ cell_length c
cell_long (cell.Plain at value) =
    omega (arith, length-append (u8 0) (i64 at ++ bytes32 value), length-append (i64 at) (bytes32 value), u8_long 0, i64_long at, bytes32_long value)
cell_long (cell.Expiring at expiry ttl value) =
    omega (
      arith,
      length-append (u8 1) (i64 at ++ (i64 expiry ++ (u32 ttl ++ bytes32 value))),
      length-append (i64 at) (i64 expiry ++ (u32 ttl ++ bytes32 value)),
      length-append (i64 expiry) (u32 ttl ++ bytes32 value),
      length-append (u32 ttl) (bytes32 value),
      u8_long 1,
      i64_long at,
      i64_long expiry,
      u32_long ttl,
      bytes32_long value,
    )
cell_long (cell.Tombstone at second) =
    omega (arith, length-append (u8 2) (i64 at ++ i64 second), length-append (i64 at) (i64 second), u8_long 2, i64_long at, i64_long second)
