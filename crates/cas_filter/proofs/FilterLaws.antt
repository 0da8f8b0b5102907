-- What a filter says of keys.
use Rattle.std.proofs.Common.{◌≡◌, ℕ, suc, ◌+◌, ◌*◌, ◌/◌, ◌%◌, ◌^◌, ◌<◌, Bool, true, false, eqb, ◌||◌, List, [], ◌∷◌, ◌++◌, map, length, get_or, replicate, refl, sym, ap, ◌∙◌, arith}
use Rattle.std.specs.Prelude.{bit_and, bit_or}
use Rattle.std.proofs.Math.Path.{fun_ext}
use Rattle.std.specs.Int.{bit_at}
use Rattle.std.specs.List.{list_any, list_all, range_with_len, Contains, All}
use Rattle.std.proofs.lemmas.Bool.{eq-eqb, and_from}
use Rattle.std.proofs.lemmas.Nat.{mod_below, mul-lt, or_lt, and_le_r}
use Rattle.std.proofs.lemmas.Nat.Bits.{bit_at-lt, bit_at-zero, same_from_bits_below}
use Rattle.std.proofs.lemmas.List.{length-replicate, get_or-replicate}
use Rattle.std.proofs.lemmas.List.Elements.{All-contains, All-get_or, All-replicate}
use Rattle.std.proofs.lemmas.List.Folds.{list_any-append, Any-from_list_any, list_any_at, list_all_at, list_all-append}
use Rattle.std.proofs.lemmas.List.FromFn.{length-map-range_with_len, get_or-map-range_with_len, map-range_with_len_more, fill_by_all}
use Rattle.cas_filter.specs.declared.hashing.TheConstants.{PROBES}
use Rattle.cas_filter.specs.Hashing.{hash, probe, probes}
use Rattle.cas_filter.specs.Filters.{is_set, may_hold, is_probe, is_probed, byte_of, filter_of}
use Rattle.cas_filter.specs.Laws.{SetsWhatIsProbed, IsOnlyFilter, HoldsItsKeys, HasNoOrder}
use Rattle.cas_filter.proofs.Bits.{byte_below, bit_is, same_bit, or_none}

-- the filter in which the test says of each bit whether it is set
abbrev filter_by : ℕ → (ℕ → Bool) → List ℕ
filter_by bits test = map (λ i. byte_of (λ j. test (8 * i + j))) (range_with_len 0 (bits / 8))

length_by : (bits : ℕ) (test : ℕ → Bool) → length (filter_by bits test) ≡ bits / 8
length_by bits test = length-map-range_with_len (λ i. byte_of (λ j. test (8 * i + j))) 0 (bits / 8)

set_by_test : (bits : ℕ) (test : ℕ → Bool) (p : ℕ) → bits % 8 ≡ 0 → p < bits → is_set (filter_by bits test) p ≡ test p
unfolding is_set
set_by_test bits test p whole within =
    let here : p / 8 < bits / 8 = omega arith in
    let back : 8 * (p / 8) + p % 8 ≡ p = omega arith in
    ap (λ (n : ℕ). eqb (bit_at n (p % 8)) 1)
    (get_or-map-range_with_len (λ i. byte_of (λ j. test (8 * i + j))) 0 (bits / 8) (p / 8) (p / 8) 0 here (omega arith))
    ∙ bit_is (λ j. test (8 * (p / 8) + j)) (p % 8) (omega arith)
    ∙ ap test back

only_by : (bits : ℕ) (test : ℕ → Bool) (filter : List ℕ) → 8 * length filter ≡ bits → All (λ b. b < 256) filter → ((p : ℕ) → p < bits → is_set filter p ≡ test p)
    → filter ≡ filter_by bits test
unfolding is_set
only_by bits test filter long are same =
    fill_by_all (λ i. byte_of (λ j. test (8 * i + j))) filter (bits / 8) 0 (omega arith)
    (λ k here.
    let within : k < length filter = omega arith in
    same_from_bits_below 8 (get_or filter k 0) (byte_of (λ j. test (8 * k + j))) (All-get_or (λ b. b < 256) filter k 0 within are) (byte_below (λ j. test (8 * k + j)))
    (λ i below.
    let first : (8 * k + i) / 8 ≡ k = omega arith in
    let second : (8 * k + i) % 8 ≡ i = omega arith in
    let whole : eqb (bit_at (get_or filter ((8 * k + i) / 8) 0) ((8 * k + i) % 8)) 1 ≡ test (8 * k + i) = same (8 * k + i) (omega arith) in
    let placed : eqb (bit_at (get_or filter k 0) i) 1 ≡ test (8 * k + i) =
    ap (λ (m : ℕ). eqb (bit_at (get_or filter k 0) m) 1) (sym second) ∙ ap (λ (m : ℕ). eqb (bit_at (get_or filter m 0) ((8 * k + i) % 8)) 1) (sym first) ∙ whole in
    same_bit (bit_at (get_or filter k 0) i) (bit_at (byte_of (λ j. test (8 * k + j))) i) (bit_at-lt (get_or filter k 0) i) (bit_at-lt (byte_of (λ j. test (8 * k + j))) i)
    (placed ∙ sym (bit_is (λ j. test (8 * k + j)) i below))))

pub length_of : (bits : ℕ) (keys : List (List ℕ)) → length (filter_of bits keys) ≡ bits / 8
unfolding filter_of
length_of bits keys = length_by bits (is_probed bits keys)

pub sets_what_is_probed : SetsWhatIsProbed
unfolding filter_of
sets_what_is_probed bits keys p whole within = set_by_test bits (is_probed bits keys) p whole within

pub is_only : IsOnlyFilter
unfolding filter_of
is_only bits keys filter long are same = only_by bits (is_probed bits keys) filter long are same

-- ---- the keys of a filter

pub probe_below : (bits h i : ℕ) → 0 < bits → probe bits h i < bits
unfolding probe
probe_below bits h i some = mod_below _ bits some

-- what holds of each number of a list that a function makes of numbers
all_made : (f : ℕ → ℕ) (test : ℕ → Bool) (xs : List ℕ) → ((x : ℕ) → Contains (map f xs) (f x) → test (f x) ≡ true) → list_all test (map f xs) ≡ true
all_made f test [] each = refl
all_made f test (x ∷ xs) each =
    and_from (test (f x)) (list_all test (map f xs)) (each x (0, omega arith, refl))
    (all_made f test xs (λ y there. each y (suc there.0, omega arith, there.2)))

probed_is : (bits : ℕ) (key : List ℕ) (q : ℕ) → Contains (probes bits key) q → is_probe bits key q ≡ true
unfolding is_probe
probed_is bits key q there = list_any_at (λ r. eqb r q) (probes bits key) there.0 q there.1 (eq-eqb _ q there.2)

pub holds_its_keys : HoldsItsKeys
unfolding may_hold probes is_probed
holds_its_keys bits keys key whole there =
    let all : 8 * length (filter_of bits keys) ≡ bits = omega (arith, length_of bits keys, whole.1) in
    ap (λ (n : ℕ). list_all (is_set (filter_of bits keys)) (map (probe n (hash key)) (range_with_len 0 PROBES))) all
    ∙ all_made (probe bits (hash key)) (is_set (filter_of bits keys)) (range_with_len 0 PROBES)
    (λ i among. sets_what_is_probed bits keys (probe bits (hash key) i) whole.1 (probe_below bits (hash key) i whole.0)
    ∙ list_any_at (λ k. is_probe bits k (probe bits (hash key) i)) keys there.0 key there.1
    (ap (λ k. is_probe bits k (probe bits (hash key) i)) there.2 ∙ probed_is bits key (probe bits (hash key) i) among))

same_answer : (a b : Bool) → (a ≡ true → b ≡ true) → (b ≡ true → a ≡ true) → a ≡ b
same_answer true b there back = sym (there refl)
same_answer false true there back = back refl
same_answer false false there back = refl

probed_among : (bits : ℕ) (keys others : List (List ℕ)) (p : ℕ) → All (Contains others) keys → is_probed bits keys p ≡ true → is_probed bits others p ≡ true
unfolding is_probed
probed_among bits keys others p each one =
    let (k, key, within, is, probed) = Any-from_list_any (λ k. is_probe bits k p) keys one in
    let there : Contains others key = All-contains (Contains others) keys key each (k, within, is) in
    list_any_at (λ k. is_probe bits k p) others there.0 key there.1 (ap (λ k. is_probe bits k p) there.2 ∙ probed)

pub has_no_order : HasNoOrder
unfolding filter_of
has_no_order bits keys others there back =
    let same : (p : ℕ) → is_probed bits keys p ≡ is_probed bits others p =
    λ p. same_answer (is_probed bits keys p) (is_probed bits others p) (probed_among bits keys others p there) (probed_among bits others keys p back) in
    ap (filter_by bits) (fun_ext same)

-- ---- one key more

probed_more : (bits : ℕ) (keys : List (List ℕ)) (key : List ℕ) (p : ℕ) → is_probed bits (keys ++ key ∷ []) p ≡ (is_probed bits keys p || is_probe bits key p)
unfolding is_probed
probed_more bits keys key p =
    list_any-append (λ k. is_probe bits k p) keys (key ∷ []) ∙ ap (λ (b : Bool). list_any (λ k. is_probe bits k p) keys || b) (or_none (is_probe bits key p))

pub added : (old new : List ℕ) (key : List ℕ) (keys : List (List ℕ)) → length new ≡ length old → All (λ b. b < 256) new
    → ((p : ℕ) → is_set new p ≡ (is_set old p || is_probe (8 * length old) key p))
    → old ≡ filter_of (8 * length old) keys → new ≡ filter_of (8 * length old) (keys ++ key ∷ [])
added old new key keys long are bits is =
    is_only (8 * length old) (keys ++ key ∷ []) new (omega arith) are
    (λ p within.
    bits p
    ∙ ap (λ (b : Bool). b || is_probe (8 * length old) key p)
    (ap (λ (f : List ℕ). is_set f p) is ∙ sets_what_is_probed (8 * length old) keys p (omega arith) within)
    ∙ sym (probed_more (8 * length old) keys key p))

or_parts : (a b c : Bool) → (a || b) || c ≡ (a || (b || c))
or_parts true b c = refl
or_parts false b c = refl

-- of a key's probes those before n
abbrev pub first_probes : ℕ → ℕ → ℕ → List ℕ
first_probes bits h n = map (probe bits h) (range_with_len 0 n)

pub one_probe_more : (old new newer : List ℕ) (bits h n : ℕ) → ((p : ℕ) → is_set new p ≡ (is_set old p || list_any (λ q. eqb q p) (first_probes bits h n)))
    → ((p : ℕ) → is_set newer p ≡ (is_set new p || eqb (probe bits h n) p))
    → (p : ℕ) → is_set newer p ≡ (is_set old p || list_any (λ q. eqb q p) (first_probes bits h (n + 1)))
one_probe_more old new newer bits h n so next p =
    next p ∙ ap (λ (b : Bool). b || eqb (probe bits h n) p) (so p)
    ∙ or_parts (is_set old p) (list_any (λ q. eqb q p) (first_probes bits h n)) (eqb (probe bits h n) p)
    ∙ ap (λ (b : Bool). is_set old p || b)
    (sym (ap (λ (xs : List ℕ). list_any (λ q. eqb q p) xs) (map-range_with_len_more (probe bits h) 0 n n (omega arith))
    ∙ list_any-append (λ q. eqb q p) (first_probes bits h n) (probe bits h n ∷ [])
    ∙ ap (λ (b : Bool). list_any (λ q. eqb q p) (first_probes bits h n) || b) (or_none (eqb (probe bits h n) p))))

pub one_answer_more : (filter : List ℕ) (bits h n : ℕ) → list_all (is_set filter) (first_probes bits h n) ≡ true → is_set filter (probe bits h n) ≡ true
    → list_all (is_set filter) (first_probes bits h (n + 1)) ≡ true
one_answer_more filter bits h n so next =
    ap (λ (xs : List ℕ). list_all (is_set filter) xs) (map-range_with_len_more (probe bits h) 0 n n (omega arith))
    ∙ list_all-append (is_set filter) (first_probes bits h n) (probe bits h n ∷ [])
    ∙ and_from _ _ so (and_from _ _ next refl)

pub one_no : (filter : List ℕ) (bits h i n : ℕ) → i < n → is_set filter (probe bits h i) ≡ false → list_all (is_set filter) (first_probes bits h n) ≡ false
one_no filter bits h i n within clear =
    list_all_at (is_set filter) (first_probes bits h n) i 0 (omega (arith, length-map-range_with_len (probe bits h) 0 n))
    (ap (λ (q : ℕ). is_set filter q) (get_or-map-range_with_len (probe bits h) 0 n i i 0 within (omega arith)) ∙ clear)

-- ---- no keys

no_probe : (bits p : ℕ) → is_probed bits [] p ≡ false
unfolding is_probed
no_probe bits p = refl

zero_clear : (n p : ℕ) → p < 8 * n → is_set (replicate n 0) p ≡ false
unfolding is_set
zero_clear n p within =
    ap (λ (b : ℕ). eqb (bit_at b (p % 8)) 1) (get_or-replicate n (p / 8) 0 0 (omega arith)) ∙ ap (λ (b : ℕ). eqb b 1) (bit_at-zero (p % 8))

pub no_keys : (bits n : ℕ) → 8 * n ≡ bits → replicate n 0 ≡ filter_of bits []
no_keys bits n long =
    is_only bits [] (replicate n 0) (omega (arith, length-replicate {A = ℕ} n 0)) (All-replicate (λ b. b < 256) n 0 (omega arith))
    (λ p within. zero_clear n p (omega arith) ∙ sym (no_probe bits p))

-- ---- what a probe takes

lower_below : (h : ℕ) → bit_or (bit_and h 4294967295) 1 < 2 ^ 32
lower_below h = or_lt 32 (bit_and h 4294967295) 1 (omega (arith, and_le_r h 4294967295)) (omega arith)

pub step_below : (h i : ℕ) → i < PROBES → i * bit_or (bit_and h 4294967295) 1 < 7 * 2 ^ 32
step_below h i within = mul-lt i (bit_or (bit_and h 4294967295) 1) 7 (2 ^ 32) within (lower_below h)

-- all of a key's probes are set
pub all_probes : (old new key : List ℕ) (bits h n : ℕ) → bits ≡ 8 * length old → h ≡ hash key → n ≡ PROBES
    → ((p : ℕ) → is_set new p ≡ (is_set old p || list_any (λ q. eqb q p) (first_probes bits h n)))
    → (p : ℕ) → is_set new p ≡ (is_set old p || is_probe (8 * length old) key p)
unfolding is_probe probes
all_probes old new key bits h n bits-is h-is n-is so p =
    so p
    ∙ ap (λ (m : ℕ). is_set old p || list_any (λ q. eqb q p) (first_probes m h n)) bits-is
    ∙ ap (λ (m : ℕ). is_set old p || list_any (λ q. eqb q p) (first_probes (8 * length old) m n)) h-is
    ∙ ap (λ (m : ℕ). is_set old p || list_any (λ q. eqb q p) (first_probes (8 * length old) (hash key) m)) n-is
