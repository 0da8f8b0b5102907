-- Items one after another, each above the one before it: their reading is exact where an item's is, and how a loop comes by them.
use Rattle.std.proofs.Common.{◌≡◌, ℕ, zero, suc, ◌+◌, ◌-◌, ◌<◌, ◌≤◌, ◌++◌, true, Option, None, Some, List, [], ◌∷◌, map, length, Ok, Err, refl, sym, ap, subst, ◌∙◌, append_assoc, arith}
use Rattle.std.specs.Prelude.{slice_get}
use Rattle.std.specs.Option.{option_map}
use Rattle.std.specs.List.{flat_map, AllByRecursion}
use Rattle.std.specs.List.Sorted.{IsStrictlySortedBy}
use Rattle.std.specs.declared.cmp.Ordering.{Ordering}
use Rattle.std.specs.declared.cmp.Ordering.TheVariants.{Less, Equal, Greater}
use Rattle.std.specs.Ordering.{is_lt}
use Rattle.std.specs.Cmp.{IsTotalOrder}
use Rattle.std.proofs.lemmas.List.{append-nil, length_push, get_or_push}
use Rattle.std.proofs.lemmas.Option.{slice_get-get_or}
use Rattle.cas_codec.specs.declared.fault.ReadFault.{ReadFault}
use Rattle.cas_codec.specs.Reading.{Left, Read, ◌>>=◌}
use Rattle.cas_codec.specs.Exact.{IsExact}
use Rattle.cas_codec.proofs.Exactness.{exact_then, exact_done, exact_map}
use Rattle.cas_codec.proofs.Times.{with_front}
use Rattle.cas_fragments.specs.Reading.{is_above, chain_at}
use Rattle.cas_fragments.specs.Inner.Lasts.{last_key}

-- ---- exactness

-- each of the items fits, and its key is above that of the one before it
abbrev pub AreChained : {A K : Type 0} → (A → K) → (K → K → Ordering) → (A → Type 0) → Option K → List A → Type 0
AreChained key cmp Fits before [] = Unit {0}
AreChained key cmp Fits before (x ∷ xs) = (Fits x × (is_above cmp before (key x) ≡ true)) × AreChained key cmp Fits (Some (key x)) xs

-- so many of them
abbrev pub IsChain : {A K : Type 0} → (A → K) → (K → K → Ordering) → (A → Type 0) → ℕ → Option K → List A → Type 0
IsChain key cmp Fits n before xs = (length xs ≡ n) × AreChained key cmp Fits before xs

abbrev HasHead : {A : Type 0} → A → List A → Type 0
HasHead x [] = ⊥
HasHead x (y ∷ ys) = y ≡ x

abbrev tail_of : {A : Type 0} → List A → List A
tail_of [] = []
tail_of (x ∷ xs) = xs

head_spelled : {A : Type 0} (spelling : A → List ℕ) (x : A) (xs : List A) → HasHead x xs → flat_map spelling xs ≡ spelling x ++ flat_map spelling (tail_of xs)
head_spelled spelling x [] is = absurd is
head_spelled spelling x (y ∷ ys) is = rw is refl

module _ {A K : Type 0} (key : A → K) (cmp : K → K → Ordering) (Fits : A → Type 0) (spelling : A → List ℕ) (reading : Option K → Left → Read A) where
  abbrev FitsAbove : Option K → A → Type 0
  FitsAbove before x = Fits x × (is_above cmp before (key x) ≡ true)

  no_items : (before : Option K) (xs : List A) → IsChain key cmp Fits 0 before xs → (xs ≡ []) × (flat_map spelling xs ≡ [])
  no_items before [] fit = (refl, refl)
  no_items before (x ∷ xs) fit = let long : length (x ∷ xs) ≡ 0 = fit.0 in absurd (omega arith)

  head_of : (n : ℕ) (before : Option K) (xs : List A) → IsChain key cmp Fits (suc n) before xs → (x : A) × FitsAbove before x × HasHead x xs
  head_of n before [] fit = let long : 0 ≡ suc n = fit.0 in absurd (omega arith)
  head_of n before (x ∷ xs) fit = (x, fit.1.0, refl)

  one_more : (n : ℕ) (before : Option K) (x : A) (ys : List A) → FitsAbove before x → IsChain key cmp Fits n (Some (key x)) ys
      → IsChain key cmp Fits (suc n) before (x ∷ ys)
  one_more n before x ys fits-x fit = (let long : length ys ≡ n = fit.0 in omega arith, (fits-x, fit.1))

  after_head : (n : ℕ) (before : Option K) (x : A) (xs : List A) → IsChain key cmp Fits (suc n) before xs × HasHead x xs
      → (ys : List A) × IsChain key cmp Fits n (Some (key x)) ys × (x ∷ ys ≡ xs)
  after_head n before x [] fit = absurd (fit.1)
  after_head n before x (y ∷ ys) fit =
      let long : length (y ∷ ys) ≡ suc n = fit.0.0 in
      (ys, (omega arith, subst (λ (z : A). AreChained key cmp Fits (Some (key z)) ys) fit.1 fit.0.1.1), ap (λ h. h ∷ ys) (sym fit.1))

  pub exact_chain : ((before : Option K) → IsExact (FitsAbove before) spelling (reading before)) → (n : ℕ) (before : Option K)
      → IsExact (IsChain key cmp Fits n before) (flat_map spelling) (chain_at key reading n before)
  unfolding chain_at
  exact_chain exact zero before =
      exact_done (IsChain key cmp Fits 0 before) (flat_map spelling) [] (refl, tt) (λ xs fit. no_items before xs fit)
  exact_chain exact (suc n) before =
      exact_then (FitsAbove before) spelling (reading before) (IsChain key cmp Fits (suc n) before) (flat_map spelling) (λ x xs. HasHead x xs)
      (λ x xs. flat_map spelling (tail_of xs))
      (λ old x left. chain_at key reading n (Some (key x)) left >>= λ others. Ok (x ∷ others.0, others.1))
      (exact before)
      (λ old x fits-x. exact_map (IsChain key cmp Fits n (Some (key x))) (flat_map spelling) (chain_at key reading n (Some (key x)))
      (λ xs. IsChain key cmp Fits (suc n) before xs × HasHead x xs) (λ xs. flat_map spelling (tail_of xs)) (λ ys. x ∷ ys)
      (exact_chain exact n (Some (key x)))
      (λ ys fit. ((one_more n before x ys fits-x fit, refl), refl))
      (λ xs fit. after_head n before x xs fit))
      (λ xs fit. head_of n before xs fit)
      (λ x xs fit is. head_spelled spelling x xs is)

-- ---- ascending keys

pub is_less : (o : Ordering) → is_lt o ≡ true → o ≡ Less
is_less Less e = refl
is_less Equal e = absurd cc
is_less Greater e = absurd cc

module _ {A K : Type 0} (key : A → K) (cmp : K → K → Ordering) (Fits : A → Type 0) (total : IsTotalOrder cmp) where
  -- all of them above a key
  all_above : (k : K) (xs : List A) → AreChained key cmp Fits (Some k) xs → AllByRecursion (λ j. cmp k j ≡ Less) (map key xs)
  all_above k [] fit = tt
  all_above k (x ∷ xs) fit =
      let above : cmp k (key x) ≡ Less = is_less (cmp k (key x)) fit.0.1 in
      (above, all_further k (key x) (map key xs) above (all_above (key x) xs fit.1))
    where
      all_further : (k j : K) (ks : List K) → cmp k j ≡ Less → AllByRecursion (λ i. cmp j i ≡ Less) ks → AllByRecursion (λ i. cmp k i ≡ Less) ks
      all_further k j [] e all = tt
      all_further k j (i ∷ ks) e all = (total.trans k j i e all.0, all_further k j ks e all.1)

  pub chain_sorted : (before : Option K) (xs : List A) → AreChained key cmp Fits before xs → IsStrictlySortedBy cmp (map key xs)
  unfolding IsStrictlySortedBy
  chain_sorted before [] fit = tt
  chain_sorted before (x ∷ xs) fit = (all_above (key x) xs fit.1, chain_sorted (Some (key x)) xs fit.1)

  pub chain_fits : (before : Option K) (xs : List A) → AreChained key cmp Fits before xs → AllByRecursion Fits xs
  chain_fits before [] fit = tt
  chain_fits before (x ∷ xs) fit = (fit.0.0, chain_fits (Some (key x)) xs fit.1)

  sorted_behind : (k : K) (xs : List A) → AllByRecursion Fits xs → AllByRecursion (λ j. cmp k j ≡ Less) (map key xs) → IsStrictlySortedBy cmp (map key xs)
      → AreChained key cmp Fits (Some k) xs
  unfolding IsStrictlySortedBy
  sorted_behind k [] fit above sorted = tt
  sorted_behind k (x ∷ xs) fit above sorted = ((fit.0, ap is_lt above.0), sorted_behind (key x) xs fit.1 sorted.0 sorted.1)

  pub sorted_chain : (xs : List A) → AllByRecursion Fits xs → IsStrictlySortedBy cmp (map key xs) → AreChained key cmp Fits None xs
  unfolding IsStrictlySortedBy
  sorted_chain [] fit sorted = tt
  sorted_chain (x ∷ xs) fit sorted = ((fit.0, refl), sorted_behind (key x) xs fit.1 sorted.0 sorted.1)

-- ---- a loop that has read i of n items

pub last_pushed : {A K : Type 0} (key : A → K) (xs : List A) (x : A) → last_key key (xs ++ x ∷ []) ≡ Some (key x)
last_pushed key xs x =
    let long = length_push xs x in
    let at : length (xs ++ x ∷ []) - 1 ≡ length xs = omega arith in
    let here : length xs < length (xs ++ x ∷ []) = omega arith in
    ap (λ (i : ℕ). option_map key (slice_get (xs ++ x ∷ []) i)) at
    ∙ ap (option_map key) (slice_get-get_or (xs ++ x ∷ []) (length xs) x here ∙ ap (λ (y : _). Some y) (get_or_push xs x x (length xs) refl))

regrouped : {A : Type 0} (front : List A) (x : A) (read : Read (List A))
    → with_front front (read >>= λ others. Ok (x ∷ others.0, others.1)) ≡ with_front (front ++ x ∷ []) read
regrouped front x (Ok r) = ap (λ xs. Ok (xs, r.1)) (sym (append_assoc front (x ∷ []) r.0))
regrouped front x (Err f) = refl

module _ {A K : Type 0} (key : A → K) (reading : Option K → Left → Read A) where
  -- what was read of so many items, and what is to be read of them
  abbrev pub HasChain : ℕ → Read (List A) → ℕ → List A → Left → Type 0
  HasChain n whole i front left = with_front front (chain_at key reading (n - i) (last_key key front) left) ≡ whole

  chain_more : (n : ℕ) (front : List A) (x : A) (left after : Left) → reading (last_key key front) left ≡ Ok (x, after)
      → with_front front (chain_at key reading (suc n) (last_key key front) left)
      ≡ with_front (front ++ x ∷ []) (chain_at key reading n (last_key key (front ++ x ∷ [])) after)
  unfolding chain_at
  chain_more n front x left after e =
      rw (e, last_pushed key front x) (regrouped front x (chain_at key reading n (Some (key x)) after))

  chain_fault : (n : ℕ) (front : List A) (left : Left) (f : ReadFault) → reading (last_key key front) left ≡ Err f
      → with_front front (chain_at key reading (suc n) (last_key key front) left) ≡ Err f
  unfolding chain_at
  chain_fault n front left f e = rw e refl

  chain_all : (front : List A) (left : Left) → with_front front (chain_at key reading 0 (last_key key front) left) ≡ Ok (front, left)
  unfolding chain_at
  chain_all front left = rw (append-nil front) refl

  -- it reads one more
  pub loop_more : (n i : ℕ) (front seen : List A) (x : A) (left after : Left) (whole : Read (List A)) → i < n → seen ≡ front
      → reading (last_key key seen) left ≡ Ok (x, after) → HasChain n whole i front left → HasChain n whole (i + 1) (front ++ x ∷ []) after
  loop_more n i front seen x left after whole more same e done =
      let next : n - i ≡ suc (n - (i + 1)) = omega arith in
      sym (chain_more (n - (i + 1)) front x left after (ap (λ (xs : List A). reading (last_key key xs) left) (sym same) ∙ e)) ∙ ap (λ m. with_front front (chain_at key reading m (last_key key front) left)) (sym next) ∙ done

  -- the next one isn't there
  pub loop_fault : (n i : ℕ) (front seen : List A) (left : Left) (f : ReadFault) (whole : Read (List A)) → i < n → seen ≡ front
      → reading (last_key key seen) left ≡ Err f → HasChain n whole i front left → whole ≡ Err f
  loop_fault n i front seen left f whole more same e done =
      let next : n - i ≡ suc (n - (i + 1)) = omega arith in
      sym done ∙ ap (λ m. with_front front (chain_at key reading m (last_key key front) left)) next
      ∙ chain_fault (n - (i + 1)) front left f (ap (λ (xs : List A). reading (last_key key xs) left) (sym same) ∙ e)

  -- it has read them all
  pub loop_all : (n i : ℕ) (front : List A) (left : Left) (whole : Read (List A)) → n ≤ i → HasChain n whole i front left → whole ≡ Ok (front, left)
  loop_all n i front left whole through done =
      let none : n - i ≡ 0 = omega arith in
      sym done ∙ ap (λ m. with_front front (chain_at key reading m (last_key key front) left)) none ∙ chain_all front left
