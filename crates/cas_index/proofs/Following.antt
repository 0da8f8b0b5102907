-- Items one after another, each read by the one before it: their reading is exact where an item's is, and how a loop comes by them.
use Rattle.std.proofs.Common.{◌≡◌, ℕ, zero, suc, ◌+◌, ◌-◌, ◌<◌, ◌≤◌, List, [], ◌∷◌, ◌++◌, length, Option, None, Some, Ok, Err, refl, sym, ap, ◌∙◌, append_assoc, arith}
use Rattle.std.specs.Prelude.{slice_get}
use Rattle.std.proofs.lemmas.List.{append-nil}
use Rattle.std.specs.List.{flat_map, last_or}
use Rattle.cas_codec.specs.declared.fault.ReadFault.{ReadFault}
use Rattle.cas_codec.specs.Reading.{Left, Read, ◌>>=◌}
use Rattle.cas_codec.specs.Exact.{IsExact}
use Rattle.cas_codec.proofs.Exactness.{exact_then, exact_done, exact_map}
use Rattle.cas_index.specs.Allowed.{Chain}
use Rattle.cas_index.specs.Reading.{following_at}

-- so many items, each of which may follow the one before it
abbrev pub AreFollowing : {A : Type 0} → (Option A → A → Type 0) → Option A → ℕ → List A → Type 0
AreFollowing Follows last n xs = (length xs ≡ n) × Chain Follows last xs

abbrev HasHead : {A : Type 0} → A → List A → Type 0
HasHead x [] = ⊥
HasHead x (y ∷ ys) = y ≡ x

abbrev tail_of : {A : Type 0} → List A → List A
tail_of [] = []
tail_of (x ∷ xs) = xs

one_more : {A : Type 0} (Follows : Option A → A → Type 0) (last : Option A) (n : ℕ) (x : A) (ys : List A) → Follows last x → AreFollowing Follows (Some x) n ys
    → AreFollowing Follows last (suc n) (x ∷ ys)
one_more Follows last n x ys follows fit = (let long : length ys ≡ n = fit.0 in omega arith, (follows, fit.1))

no_items : {A : Type 0} (Follows : Option A → A → Type 0) (last : Option A) (spelling : A → List ℕ) (xs : List A) → AreFollowing Follows last 0 xs
    → (xs ≡ []) × (flat_map spelling xs ≡ [])
no_items Follows last spelling [] fit = (refl, refl)
no_items Follows last spelling (x ∷ xs) fit = let long : length (x ∷ xs) ≡ 0 = fit.0 in absurd (omega arith)

head_of : {A : Type 0} (Follows : Option A → A → Type 0) (last : Option A) (n : ℕ) (xs : List A) → AreFollowing Follows last (suc n) xs
    → (x : A) × Follows last x × HasHead x xs
head_of Follows last n [] fit = let long : 0 ≡ suc n = fit.0 in absurd (omega arith)
head_of Follows last n (x ∷ xs) fit = (x, fit.1.0, refl)

after_head : {A : Type 0} (Follows : Option A → A → Type 0) (last : Option A) (n : ℕ) (x : A) (xs : List A) → AreFollowing Follows last (suc n) xs × HasHead x xs
    → (ys : List A) × AreFollowing Follows (Some x) n ys × (x ∷ ys ≡ xs)
after_head Follows last n x [] fit = absurd (fit.1)
after_head Follows last n x (y ∷ ys) fit =
    let long : length (y ∷ ys) ≡ suc n = fit.0.0 in
    (ys, rw (← fit.1) (omega arith, fit.0.1.1), ap (λ h. h ∷ ys) (sym fit.1))

head_spelled : {A : Type 0} (spelling : A → List ℕ) (x : A) (xs : List A) → HasHead x xs → flat_map spelling xs ≡ spelling x ++ flat_map spelling (tail_of xs)
head_spelled spelling x [] is = absurd is
head_spelled spelling x (y ∷ ys) is = rw is refl

pub exact_following : {A : Type 0} (Follows : Option A → A → Type 0) (spelling : A → List ℕ) (reading : Option A → Left → Read A)
    → ((last : Option A) → IsExact (Follows last) spelling (reading last))
    → (n : ℕ) (last : Option A) → IsExact (AreFollowing Follows last n) (flat_map spelling) (following_at reading n last)
unfolding following_at
exact_following {A} Follows spelling reading exact zero last =
    exact_done (AreFollowing Follows last 0) (flat_map spelling) [] (refl, tt) (λ xs fit. no_items Follows last spelling xs fit)
exact_following {A} Follows spelling reading exact (suc n) last =
    exact_then (Follows last) spelling (reading last) (AreFollowing Follows last (suc n)) (flat_map spelling) (λ x xs. HasHead x xs)
    (λ x xs. flat_map spelling (tail_of xs))
    (λ before x left. following_at reading n (Some x) left >>= λ others. Ok (x ∷ others.0, others.1))
    (exact last)
    (λ before x follows. exact_map (AreFollowing Follows (Some x) n) (flat_map spelling) (following_at reading n (Some x))
    (λ xs. AreFollowing Follows last (suc n) xs × HasHead x xs) (λ xs. flat_map spelling (tail_of xs)) (λ ys. x ∷ ys)
    (exact_following Follows spelling reading exact n (Some x))
    (λ ys fit. ((one_more Follows last n x ys follows fit, refl), refl))
    (λ xs fit. after_head Follows last n x xs fit))
    (λ xs fit. head_of Follows last n xs fit)
    (λ x xs fit is. head_spelled spelling x xs is)

last_in : {A : Type 0} (x : A) (xs : List A) → slice_get (x ∷ xs) (length xs) ≡ last_or (Some x) xs
last_in x [] = refl
last_in x (y ∷ ys) = last_in y ys

-- the item at the greatest number is the last
pub last_get : {A : Type 0} (xs : List A) → slice_get xs (length xs - 1) ≡ last_or None xs
last_get [] = refl
last_get (x ∷ xs) =
    let here : length (x ∷ xs) - 1 ≡ length xs = omega arith in
    ap (λ (n : ℕ). slice_get (x ∷ xs) n) here ∙ last_in x xs

-- ---- a loop that has read i of n items

-- what is read already stands before what is to be read
abbrev pub with_front : {A : Type 0} → List A → Read (List A) → Read (List A)
with_front front read = read >>= λ others. Ok (front ++ others.0, others.1)

regrouped : {A : Type 0} (front : List A) (x : A) (read : Read (List A))
    → with_front front (read >>= λ others. Ok (x ∷ others.0, others.1)) ≡ with_front (front ++ x ∷ []) read
regrouped front x (Ok r) = ap (λ xs. Ok (xs, r.1)) (sym (append_assoc front (x ∷ []) r.0))
regrouped front x (Err f) = refl

pub last_more : {A : Type 0} (o : Option A) (xs : List A) (x : A) → last_or o (xs ++ x ∷ []) ≡ Some x
last_more o [] x = refl
last_more o (y ∷ ys) x = last_more (Some y) ys x

-- the items that are there, and the reading of those that aren't
abbrev pub HasDone : {A : Type 0} → (Option A → Left → Read A) → ℕ → Read (List A) → ℕ → List A → Left → Type 0
HasDone reading n whole i front left = with_front front (following_at reading (n - i) (last_or None front) left) ≡ whole

-- it reads one more
pub loop_more : {A : Type 0} (reading : Option A → Left → Read A) (n i : ℕ) (front : List A) (x : A) (left after : Left) (whole : Read (List A)) → i < n
    → (before grown : List A) → before ≡ front → grown ≡ front ++ x ∷ [] → reading (last_or None before) left ≡ Ok (x, after)
    → HasDone reading n whole i front left → HasDone reading n whole (i + 1) grown after
unfolding following_at
loop_more {A} reading n i front x left after whole more before grown same grows f done =
    let e : reading (last_or None front) left ≡ Ok (x, after) = ap (λ (xs : List A). reading (last_or None xs) left) (sym same) ∙ f in
    let next : n - i ≡ suc (n - (i + 1)) = omega arith in
    ap (λ (xs : List A). with_front xs (following_at reading (n - (i + 1)) (last_or None xs) after)) grows
    ∙ ap (λ (o : Option A). with_front (front ++ x ∷ []) (following_at reading (n - (i + 1)) o after)) (last_more None front x)
    ∙ sym (regrouped front x (following_at reading (n - (i + 1)) (Some x) after))
    ∙ ap (λ (r : Read A). with_front front (r >>= λ (a : A × Left). following_at reading (n - (i + 1)) (Some a.0) a.1 >>= λ others. Ok (a.0 ∷ others.0, others.1))) (sym e)
    ∙ ap (λ m. with_front front (following_at reading m (last_or None front) left)) (sym next) ∙ done

-- the next one isn't there
pub loop_fault : {A : Type 0} (reading : Option A → Left → Read A) (n i : ℕ) (front : List A) (left : Left) (f : ReadFault) (whole : Read (List A)) → i < n
    → (before : List A) → before ≡ front → reading (last_or None before) left ≡ Err f → HasDone reading n whole i front left → whole ≡ Err f
unfolding following_at
loop_fault {A} reading n i front left f whole more before same g done =
    let e : reading (last_or None front) left ≡ Err f = ap (λ (xs : List A). reading (last_or None xs) left) (sym same) ∙ g in
    let next : n - i ≡ suc (n - (i + 1)) = omega arith in
    sym done ∙ ap (λ m. with_front front (following_at reading m (last_or None front) left)) next
    ∙ ap (λ (r : Read A). with_front front (r >>= λ (a : A × Left). following_at reading (n - (i + 1)) (Some a.0) a.1 >>= λ others. Ok (a.0 ∷ others.0, others.1))) e

-- it has read them all
pub loop_all : {A : Type 0} (reading : Option A → Left → Read A) (n i : ℕ) (front : List A) (left : Left) (whole : Read (List A)) → n ≤ i
    → HasDone reading n whole i front left → whole ≡ Ok (front, left)
unfolding following_at
loop_all {A} reading n i front left whole through done =
    let none : n - i ≡ 0 = omega arith in
    sym done ∙ ap (λ m. with_front front (following_at reading m (last_or None front) left)) none ∙ rw (append-nil front) refl
