-- Items one after another, so many: their reading is exact where an item's is, and how a loop comes by them.
use Rattle.std.proofs.Common.{◌≡◌, ℕ, zero, suc, ◌+◌, ◌-◌, ◌<◌, ◌≤◌, List, [], ◌∷◌, ◌++◌, length, Ok, Err, refl, sym, ap, ◌∙◌, append_assoc, arith}
use Rattle.std.proofs.lemmas.List.{append-nil}
use Rattle.std.specs.List.{flat_map, AllByRecursion}
use Rattle.cas_codec.specs.declared.fault.ReadFault.{ReadFault}
use Rattle.cas_codec.specs.declared.fault.ReadFault.TheVariants.{Short, Bad, Mem}
use Rattle.cas_codec.specs.Reading.{Left, Read, ◌>>=◌, times_at, Gives}
use Rattle.cas_codec.specs.Exact.{IsExact}
use Rattle.cas_codec.proofs.Exactness.{exact_then, exact_done, exact_map}

-- so many items that each fit
abbrev pub AreItems : {A : Type 0} → (A → Type 0) → ℕ → List A → Type 0
AreItems Fits n xs = (length xs ≡ n) × AllByRecursion Fits xs

abbrev HasHead : {A : Type 0} → A → List A → Type 0
HasHead x [] = ⊥
HasHead x (y ∷ ys) = y ≡ x

abbrev tail_of : {A : Type 0} → List A → List A
tail_of [] = []
tail_of (x ∷ xs) = xs

one_more : {A : Type 0} (Fits : A → Type 0) (n : ℕ) (x : A) (ys : List A) → Fits x → AreItems Fits n ys → AreItems Fits (suc n) (x ∷ ys)
one_more Fits n x ys fits-x fit = (let long : length ys ≡ n = fit.0 in omega arith, (fits-x, fit.1))

no_items : {A : Type 0} (Fits : A → Type 0) (spelling : A → List ℕ) (xs : List A) → AreItems Fits 0 xs → (xs ≡ []) × (flat_map spelling xs ≡ [])
no_items Fits spelling [] fit = (refl, refl)
no_items Fits spelling (x ∷ xs) fit = let long : length (x ∷ xs) ≡ 0 = fit.0 in absurd (omega arith)

head_of : {A : Type 0} (Fits : A → Type 0) (n : ℕ) (xs : List A) → AreItems Fits (suc n) xs → (x : A) × Fits x × HasHead x xs
head_of Fits n [] fit = let long : 0 ≡ suc n = fit.0 in absurd (omega arith)
head_of Fits n (x ∷ xs) fit = (x, fit.1.0, refl)

after_head : {A : Type 0} (Fits : A → Type 0) (n : ℕ) (x : A) (xs : List A) → AreItems Fits (suc n) xs × HasHead x xs → (ys : List A) × AreItems Fits n ys × (x ∷ ys ≡ xs)
after_head Fits n x [] fit = absurd (fit.1)
after_head Fits n x (y ∷ ys) fit =
    let long : length (y ∷ ys) ≡ suc n = fit.0.0 in
    (ys, (omega arith, fit.0.1.1), ap (λ h. h ∷ ys) (sym fit.1))

head_spelled : {A : Type 0} (spelling : A → List ℕ) (x : A) (xs : List A) → HasHead x xs → flat_map spelling xs ≡ spelling x ++ flat_map spelling (tail_of xs)
head_spelled spelling x [] is = absurd is
head_spelled spelling x (y ∷ ys) is = rw is refl

pub exact_times : {A : Type 0} (Fits : A → Type 0) (spelling : A → List ℕ) (reading : Left → Read A) → IsExact Fits spelling reading
    → (n : ℕ) → IsExact (AreItems Fits n) (flat_map spelling) (times_at n reading)
unfolding times_at
exact_times {A} Fits spelling reading exact zero =
    exact_done (AreItems Fits 0) (flat_map spelling) [] (refl, tt) (λ xs fit. no_items Fits spelling xs fit)
exact_times {A} Fits spelling reading exact (suc n) =
    exact_then Fits spelling reading (AreItems Fits (suc n)) (flat_map spelling) (λ x xs. HasHead x xs) (λ x xs. flat_map spelling (tail_of xs))
    (λ before x left. times_at n reading left >>= λ others. Ok (x ∷ others.0, others.1))
    exact
    (λ before x fits-x. exact_map (AreItems Fits n) (flat_map spelling) (times_at n reading)
    (λ xs. AreItems Fits (suc n) xs × HasHead x xs) (λ xs. flat_map spelling (tail_of xs)) (λ ys. x ∷ ys)
    (exact_times Fits spelling reading exact n)
    (λ ys fit. ((one_more Fits n x ys fits-x fit, refl), refl))
    (λ xs fit. after_head Fits n x xs fit))
    (λ xs fit. head_of Fits n xs fit)
    (λ x xs fit is. head_spelled spelling x xs is)

-- what is read already stands before what is to be read
abbrev pub with_front : {A : Type 0} → List A → Read (List A) → Read (List A)
with_front front read = read >>= λ others. Ok (front ++ others.0, others.1)

regrouped : {A : Type 0} (front : List A) (x : A) (read : Read (List A))
    → with_front front (read >>= λ others. Ok (x ∷ others.0, others.1)) ≡ with_front (front ++ x ∷ []) read
regrouped front x (Ok r) = ap (λ xs. Ok (xs, r.1)) (sym (append_assoc front (x ∷ []) r.0))
regrouped front x (Err f) = refl

-- a loop that read one item more
pub times_more : {A : Type 0} (reading : Left → Read A) (n : ℕ) (front : List A) (x : A) (left after : Left) → reading left ≡ Ok (x, after)
    → with_front front (times_at (suc n) reading left) ≡ with_front (front ++ x ∷ []) (times_at n reading after)
unfolding times_at
times_more {A} reading n front x left after e = rw e (regrouped front x (times_at n reading after))

-- a loop whose next item isn't there
pub times_fault : {A : Type 0} (reading : Left → Read A) (n : ℕ) (front : List A) (left : Left) (f : ReadFault) → reading left ≡ Err f
    → with_front front (times_at (suc n) reading left) ≡ Err f
unfolding times_at
times_fault reading n front left f e = rw e refl

-- a loop that is through
pub times_all : {A : Type 0} (reading : Left → Read A) (front : List A) (left : Left) → with_front front (times_at 0 reading left) ≡ Ok (front, left)
unfolding times_at
times_all {A} reading front left = rw (append-nil front) refl

-- ---- a loop that has read i of n items

abbrev HasDone : {A : Type 0} → (Left → Read A) → ℕ → Read (List A) → ℕ → List A → Left → Type 0
HasDone reading n whole i front left = with_front front (times_at (n - i) reading left) ≡ whole

-- it reads one more
pub loop_more : {A : Type 0} (reading : Left → Read A) (n i : ℕ) (front : List A) (x : A) (left after : Left) (whole : Read (List A)) → i < n
    → reading left ≡ Ok (x, after) → HasDone reading n whole i front left → HasDone reading n whole (i + 1) (front ++ x ∷ []) after
loop_more {A} reading n i front x left after whole more e done =
    let next : n - i ≡ suc (n - (i + 1)) = omega arith in
    sym (times_more reading (n - (i + 1)) front x left after e) ∙ ap (λ m. with_front front (times_at m reading left)) (sym next) ∙ done

-- the next one isn't there
pub loop_fault : {A : Type 0} (reading : Left → Read A) (n i : ℕ) (front : List A) (left : Left) (f : ReadFault) (whole : Read (List A)) → i < n
    → reading left ≡ Err f → HasDone reading n whole i front left → whole ≡ Err f
loop_fault {A} reading n i front left f whole more e done =
    let next : n - i ≡ suc (n - (i + 1)) = omega arith in
    sym done ∙ ap (λ m. with_front front (times_at m reading left)) next ∙ times_fault reading (n - (i + 1)) front left f e

-- it has read them all
pub loop_all : {A : Type 0} (reading : Left → Read A) (n i : ℕ) (front : List A) (left : Left) (whole : Read (List A)) → n ≤ i
    → HasDone reading n whole i front left → whole ≡ Ok (front, left)
loop_all {A} reading n i front left whole through done =
    let none : n - i ≡ 0 = omega arith in
    sym done ∙ ap (λ m. with_front front (times_at m reading left)) none ∙ times_all reading front left

-- what a reader answers that ends because a part of it wasn't read
pub gives_fault : {X Y Z W : Type 0} (view : X → Y) (part : Z → W) (f : ReadFault) (new : Left) (read : Read W) (whole : Read Y)
    → Gives part (Err f) new read → ((g : ReadFault) → read ≡ Err g → whole ≡ Err g) → Gives view (Err f) new whole
gives_fault view part (Short at) new read whole e so = so (Short at) e
gives_fault view part (Bad at) new read whole e so = so (Bad at) e
gives_fault view part Mem new read whole e so = tt
