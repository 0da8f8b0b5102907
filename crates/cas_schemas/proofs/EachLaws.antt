-- Items that depend on those before them: their reading is exact where an item's is, and how a loop comes by them.
use Rattle.std.proofs.Common.{◌≡◌, ℕ, zero, suc, ◌+◌, ◌-◌, ◌<◌, ◌≤◌, List, [], ◌∷◌, ◌++◌, length, drop, Ok, Err, refl, sym, ap, ◌∙◌, append_assoc, arith}
use Rattle.std.proofs.lemmas.List.{append-nil, drop_at}
use Rattle.std.specs.List.{flat_map}
use Rattle.cas_codec.specs.declared.fault.ReadFault.{ReadFault}
use Rattle.cas_codec.specs.Reading.{Left, Read, ◌>>=◌}
use Rattle.cas_codec.specs.Exact.{IsExact}
use Rattle.cas_codec.proofs.Exactness.{exact_done, ok_is}
use Rattle.cas_codec.proofs.Sequences.{exact_two}
use Rattle.cas_schemas.specs.Each.{each_at, EachFits}
use Rattle.cas_schemas.specs.Inner.Behind.{behind}

-- so many items that each fit behind those before them
abbrev pub AreEach : {A : Type 0} → (List A → A → Type 0) → ℕ → List A → List A → Type 0
AreEach Fits n before xs = (length xs ≡ n) × EachFits Fits before xs

none : {A : Type 0} (Fits : List A → A → Type 0) (spelling : A → List ℕ) (before xs : List A) → AreEach Fits 0 before xs → (xs ≡ []) × (flat_map spelling xs ≡ [])
none Fits spelling before [] fit = (refl, refl)
none Fits spelling before (x ∷ xs) fit = let long : length (x ∷ xs) ≡ 0 = fit.0 in absurd (omega arith)

parted : {A : Type 0} (Fits : List A → A → Type 0) (n : ℕ) (before xs : List A) → AreEach Fits (suc n) before xs
    → (x : A) × (ys : List A) × Fits before x × AreEach Fits n (before ++ x ∷ []) ys × (x ∷ ys ≡ xs)
parted Fits n before [] fit = let long : 0 ≡ suc n = fit.0 in absurd (omega arith)
parted Fits n before (x ∷ ys) fit = let long : length (x ∷ ys) ≡ suc n = fit.0 in (x, ys, fit.1.0, (omega arith, fit.1.1), refl)

joined : {A : Type 0} (Fits : List A → A → Type 0) (n : ℕ) (before : List A) (x : A) (ys : List A) → Fits before x → AreEach Fits n (before ++ x ∷ []) ys
    → AreEach Fits (suc n) before (x ∷ ys)
joined Fits n before x ys fit-x fit = let long : length ys ≡ n = fit.0 in (omega arith, (fit-x, fit.1))

pub exact_each : {A : Type 0} (Fits : List A → A → Type 0) (spelling : A → List ℕ) (reading : List A → Left → Read A)
    → ((before : List A) → IsExact (Fits before) spelling (reading before))
    → (n : ℕ) (before : List A) → IsExact (AreEach Fits n before) (flat_map spelling) (each_at reading n before)
unfolding each_at
exact_each {A} Fits spelling reading exact zero before =
    exact_done (AreEach Fits 0 before) (flat_map spelling) [] (refl, tt) (λ xs fit. none Fits spelling before xs fit)
exact_each {A} Fits spelling reading exact (suc n) before =
    exact_two (Fits before) spelling (reading before) (λ x ys. AreEach Fits n (before ++ x ∷ []) ys) (flat_map spelling) (λ x. each_at reading n (before ++ x ∷ []))
    (AreEach Fits (suc n) before) (flat_map spelling) (λ x ys. x ∷ ys)
    (exact before)
    (λ x fit. exact_each Fits spelling reading exact n (before ++ x ∷ []))
    (λ x ys fit-x fit. (joined Fits n before x ys fit-x fit, refl))
    (λ xs fit. parted Fits n before xs fit)

-- ---- a loop that has read i of n items

abbrev HasRead : {A : Type 0} → (List A → Left → Read A) → ℕ → Read (List A) → ℕ → List A → Left → Type 0
HasRead reading n whole i front left = behind front (each_at reading (n - i) front left) ≡ whole

regrouped : {A : Type 0} (front : List A) (x : A) (read : Read (List A)) → behind front (read >>= λ others. Ok (x ∷ others.0, others.1)) ≡ behind (front ++ x ∷ []) read
regrouped front x (Ok r) = ap (λ xs. Ok (xs, r.1)) (sym (append_assoc front (x ∷ []) r.0))
regrouped front x (Err f) = refl

each_more : {A : Type 0} (reading : List A → Left → Read A) (n : ℕ) (front : List A) (x : A) (left after : Left) → reading front left ≡ Ok (x, after)
    → behind front (each_at reading (suc n) front left) ≡ behind (front ++ x ∷ []) (each_at reading n (front ++ x ∷ []) after)
unfolding each_at
each_more {A} reading n front x left after e = rw e (regrouped front x (each_at reading n (front ++ x ∷ []) after))

each_fault : {A : Type 0} (reading : List A → Left → Read A) (n : ℕ) (front : List A) (left : Left) (f : ReadFault) → reading front left ≡ Err f
    → behind front (each_at reading (suc n) front left) ≡ Err f
unfolding each_at
each_fault reading n front left f e = rw e refl

each_all : {A : Type 0} (reading : List A → Left → Read A) (front : List A) (left : Left) → behind front (each_at reading 0 front left) ≡ Ok (front, left)
unfolding each_at
each_all {A} reading front left = rw (append-nil front) refl

-- it reads one more
pub each_on : {A : Type 0} (reading : List A → Left → Read A) (n i : ℕ) (front : List A) (x : A) (left after : Left) (whole : Read (List A)) → i < n
    → reading front left ≡ Ok (x, after) → HasRead reading n whole i front left → HasRead reading n whole (i + 1) (front ++ x ∷ []) after
each_on {A} reading n i front x left after whole more e done =
    let next : n - i ≡ suc (n - (i + 1)) = omega arith in
    sym (each_more reading (n - (i + 1)) front x left after e) ∙ ap (λ m. behind front (each_at reading m front left)) (sym next) ∙ done

-- the next one isn't there
pub each_ends : {A : Type 0} (reading : List A → Left → Read A) (n i : ℕ) (front : List A) (left : Left) (f : ReadFault) (whole : Read (List A)) → i < n
    → reading front left ≡ Err f → HasRead reading n whole i front left → whole ≡ Err f
each_ends {A} reading n i front left f whole more e done =
    let next : n - i ≡ suc (n - (i + 1)) = omega arith in
    sym done ∙ ap (λ m. behind front (each_at reading m front left)) next ∙ each_fault reading (n - (i + 1)) front left f e

-- it has read them all
pub each_done : {A : Type 0} (reading : List A → Left → Read A) (n i : ℕ) (front : List A) (left : Left) (whole : Read (List A)) → n ≤ i
    → HasRead reading n whole i front left → whole ≡ Ok (front, left)
each_done {A} reading n i front left whole through done =
    let through : n - i ≡ 0 = omega arith in
    sym done ∙ ap (λ m. behind front (each_at reading m front left)) through ∙ each_all reading front left

-- ---- what was read, without what it stands behind

abbrev done_with : {A : Type 0} → List A → Left → Read (List A)
done_with xs left = Ok (xs, left)

pub added_of : {A : Type 0} (before all : List A) (new : Left) (read : Read (List A)) → behind before read ≡ Ok (all, new) → read ≡ Ok (drop (length before) all, new)
added_of {A} before all new (Ok r) e =
    let both = ok_is (before ++ r.0, r.1) (all, new) e in
    ap (λ (xs : List A). done_with xs r.1) (sym (drop_at before r.0 (length before) refl))
    ∙ ap (λ (p : List A × Left). done_with (drop (length before) p.0) p.1) both
added_of before all new (Err f) e = absurd cc

pub fault_of : {A : Type 0} (before : List A) (f : ReadFault) (read : Read (List A)) → behind before read ≡ Err f → read ≡ Err f
fault_of before f (Ok r) e = absurd cc
fault_of before f (Err g) e = e
