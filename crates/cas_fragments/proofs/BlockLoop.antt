-- How a loop comes by the fragments of a block.
use Rattle.std.proofs.Common.{◌≡◌, ℕ, suc, ◌+◌, ◌-◌, ◌<◌, ◌≤◌, ◌≢◌, ◌++◌, Bool, true, false, eqb, Option, None, Some, List, [], ◌∷◌, length, Ok, Err, refl, sym, ap, subst, ◌∙◌, append_assoc, arith}
use Rattle.std.specs.Prelude.{slice_get}
use Rattle.std.specs.List.{last_or}
use Rattle.std.proofs.lemmas.Bool.{ne_eqb, eqb-true, eqb-false, true≢false}
use Rattle.cas_types.specs.declared.schema.Column.{Column}
use Rattle.cas_cell.specs.declared.deletion.Deletion.{Deletion}
use Rattle.cas_bounds.specs.declared.order.Ordered.{Ordered}
use Rattle.cas_codec.specs.declared.fault.ReadFault.{ReadFault}
use Rattle.cas_codec.specs.declared.fault.ReadFault.TheVariants.{Short}
use Rattle.cas_codec.specs.Reading.{Left, Read, ◌>>=◌}
use Rattle.cas_codec.proofs.Times.{with_front}
use Rattle.cas_streams.specs.Joined.{opened}
use Rattle.cas_streams.specs.declared.fragment.Fragment.{Fragment}
use Rattle.cas_fragments.specs.Blocks.{Reached, last_place, past, past_all}
use Rattle.cas_fragments.specs.Reading.{early_fragment_at, fragments_at, body_at}

-- ---- how far these fragments came

pub past_pushed : (r : Reached) (fs : List Fragment) (f : Fragment) → past_all r (fs ++ f ∷ []) ≡ past (past_all r fs) f
past_pushed r [] f = refl
past_pushed r (g ∷ fs) f = past_pushed (past r g) fs f

last_is : (o : Option Fragment) (force : Option Deletion) (fs : List Fragment)
    → (past_all (record { last = last_place o; force = force }) fs).last ≡ last_place (last_or o fs)
last_is o force [] = refl
last_is o force (f ∷ fs) = last_is (Some f) (opened force f) fs

-- what a loop knows of it
pub reached_is : (o behind : Option Fragment) (force now : Option Deletion) (front seen : List Fragment)
    → seen ≡ front → behind ≡ last_or o seen → now ≡ (past_all (record { last = last_place o; force = force }) front).force
    → record { last = last_place behind; force = now } ≡ past_all (record { last = last_place o; force = force }) front
reached_is o behind force now front seen same is e =
    let place : last_place behind ≡ (past_all (record { last = last_place o; force = force }) front).last =
    ap last_place (is ∙ ap (λ (xs : List Fragment). last_or o xs) same) ∙ sym (last_is o force front) in
    λ i. record { last = place i; force = e i }

-- ---- a loop that has read i of n fragments at most

regrouped : {A : Type 0} (front : List A) (x : A) (read : Read (List A))
    → with_front front (read >>= λ others. Ok (x ∷ others.0, others.1)) ≡ with_front (front ++ x ∷ []) read
regrouped front x (Ok r) = ap (λ xs. Ok (xs, r.1)) (sym (append_assoc front (x ∷ []) r.0))
regrouped front x (Err f) = refl

pub empty_length : (xs : List ℕ) → length xs ≡ 0 → eqb (length xs) 0 ≡ true
empty_length xs e = ap (λ (n : ℕ). eqb n 0) e

not_zero : (n : ℕ) → 0 < n → eqb n 0 ≡ false
not_zero n lt = ne_eqb n 0 (λ e. omega arith)

pub some_length : (xs : List ℕ) → 0 < length xs → eqb (length xs) 0 ≡ false
some_length xs more = not_zero (length xs) more

module _ (order : List Ordered) (columns : List Column) (long : ℕ) (start : Reached) where
  -- what was read, and what is to be read
  abbrev pub HasRead : ℕ → Read (List Fragment) → ℕ → List Fragment → Left → Type 0
  HasRead n whole i front left = with_front front (fragments_at order columns long (n - i) (past_all start front) left) ≡ whole

  step : (n i : ℕ) (front : List Fragment) (left : Left) (whole : Read (List Fragment)) → i < n → HasRead n whole i front left
      → with_front front (fragments_at order columns long (suc (n - (i + 1))) (past_all start front) left) ≡ whole
  step n i front left whole more done =
      let next : n - i ≡ suc (n - (i + 1)) = omega arith in
      ap (λ m. with_front front (fragments_at order columns long m (past_all start front) left)) (sym next) ∙ done

  -- the next one isn't there
  pub next_fault : (n i : ℕ) (front : List Fragment) (r : Reached) (left : Left) (f : ReadFault) (whole : Read (List Fragment)) → i < n
      → r ≡ past_all start front → early_fragment_at order columns long r left ≡ Err f
      → HasRead n whole i front left → whole ≡ Err f
  unfolding fragments_at
  next_fault n i front r left f whole more same e done =
      let here : early_fragment_at order columns long (past_all start front) left ≡ Err f =
      ap (λ (q : Reached). early_fragment_at order columns long q left) (sym same) ∙ e in
      sym (step n i front left whole more done) ∙ rw here refl

  -- it reads one more, and isn't through
  pub next_more : (n i : ℕ) (front : List Fragment) (r : Reached) (x : Fragment) (left new : Left) (whole : Read (List Fragment)) → i < n
      → r ≡ past_all start front → early_fragment_at order columns long r left ≡ Ok (x, new) → 0 < length new.bytes
      → HasRead n whole i front left → HasRead n whole (i + 1) (front ++ x ∷ []) new
  unfolding fragments_at
  next_more n i front r x left new whole more same e rest done =
      let here : early_fragment_at order columns long (past_all start front) left ≡ Ok (x, new) =
      ap (λ (q : Reached). early_fragment_at order columns long q left) (sym same) ∙ e in
      ap (λ (q : Reached). with_front (front ++ x ∷ []) (fragments_at order columns long (n - (i + 1)) q new)) (past_pushed start front x)
      ∙ sym (regrouped front x (fragments_at order columns long (n - (i + 1)) (past (past_all start front) x) new))
      ∙ sym (rw (here, some_length new.bytes rest) refl)
      ∙ step n i front left whole more done

  -- it reads the last one
  pub next_last : (n i : ℕ) (front : List Fragment) (r : Reached) (x : Fragment) (left new : Left) (whole : Read (List Fragment)) → i < n
      → r ≡ past_all start front → early_fragment_at order columns long r left ≡ Ok (x, new) → length new.bytes ≡ 0
      → HasRead n whole i front left → whole ≡ Ok (front ++ x ∷ [], new)
  unfolding fragments_at
  next_last n i front r x left new whole more same e none done =
      let here : early_fragment_at order columns long (past_all start front) left ≡ Ok (x, new) =
      ap (λ (q : Reached). early_fragment_at order columns long q left) (sym same) ∙ e in
      sym (step n i front left whole more done) ∙ rw (here, empty_length new.bytes none) refl

  -- there are no more of them than bytes
  pub none_more : (n i : ℕ) (front : List Fragment) (left : Left) (whole : Read (List Fragment)) → n ≤ i → HasRead n whole i front left → whole ≡ Err (Short left.at)
  unfolding fragments_at
  none_more n i front left whole through done =
      let none : n - i ≡ 0 = omega arith in
      sym done ∙ ap (λ m. with_front front (fragments_at order columns long m (past_all start front) left)) none

-- ---- what a block's reader answers

more_left : (n : ℕ) (b : Bool) → b ≡ eqb n 0 → b ≡ false → 0 < n
more_left n b e f = elim (eqb n 0) as (λ t. eqb n 0 ≡ t → 0 < n) [
  | true ↦ λ yes. absurd (true≢false (sym yes ∙ sym e ∙ f))
  | false ↦ λ no. let ne : n ≢ 0 = eqb-false n 0 no in omega arith
] refl

none_left : (n : ℕ) (b : Bool) → b ≡ eqb n 0 → b ≡ true → n ≡ 0
none_left n b e f = eqb-true n 0 (sym e ∙ f)

-- what is in force after one more
pub force_pushed : (start : Reached) (front items : List Fragment) (x : Fragment) (now new : Option Deletion) → now ≡ (past_all start front).force
    → new ≡ opened now x → items ≡ front ++ x ∷ [] → new ≡ (past_all start items).force
force_pushed start front items x now new e f pushed =
    f ∙ ap (λ (d : Option Deletion). opened d x) e ∙ ap (λ (q : Reached). q.force) (sym (past_pushed start front x))
    ∙ ap (λ (xs : List Fragment). (past_all start xs).force) (sym pushed)

module _ (order : List Ordered) (columns : List Column) (start : Reached) (long : ℕ) (old : Left) where
  abbrev pub HasBegun : ℕ → List Fragment → Left → Type 0
  HasBegun i front left = HasRead order columns long start long (fragments_at order columns long long start old) i front left

  pub body_more : (i : ℕ) (front items : List Fragment) (r : Reached) (x : Fragment) (left new : Left) (b : Bool) → i < long → r ≡ past_all start front
      → early_fragment_at order columns long r left ≡ Ok (x, new) → b ≡ eqb (length new.bytes) 0 → b ≡ false → items ≡ front ++ x ∷ []
      → HasBegun i front left → HasBegun (i + 1) items new
  body_more i front items r x left new b more same e tested isnt pushed done =
      subst (λ (xs : List Fragment). HasBegun (i + 1) xs new) (sym pushed)
      (next_more order columns long start long i front r x left new _ more same e (more_left (length new.bytes) b tested isnt) done)

  pub body_last : (i : ℕ) (front items : List Fragment) (r : Reached) (x : Fragment) (left new : Left) (b : Bool) → long ≡ length old.bytes → i < long
      → r ≡ past_all start front → early_fragment_at order columns long r left ≡ Ok (x, new) → b ≡ eqb (length new.bytes) 0 → b ≡ true
      → items ≡ front ++ x ∷ [] → HasBegun i front left → body_at order columns start old ≡ Ok (items, new)
  unfolding body_at
  body_last i front items r x left new b is more same e tested so pushed done =
      subst (λ (n : ℕ). fragments_at order columns n n start old ≡ Ok (items, new)) is
      (subst (λ (xs : List Fragment). fragments_at order columns long long start old ≡ Ok (xs, new)) (sym pushed)
      (next_last order columns long start long i front r x left new _ more same e (none_left (length new.bytes) b tested so) done))

  pub body_fault : (i : ℕ) (front : List Fragment) (r : Reached) (left : Left) (f : ReadFault) → long ≡ length old.bytes → i < long
      → r ≡ past_all start front → early_fragment_at order columns long r left ≡ Err f → HasBegun i front left → body_at order columns start old ≡ Err f
  unfolding body_at
  body_fault i front r left f is more same e done =
      subst (λ (n : ℕ). fragments_at order columns n n start old ≡ Err f) is (next_fault order columns long start long i front r left f _ more same e done)

  pub body_short : (i place : ℕ) (front : List Fragment) (left : Left) → long ≡ length old.bytes → long ≤ i → place ≡ left.at
      → HasBegun i front left → body_at order columns start old ≡ Err (Short place)
  unfolding body_at
  body_short i place front left is through at done =
      subst (λ (n : ℕ). fragments_at order columns n n start old ≡ Err (Short place)) is
      (subst (λ (n : ℕ). fragments_at order columns long long start old ≡ Err (Short n)) (sym at)
      (none_more order columns long start long i front left _ through done))

-- ---- the last item of a list

last_get : {A : Type 0} (o : Option A) (x : A) (xs : List A) → slice_get (x ∷ xs) (length (x ∷ xs) - 1) ≡ last_or o (x ∷ xs)
last_get o x [] = let e : length (x ∷ []) - 1 ≡ 0 = omega arith in ap (λ (i : ℕ). slice_get (x ∷ []) i) e
last_get o x (y ∷ ys) = let e : length (x ∷ y ∷ ys) - 1 ≡ suc (length (y ∷ ys) - 1) = omega arith in
    ap (λ (i : ℕ). slice_get (x ∷ y ∷ ys) i) e ∙ last_get (Some x) y ys

never_none : {A : Type 0} (x : A) (xs : List A) → None ≡ last_or (Some x) xs → ⊥
never_none x [] e = cc
never_none x (y ∷ ys) e = never_none y ys e

pub last_some : {A : Type 0} (o : Option A) (xs : List A) (x : A) → Some x ≡ slice_get xs (length xs - 1) → Some x ≡ last_or o xs
last_some o [] x e = absurd cc
last_some o (y ∷ ys) x e = e ∙ last_get o y ys

pub last_none : {A : Type 0} (o : Option A) (xs : List A) → None ≡ slice_get xs (length xs - 1) → o ≡ last_or o xs
last_none o [] e = refl
last_none o (y ∷ ys) e = absurd (never_none y ys (e ∙ last_get o y ys))
