-- How a loop passes over the fragments of a block.
use Rattle.std.proofs.Common.{◌≡◌, ℕ, suc, ◌+◌, ◌-◌, ◌<◌, ◌≤◌, eqb, Bool, true, false, Option, Some, List, ◌∷◌, length, Ok, Err, refl, sym, ap, ◌∙◌, arith}
use Rattle.std.specs.Borrow.{Bor}
use Rattle.std.proofs.lemmas.Bool.{eqb-true, eqb-false}
use Rattle.cas_types.specs.declared.schema.Column.{Column}
use Rattle.cas_cell.specs.declared.deletion.Deletion.{Deletion}
use Rattle.cas_bounds.specs.declared.map_key.End.{End}
use Rattle.cas_bounds.specs.declared.order.Ordered.{Ordered}
use Rattle.cas_codec.specs.declared.fault.ReadFault.{ReadFault}
use Rattle.cas_codec.specs.declared.fault.ReadFault.TheVariants.{Short, Bad}
use Rattle.cas_codec.specs.Reading.{Left, Read, ◌>>=◌, checked}
use Rattle.cas_streams.specs.Places.{Place}
use Rattle.cas_streams.specs.declared.fragment.Fragment.{Fragment}
use Rattle.cas_streams.specs.declared.fragment.Fragment.TheVariants as fragment
use Rattle.cas_fragments.specs.Blocks.{Reached, past, past_all, may_follow}
use Rattle.cas_fragments.specs.Reading.{fragment_at, next_fragment_at, early_fragment_at, fragments_at, body_at}
use Rattle.cas_fragments.proofs.BlockLoop.{empty_length, some_length}
use Rattle.cas_skips.specs.Told.{told}
use Rattle.cas_skips.specs.Marks.{Mark, mark_of, force_behind, may_stand, past_mark}
use Rattle.cas_skips.specs.Inner.Passing.{seen, mark_at, counted}
use Rattle.cas_skips.proofs.Passing.{read_ok, told_ok, told_err}

-- ---- by its mark it is known what may stand where

pub past_is : (r : Reached) (f : Fragment) → past r f ≡ past_mark r (mark_of f)
past_is r (fragment.Static cs) = refl
past_is r (fragment.Row x) = refl
past_is r (fragment.Marker cut d) = refl

pub follows_is : (order : List Ordered) (r : Reached) (f : Fragment) → may_follow order r f ≡ may_stand order r (mark_of f)
unfolding may_follow
follows_is order r (fragment.Static cs) = refl
follows_is order r (fragment.Row x) = refl
follows_is order r (fragment.Marker cut d) = refl

module _ (order : List Ordered) (columns : List Column) (r : Reached) (left : Left) where
  -- a fragment that may stand there
  pub next_ok : (m : Mark) (new : Left) → told mark_of (fragment_at order columns left) ≡ Ok (m, new) → may_stand order r m ≡ true
      → told mark_of (next_fragment_at order columns r left) ≡ Ok (m, new)
  unfolding next_fragment_at checked
  next_ok m new e may =
      let (f, is, same) = told_ok mark_of (fragment_at order columns left) m new e in
      rw (is, follows_is order r f ∙ ap (may_stand order r) same ∙ may) (ap (λ (n : Mark). read_ok n new) same)

  -- one that may not
  pub next_refused : (m : Mark) (new : Left) → told mark_of (fragment_at order columns left) ≡ Ok (m, new) → may_stand order r m ≡ false
      → told mark_of (next_fragment_at order columns r left) ≡ Err (Bad left.at)
  unfolding next_fragment_at checked
  next_refused m new e not_there =
      let (f, is, same) = told_ok mark_of (fragment_at order columns left) m new e in
      rw (is, follows_is order r f ∙ ap (may_stand order r) same ∙ not_there) refl

  pub next_bad : (g : ReadFault) → told mark_of (fragment_at order columns left) ≡ Err g → told mark_of (next_fragment_at order columns r left) ≡ Err g
  unfolding next_fragment_at checked
  next_bad g e = rw (told_err mark_of (fragment_at order columns left) g e) refl

-- ---- a loop that has passed over i of n fragments at most

one_more : (i : ℕ) (r : Reached) (f : Fragment) (read : Read (List Fragment))
    → told (counted i r) (read >>= λ others. Ok (f ∷ others.0, others.1)) ≡ told (counted (i + 1) (past r f)) read
one_more i r f (Ok x) =
    let e : i + suc (length x.0) ≡ i + 1 + length x.0 = omega arith in
    ap (λ (n : ℕ). read_ok (n, past_all (past r f) x.0) x.1) e
one_more i r f (Err g) = refl

module _ (order : List Ordered) (columns : List Column) (long : ℕ) where
  more : (m i : ℕ) (r : Reached) (p : Mark) (left next : Left) → told mark_of (early_fragment_at order columns long r left) ≡ Ok (p, next)
      → 0 < length next.bytes → told (counted i r) (fragments_at order columns long (suc m) r left)
      ≡ told (counted (i + 1) (past_mark r p)) (fragments_at order columns long m (past_mark r p) next)
  unfolding fragments_at
  more m i r p left next e some =
      let (f, is, same) = told_ok mark_of (early_fragment_at order columns long r left) p next e in
      rw (is, some_length next.bytes some) (one_more i r f (fragments_at order columns long m (past r f) next)
      ∙ ap (λ (q : Reached). told (counted (i + 1) q) (fragments_at order columns long m q next)) (past_is r f ∙ ap (past_mark r) same))

  last : (m i : ℕ) (r : Reached) (p : Mark) (left next : Left) → told mark_of (early_fragment_at order columns long r left) ≡ Ok (p, next)
      → length next.bytes ≡ 0 → told (counted i r) (fragments_at order columns long (suc m) r left) ≡ Ok ((i + 1, past_mark r p), next)
  unfolding fragments_at
  last m i r p left next e none =
      let (f, is, same) = told_ok mark_of (early_fragment_at order columns long r left) p next e in
      rw (is, empty_length next.bytes none) (ap (λ (q : Reached). read_ok (i + 1, q) next) (past_is r f ∙ ap (past_mark r) same))

  bad : (m i : ℕ) (r : Reached) (left : Left) (g : ReadFault) → told mark_of (early_fragment_at order columns long r left) ≡ Err g
      → told (counted i r) (fragments_at order columns long (suc m) r left) ≡ Err g
  unfolding fragments_at
  bad m i r left g e = rw (told_err mark_of (early_fragment_at order columns long r left) g e) refl

  short : (i : ℕ) (r : Reached) (left : Left) → told (counted i r) (fragments_at order columns long 0 r left) ≡ Err (Short left.at)
  unfolding fragments_at
  short i r left = refl

  -- what such a loop knows
  abbrev pub HasCounted : ℕ → Read (ℕ × Reached) → ℕ → Reached → Left → Type 0
  HasCounted n whole i r left = told (counted i r) (fragments_at order columns long (n - i) r left) ≡ whole

  pub loop_more : (n i : ℕ) (r : Reached) (p : Mark) (left next : Left) (whole : Read (ℕ × Reached)) → i < n
      → told mark_of (early_fragment_at order columns long r left) ≡ Ok (p, next) → 0 < length next.bytes
      → HasCounted n whole i r left → HasCounted n whole (i + 1) (past_mark r p) next
  loop_more n i r p left next whole turns e some so_far =
      let rest : n - i ≡ suc (n - (i + 1)) = omega arith in
      sym (more (n - (i + 1)) i r p left next e some) ∙ ap (λ m. told (counted i r) (fragments_at order columns long m r left)) (sym rest) ∙ so_far

  pub loop_last : (n i : ℕ) (r : Reached) (p : Mark) (left next : Left) (whole : Read (ℕ × Reached)) → i < n
      → told mark_of (early_fragment_at order columns long r left) ≡ Ok (p, next) → length next.bytes ≡ 0
      → HasCounted n whole i r left → whole ≡ Ok ((i + 1, past_mark r p), next)
  loop_last n i r p left next whole turns e none so_far =
      let rest : n - i ≡ suc (n - (i + 1)) = omega arith in
      sym so_far ∙ ap (λ m. told (counted i r) (fragments_at order columns long m r left)) rest ∙ last (n - (i + 1)) i r p left next e none

  pub loop_fault : (n i : ℕ) (r : Reached) (left : Left) (g : ReadFault) (whole : Read (ℕ × Reached)) → i < n
      → told mark_of (early_fragment_at order columns long r left) ≡ Err g → HasCounted n whole i r left → whole ≡ Err g
  loop_fault n i r left g whole turns e so_far =
      let rest : n - i ≡ suc (n - (i + 1)) = omega arith in
      sym so_far ∙ ap (λ m. told (counted i r) (fragments_at order columns long m r left)) rest ∙ bad (n - (i + 1)) i r left g e

  pub loop_short : (n i : ℕ) (r : Reached) (left : Left) (whole : Read (ℕ × Reached)) → n ≤ i → HasCounted n whole i r left → whole ≡ Err (Short left.at)
  loop_short n i r left whole through so_far =
      let none : n - i ≡ 0 = omega arith in
      sym so_far ∙ ap (λ m. told (counted i r) (fragments_at order columns long m r left)) none ∙ short i r left

  pub body_is : {A : Type 0} (f : List Fragment → A) (r : Reached) (left : Left) → long ≡ length left.bytes
      → told f (body_at order columns r left) ≡ told f (fragments_at order columns long long r left)
  unfolding body_at
  body_is f r left e = rw e refl

-- ---- as the code has it

pub no_bytes : (n : ℕ) (b : Bool) → b ≡ eqb n 0 → b ≡ true → n ≡ 0
no_bytes n b is e = eqb-true n 0 (sym is ∙ e)

pub some_bytes : (n : ℕ) (b : Bool) → b ≡ eqb n 0 → b ≡ false → 0 < n
some_bytes n b is e = let not_none : n ≡ 0 → ⊥ = eqb-false n 0 (sym is ∙ e) in omega arith

pub behind_is : (before : Place) (now force : Option Deletion) (end : End) (opens : Option (Option Deletion)) (values items : List (Bor (List ℕ)))
    → items ≡ values → force ≡ force_behind now opens
    → record { last = Some (record { end = end; values = seen items }); force = force } ≡ past_mark (record { last = before; force = now }) (mark_at end opens (seen values))
behind_is before now force end opens values items e f = λ i. record { last = Some (record { end = end; values = seen (e i) }); force = f i }
