-- Blocks are read exactly.
use Rattle.std.proofs.Common.{◌≡◌, ℕ, zero, suc, ◌+◌, ◌-◌, ◌<◌, ◌≤◌, ◌++◌, Bool, true, false, cond, eqb, leb, List, [], ◌∷◌, length, Result, Ok, Err, refl, sym, ap, subst, ◌∙◌, arith}
use Rattle.std.specs.List.{AllByRecursion}
use Rattle.std.proofs.lemmas.Bool.{eqb-true, leb-true, leb-false}
use Rattle.std.proofs.lemmas.List.{append-nil, length-append}
use Rattle.cas_types.specs.Limits.{IsNarrow}
use Rattle.cas_types.specs.declared.schema.Column.{Column}
use Rattle.cas_bounds.specs.ClusteringOrder.{clustering_order}
use Rattle.cas_codec.specs.declared.fault.ReadFault.{ReadFault}
use Rattle.cas_codec.specs.declared.fault.ReadFault.TheVariants.{Bad}
use Rattle.cas_codec.specs.Reading.{Left, Read, ◌>>=◌}
use Rattle.cas_codec.specs.Fields.{u8}
use Rattle.cas_codec.specs.Exact.{AreBytes, Begins, IsExact}
use Rattle.cas_codec.proofs.Exactness.{bind_ok, done, ok_is, read_left, AreBytes-rest, exact_checked}
use Rattle.cas_codec.proofs.FieldLengths.{u8_long}
use Rattle.cas_streams.specs.Streams.{IsThere}
use Rattle.cas_streams.specs.declared.fragment.Fragment.{Fragment}
use Rattle.cas_streams.specs.declared.fragment.Fragment.TheVariants as fragment
use Rattle.cas_fragments.specs.Spelling.{row_bytes, marker_bytes, fragment_bytes, body_bytes}
use Rattle.cas_fragments.specs.Blocks.{Reached, past, may_follow, Follow, BeginEarly}
use Rattle.cas_fragments.specs.Reading.{fragment_at, next_fragment_at, early_fragment_at, fragments_at, body_at}
use Rattle.cas_fragments.specs.Allowed.{FitsFragment}
use Rattle.cas_fragments.specs.Laws.{BlocksAreExact}
use Rattle.cas_fragments.specs.declared.blocks.TheConstants.{BLOCK_LEAST}
use Rattle.cas_fragments.proofs.FragmentLaws.{fragment_exact}
use Rattle.cas_fragments.proofs.BlockLoop.{some_length}

-- ---- a fragment takes a byte at least

pub some_bytes : (columns : List Column) (f : Fragment) → FitsFragment columns f → 0 < length (fragment_bytes f)
some_bytes columns (fragment.Static cs) fit = absurd fit
some_bytes columns (fragment.Row r) fit = omega (arith, length-append (u8 1) (row_bytes r), u8_long 1)
some_bytes columns (fragment.Marker cut d) fit = omega (arith, length-append (u8 2) (marker_bytes cut d), u8_long 2)

pub body_longer : (f : Fragment) (fs : List Fragment) → length (body_bytes (f ∷ fs)) ≡ length (fragment_bytes f) + length (body_bytes fs)
body_longer f fs = length-append (fragment_bytes f) (body_bytes fs)

pub few_fragments : (columns : List Column) (fs : List Fragment) → AllByRecursion (FitsFragment columns) fs → length fs ≤ length (body_bytes fs)
few_fragments columns [] fit = omega arith
few_fragments columns (f ∷ fs) fit = omega (arith, some_bytes columns f fit.0, few_fragments columns fs fit.1, body_longer f fs)

-- ---- what is read

next_exact : (columns : List Column) → IsNarrow columns → (r : Reached)
    → IsExact (λ f. FitsFragment columns f × (may_follow (clustering_order columns) r f ≡ true)) fragment_bytes (next_fragment_at (clustering_order columns) columns r)
unfolding next_fragment_at
next_exact columns narrow r =
    exact_checked (FitsFragment columns) fragment_bytes (fragment_at (clustering_order columns) columns) (may_follow (clustering_order columns) r)
    (fragment_exact columns narrow)

else_ok : {A : Type 0} (b : Bool) (d : ReadFault) (r : Result A ReadFault) (y : A) → cond b (Err d) r ≡ Ok y → (b ≡ false) × (r ≡ Ok y)
else_ok true d r y e = absurd cc
else_ok false d r y e = (refl, e)

not_full : (used : ℕ) → used < BLOCK_LEAST → leb BLOCK_LEAST used ≡ false
not_full used below = elim (leb BLOCK_LEAST used) as (λ t. leb BLOCK_LEAST used ≡ t → t ≡ false) [
  | true ↦ λ e. absurd (let le : BLOCK_LEAST ≤ used = leb-true BLOCK_LEAST used e in omega arith)
  | false ↦ λ e. refl
] refl

below_full : (a b : ℕ) → leb a b ≡ false → b < a
below_full a b e = leb-false a b e

-- fragments that fill the bytes, the first of which stands behind so many of its block
record Filled (columns : List Column) (used : ℕ) (r : Reached) (old new : Left) (fs : List Fragment) : Type 0 where
  pub some : IsThere fs
  pub fit : AllByRecursion (FitsFragment columns) fs
  pub follow : Follow (clustering_order columns) r fs
  pub early : BeginEarly used fs
  pub bytes : old.bytes ≡ body_bytes fs
  pub at : new.at ≡ old.at + length (body_bytes fs)
  pub rest : new.bytes ≡ []

nothing_left : (xs : List ℕ) → eqb (length xs) 0 ≡ true → xs ≡ []
nothing_left [] e = refl
nothing_left (x ∷ xs) e = let none : length (x ∷ xs) ≡ 0 = eqb-true (length (x ∷ xs)) 0 e in absurd (omega arith)

module _ (columns : List Column) (narrow : IsNarrow columns) (long : ℕ) where
  last_filled : (r : Reached) (old mid : Left) (f : Fragment) → FitsFragment columns f × (may_follow (clustering_order columns) r f ≡ true)
      → Begins (fragment_bytes f) old mid → long - length old.bytes < BLOCK_LEAST → mid.bytes ≡ [] → Filled columns (long - length old.bytes) r old mid (f ∷ [])
  last_filled r old mid f fit begins below none = record {
    some = tt;
    fit = (fit.0, tt);
    follow = (fit.1, tt);
    early = (below, tt);
    bytes = begins.bytes ∙ ap (λ (xs : List ℕ). fragment_bytes f ++ xs) none;
    at = begins.at ∙ ap (λ (xs : List ℕ). old.at + length xs) (sym (append-nil (fragment_bytes f)));
    rest = none;
  }

  more_filled : (r : Reached) (old mid new : Left) (f : Fragment) (fs : List Fragment)
      → FitsFragment columns f × (may_follow (clustering_order columns) r f ≡ true) → Begins (fragment_bytes f) old mid
      → length old.bytes ≤ long → long - length old.bytes < BLOCK_LEAST
      → Filled columns (long - length mid.bytes) (past r f) mid new fs → Filled columns (long - length old.bytes) r old new (f ∷ fs)
  more_filled r old mid new f fs fit begins within below others =
      let taken : length old.bytes ≡ length (fragment_bytes f) + length mid.bytes =
      ap length begins.bytes ∙ length-append (fragment_bytes f) mid.bytes in
      let used : long - length mid.bytes ≡ long - length old.bytes + length (fragment_bytes f) = omega arith in record {
        some = tt;
        fit = (fit.0, others.fit);
        follow = (fit.1, others.follow);
        early = (below, subst (λ (n : ℕ). BeginEarly n fs) used others.early);
        bytes = begins.bytes ∙ ap (λ (xs : List ℕ). fragment_bytes f ++ xs) others.bytes;
        at = omega (arith, begins.at, others.at, body_longer f fs);
        rest = others.rest;
      }

  one_filled : (n : ℕ) (r : Reached) (old new : Left) (fs : List Fragment)
      → ((x : Fragment) (mid : Left) (gs : List Fragment) (last : Left) → AreBytes mid.bytes → length mid.bytes ≤ long
      → fragments_at (clustering_order columns) columns long n (past r x) mid ≡ Ok (gs, last) → Filled columns (long - length mid.bytes) (past r x) mid last gs)
      → length old.bytes ≤ long → (f : Fragment) (mid : Left) → FitsFragment columns f × (may_follow (clustering_order columns) r f ≡ true)
      → Begins (fragment_bytes f) old mid → AreBytes mid.bytes → length mid.bytes ≤ long → long - length old.bytes < BLOCK_LEAST
      → (b : Bool) → eqb (length mid.bytes) 0 ≡ b → cond {A = Read (List Fragment)} b (Ok (f ∷ [], mid))
      (fragments_at (clustering_order columns) columns long n (past r f) mid >>= λ (others : List Fragment × Left). Ok (f ∷ others.0, others.1)) ≡ Ok (fs, new)
      → Filled columns (long - length old.bytes) r old new fs
  one_filled n r old new fs others within f mid fit begins rest short below true none is =
      subst (λ (y : List Fragment × Left). Filled columns (long - length old.bytes) r old y.1 y.0) (ok_is (f ∷ [], mid) (fs, new) is)
      (last_filled r old mid f fit begins below (nothing_left mid.bytes none))
  one_filled n r old new fs others within f mid fit begins rest short below false some is =
      let q = bind_ok (fragments_at (clustering_order columns) columns long n (past r f) mid) (λ (o : List Fragment × Left). Ok (f ∷ o.0, o.1)) (fs, new) is in
      subst (λ (y : List Fragment × Left). Filled columns (long - length old.bytes) r old y.1 y.0) (ok_is (f ∷ q.0.0, q.0.1) (fs, new) q.2)
      (more_filled r old mid q.0.1 f q.0.0 fit begins within below (others f mid q.0.0 q.0.1 rest short q.1))

  early_ok : (m : ℕ) (r : Reached) (old : Left) (p : Fragment × Left) → early_fragment_at (clustering_order columns) columns m r old ≡ Ok p
      → (m - length old.bytes < BLOCK_LEAST) × (next_fragment_at (clustering_order columns) columns r old ≡ Ok p)
  unfolding early_fragment_at
  early_ok m r old p e =
      let t = else_ok (leb BLOCK_LEAST (m - length old.bytes)) (Bad old.at) (next_fragment_at (clustering_order columns) columns r old) p e in
      (below_full BLOCK_LEAST (m - length old.bytes) t.0, t.1)

  early_again : (r : Reached) (old : Left) (p : Fragment × Left) → long - length old.bytes < BLOCK_LEAST
      → next_fragment_at (clustering_order columns) columns r old ≡ Ok p → early_fragment_at (clustering_order columns) columns long r old ≡ Ok p
  unfolding early_fragment_at
  early_again r old p below e = rw (not_full (long - length old.bytes) below) e

  filled : (n : ℕ) (r : Reached) (old new : Left) (fs : List Fragment) → AreBytes old.bytes → length old.bytes ≤ long
      → fragments_at (clustering_order columns) columns long n r old ≡ Ok (fs, new) → Filled columns (long - length old.bytes) r old new fs
  unfolding fragments_at
  filled zero r old new fs are within e = absurd cc
  filled (suc n) r old new fs are within e =
      let p = bind_ok (early_fragment_at (clustering_order columns) columns long r old)
      (λ (first : Fragment × Left). cond (eqb (length first.1.bytes) 0) (Ok (first.0 ∷ [], first.1))
      (fragments_at (clustering_order columns) columns long n (past r first.0) first.1 >>= λ (others : List Fragment × Left). Ok (first.0 ∷ others.0, others.1)))
      (fs, new) e in
      let t = early_ok long r old p.0 p.1 in
      let below = t.0 in
      let f = (next_exact columns narrow r).found old p.0.1 p.0.0 are t.1 in
      let taken : length old.bytes ≡ length (fragment_bytes p.0.0) + length p.0.1.bytes =
      ap length f.1.bytes ∙ length-append (fragment_bytes p.0.0) p.0.1.bytes in
      let rest = AreBytes-rest old.bytes (fragment_bytes p.0.0) p.0.1.bytes are f.1.bytes in
      one_filled n r old new fs (λ x mid gs last. filled n (past r x) mid last gs) within p.0.0 p.0.1 f.0 f.1 rest (omega arith) below
      (eqb (length p.0.1.bytes) 0) refl p.2

  again : (n : ℕ) (r : Reached) (fs : List Fragment) (at : ℕ) → IsThere fs → AllByRecursion (FitsFragment columns) fs → Follow (clustering_order columns) r fs
      → BeginEarly (long - length (body_bytes fs)) fs → length (body_bytes fs) ≤ long → length fs ≤ n
      → fragments_at (clustering_order columns) columns long n r (read_left (body_bytes fs) at) ≡ Ok (fs, read_left [] (at + length (body_bytes fs)))
  unfolding fragments_at
  again n r [] at some fit follow early within few = absurd some
  again zero r (f ∷ fs) at some fit follow early within few = absurd (omega arith)
  again (suc n) r (f ∷ []) at some fit follow early within few =
      let front = early_again r (read_left (body_bytes (f ∷ [])) at) _ early.0 ((next_exact columns narrow r).again f [] at (fit.0, follow.0)) in
      rw front (ap (λ (xs : List ℕ). done (f ∷ [], read_left [] (at + length xs))) (sym (append-nil (fragment_bytes f))))
  again (suc n) r (f ∷ g ∷ fs) at some fit follow early within few =
      let front = early_again r (read_left (body_bytes (f ∷ g ∷ fs)) at) _ early.0
      ((next_exact columns narrow r).again f (body_bytes (g ∷ fs)) at (fit.0, follow.0)) in
      let whole = body_longer f (g ∷ fs) in
      let more : 0 < length (body_bytes (g ∷ fs)) = omega (arith, some_bytes columns g fit.1.0, body_longer g fs) in
      let used : long - length (body_bytes (f ∷ g ∷ fs)) + length (fragment_bytes f) ≡ long - length (body_bytes (g ∷ fs)) = omega arith in
      let back = again n (past r f) (g ∷ fs) (at + length (fragment_bytes f)) tt fit.1 follow.1
      (subst (λ (m : ℕ). BeginEarly m (g ∷ fs)) used early.1) (omega arith) (omega arith) in
      let place : at + length (fragment_bytes f) + length (body_bytes (g ∷ fs)) ≡ at + length (body_bytes (f ∷ g ∷ fs)) = omega arith in
      rw (front, some_length (body_bytes (g ∷ fs)) more, back) (ap (λ (m : ℕ). done (f ∷ g ∷ fs, read_left [] m)) place)

pub blocks_exact : BlocksAreExact
unfolding body_at
blocks_exact = record {
  found = λ columns narrow r old new fs are e.
      let f = filled columns narrow (length old.bytes) (length old.bytes) r old new fs are (omega arith) e in
      let none : length old.bytes - length old.bytes ≡ 0 = omega arith in
      (record { some = f.some; fit = f.fit; follow = f.follow; early = subst (λ (n : ℕ). BeginEarly n fs) none f.early }, f.bytes, f.rest);
  again = λ columns narrow r fs at fit.
      let none : 0 ≡ length (body_bytes fs) - length (body_bytes fs) = omega arith in
      again columns narrow (length (body_bytes fs)) (length (body_bytes fs)) r fs at fit.some fit.fit fit.follow
      (subst (λ (n : ℕ). BeginEarly n fs) none fit.early) (omega arith) (few_fragments columns fs fit.fit);
}
