-- A partition's fragments are cut into blocks in one way.
use Rattle.std.proofs.Common.{◌≡◌, ℕ, ◌+◌, ◌<◌, ◌≤◌, ◌++◌, Bool, true, false, cond, List, [], ◌∷◌, length, refl, sym, ap, subst, ◌∙◌, append_assoc, arith}
use Rattle.std.specs.List.{AllByRecursion}
use Rattle.std.proofs.lemmas.Bool.{leb-true, leb-false}
use Rattle.std.proofs.lemmas.List.{append-nil, length-append}
use Rattle.cas_types.specs.declared.schema.Column.{Column}
use Rattle.cas_bounds.specs.ClusteringOrder.{clustering_order}
use Rattle.cas_bounds.specs.declared.order.Ordered.{Ordered}
use Rattle.cas_streams.specs.Streams.{IsThere}
use Rattle.cas_streams.specs.declared.fragment.Fragment.{Fragment}
use Rattle.cas_fragments.specs.Spelling.{fragment_bytes, body_bytes}
use Rattle.cas_fragments.specs.Blocks.{Reached, past, past_all, Follow, is_full, BeginEarly, last_block, blocks_from, blocks_of}
use Rattle.cas_fragments.specs.Allowed.{FitsFragment}
use Rattle.cas_fragments.specs.Laws.{IsBlock, AreBlocks, joined, BlocksArePartitions}
use Rattle.cas_fragments.specs.declared.blocks.TheConstants.{BLOCK_LEAST}

-- ---- lists

pushed : (xs : List Fragment) (x : Fragment) (ys : List Fragment) → (xs ++ x ∷ []) ++ ys ≡ xs ++ x ∷ ys
pushed xs x ys = append_assoc xs (x ∷ []) ys

all_front : (P : Fragment → Type 0) (xs ys : List Fragment) → AllByRecursion P (xs ++ ys) → AllByRecursion P xs
all_front P [] ys all = tt
all_front P (x ∷ xs) ys all = (all.0, all_front P xs ys all.1)

all_back : (P : Fragment → Type 0) (xs ys : List Fragment) → AllByRecursion P (xs ++ ys) → AllByRecursion P ys
all_back P [] ys all = all
all_back P (x ∷ xs) ys all = all_back P xs ys all.1

all_both : (P : Fragment → Type 0) (xs ys : List Fragment) → AllByRecursion P xs → AllByRecursion P ys → AllByRecursion P (xs ++ ys)
all_both P [] ys a b = b
all_both P (x ∷ xs) ys a b = (a.0, all_both P xs ys a.1 b)

follow_front : (order : List Ordered) (r : Reached) (xs ys : List Fragment) → Follow order r (xs ++ ys) → Follow order r xs
follow_front order r [] ys follow = tt
follow_front order r (x ∷ xs) ys follow = (follow.0, follow_front order (past r x) xs ys follow.1)

follow_back : (order : List Ordered) (r : Reached) (xs ys : List Fragment) → Follow order r (xs ++ ys) → Follow order (past_all r xs) ys
follow_back order r [] ys follow = follow
follow_back order r (x ∷ xs) ys follow = follow_back order (past r x) xs ys follow.1

follow_both : (order : List Ordered) (r : Reached) (xs ys : List Fragment) → Follow order r xs → Follow order (past_all r xs) ys → Follow order r (xs ++ ys)
follow_both order r [] ys a b = b
follow_both order r (x ∷ xs) ys a b = (a.0, follow_both order (past r x) xs ys a.1 b)

there_pushed : (xs : List Fragment) (x : Fragment) → IsThere (xs ++ x ∷ [])
there_pushed [] x = tt
there_pushed (y ∷ xs) x = tt

body_both : (xs ys : List Fragment) → length (body_bytes (xs ++ ys)) ≡ length (body_bytes xs) + length (body_bytes ys)
body_both [] ys = omega arith
body_both (x ∷ xs) ys =
    omega (arith, length-append (fragment_bytes x) (body_bytes (xs ++ ys)), length-append (fragment_bytes x) (body_bytes xs), body_both xs ys)

body_one : (x : Fragment) → length (body_bytes (x ∷ [])) ≡ length (fragment_bytes x)
body_one x = ap length (append-nil (fragment_bytes x))

-- ---- blocks that begin early

not_full_yet : (xs : List Fragment) → length (body_bytes xs) < BLOCK_LEAST → is_full xs ≡ false
not_full_yet xs below = elim (is_full xs) as (λ t. is_full xs ≡ t → t ≡ false) [
  | true ↦ λ e. absurd (let le : BLOCK_LEAST ≤ length (body_bytes xs) = leb-true BLOCK_LEAST (length (body_bytes xs)) e in omega arith)
  | false ↦ λ e. refl
] refl

early_pushed : (used : ℕ) (xs : List Fragment) (x : Fragment) → BeginEarly used xs → used + length (body_bytes xs) < BLOCK_LEAST → BeginEarly used (xs ++ x ∷ [])
early_pushed used [] x early below = (omega arith, tt)
early_pushed used (y ∷ xs) x early below =
    (early.0, early_pushed (used + length (fragment_bytes y)) xs x early.1 (omega (arith, length-append (fragment_bytes y) (body_bytes xs))))

-- ---- what blocks have together

last_joined : (begun : List Fragment) → joined (last_block begun) ≡ begun
last_joined [] = refl
last_joined (f ∷ fs) = append-nil (f ∷ fs)

from_joined : (fs begun : List Fragment) → joined (blocks_from begun fs) ≡ begun ++ fs
from_joined [] begun = last_joined begun ∙ sym (append-nil begun)
from_joined (f ∷ fs) begun =
    cases (is_full (begun ++ f ∷ [])) (from_joined fs []) (from_joined fs (begun ++ f ∷ []))
  where
    cases : (b : Bool) → joined (blocks_from [] fs) ≡ fs → joined (blocks_from (begun ++ f ∷ []) fs) ≡ (begun ++ f ∷ []) ++ fs
        → joined (cond b ((begun ++ f ∷ []) ∷ blocks_from [] fs) (blocks_from (begun ++ f ∷ []) fs)) ≡ begun ++ f ∷ fs
    cases true e g = ap (λ (ys : List Fragment). (begun ++ f ∷ []) ++ ys) e ∙ pushed begun f fs
    cases false e g = g ∙ pushed begun f fs

-- ---- what is cut is blocks

are_more : (columns : List Column) (r : Reached) (b : List Fragment) (bs : List (List Fragment)) → IsBlock columns r b → is_full b ≡ true
    → AreBlocks columns (past_all r b) bs → AreBlocks columns r (b ∷ bs)
are_more columns r b [] block full others = block
are_more columns r b (c ∷ bs) block full others = (block, full, others)

are_last : (columns : List Column) (r : Reached) (b : List Fragment) → AllByRecursion (FitsFragment columns) b → Follow (clustering_order columns) r b
    → BeginEarly 0 b → AreBlocks columns r (last_block b)
are_last columns r [] fit follow early = tt
are_last columns r (f ∷ fs) fit follow early = record { some = tt; fit = fit; follow = follow; early = early }

cut_from : (columns : List Column) (fs : List Fragment) (r : Reached) (begun : List Fragment) → AllByRecursion (FitsFragment columns) (begun ++ fs)
    → Follow (clustering_order columns) r (begun ++ fs) → BeginEarly 0 begun → length (body_bytes begun) < BLOCK_LEAST
    → AreBlocks columns r (blocks_from begun fs)
cut_from columns [] r begun fit follow early below =
    are_last columns r begun (subst (AllByRecursion (FitsFragment columns)) (append-nil begun) fit)
    (subst (Follow (clustering_order columns) r) (append-nil begun) follow) early
cut_from columns (f ∷ fs) r begun fit follow early below =
    let fit-both = subst (AllByRecursion (FitsFragment columns)) (sym (pushed begun f fs)) fit in
    let follow-both = subst (Follow (clustering_order columns) r) (sym (pushed begun f fs)) follow in
    let early-both = early_pushed 0 begun f early (omega arith) in
    cases (is_full (begun ++ f ∷ [])) refl
    (record {
      some = there_pushed begun f;
      fit = all_front (FitsFragment columns) (begun ++ f ∷ []) fs fit-both;
      follow = follow_front (clustering_order columns) r (begun ++ f ∷ []) fs follow-both;
      early = early-both;
    })
    (cut_from columns fs (past_all r (begun ++ f ∷ [])) [] (all_back (FitsFragment columns) (begun ++ f ∷ []) fs fit-both)
    (follow_back (clustering_order columns) r (begun ++ f ∷ []) fs follow-both) tt (omega arith))
    (λ short. cut_from columns fs r (begun ++ f ∷ []) fit-both follow-both early-both short)
  where
    cases : (b : Bool) → is_full (begun ++ f ∷ []) ≡ b → IsBlock columns r (begun ++ f ∷ [])
        → AreBlocks columns (past_all r (begun ++ f ∷ [])) (blocks_from [] fs)
        → (length (body_bytes (begun ++ f ∷ [])) < BLOCK_LEAST → AreBlocks columns r (blocks_from (begun ++ f ∷ []) fs))
        → AreBlocks columns r (cond b ((begun ++ f ∷ []) ∷ blocks_from [] fs) (blocks_from (begun ++ f ∷ []) fs))
    cases true e block others more = are_more columns r (begun ++ f ∷ []) (blocks_from [] fs) block e others
    cases false e block others more = more (leb-false BLOCK_LEAST (length (body_bytes (begun ++ f ∷ []))) e)

-- ---- blocks are cut in one way

pub fits_all : (columns : List Column) (r : Reached) (bs : List (List Fragment)) → AreBlocks columns r bs → AllByRecursion (FitsFragment columns) (joined bs)
fits_all columns r [] are = tt
fits_all columns r (b ∷ []) are = all_both (FitsFragment columns) b [] are.fit tt
fits_all columns r (b ∷ c ∷ bs) are = all_both (FitsFragment columns) b (joined (c ∷ bs)) are.0.fit (fits_all columns (past_all r b) (c ∷ bs) are.2)

pub follows_all : (columns : List Column) (r : Reached) (bs : List (List Fragment)) → AreBlocks columns r bs → Follow (clustering_order columns) r (joined bs)
follows_all columns r [] are = tt
follows_all columns r (b ∷ []) are = follow_both (clustering_order columns) r b [] are.follow tt
follows_all columns r (b ∷ c ∷ bs) are =
    follow_both (clustering_order columns) r b (joined (c ∷ bs)) are.0.follow (follows_all columns (past_all r b) (c ∷ bs) are.2)

-- a block that is cut off, if it is full, and one that is left at the end
full_cut : (b begun rest : List Fragment) → IsThere b → BeginEarly (length (body_bytes begun)) b → is_full (begun ++ b) ≡ true
    → blocks_from begun (b ++ rest) ≡ (begun ++ b) ∷ blocks_from [] rest
full_cut [] begun rest some early full = absurd some
full_cut (f ∷ []) begun rest some early full =
    ap (λ (t : Bool). cond t ((begun ++ f ∷ []) ∷ blocks_from [] rest) (blocks_from (begun ++ f ∷ []) rest)) full
full_cut (f ∷ g ∷ b) begun rest some early full =
    let long = body_both begun (f ∷ []) in
    let same : length (body_bytes begun) + length (fragment_bytes f) ≡ length (body_bytes (begun ++ f ∷ [])) = omega (arith, body_one f) in
    let short : is_full (begun ++ f ∷ []) ≡ false = not_full_yet (begun ++ f ∷ []) (let below = early.1.0 in omega arith) in
    ap (λ (t : Bool). cond t ((begun ++ f ∷ []) ∷ blocks_from [] (g ∷ b ++ rest)) (blocks_from (begun ++ f ∷ []) (g ∷ b ++ rest))) short
    ∙ full_cut (g ∷ b) (begun ++ f ∷ []) rest tt (subst (λ (n : ℕ). BeginEarly n (g ∷ b)) same early.1)
    (ap is_full (pushed begun f (g ∷ b)) ∙ full)
    ∙ ap (λ (xs : List Fragment). xs ∷ blocks_from [] rest) (pushed begun f (g ∷ b))

last_is_block : (xs : List Fragment) → IsThere xs → last_block xs ≡ xs ∷ []
last_is_block [] some = absurd some
last_is_block (x ∷ xs) some = refl

last_cut : (b begun : List Fragment) → IsThere b → BeginEarly (length (body_bytes begun)) b → blocks_from begun b ≡ (begun ++ b) ∷ []
last_cut [] begun some early = absurd some
last_cut (f ∷ []) begun some early = cases (is_full (begun ++ f ∷ []))
  where
    cases : (t : Bool) → cond t ((begun ++ f ∷ []) ∷ blocks_from [] []) (blocks_from (begun ++ f ∷ []) []) ≡ (begun ++ f ∷ []) ∷ []
    cases true = refl
    cases false = last_is_block (begun ++ f ∷ []) (there_pushed begun f)
last_cut (f ∷ g ∷ b) begun some early =
    let long = body_both begun (f ∷ []) in
    let same : length (body_bytes begun) + length (fragment_bytes f) ≡ length (body_bytes (begun ++ f ∷ [])) = omega (arith, body_one f) in
    let short : is_full (begun ++ f ∷ []) ≡ false = not_full_yet (begun ++ f ∷ []) (let below = early.1.0 in omega arith) in
    ap (λ (t : Bool). cond t ((begun ++ f ∷ []) ∷ blocks_from [] (g ∷ b)) (blocks_from (begun ++ f ∷ []) (g ∷ b))) short
    ∙ last_cut (g ∷ b) (begun ++ f ∷ []) tt (subst (λ (n : ℕ). BeginEarly n (g ∷ b)) same early.1)
    ∙ ap (λ (xs : List Fragment). xs ∷ []) (pushed begun f (g ∷ b))

pub one_way : (columns : List Column) (r : Reached) (bs : List (List Fragment)) → AreBlocks columns r bs → blocks_of (joined bs) ≡ bs
one_way columns r [] are = refl
one_way columns r (b ∷ []) are = ap blocks_of (append-nil b) ∙ last_cut b [] are.some are.early
one_way columns r (b ∷ c ∷ bs) are =
    full_cut b [] (joined (c ∷ bs)) are.0.some are.0.early are.1
    ∙ ap (λ (xs : List (List Fragment)). b ∷ xs) (one_way columns (past_all r b) (c ∷ bs) are.2)

pub blocks_are_partitions : BlocksArePartitions
blocks_are_partitions = record {
  whole = λ fs. from_joined fs [];
  cut = λ columns r fs fit follow. cut_from columns fs r [] fit follow tt (omega arith);
  fit = fits_all;
  follow = follows_all;
  one_way = one_way;
}
