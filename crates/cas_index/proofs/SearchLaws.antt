-- What is found in an index, and with which block a read of a slice begins.
use Rattle.std.proofs.Common.{◌≡◌, ℕ, ◌+◌, ◌-◌, ◌<◌, ◌≤◌, ◌^◌, Bool, true, false, not, ◌&&◌, List, [], ◌∷◌, ◌++◌, length, take, get_or, Option, None, Some, inl, inr, refl, sym, ap, subst, ◌∙◌, arith}
use Rattle.std.proofs.Math.Path.{fun_ext}
use Rattle.std.specs.Prelude.{slice_get}
use Rattle.std.specs.List.{All, AllByRecursion, last_or}
use Rattle.std.specs.List.Sorted.{IsPartitionedBy, IsPartitionPoint}
use Rattle.std.specs.declared.cmp.Ordering.{Ordering}
use Rattle.std.specs.declared.cmp.Ordering.TheVariants.{Less, Equal, Greater}
use Rattle.std.specs.Ordering.{is_lt, is_gt, is_eq}
use Rattle.std.proofs.lemmas.Bool.{true≢false, cases_lt, cases_order}
use Rattle.std.proofs.lemmas.Cmp.{nat_list_cmp_total, tied_itself}
use Rattle.std.proofs.lemmas.List.Elements.{All-from_recursion}
use Rattle.std.proofs.lemmas.Map.Keys.{Less-from_sorted}
use Rattle.std.proofs.lemmas.List.{length-append}
use Rattle.std.proofs.lemmas.Option.{slice_get-get_or, slice_get_past, slice_get_within}
use Rattle.cas_types.specs.Values.{bytes_cmp}
use Rattle.cas_types.proofs.OrderLaws.{bytes_orders}
use Rattle.cas_bounds.specs.Cuts.{cut_cmp}
use Rattle.cas_bounds.specs.Points.{Point, point_cmp, cut_point}
use Rattle.cas_bounds.specs.declared.order.Ordered.{Ordered}
use Rattle.cas_bounds.specs.declared.cuts.Cut.{Cut}
use Rattle.cas_bounds.specs.declared.cuts.Slice.{Slice}
use Rattle.cas_bounds.proofs.CutLaws.{point_laws}
use Rattle.cas_atoms.specs.Fits.{FitsValues}
use Rattle.cas_info.specs.declared.info.TheConstants.{PARTITION_LIMIT}
use Rattle.cas_index.specs.declared.entries.BlockAt.{BlockAt}
use Rattle.cas_index.specs.declared.entries.BlockEntry.{BlockEntry}
use Rattle.cas_index.specs.declared.entries.PartitionEntry.{PartitionEntry}
use Rattle.cas_index.specs.Entries.{Index}
use Rattle.cas_index.specs.Allowed.{Chain, IsNextBlock, IsNextPartition, AreEntries, HasRoom, HasRooms}
use Rattle.cas_index.specs.Searches.{IsFirst, HasKey, is_after, IsNextAfter, begins_before, next_is_above, can_meet, IsBlockFor}
use Rattle.cas_index.specs.Inner.Rooms.{KeysAscend, BlocksInOrder}
use Rattle.cas_index.proofs.Searching.{chain_ascends, chain_rises, chain_each, chain_more, lt_less, turned, not_gt, none_within, some_at, get_or_any, ascend_rises, parted_upto, parted_below, meets, none_meets, no_items, all_late, first_meets}

-- ---- what each partition and each block of an index is

short_values : (order : List Ordered) (vs : List (List ℕ)) → FitsValues order vs → AllByRecursion (λ v. length v < 2 ^ 16) vs
short_values [] [] fit = tt
short_values [] (v ∷ vs) fit = absurd fit
short_values (o ∷ os) [] fit = absurd fit
short_values (o ∷ os) (v ∷ vs) fit = (fit.0.0, short_values os vs fit.1)

block_room : (order : List Ordered) (place : ℕ) (last : Option BlockEntry) (b : BlockEntry) → IsNextBlock order place last b → HasRoom b
block_room order place last b next = record { few = next.cut.3; short = short_values (take (length b.cut.prefix) order) b.cut.prefix next.cut.1 }

pub partition_room : (order : List Ordered) (last : Option PartitionEntry) (p : PartitionEntry) → IsNextPartition order last p → HasRooms p
partition_room order last p next = record {
  key = omega (arith, next.key.1);
  few = next.few;
  blocks = All-from_recursion HasRoom p.blocks (chain_each (IsNextBlock order p.place) HasRoom (block_room order p.place) None p.blocks next.blocks);
}

pub entries_room : (order : List Ordered) (ps : List PartitionEntry) → AreEntries order ps → All HasRooms ps
entries_room order ps entries = All-from_recursion HasRooms ps (chain_each (IsNextPartition order) HasRooms (partition_room order) None ps entries.each)

pub keys_ascend : (order : List Ordered) (ps : List PartitionEntry) → AreEntries order ps → KeysAscend ps
keys_ascend order ps entries =
    chain_ascends (IsNextPartition order) (λ p q. bytes_cmp p.key q.key) (λ p. Unit {0}) (λ p q r. nat_list_cmp_total.trans p.key q.key r.key) (λ p next. tt)
    (λ p q u next. (lt_less _ next.above, tt)) ps entries.each

in_order : (order : List Ordered) (a b : Cut) → a.order ≡ order → cut_cmp a b ≡ point_cmp order (cut_point a) (cut_point b)
in_order order a b one = point_laws.cuts a b ∙ ap (λ o. point_cmp o (cut_point a) (cut_point b)) one

blocks_in_order : (order : List Ordered) (place : ℕ) (bs : List BlockEntry) → Chain (IsNextBlock order place) None bs → BlocksInOrder order bs
blocks_in_order order place bs chain = record {
  one = All-from_recursion (λ b. b.cut.order ≡ order) bs (chain_each (IsNextBlock order place) (λ b. b.cut.order ≡ order) (λ o b next. next.cut.0) None bs chain);
  cuts = chain_rises (IsNextBlock order place) (λ b c. point_cmp order (cut_point b.cut) (cut_point c.cut)) (λ b. b.cut.order ≡ order) (λ b next. next.cut.0)
      (λ b c one next. (
        ap is_lt ((point_laws.orders order).total.antisymm (cut_point c.cut) (cut_point b.cut))
            ∙ turned (point_cmp order (cut_point b.cut) (cut_point c.cut))
            ∙ ap is_gt (sym (in_order order b.cut c.cut one))
            ∙ not_gt _ next.upward,
        next.cut.0,
      )) bs chain;
}

-- the blocks of a partition of an index
pub record AreBlocksOf (order : List Ordered) (p : PartitionEntry) : Type 0 where
  pub ordered : BlocksInOrder order p.blocks
  pub few : length p.blocks < 2 ^ 32

pub blocks_of : (order : List Ordered) (ps : List PartitionEntry) → AreEntries order ps → All (AreBlocksOf order) ps
blocks_of order ps entries =
    All-from_recursion (AreBlocksOf order) ps (chain_each (IsNextPartition order) (AreBlocksOf order)
    (λ o p next. record { ordered = blocks_in_order order p.place p.blocks next.blocks; few = next.few }) None ps entries.each)

pub ordered_for : (order lo : List Ordered) (ps : List PartitionEntry) (i : ℕ) (p : PartitionEntry) (bs : List BlockEntry) → AreEntries order ps → i < length ps
    → p ≡ get_or ps i p → bs ≡ p.blocks → lo ≡ order → BlocksInOrder lo bs × (length bs < 2 ^ 32)
ordered_for order lo ps i p bs entries within is blocks one =
    let are : AreBlocksOf order p = subst (λ (q : PartitionEntry). AreBlocksOf order q) (sym is) (blocks_of order ps entries i p within) in
    let same : p.blocks ≡ bs = sym blocks in (
      subst (λ (o : List Ordered). BlocksInOrder o bs) (sym one) (subst (λ (b : List BlockEntry). BlocksInOrder order b) same are.ordered),
      subst (λ (b : List BlockEntry). length b < 2 ^ 32) same are.few,
    )

pub same_blocks : (s : Slice) (ps qs : List PartitionEntry) (i : ℕ) (q : PartitionEntry) (bs : List BlockEntry) (answer : Option BlockAt) → qs ≡ ps → i < length qs
    → q ≡ get_or qs i q → bs ≡ q.blocks → IsBlockFor s bs answer → (p : PartitionEntry) → slice_get ps i ≡ Some p → IsBlockFor s p.blocks answer
same_blocks s ps qs i q bs answer same within is blocks found p e =
    let at : q ≡ p = is ∙ get_or_any qs i p q within (ap (λ (xs : List PartitionEntry). slice_get xs i) same ∙ e) in
    subst (λ (b : List BlockEntry). IsBlockFor s b answer) (blocks ∙ ap (λ (x : PartitionEntry). x.blocks) at) found

-- what `get` gave
pub got : {X : Type 0} (xs : List X) (i : ℕ) (x : X) → i < length xs → ((d : X) → x ≡ get_or xs i d) → slice_get xs i ≡ Some x
got xs i x within is = slice_get-get_or xs i x within ∙ ap (λ y. Some y) (sym (is x))

-- one partition more
pub pushed : (x y : Index) (grown : List PartitionEntry) (p : PartitionEntry) → x ≡ y → AreEntries x.order x.partitions → length y.partitions < PARTITION_LIMIT
    → IsNextPartition y.order (last_or None y.partitions) p → grown ≡ x.partitions ++ p ∷ [] → AreEntries x.order grown
pushed x y grown p same entries room next grows =
    let both : (length x.partitions < PARTITION_LIMIT) × IsNextPartition x.order (last_or None x.partitions) p =
    subst (λ (z : Index). (length z.partitions < PARTITION_LIMIT) × IsNextPartition z.order (last_or None z.partitions) p) (sym same) (room, next) in
    let first : length x.partitions < PARTITION_LIMIT = both.0 in
    subst (λ (ps : List PartitionEntry). AreEntries x.order ps) (sym grows) (record {
      few = omega (arith, length-append x.partitions (p ∷ []));
      each = chain_more (IsNextPartition x.order) None x.partitions p entries.each both.1;
    })

-- ---- keys

abbrev pub IsBelowPoint : List PartitionEntry → List ℕ → ℕ → Type 0
IsBelowPoint ps key n = IsPartitionPoint (λ p. is_lt (bytes_cmp p.key key) ≡ true) (λ p. is_lt (bytes_cmp p.key key) ≡ false) ps n

abbrev pub IsUptoPoint : List PartitionEntry → List ℕ → ℕ → Type 0
IsUptoPoint ps key n = IsPartitionPoint (λ p. not (is_gt (bytes_cmp p.key key)) ≡ true) (λ p. not (is_gt (bytes_cmp p.key key)) ≡ false) ps n

pub parted_keys : (ps : List PartitionEntry) (key : List ℕ) → KeysAscend ps → IsPartitionedBy (λ p. is_lt (bytes_cmp p.key key)) ps
parted_keys ps key ascend =
    parted_below PartitionEntry (List ℕ) (λ p. p.key) bytes_cmp nat_list_cmp_total ps key
    (ascend_rises PartitionEntry (List ℕ) (λ p. p.key) bytes_cmp nat_list_cmp_total ps ascend)

pub parted_keys_upto : (ps : List PartitionEntry) (key : List ℕ) → KeysAscend ps → IsPartitionedBy (λ p. not (is_gt (bytes_cmp p.key key))) ps
parted_keys_upto ps key ascend =
    parted_upto PartitionEntry (List ℕ) (λ p. p.key) bytes_cmp nat_list_cmp_total ps key
    (ascend_rises PartitionEntry (List ℕ) (λ p. p.key) bytes_cmp nat_list_cmp_total ps ascend)

self_lt : (key : List ℕ) → is_lt (bytes_cmp key key) ≡ true → ⊥
self_lt key e = true≢false (sym e ∙ ap is_lt (tied_itself nat_list_cmp_total key))

before_point : (ps : List PartitionEntry) (key : List ℕ) (n k : ℕ) (p : PartitionEntry) → IsBelowPoint ps key n → k < n → get_or ps k p ≡ p → p.key ≡ key → ⊥
before_point ps key n k p point low is same =
    self_lt key (ap (λ (x : List ℕ). is_lt (bytes_cmp x key)) (sym same) ∙ ap (λ (q : PartitionEntry). is_lt (bytes_cmp q.key key)) (sym is) ∙ point.0 k p (omega arith) low)

past_end : {X : Type 0} (xs : List X) (i : ℕ) → slice_get xs i ≡ None → length xs ≤ i
past_end xs i e = elim (cases_lt i (length xs)) [ inl low ↦ absurd (none_within xs i low e) | inr high ↦ high ]

pub no_key_end : (ps : List PartitionEntry) (key : List ℕ) (n : ℕ) → IsBelowPoint ps key n → slice_get ps n ≡ None → HasKey ps key None
no_key_end ps key n point e = λ p there same.
    let past = past_end ps n e in
    before_point ps key n there.0 p point (omega (arith, there.1, past)) there.2 same

pub no_key : (ps : List PartitionEntry) (key : List ℕ) (n : ℕ) (q : PartitionEntry) → KeysAscend ps → IsBelowPoint ps key n → slice_get ps n ≡ Some q
    → is_eq (bytes_cmp q.key key) ≡ false → HasKey ps key None
no_key ps key n q ascend point e other = λ p there same.
    let here : n < length ps = slice_get_within ps n q e in
    elim (cases_order there.0 n) [
      | inl at ↦ true≢false (sym (ap is_eq (tied_itself nat_list_cmp_total key))
          ∙ ap (λ (x : List ℕ). is_eq (bytes_cmp x key)) (sym same)
          ∙ ap (λ (x : PartitionEntry). is_eq (bytes_cmp x.key key)) (sym there.2 ∙ ap (λ (k : ℕ). get_or ps k p) at ∙ get_or_any ps n q p here e) ∙ other)
      | inr apart ↦ elim apart [
        | inl low ↦ before_point ps key n there.0 p point low there.2 same
        | inr high ↦
            let less : bytes_cmp q.key key ≡ Less =
            ap (λ (x : PartitionEntry). bytes_cmp x.key key) (sym (get_or_any ps n q p here e))
            ∙ ap (λ (x : List ℕ). bytes_cmp (get_or ps n p).key x) (sym same)
            ∙ ap (λ (x : PartitionEntry). bytes_cmp (get_or ps n p).key x.key) (sym there.2)
            ∙ Less-from_sorted (λ a b. bytes_cmp a.key b.key) ps n there.0 p ascend high there.1 in
            true≢false (sym (ap is_lt less) ∙ ap (λ (x : PartitionEntry). is_lt (bytes_cmp x.key key)) (sym (get_or_any ps n q q here e)) ∙ point.1 n q (omega arith) here)
      ]
    ]

eq_equal : (o : Ordering) → is_eq o ≡ true → o ≡ Equal
eq_equal Less e = absurd cc
eq_equal Equal e = refl
eq_equal Greater e = absurd cc

pub has_key : (ps : List PartitionEntry) (key : List ℕ) (n : ℕ) (q : PartitionEntry) → slice_get ps n ≡ Some q → is_eq (bytes_cmp q.key key) ≡ true → HasKey ps key (Some n)
has_key ps key n q e same = (q, e, bytes_orders.ties q.key key (eq_equal _ same))

-- ---- the next key

not_after : (ps : List PartitionEntry) (key : List ℕ) (n i : ℕ) → IsUptoPoint ps key n → i < n → (o : Option PartitionEntry) → slice_get ps i ≡ o → is_after (Some key) o ≡ false
not_after ps key n i point low None e = refl
not_after ps key n i point low (Some p) e =
    let here : i < length ps = slice_get_within ps i p e in
    not_gt _ (ap (λ (q : PartitionEntry). not (is_gt (bytes_cmp q.key key))) (sym (some_at ps i p here e)) ∙ point.0 i p (omega arith) low)

gt_is : (o : Ordering) → not (is_gt o) ≡ false → is_gt o ≡ true
gt_is Less e = absurd cc
gt_is Equal e = absurd cc
gt_is Greater e = refl

comes_after : (ps : List PartitionEntry) (key : List ℕ) (n : ℕ) → IsUptoPoint ps key n → n < length ps → (o : Option PartitionEntry) → slice_get ps n ≡ o → is_after (Some key) o ≡ true
comes_after ps key n point here None e = absurd (none_within ps n here e)
comes_after ps key n point here (Some p) e =
    gt_is _ (ap (λ (q : PartitionEntry). not (is_gt (bytes_cmp q.key key))) (sym (some_at ps n p here e)) ∙ point.1 n p (omega arith) here)

pub next_key : (ps : List PartitionEntry) (key : List ℕ) (n : ℕ) → IsUptoPoint ps key n → n < length ps → IsNextAfter ps (Some key) (Some n)
next_key ps key n point here = (here, comes_after ps key n point here (slice_get ps n) refl, λ i low. not_after ps key n i point low (slice_get ps i) refl)

pub no_next_key : (ps : List PartitionEntry) (key : List ℕ) (n : ℕ) → IsUptoPoint ps key n → length ps ≤ n → IsNextAfter ps (Some key) None
no_next_key ps key n point past i low = not_after ps key n i point (omega arith) (slice_get ps i) refl

first_there : (ps : List PartitionEntry) → 0 < length ps → (o : Option PartitionEntry) → slice_get ps 0 ≡ o → is_after None o ≡ true
first_there ps some None e = absurd (none_within ps 0 some e)
first_there ps some (Some p) e = refl

pub first_key : (ps : List PartitionEntry) → 0 < length ps → IsNextAfter ps None (Some 0)
first_key ps some = (some, first_there ps some (slice_get ps 0) refl, λ i low. absurd (omega arith))

pub no_first_key : (ps : List PartitionEntry) → length ps ≤ 0 → IsNextAfter ps None None
no_first_key ps none i low = absurd (omega arith)

-- ---- blocks

abbrev block_point : BlockEntry → Point
block_point b = cut_point b.cut

at_order : (order : List Ordered) (bs : List BlockEntry) (cut : Cut) (i : ℕ) (d : BlockEntry) → BlocksInOrder order bs → i < length bs
    → cut_cmp (get_or bs i d).cut cut ≡ point_cmp order (block_point (get_or bs i d)) (cut_point cut)
at_order order bs cut i d are within = in_order order (get_or bs i d).cut cut (are.one i d within)

pub parted_blocks : (bs : List BlockEntry) (cut : Cut) → BlocksInOrder cut.order bs → IsPartitionedBy (λ b. not (is_gt (cut_cmp b.cut cut))) bs
parted_blocks bs cut are i j d low within e =
    ap (λ (o : Ordering). not (is_gt o)) (at_order cut.order bs cut i d are (omega arith))
    ∙ parted_upto BlockEntry Point block_point (point_cmp cut.order) (point_laws.orders cut.order).total bs (cut_point cut) are.cuts i j d low within
    (ap (λ (o : Ordering). not (is_gt o)) (sym (at_order cut.order bs cut j d are within)) ∙ e)

abbrev pub IsBegun : List BlockEntry → Cut → ℕ → Type 0
IsBegun bs cut n = IsPartitionPoint (λ b. not (is_gt (cut_cmp b.cut cut)) ≡ true) (λ b. not (is_gt (cut_cmp b.cut cut)) ≡ false) bs n

abbrev IsPointOf : List Ordered → Cut → List BlockEntry → ℕ → Type 0
IsPointOf order cut bs n =
    IsPartitionPoint (λ b. not (is_gt (point_cmp order (block_point b) (cut_point cut))) ≡ true) (λ b. not (is_gt (point_cmp order (block_point b) (cut_point cut))) ≡ false) bs n

point_of : (bs : List BlockEntry) (cut : Cut) (n : ℕ) → BlocksInOrder cut.order bs → n ≤ length bs → IsBegun bs cut n → IsPointOf cut.order cut bs n
point_of bs cut n are most begun = (
  λ k d low high. ap (λ (o : Ordering). not (is_gt o)) (sym (at_order cut.order bs cut k d are (omega arith))) ∙ begun.0 k d low high,
  λ k d low high. ap (λ (o : Ordering). not (is_gt o)) (sym (at_order cut.order bs cut k d are high)) ∙ begun.1 k d low high,
)

-- what can meet a slice, by the points of its cuts
abbrev meets_points : Slice → List BlockEntry → ℕ → Bool
meets_points s bs = meets BlockEntry Point block_point (point_cmp s.lo.order) (point_laws.orders s.lo.order).total (cut_point s.lo) (cut_point s.hi) bs

-- begins_before and next_is_above, by points
abbrev before_of : Slice → Option BlockEntry → Bool
before_of s None = false
before_of s (Some b) = is_lt (point_cmp s.lo.order (block_point b) (cut_point s.hi))

abbrev above_of : Slice → Option BlockEntry → Bool
above_of s None = true
above_of s (Some b) = is_lt (point_cmp s.lo.order (cut_point s.lo) (block_point b))

same_meets : (s : Slice) (bs : List BlockEntry) → BlocksInOrder s.lo.order bs → (i : ℕ) → can_meet s bs i ≡ meets_points s bs i
same_meets s bs are i = by_items (slice_get bs i) refl (slice_get bs (i + 1))
  where
    order_of : (b : BlockEntry) → slice_get bs i ≡ Some b → b.cut.order ≡ s.lo.order
    order_of b e = let here = slice_get_within bs i b e in ap (λ (x : BlockEntry). x.cut.order) (sym (some_at bs i b here e)) ∙ are.one i b here

    by_next : (x : Bool) (o : Option BlockEntry)
        → (is_lt (cut_cmp s.lo s.hi) && (x && next_is_above s.lo o)) ≡ (is_lt (point_cmp s.lo.order (cut_point s.lo) (cut_point s.hi))
        && (x && above_of s o))
    by_next x None = ap (λ (o : Ordering). is_lt o && (x && true)) (point_laws.cuts s.lo s.hi)
    by_next x (Some b) =
        ap (λ (o : Ordering). is_lt o && (x && is_lt (cut_cmp s.lo b.cut))) (point_laws.cuts s.lo s.hi)
        ∙ ap (λ (o : Ordering). is_lt (point_cmp s.lo.order (cut_point s.lo) (cut_point s.hi)) && (x && is_lt o)) (point_laws.cuts s.lo b.cut)

    by_items : (o : Option BlockEntry) → slice_get bs i ≡ o → (n : Option BlockEntry)
        → (is_lt (cut_cmp s.lo s.hi) && (begins_before s.hi o && next_is_above s.lo n)) ≡ (is_lt (point_cmp s.lo.order (cut_point s.lo) (cut_point s.hi))
        && (before_of s o && above_of s n))
    by_items None e n = by_next false n
    by_items (Some b) e n =
        ap (λ (o : Ordering). is_lt (cut_cmp s.lo s.hi) && (is_lt o && next_is_above s.lo n)) (in_order s.lo.order b.cut s.hi (order_of b e))
        ∙ by_next (is_lt (point_cmp s.lo.order (block_point b) (cut_point s.hi))) n

first_of : (s : Slice) (bs : List BlockEntry) (answer : Option ℕ) → BlocksInOrder s.lo.order bs → IsFirst (meets_points s bs) (length bs) answer
    → IsFirst (can_meet s bs) (length bs) answer
first_of s bs answer are first = subst (λ (test : ℕ → Bool). IsFirst test (length bs) answer) (sym (fun_ext (same_meets s bs are))) first

pub empty_slice : (s : Slice) (bs : List BlockEntry) → BlocksInOrder s.lo.order bs → is_lt (cut_cmp s.lo s.hi) ≡ false → IsFirst (can_meet s bs) (length bs) None
empty_slice s bs are empty =
    first_of s bs None are (none_meets BlockEntry Point block_point (point_cmp s.lo.order) (point_laws.orders s.lo.order).total (cut_point s.lo) (cut_point s.hi) bs
    (ap is_lt (sym (point_laws.cuts s.lo s.hi)) ∙ empty))

pub no_blocks : (s : Slice) (bs : List BlockEntry) (n : ℕ) → BlocksInOrder s.lo.order bs → n ≤ length bs → slice_get bs (n - 1) ≡ None
    → IsFirst (can_meet s bs) (length bs) None
no_blocks s bs n are most e =
    first_of s bs None are (no_items BlockEntry Point block_point (point_cmp s.lo.order) (point_laws.orders s.lo.order).total (cut_point s.lo) (cut_point s.hi) bs n most e)

begun_most : (bs : List BlockEntry) (s : Slice) (b : BlockEntry) (i : ℕ) → BlocksInOrder s.lo.order bs → slice_get bs i ≡ Some b
    → cut_cmp b.cut s.hi ≡ point_cmp s.lo.order (block_point b) (cut_point s.hi)
begun_most bs s b i are e =
    let here = slice_get_within bs i b e in
    in_order s.lo.order b.cut s.hi (ap (λ (x : BlockEntry). x.cut.order) (sym (some_at bs i b here e)) ∙ are.one i b here)

pub blocks_late : (s : Slice) (bs : List BlockEntry) (n : ℕ) (b : BlockEntry) → BlocksInOrder s.lo.order bs → IsBegun bs s.lo n → n ≤ length bs → slice_get bs (n - 1) ≡ Some b
    → is_lt (cut_cmp b.cut s.hi) ≡ false → IsFirst (can_meet s bs) (length bs) None
blocks_late s bs n b are begun most e late =
    first_of s bs None are (all_late BlockEntry Point block_point (point_cmp s.lo.order) (point_laws.orders s.lo.order).total (cut_point s.lo) (cut_point s.hi) bs n b
    are.cuts (point_of bs s.lo n are most begun) most e (ap is_lt (sym (begun_most bs s b (n - 1) are e)) ∙ late))

pub block_first : (s : Slice) (bs : List BlockEntry) (n : ℕ) (b : BlockEntry) → BlocksInOrder s.lo.order bs → IsBegun bs s.lo n → n ≤ length bs
    → is_lt (cut_cmp s.lo s.hi) ≡ true → slice_get bs (n - 1) ≡ Some b → is_lt (cut_cmp b.cut s.hi) ≡ true → IsFirst (can_meet s bs) (length bs) (Some (n - 1))
block_first s bs n b are begun most some e before =
    first_of s bs (Some (n - 1)) are (first_meets BlockEntry Point block_point (point_cmp s.lo.order) (point_laws.orders s.lo.order).total (cut_point s.lo) (cut_point s.hi) bs n b
    (point_of bs s.lo n are most begun) most (ap is_lt (sym (point_laws.cuts s.lo s.hi)) ∙ some) e (ap is_lt (sym (begun_most bs s b (n - 1) are e)) ∙ before))

-- ---- the same, by the number that is looked at

abbrev pub Answers : Slice → List BlockEntry → Option ℕ → Type 0
Answers s bs answer = IsFirst (can_meet s bs) (length bs) answer

pub none_at : (s : Slice) (bs : List BlockEntry) (n m : ℕ) (answer : Option ℕ) → answer ≡ None → BlocksInOrder s.lo.order bs → n ≤ length bs → m ≡ n - 1 → length bs ≤ m
    → Answers s bs answer
none_at s bs n m answer none are most is past =
    subst (λ (a : Option ℕ). Answers s bs a) (sym none)
    (no_blocks s bs n are most (ap (λ (k : ℕ). slice_get bs k) (sym is) ∙ slice_get_past bs m past))

pub late_at : (s : Slice) (bs : List BlockEntry) (n m : ℕ) (b : BlockEntry) → BlocksInOrder s.lo.order bs → IsBegun bs s.lo n → n ≤ length bs → m ≡ n - 1
    → slice_get bs m ≡ Some b → is_lt (cut_cmp b.cut s.hi) ≡ false → Answers s bs None
late_at s bs n m b are begun most is e late = blocks_late s bs n b are begun most (ap (λ (k : ℕ). slice_get bs k) (sym is) ∙ e) late

pub first_at : (s : Slice) (bs : List BlockEntry) (n m : ℕ) (b : BlockEntry) → BlocksInOrder s.lo.order bs → IsBegun bs s.lo n → n ≤ length bs → m ≡ n - 1
    → is_lt (cut_cmp s.lo s.hi) ≡ true → slice_get bs m ≡ Some b → is_lt (cut_cmp b.cut s.hi) ≡ true → Answers s bs (Some m)
first_at s bs n m b are begun most is some e before =
    subst (λ (k : ℕ). Answers s bs (Some k)) (sym is)
    (block_first s bs n b are begun most some (ap (λ (k : ℕ). slice_get bs k) (sym is) ∙ e) before)

pub none_behind : (ps : List PartitionEntry) (key : List ℕ) (n : ℕ) (answer : Option ℕ) → answer ≡ None → IsBelowPoint ps key n → length ps ≤ n → HasKey ps key answer
none_behind ps key n answer none point past =
    subst (λ (a : Option ℕ). HasKey ps key a) (sym none) (no_key_end ps key n point (slice_get_past ps n past))

pub key_within : (ps : List PartitionEntry) (key : List ℕ) (n : ℕ) → HasKey ps key (Some n) → n < length ps
key_within ps key n has = slice_get_within ps n has.0 has.1

-- the order of two cuts, from that of their points
pub points_order : (a b : Cut) (r : Ordering) → r ≡ point_cmp a.order (cut_point a) (cut_point b) → r ≡ cut_cmp a b
points_order a b r is = is ∙ sym (point_laws.cuts a b)
