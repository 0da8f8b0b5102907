-- The index of contents that a table may have is one that a table file may have.
use Rattle.std.proofs.Common.{◌≡◌, ℕ, suc, ◌+◌, ◌*◌, ◌<◌, ◌≤◌, ◌++◌, Bool, true, false, cond, not, List, [], ◌∷◌, map, length, take, Option, None, Some, refl, sym, ap, subst, ◌∙◌, arith}
use Rattle.std.specs.Prelude.{IfSome}
use Rattle.std.specs.List.{AllByRecursion, flat_map, last_or}
use Rattle.std.specs.List.Sorted.{IsStrictlySortedBy}
use Rattle.std.specs.declared.cmp.Ordering.{Ordering}
use Rattle.std.specs.declared.cmp.Ordering.TheVariants.{Less, Equal, Greater}
use Rattle.std.specs.Ordering.{is_lt, is_gt, nat_cmp, ordering_then}
use Rattle.std.proofs.lemmas.Bool.{leb-true}
use Rattle.std.proofs.lemmas.List.{length-append, take_all}
use Rattle.cas_types.specs.Values.{bytes_cmp}
use Rattle.cas_types.specs.declared.schema.Column.{Column}
use Rattle.cas_cell.specs.declared.deletion.Deletion.{Deletion}
use Rattle.cas_bounds.specs.ClusteringOrder.{clustering_order}
use Rattle.cas_bounds.specs.Orders.{first_cmp}
use Rattle.cas_bounds.specs.Cuts.{cut_cmp}
use Rattle.cas_bounds.specs.Points.{ends_cmp, point_cmp, cut_point, rank, side}
use Rattle.cas_bounds.specs.declared.order.Ordered.{Ordered}
use Rattle.cas_bounds.specs.declared.cuts.Cut.{Cut}
use Rattle.cas_bounds.specs.declared.map_key.End.{End}
use Rattle.cas_bounds.specs.declared.map_key.End.TheVariants.{Before, Row, After}
use Rattle.cas_bounds.proofs.CutLaws.{point_laws}
use Rattle.cas_atoms.specs.Fits.{FitsCut, FitsValues, FitsDeletion}
use Rattle.cas_codec.specs.Fields.{u32, bytes16, maybe}
use Rattle.cas_codec.proofs.FieldLengths.{u32_long, bytes16_long, bytes32_long}
use Rattle.cas_records.specs.Spelling.{deletion_bytes}
use Rattle.cas_records.proofs.BoundLaws.{values_count}
use Rattle.cas_info.specs.declared.info.TheConstants.{FILE_LIMIT}
use Rattle.cas_streams.specs.Flat.{changes, at_end}
use Rattle.cas_streams.specs.Places.{Place, place_of, place_cmp}
use Rattle.cas_streams.specs.Streams.{IsThere}
use Rattle.cas_streams.specs.declared.fragment.Fragment.{Fragment}
use Rattle.cas_streams.specs.declared.fragment.Fragment.TheVariants as fragment
use Rattle.cas_fragments.specs.Allowed.{FitsFragment}
use Rattle.cas_fragments.specs.Spelling.{body_bytes, block_bytes}
use Rattle.cas_fragments.specs.Blocks.{is_full, last_block, blocks_from, statics_in, behind_statics, statics_bytes}
use Rattle.cas_fragments.specs.Laws.{joined}
use Rattle.cas_fragments.specs.declared.blocks.TheConstants.{BLOCK_LEAST}
use Rattle.cas_fragments.specs.declared.heads.Version.{Version}
use Rattle.cas_fragments.proofs.CutLaws.{blocks_are_partitions}
use Rattle.cas_index.specs.Entries.{is_next_cut, is_next_key, block_place, last_place}
use Rattle.cas_index.specs.Allowed.{Chain, IsNextBlock, IsNextPartition, FitsIndex}
use Rattle.cas_index.specs.declared.entries.BlockEntry.{BlockEntry}
use Rattle.cas_index.specs.declared.entries.PartitionEntry.{PartitionEntry}
use Rattle.cas_tables.specs.Spelling.{header_bytes}
use Rattle.cas_tables.specs.Contents.{Partition, Contents}
use Rattle.cas_tables.specs.Places.{head_of, blocks, text_of, first_cut, block_entries, entries}
use Rattle.cas_tables.specs.Files.{front_bytes, index_of, index_place}
use Rattle.cas_tables.specs.Fitting.{FitsPartition, FitsContents}
use Rattle.cas_tables.proofs.Lengths.{header_long, parts_long, tables_are_one}
use Rattle.cas_tables.proofs.Standing.{blocks_there}

-- ---- the cut where a fragment begins doesn't stand above that of a later one

-- the end of the cut before a row, or of a marker's cut
abbrev down : End → End
down Before = Before
down Row = Before
down After = After

ranks : (m n : End) → nat_cmp (rank m) (rank n) ≡ Less → is_gt (nat_cmp (rank (down m)) (rank (down n))) ≡ false
ranks Before Before e = refl
ranks Before Row e = refl
ranks Before After e = refl
ranks Row Before e = refl
ranks Row Row e = refl
ranks Row After e = refl
ranks After Before e = absurd cc
ranks After Row e = absurd cc
ranks After After e = refl

then_not_above : (o a b : Ordering) → (a ≡ Less → is_gt b ≡ false) → ordering_then o a ≡ Less → is_gt (ordering_then o b) ≡ false
then_not_above Less a b so e = refl
then_not_above Equal a b so e = so e
then_not_above Greater a b so e = absurd cc

not_above : (os : List Ordered) (m : End) (xs : List (List ℕ)) (n : End) (ys : List (List ℕ)) → ends_cmp os m xs n ys ≡ Less
    → is_gt (ends_cmp os (down m) xs (down n) ys) ≡ false
not_above os m [] n [] e = ranks m n e
not_above os Before [] n (y ∷ ys) e = refl
not_above os Row [] n (y ∷ ys) e = refl
not_above os After [] n (y ∷ ys) e = absurd cc
not_above os m (x ∷ xs) Before [] e = absurd cc
not_above os m (x ∷ xs) Row [] e = absurd cc
not_above os m (x ∷ xs) After [] e = refl
not_above os m (x ∷ xs) n (y ∷ ys) e =
    then_not_above (first_cmp os x y) (ends_cmp _ m xs n ys) (ends_cmp _ (down m) xs (down n) ys) (not_above _ m xs n ys) e

side_down : (b : Bool) → down (side b) ≡ side b
side_down false = refl
side_down true = refl

as_points : (order : List Ordered) (a b : Cut) → a.order ≡ order → is_gt (point_cmp order (cut_point a) (cut_point b)) ≡ false → not (is_gt (cut_cmp a b)) ≡ true
as_points order a b one e =
    ap (λ (o : Ordering). not (is_gt o)) (point_laws.cuts a b ∙ ap (λ (os : List Ordered). point_cmp os (cut_point a) (cut_point b)) one)
    ∙ ap (λ (g : Bool). not g) e

not_greater : (o : Ordering) → o ≡ Less → is_gt o ≡ false
not_greater o e = rw e refl

upward : (columns : List Column) (f g : Fragment) → FitsFragment columns f → FitsFragment columns g
    → place_cmp (clustering_order columns) (place_of f) (place_of g) ≡ Less → not (is_gt (cut_cmp (first_cut f) (first_cut g))) ≡ true
upward columns (fragment.Static cs) g fits-f fits-g e = absurd fits-f
upward columns (fragment.Row r) (fragment.Static cs) fits-f fits-g e = absurd fits-g
upward columns (fragment.Marker cut d) (fragment.Static cs) fits-f fits-g e = absurd fits-g
upward columns (fragment.Row r) (fragment.Row s) fits-f fits-g e =
    as_points (clustering_order columns) (first_cut (fragment.Row r)) (first_cut (fragment.Row s)) fits-f.clustering.0
    (not_above (clustering_order columns) Row r.clustering.values Row s.clustering.values e)
upward columns (fragment.Row r) (fragment.Marker cut d) fits-f fits-g e =
    as_points (clustering_order columns) (first_cut (fragment.Row r)) cut fits-f.clustering.0
    (subst (λ (n : End). is_gt (ends_cmp (clustering_order columns) Before r.clustering.values n cut.prefix) ≡ false) (side_down cut.after)
    (not_above (clustering_order columns) Row r.clustering.values (side cut.after) cut.prefix e))
upward columns (fragment.Marker cut d) (fragment.Row s) fits-f fits-g e =
    as_points (clustering_order columns) cut (first_cut (fragment.Row s)) fits-f.0.0
    (subst (λ (m : End). is_gt (ends_cmp (clustering_order columns) m cut.prefix Before s.clustering.values) ≡ false) (side_down cut.after)
    (not_above (clustering_order columns) (side cut.after) cut.prefix Row s.clustering.values e))
upward columns (fragment.Marker cut d) (fragment.Marker dut g) fits-f fits-g e =
    as_points (clustering_order columns) cut dut fits-f.0.0 (not_greater (point_cmp (clustering_order columns) (cut_point cut) (cut_point dut)) e)

-- ---- what a block's entry tells fits

cut_fits : (columns : List Column) (f : Fragment) → FitsFragment columns f → FitsCut (clustering_order columns) (first_cut f)
cut_fits columns (fragment.Static cs) fits = absurd fits
cut_fits columns (fragment.Row r) fits =
    let long : length r.clustering.values ≡ length (clustering_order columns) = values_count (clustering_order columns) r.clustering.values fits.clustering.1 in
    let all : take (length r.clustering.values) (clustering_order columns) ≡ clustering_order columns =
    take_all (length r.clustering.values) (clustering_order columns) (omega arith) in (
      fits.clustering.0,
      subst (λ (os : List Ordered). FitsValues os r.clustering.values) (sym all) fits.clustering.1,
      omega arith,
      omega (arith, fits.clustering.2),
    )
cut_fits columns (fragment.Marker cut d) fits = fits.0

force_fits : (columns : List Column) (now : Option Deletion) (fs : List Fragment) → IfSome now FitsDeletion → AllByRecursion (FitsFragment columns) fs
    → IfSome (at_end now (changes fs)) FitsDeletion
force_fits columns now [] fits all = fits
force_fits columns now (fragment.Static cs ∷ fs) fits all = absurd all.0
force_fits columns now (fragment.Row r ∷ fs) fits all = force_fits columns now fs fits all.1
force_fits columns now (fragment.Marker cut d ∷ fs) fits all = force_fits columns d fs all.0.1 all.1

-- ---- lists

all_front : (P : Fragment → Type 0) (xs ys : List Fragment) → AllByRecursion P (xs ++ ys) → AllByRecursion P xs
all_front P [] ys all = tt
all_front P (x ∷ xs) ys all = (all.0, all_front P xs ys all.1)

all_back : (P : Fragment → Type 0) (xs ys : List Fragment) → AllByRecursion P (xs ++ ys) → AllByRecursion P ys
all_back P [] ys all = all
all_back P (x ∷ xs) ys all = all_back P xs ys all.1

below_back : (order : List Ordered) (k : Place) (xs ys : List Fragment) → AllByRecursion (λ y. place_cmp order k y ≡ Less) (map place_of (xs ++ ys))
    → AllByRecursion (λ y. place_cmp order k y ≡ Less) (map place_of ys)
below_back order k [] ys all = all
below_back order k (x ∷ xs) ys all = below_back order k xs ys all.1

sorted_back : (order : List Ordered) (xs ys : List Fragment) → IsStrictlySortedBy (place_cmp order) (map place_of (xs ++ ys))
    → IsStrictlySortedBy (place_cmp order) (map place_of ys)
unfolding IsStrictlySortedBy
sorted_back order [] ys sorted = sorted
sorted_back order (x ∷ xs) ys sorted = sorted_back order xs ys sorted.1

first_below : (order : List Ordered) (f : Fragment) (xs ys : List Fragment) → IsStrictlySortedBy (place_cmp order) (map place_of (f ∷ xs ++ ys))
    → AllByRecursion (λ y. place_cmp order (place_of f) y ≡ Less) (map place_of ys)
unfolding IsStrictlySortedBy
first_below order f xs ys sorted = below_back order (place_of f) xs ys sorted.0

-- ---- the blocks of a partition

block_long : (fs : List Fragment) → length (block_bytes fs) ≡ 4 + length (body_bytes fs)
block_long fs = bytes32_long (body_bytes fs)

-- the last block that there is begins before all these fragments
abbrev IsBefore : List Column → Option BlockEntry → List Fragment → Type 0
IsBefore columns None fs = Unit {0}
IsBefore columns (Some b) fs =
    (f : Fragment) × FitsFragment columns f × (b.cut ≡ first_cut f) × AllByRecursion (λ y. place_cmp (clustering_order columns) (place_of f) y ≡ Less) (map place_of fs)

next_cut : (columns : List Column) (last : Option BlockEntry) (g : Fragment) (gs : List Fragment) → FitsFragment columns g → IsBefore columns last (g ∷ gs)
    → is_next_cut last (first_cut g) ≡ true
next_cut columns None g gs fits before = refl
next_cut columns (Some b) g gs fits before =
    let (f, fits-f, is, below) = before in
    ap (λ (c : Cut). not (is_gt (cut_cmp c (first_cut g)))) is ∙ upward columns f g fits-f fits below.0

blocks_chain : (columns : List Column) (start at : ℕ) (now : Option Deletion) (last : Option BlockEntry) (bs : List (List Fragment))
    → AllByRecursion IsThere bs → AllByRecursion (FitsFragment columns) (joined bs)
    → IsStrictlySortedBy (place_cmp (clustering_order columns)) (map place_of (joined bs))
    → IsBefore columns last (joined bs) → IfSome now FitsDeletion → block_place start last < at → at + length (flat_map block_bytes bs) ≤ FILE_LIMIT
    → Chain (IsNextBlock (clustering_order columns) start) last (block_entries at now bs)
blocks_chain columns start at now last [] there all sorted before fits behind short = tt
blocks_chain columns start at now last ([] ∷ bs) there all sorted before fits behind short = absurd there.0
blocks_chain columns start at now last ((f ∷ fs) ∷ bs) there all sorted before fits behind short =
    let long = length-append (block_bytes (f ∷ fs)) (flat_map block_bytes bs) in
    let own : AllByRecursion (FitsFragment columns) (f ∷ fs) = all_front (FitsFragment columns) (f ∷ fs) (joined bs) all in (
      record {
        cut = cut_fits columns f all.0;
        upward = next_cut columns last f (fs ++ joined bs) all.0 before;
        behind = (behind, omega arith);
        in_force = fits;
      },
      blocks_chain columns start (at + length (block_bytes (f ∷ fs))) (at_end now (changes (f ∷ fs)))
          (Some (record { cut = first_cut f; place = at; in_force = now })) bs there.1
          (all_back (FitsFragment columns) (f ∷ fs) (joined bs) all)
          (sorted_back (clustering_order columns) (f ∷ fs) (joined bs) sorted)
          (f, all.0, refl, first_below (clustering_order columns) f fs (joined bs) sorted)
          (force_fits columns now (f ∷ fs) fits own) (omega (arith, block_long (f ∷ fs))) (omega arith),
    )

entries_few : (at : ℕ) (now : Option Deletion) (bs : List (List Fragment)) → length (block_entries at now bs) ≤ length bs
entries_few at now [] = omega arith
entries_few at now ([] ∷ bs) = omega (arith, entries_few at now bs)
entries_few at now ((f ∷ fs) ∷ bs) = omega (arith, entries_few (at + length (block_bytes (f ∷ fs))) (at_end now (changes (f ∷ fs))) bs)

-- each block but the last is full, so that there are few
count_last : (begun : List Fragment) → BLOCK_LEAST * length (last_block begun) ≤ length (flat_map block_bytes (last_block begun)) + BLOCK_LEAST
count_last [] = omega arith
count_last (f ∷ fs) = omega arith

count_blocks : (fs begun : List Fragment) → BLOCK_LEAST * length (blocks_from begun fs) ≤ length (flat_map block_bytes (blocks_from begun fs)) + BLOCK_LEAST
count_blocks [] begun = count_last begun
count_blocks (f ∷ fs) begun =
    cases (is_full (begun ++ f ∷ [])) refl (count_blocks fs []) (count_blocks fs (begun ++ f ∷ []))
  where
    cases : (b : Bool) → is_full (begun ++ f ∷ []) ≡ b → BLOCK_LEAST * length (blocks_from [] fs) ≤ length (flat_map block_bytes (blocks_from [] fs)) + BLOCK_LEAST
        → BLOCK_LEAST * length (blocks_from (begun ++ f ∷ []) fs) ≤ length (flat_map block_bytes (blocks_from (begun ++ f ∷ []) fs)) + BLOCK_LEAST
        → BLOCK_LEAST * length (cond b ((begun ++ f ∷ []) ∷ blocks_from [] fs) (blocks_from (begun ++ f ∷ []) fs))
        ≤ length (flat_map block_bytes (cond b ((begun ++ f ∷ []) ∷ blocks_from [] fs) (blocks_from (begun ++ f ∷ []) fs))) + BLOCK_LEAST
    cases true e others more =
        let full : BLOCK_LEAST ≤ length (body_bytes (begun ++ f ∷ [])) = leb-true BLOCK_LEAST (length (body_bytes (begun ++ f ∷ []))) e in
        omega (arith, length-append (block_bytes (begun ++ f ∷ [])) (flat_map block_bytes (blocks_from [] fs)), block_long (begun ++ f ∷ []))
    cases false e others more = more

last_behind : (start at : ℕ) (now : Option Deletion) (last : Option BlockEntry) (bs : List (List Fragment)) → block_place start last < at
    → block_place start (last_or last (block_entries at now bs)) < at + length (flat_map block_bytes bs)
last_behind start at now last [] below = omega arith
last_behind start at now last ([] ∷ bs) below =
    omega (arith, last_behind start at now last bs below, length-append (block_bytes []) (flat_map block_bytes bs))
last_behind start at now last ((f ∷ fs) ∷ bs) below =
    let long = length-append (block_bytes (f ∷ fs)) (flat_map block_bytes bs) in
    let own : block_place start (Some (record { cut = first_cut f; place = at; in_force = now })) < at + length (block_bytes (f ∷ fs)) = omega (arith, block_long (f ∷ fs)) in
    omega (arith, last_behind start (at + length (block_bytes (f ∷ fs))) (at_end now (changes (f ∷ fs))) (Some (record { cut = first_cut f; place = at; in_force = now })) bs own)

-- ---- partitions

text_long : (version : Version) (p : Partition) → length (text_of version p) ≡ length (head_of version p) + (length (flat_map block_bytes (blocks p)) + 4)
text_long version p =
    omega (arith, length-append (head_of version p) (flat_map block_bytes (blocks p) ++ u32 0), length-append (flat_map block_bytes (blocks p)) (u32 0), u32_long 0)

head_some : (version : Version) (p : Partition) → 2 ≤ length (head_of version p)
head_some version p =
    omega (arith, length-append (bytes16 p.key) (maybe deletion_bytes p.stream.top ++ statics_bytes version (statics_in p.stream.fragments)), bytes16_long p.key)

rest_sorted : (order : List Ordered) (fs : List Fragment) → IsStrictlySortedBy (place_cmp order) (map place_of fs)
    → IsStrictlySortedBy (place_cmp order) (map place_of (behind_statics fs))
unfolding IsStrictlySortedBy
rest_sorted order [] sorted = sorted
rest_sorted order (fragment.Static cs ∷ fs) sorted = sorted.1
rest_sorted order (fragment.Row r ∷ fs) sorted = sorted
rest_sorted order (fragment.Marker cut d ∷ fs) sorted = sorted

partition_blocks : (version : Version) (columns : List Column) (p : Partition) (place : ℕ) → FitsPartition columns p → place + length (text_of version p) ≤ FILE_LIMIT
    → Chain (IsNextBlock (clustering_order columns) place) None (block_entries (place + length (head_of version p)) None (blocks p))
partition_blocks version columns p place fits short =
    let fs : List Fragment = behind_statics p.stream.fragments in
    let whole : joined (blocks p) ≡ fs = blocks_are_partitions.whole fs in
    blocks_chain columns place (place + length (head_of version p)) None None (blocks p) (blocks_there [] fs)
    (subst (AllByRecursion (FitsFragment columns)) (sym whole) fits.rest)
    (subst (λ (l : List Fragment). IsStrictlySortedBy (place_cmp (clustering_order columns)) (map place_of l)) (sym whole)
    (rest_sorted (clustering_order columns) p.stream.fragments fits.well_formed.ordered.places))
    tt tt (omega (arith, head_some version p)) (omega (arith, text_long version p))

-- the last partition that there is has a key below all these keys, and ends before that place
abbrev IsPassed : Option PartitionEntry → ℕ → List Partition → Type 0
IsPassed None place ps = 0 < place
IsPassed (Some e) place ps = (last_place (Some e) < place) × AllByRecursion (λ k. bytes_cmp e.key k ≡ Less) (map (λ p. p.key) ps)

next_key : (last : Option PartitionEntry) (place : ℕ) (p : Partition) (ps : List Partition) → IsPassed last place (p ∷ ps) → is_next_key last p.key ≡ true
next_key None place p ps passed = refl
next_key (Some e) place p ps passed = ap is_lt passed.1.0

next_place : (last : Option PartitionEntry) (place : ℕ) (p : Partition) (ps : List Partition) → IsPassed last place (p ∷ ps) → last_place last < place
next_place None place p ps passed = passed
next_place (Some e) place p ps passed = passed.0

partitions_chain : (version : Version) (columns : List Column) (place : ℕ) (last : Option PartitionEntry) (ps : List Partition) → AllByRecursion (FitsPartition columns) ps
    → IsStrictlySortedBy bytes_cmp (map (λ p. p.key) ps) → IsPassed last place ps → place + length (flat_map (text_of version) ps) ≤ FILE_LIMIT
    → Chain (IsNextPartition (clustering_order columns)) last (entries version place ps)
unfolding IsStrictlySortedBy
partitions_chain version columns place last [] all sorted passed short = tt
partitions_chain version columns place last (p ∷ ps) all sorted passed short =
    let long = length-append (text_of version p) (flat_map (text_of version) ps) in
    let here : place + length (text_of version p) ≤ FILE_LIMIT = omega arith in
    let head : ℕ = length (head_of version p) in
    let some : place < place + head = omega (arith, head_some version p) in
    let end : last_place (Some (record { key = p.key; place = place; blocks = block_entries (place + head) None (blocks p) })) < place + length (text_of version p) =
    omega (arith, last_behind place (place + head) None None (blocks p) some, text_long version p) in (
      record {
        key = all.0.key;
        above = next_key last place p ps passed;
        behind = (next_place last place p ps passed, omega arith);
        few = omega (arith, entries_few (place + head) None (blocks p), count_blocks (behind_statics p.stream.fragments) [], text_long version p);
        blocks = partition_blocks version columns p place all.0 here;
      },
      partitions_chain version columns (place + length (text_of version p)) (Some (record { key = p.key; place = place; blocks = block_entries (place + head) None (blocks p) })) ps
          all.1 sorted.1 (end, sorted.0) (omega arith),
    )

pub entries_long : (version : Version) (place : ℕ) (ps : List Partition) → length (entries version place ps) ≡ length ps
entries_long version place [] = refl
entries_long version place (p ∷ ps) = ap (λ (n : ℕ). suc n) (entries_long version (place + length (text_of version p)) ps)

-- the last place stands before the end of the partitions
last_before : (version : Version) (place : ℕ) (last : Option PartitionEntry) (ps : List Partition) → last_place last < place
    → last_place (last_or last (entries version place ps)) < place + length (flat_map (text_of version) ps)
last_before version place last [] below = omega arith
last_before version place last (p ∷ ps) below =
    let head : ℕ = length (head_of version p) in
    let some : place < place + head = omega (arith, head_some version p) in
    let own : last_place (Some (record { key = p.key; place = place; blocks = block_entries (place + head) None (blocks p) })) < place + length (text_of version p) =
    omega (arith, last_behind place (place + head) None None (blocks p) some, text_long version p) in
    omega (
      arith,
      length-append (text_of version p) (flat_map (text_of version) ps),
      last_before version (place + length (text_of version p))
          (Some (record { key = p.key; place = place; blocks = block_entries (place + head) None (blocks p) })) ps own,
    )

pub last_within : (c : Contents) → last_place (last_or None (index_of c)) < index_place c
last_within c =
    omega (
      arith,
      last_before c.header.version (length (header_bytes c.header)) None c.partitions (omega (arith, header_long c.header)),
      length-append (header_bytes c.header) (flat_map (text_of c.header.version) c.partitions),
    )

-- the front of a file is no longer than it
front_short : (columns : List Column) (c : Contents) → FitsContents columns c → length (front_bytes c) ≤ FILE_LIMIT
front_short columns c fit =
    let (bytes, table) = tables_are_one.some columns c fit in
    omega (arith, fit.short table.facts table.of_atoms, parts_long c table.facts)

pub index_fits : (columns : List Column) (c : Contents) → FitsContents columns c → FitsIndex (clustering_order columns) (index_of c)
index_fits columns c fit =
    let place : ℕ = length (header_bytes c.header) in
    let long : length (index_of c) ≡ length c.partitions = entries_long c.header.version place c.partitions in (
      omega (arith, fit.few.0),
      record {
        few = omega (arith, fit.few.1);
        each = partitions_chain c.header.version columns place None c.partitions fit.each fit.ascend (omega (arith, header_long c.header))
            (omega (arith, front_short columns c fit, length-append (header_bytes c.header) (flat_map (text_of c.header.version) c.partitions)));
      },
    )
