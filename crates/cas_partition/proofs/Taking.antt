-- What places that are made, and atoms that are joined, do to a partition.
use Rattle.std.proofs.Common.{◌≡◌, ℕ, Bool, true, false, ◌&&◌, Option, None, Some, is_some, List, [], ◌∷◌, ◌++◌, map, Result, Ok, Err, OnOk, OnErr, inl, inr, refl, sym, ap, ◌∙◌, subst}
use Rattle.std.proofs.lemmas.Bool.{true≢false}
use Rattle.std.specs.List.{AllByRecursion}
use Rattle.std.specs.List.Sorted.{IsStrictlySortedBy}
use Rattle.std.specs.Map.{lookup, set_value}
use Rattle.std.specs.BTreeMap.{is_at}
use Rattle.std.specs.declared.cmp.Ordering.TheVariants.{Less}
use Rattle.cas_types.specs.declared.tag.TypeTag.{TypeTag}
use Rattle.cas_types.specs.declared.schema.Column.{Column}
use Rattle.cas_cell.specs.Deletions.{deletion_cmp}
use Rattle.cas_cell.specs.Lives.{live_cmp}
use Rattle.cas_cell.specs.Cells.{cell_cmp}
use Rattle.cas_cell.specs.declared.deletion.Deletion.{Deletion}
use Rattle.cas_cell.proofs.OrderLaws.{deletion_laws, live_laws, cell_laws}
use Rattle.cas_bounds.specs.ClusteringOrder.{clustering_order}
use Rattle.cas_bounds.specs.Points.{point_cmp, cut_point}
use Rattle.cas_bounds.specs.declared.order.Ordered.{Ordered}
use Rattle.cas_bounds.specs.declared.cuts.Cut.{Cut}
use Rattle.cas_atoms.specs.Fits.{Fits, FitsCut}
use Rattle.cas_atoms.specs.Greatest.{greater, greatest}
use Rattle.cas_atoms.specs.Coordinates.{Coordinate, row_of, deletion_at, live_at_row, cell_at_path}
use Rattle.cas_atoms.specs.Winners.{cover, Same}
use Rattle.cas_atoms.specs.declared.atom.Atom.{Atom}
use Rattle.cas_atoms.specs.declared.atom.Atom.TheVariants.{PartitionDeletion, RangeDeletion, RowDeletion, CollectionDeletion, Live, Write, StaticWrite, StaticCollectionDeletion}
use Rattle.cas_atoms.proofs.GreatestLemmas.{greater_none, greatest-append}
use Rattle.cas_laws.proofs.JoinProofs.{cover_joins}
use Rattle.cas_streams.specs.Places.{place_cmp, place_of}
use Rattle.cas_streams.specs.Flat.{Change, atom_of, own, changes, ranges, at_end}
use Rattle.cas_streams.specs.Streams.{IsOf as IsFragmentOf, IsOrdered, IsThere}
use Rattle.cas_streams.specs.NoMore.{SaysNoMore}
use Rattle.cas_streams.proofs.InOrder.{Rise, changes_rise}
use Rattle.cas_streams.proofs.NoMore.{no_more_itself}
use Rattle.cas_streams.proofs.Ranges.{ranges_give}
use Rattle.cas_streams.proofs.Joining.{Alike, alike_both, alike_same}
use Rattle.cas_streams.proofs.Something.{No}
use Rattle.cas_partition.specs.Ends.{IsEnd, AreAtEnds}
use Rattle.cas_partition.specs.Ranges.{lies, raised, has_cut, with_cut}
use Rattle.cas_partition.specs.Spots.{spot_cmp, joined_content, said}
use Rattle.cas_partition.specs.Placed.{wanted, given}
use Rattle.cas_partition.specs.Partitions.{said_at, atoms_with, partition_atoms, marker, IsOf, IsAtomOf, IsRowOf, AreIn, AreAtCuts, IsOfTable, has_spot, is_there, HasPlace, with_spot}
use Rattle.cas_partition.specs.declared.spot.Spot.{Spot}
use Rattle.cas_partition.specs.declared.spot.Content.{Content}
use Rattle.cas_partition.specs.declared.spot.Room.{Room}
use Rattle.cas_partition.specs.declared.spot.Room.TheVariants as wants
use Rattle.cas_partition.specs.declared.spot.Addition.{Addition}
use Rattle.cas_partition.specs.declared.spot.Addition.TheVariants as gives
use Rattle.cas_partition.specs.declared.partition.Partition.{Partition}
use Rattle.cas_partition.proofs.OneAtom.{MakesPlace, Joins}
use Rattle.cas_partition.proofs.Raising.{raised_rise, raised_closed, raised_covers, with_cut_rise, with_cut_closed, with_cut_covers, raised_has, with_cut_has, with_cut_itself, keys_below, as_points, has_stands}
use Rattle.cas_partition.proofs.AtCuts.{with_cut_at, raised_at}
use Rattle.cas_partition.proofs.Ends.{end_behind, ends_before, with_cut_moves, raised_moves}
use Rattle.cas_partition.proofs.Saying.{alike_itself, alike_is, in_front, at_back, set_said, with_spot_says, with_spot_there, with_spot_kept, set_kept, Rows, set_rows, with_spot_rows}
use Rattle.cas_partition.proofs.NoMore.{one_cut_no_more, both_cuts_no_more, one_spot_no_more, whole_no_more, range_no_more, spot_no_more}
use Rattle.cas_partition.proofs.Something.{with_cut_ranges, ranges_there, top_there, raised_there, set_there}
use Rattle.cas_partition.proofs.Tabling.{fits_of, wanted_in, given_in, set_in, with_spot_in}

pub on_ok_too : {A E : Type 0} (r : Result A E) (P Q : Type 0) → (P → Q) → OnOk r P → OnOk r Q
on_ok_too (Ok x) P Q h p = h p
on_ok_too (Err e) P Q h p = tt

pub either_way : {A E : Type 0} (r : Result A E) (P Q G : Type 0) → OnOk r P → OnErr r Q → (P → G) → (Q → G) → G
either_way (Ok x) P Q G p q h k = h p
either_way (Err e) P Q G p q h k = k q

pub on_err_too : {A E : Type 0} (r : Result A E) (P Q : Type 0) → (P → Q) → OnErr r P → OnErr r Q
on_err_too (Ok x) P Q h p = tt
on_err_too (Err e) P Q h p = h p

-- ---- markers

pub marked : (ms : List Change) → changes (map marker ms) ≡ ms
marked [] = refl
marked (m ∷ ms) = ap (λ l. m ∷ l) (marked ms)

pub rising : (order : List Ordered) (ms : List Change) → IsOrdered order (map marker ms) → Rise order ms
rising order ms o = subst (Rise order) (marked ms) (changes_rise order (map marker ms) o.places o.of)

pub closes : (order : List Ordered) (ms : List Change) → IsOrdered order (map marker ms) → at_end None ms ≡ None
closes order ms o = ap (at_end None) (sym (marked ms)) ∙ o.closed

above : (order : List Ordered) (k : Cut) (ms : List Change) → AllByRecursion (λ m. point_cmp order (cut_point k) (cut_point m.at) ≡ Less) ms
    → AllByRecursion (λ q. place_cmp order (Some (cut_point k)) q ≡ Less) (map place_of (map marker ms))
above order k [] all = tt
above order k (m ∷ ms) all = (all.0, above order k ms all.1)

places : (order : List Ordered) (ms : List Change) → Rise order ms → IsStrictlySortedBy (place_cmp order) (map place_of (map marker ms))
unfolding IsStrictlySortedBy
places order [] rise = tt
places order (m ∷ ms) rise = (above order m.at ms rise.1, places order ms rise.2)

orders : (order : List Ordered) (ms : List Change) → Rise order ms → AllByRecursion (IsFragmentOf order) (map marker ms)
orders order [] rise = tt
orders order (m ∷ ms) rise = (rise.0, orders order ms rise.2)

in_marks : (order : List Ordered) (ms : List Change) → Rise order ms → at_end None ms ≡ None → IsOrdered order (map marker ms)
in_marks order ms rise closed = record { places = places order ms rise; of = orders order ms rise; closed = ap (at_end None) (marked ms) ∙ closed }

-- ---- changes alone

no_live : (ms : List Change) (c : List (List ℕ)) → greatest live_cmp (live_at_row c) (ranges ms) ≡ None
no_live ms c = ranges_give live_cmp (live_at_row c) (λ lo hi d. refl) ms

no_cell : (ms : List Change) (x : Coordinate) → greatest cell_cmp (cell_at_path x) (ranges ms) ≡ None
no_cell ms x = ranges_give cell_cmp (cell_at_path x) (λ lo hi d. refl) ms

-- these changes say what those do
same_ranges : (ms ns : List Change) → ((x : Coordinate) → cover (ranges ns) x ≡ cover (ranges ms) x) → Alike (ranges ns) (ranges ms)
same_ranges ms ns h = record { covers = h; lives = λ c. no_live ns c ∙ sym (no_live ms c); cells = λ x. no_cell ns x ∙ sym (no_cell ms x) }

more_ranges : (ms ns : List Change) (lo hi : Cut) (d : Deletion)
    → ((x : Coordinate) → cover (ranges ns) x ≡ greater deletion_cmp (cover (ranges ms) x) (deletion_at x (RangeDeletion lo hi d)))
    → Alike (ranges ns) (ranges ms ++ RangeDeletion lo hi d ∷ [])
more_ranges ms ns lo hi d h = record {
  covers = λ x. h x ∙ ap (greater deletion_cmp (cover (ranges ms) x)) (sym (greater_none deletion_laws.orders (deletion_at x (RangeDeletion lo hi d))))
      ∙ sym (cover_joins (ranges ms) (RangeDeletion lo hi d ∷ []) x);
  lives = λ c. no_live ns c ∙ sym (greatest-append live_laws.orders (live_at_row c) (ranges ms) (RangeDeletion lo hi d ∷ []) ∙ ap (λ o. greater live_cmp o None) (no_live ms c));
  cells = λ x. no_cell ns x ∙ sym (greatest-append cell_laws.orders (cell_at_path x) (ranges ms) (RangeDeletion lo hi d ∷ []) ∙ ap (λ o. greater cell_cmp o None) (no_cell ms x));
}

-- ---- place is made

and_true : (b c : Bool) → b ≡ true → c ≡ true → (b && c) ≡ true
and_true true c e f = f
and_true false c e f = absurd (true≢false (sym e))

pub both_true : (b c : Bool) → (b && c) ≡ true → (b ≡ true) × (c ≡ true)
both_true true c e = (refl, e)
both_true false c e = absurd (true≢false (sym e))

abbrev Keeps : (Room → Bool) → (Room → Bool) → Type 0
Keeps p q = (w : Room) → p w ≡ true → q w ≡ true

cuts_kept : (ms ns : List Change) (es : List (Spot × Content)) → ((c : Cut) → has_cut c ms ≡ true → has_cut c ns ≡ true) → Keeps (is_there ms es) (is_there ns es)
cuts_kept ms ns es h wants.Whole e = refl
cuts_kept ms ns es h (wants.Cuts lo hi) e =
    let (low, high) = both_true (has_cut lo ms) (has_cut hi ms) e in and_true (has_cut lo ns) (has_cut hi ns) (h lo low) (h hi high)
cuts_kept ms ns es h (wants.At s tag) e = e

spots_kept : (ms : List Change) (es fs : List (Spot × Content)) → ((s : Spot) → has_spot s es ≡ true → has_spot s fs ≡ true) → Keeps (is_there ms es) (is_there ms fs)
spots_kept ms es fs h wants.Whole e = refl
spots_kept ms es fs h (wants.Cuts lo hi) e = e
spots_kept ms es fs h (wants.At s tag) e = h s e

pub empty_of : (order : List Ordered) (p : Partition) → p.ranges ≡ [] → p.spots ≡ [] → IsOf order p
empty_of order p none nobody = record {
  marks = subst (λ l. IsOrdered order (map marker l)) (sym none) (in_marks order [] tt refl);
  rows = subst (Rows order) (sym nobody) tt;
}

pub empty_of_table : (columns : List Column) (p : Partition) → p.ranges ≡ [] → p.spots ≡ [] → IsOfTable columns p
empty_of_table columns p none nobody = record { of = empty_of (clustering_order columns) p none nobody; cuts = subst (AreAtCuts columns) (sym none) tt; entries = subst (AreIn columns) (sym nobody) tt }

pub empty_at_ends : (ws : List Atom) (ms : List Change) → ms ≡ [] → AreAtEnds ws ms
empty_at_ends ws ms none = subst (AreAtEnds ws) (sym none) tt

pub nothing_made : (a : Atom) (p : Partition) → MakesPlace a p p
nothing_made a p = record {
  same = λ order of atom. alike_same (alike_itself (partition_atoms p));
  no_more = λ order of. no_more_itself (partition_atoms p);
  some = λ is. is;
  ends = λ ws moves. moves;
  of = λ order of atom. of;
  fits = λ columns t f. t;
  others = λ b e. e;
}

-- other changes, which say the same
abbrev with_ranges : Partition → List Change → Partition
with_ranges p ns = record { top = p.top; ranges = ns; spots = p.spots }

with_changes : (a : Atom) (p : Partition) (ns : List Change)
    → ((order : List Ordered) → IsAtomOf order a → Rise order p.ranges → at_end None p.ranges ≡ None
    → Rise order ns × (at_end None ns ≡ None) × ((x : Coordinate) → cover (ranges ns) x ≡ cover (ranges p.ranges) x))
    → ((order : List Ordered) → IsOf order p → SaysNoMore (partition_atoms (with_ranges p ns)) (partition_atoms p)) → (No (ranges ns) → No (ranges p.ranges))
    → ((ws : List Atom) → AreAtEnds ws p.ranges → AreAtEnds ws ns) → ((columns : List Column) → Fits columns a → AreAtCuts columns p.ranges → AreAtCuts columns ns)
    → ((c : Cut) → has_cut c p.ranges ≡ true → has_cut c ns ≡ true) → MakesPlace a p (with_ranges p ns)
with_changes a p ns h no_more some ends at kept = record {
  no_more = no_more;
  some = ranges_there p.top p.ranges ns p.spots some;
  ends = ends;
  same = λ order of atom.
      let (rise, closed, covers) = h order atom (rising order p.ranges of.marks) (closes order p.ranges of.marks) in
      alike_same (alike_both (alike_itself (atom_of PartitionDeletion p.top)) (alike_both (same_ranges p.ranges ns covers) (alike_itself (said_at p.spots))));
  of = in_order;
  fits = λ columns t f. record { of = in_order (clustering_order columns) t.of (fits_of columns a f); cuts = at columns f t.cuts; entries = t.entries };
  others = λ b e. cuts_kept p.ranges ns p.spots kept (wanted b) e;
}
  where
    in_order : (order : List Ordered) → IsOf order p → IsAtomOf order a → IsOf order (with_ranges p ns)
    in_order order of atom =
        let (rise, closed, covers) = h order atom (rising order p.ranges of.marks) (closes order p.ranges of.marks) in
        record { marks = in_marks order ns rise closed; rows = of.rows }

-- where an atom that the table may hold is kept at cuts, the table may have them
cuts_fit : (columns : List Column) (a : Atom) (lo hi : Cut) → wanted a ≡ wants.Cuts lo hi → Fits columns a → FitsCut (clustering_order columns) lo × FitsCut (clustering_order columns) hi
cuts_fit columns a lo hi w f = subst AtRoom w (own_cuts a f)
  where
    AtRoom : Room → Type 0
    AtRoom wants.Whole = Unit {0}
    AtRoom (wants.Cuts k l) = FitsCut (clustering_order columns) k × FitsCut (clustering_order columns) l
    AtRoom (wants.At s tag) = Unit {0}

    own_cuts : (b : Atom) → Fits columns b → AtRoom (wanted b)
    own_cuts (PartitionDeletion d) g = tt
    own_cuts (RangeDeletion k l d) g = (g.0.0, g.0.1)
    own_cuts (RowDeletion c d) g = tt
    own_cuts (CollectionDeletion c ref d) g = tt
    own_cuts (Live c l) g = tt
    own_cuts (Write c ref q v) g = tt
    own_cuts (StaticWrite ref q v) g = tt
    own_cuts (StaticCollectionDeletion ref d) g = tt

-- and they are in the table's order
cuts_of : (order : List Ordered) (a : Atom) (lo hi : Cut) → wanted a ≡ wants.Cuts lo hi → IsAtomOf order a → (lo.order ≡ order) × (hi.order ≡ order)
cuts_of order (PartitionDeletion d) lo hi e of = cc
cuts_of order (RangeDeletion k l d) lo hi e of = (ap (λ w. (low w).order) (sym e) ∙ of.0, ap (λ w. (high w).order) (sym e) ∙ of.1)
  where
    low : Room → Cut
    low wants.Whole = k
    low (wants.Cuts m n) = m
    low (wants.At s tag) = k

    high : Room → Cut
    high wants.Whole = l
    high (wants.Cuts m n) = n
    high (wants.At s tag) = l
cuts_of order (RowDeletion c d) lo hi e of = cc
cuts_of order (CollectionDeletion c ref d) lo hi e of = cc
cuts_of order (Live c l) lo hi e of = cc
cuts_of order (Write c ref q v) lo hi e of = cc
cuts_of order (StaticWrite ref q v) lo hi e of = cc
cuts_of order (StaticCollectionDeletion ref d) lo hi e of = cc

pub one_cut : (a : Atom) (p : Partition) (ns : List Change) (lo hi : Cut) → wanted a ≡ wants.Cuts lo hi → ns ≡ with_cut lo p.ranges → MakesPlace a p (with_ranges p ns)
one_cut a p ns lo hi w e =
    subst (λ l. MakesPlace a p (with_ranges p l)) (sym e)
    (with_changes a p (with_cut lo p.ranges)
    (λ order atom rise closed.
    let (l, h) = cuts_of order a lo hi w atom in
    (with_cut_rise order lo l p.ranges rise, with_cut_closed order lo l p.ranges rise closed, λ x. with_cut_covers order lo l p.ranges rise closed x (row_of x) refl))
    (λ order of. one_cut_no_more p lo (closes order p.ranges of.marks)) (with_cut_ranges lo p.ranges)
    (λ ws moves. with_cut_moves (IsEnd ws) lo p.ranges moves)
    (λ columns f all. with_cut_at (FitsCut (clustering_order columns)) lo p.ranges (cuts_fit columns a lo hi w f).0 all)
    (λ c. with_cut_has c lo p.ranges))

pub both_cuts : (a : Atom) (p : Partition) (ns : List Change) (lo hi : Cut) → wanted a ≡ wants.Cuts lo hi → ns ≡ with_cut hi (with_cut lo p.ranges) → MakesPlace a p (with_ranges p ns)
both_cuts a p ns lo hi w e =
    subst (λ l. MakesPlace a p (with_ranges p l)) (sym e)
    (with_changes a p (with_cut hi (with_cut lo p.ranges))
    (λ order atom rise closed.
    let (l, h) = cuts_of order a lo hi w atom in
    let first : Rise order (with_cut lo p.ranges) = with_cut_rise order lo l p.ranges rise in
    let ends : at_end None (with_cut lo p.ranges) ≡ None = with_cut_closed order lo l p.ranges rise closed in (
      with_cut_rise order hi h (with_cut lo p.ranges) first,
      with_cut_closed order hi h (with_cut lo p.ranges) first ends,
      λ x. with_cut_covers order hi h (with_cut lo p.ranges) first ends x (row_of x) refl ∙ with_cut_covers order lo l p.ranges rise closed x (row_of x) refl,
    ))
    (λ order of. both_cuts_no_more p lo hi (closes order p.ranges of.marks)) (λ n. with_cut_ranges lo p.ranges (with_cut_ranges hi (with_cut lo p.ranges) n))
    (λ ws moves. with_cut_moves (IsEnd ws) hi (with_cut lo p.ranges) (with_cut_moves (IsEnd ws) lo p.ranges moves))
    (λ columns f all.
    let Allowed : Cut → Type 0 = FitsCut (clustering_order columns) in
    let (l, h) = cuts_fit columns a lo hi w f in
    with_cut_at Allowed hi (with_cut lo p.ranges) h (with_cut_at Allowed lo p.ranges l all))
    (λ c has. with_cut_has c hi (with_cut lo p.ranges) (with_cut_has c lo p.ranges has)))

pub cuts_there : (a : Atom) (p : Partition) (ns : List Change) (lo hi : Cut) → wanted a ≡ wants.Cuts lo hi → ns ≡ with_cut hi (with_cut lo p.ranges) → HasPlace (with_ranges p ns) a
cuts_there a p ns lo hi w e =
    ap (is_there ns p.spots) w
    ∙ ap (λ l. has_cut lo l && has_cut hi l) e
    ∙ and_true (has_cut lo (with_cut hi (with_cut lo p.ranges))) (has_cut hi (with_cut hi (with_cut lo p.ranges)))
    (with_cut_has lo hi (with_cut lo p.ranges) (with_cut_itself lo p.ranges)) (with_cut_itself hi (with_cut lo p.ranges))

pub same_changes : (a : Atom) (p : Partition) (ns : List Change) → ns ≡ p.ranges → MakesPlace a p (with_ranges p ns)
same_changes a p ns e =
    subst (λ l. MakesPlace a p (with_ranges p l)) (sym e)
    (with_changes a p p.ranges (λ order atom rise closed. (rise, closed, λ x. refl)) (λ order of. no_more_itself (partition_atoms p)) (λ n. n) (λ ws moves. moves) (λ columns f all. all) (λ c has. has))

-- one more spot
abbrev pub with_spots : Partition → List (Spot × Content) → Partition
with_spots p es = record { top = p.top; ranges = p.ranges; spots = es }

spot_row : (order : List Ordered) (a : Atom) (s : Spot) (tag : Option TypeTag) → wanted a ≡ wants.At s tag → IsAtomOf order a → IsRowOf order s.row
spot_row order a s tag w of = subst (InRow order) w (own_row a of)
  where
    InRow : List Ordered → Room → Type 0
    InRow order wants.Whole = Unit {0}
    InRow order (wants.Cuts lo hi) = Unit {0}
    InRow order (wants.At t tag) = IsRowOf order t.row

    own_row : (a : Atom) → IsAtomOf order a → InRow order (wanted a)
    own_row (PartitionDeletion d) of = tt
    own_row (RangeDeletion lo hi d) of = tt
    own_row (RowDeletion c d) of = (refl, of)
    own_row (CollectionDeletion c ref d) of = (refl, of)
    own_row (Live c l) of = (refl, of)
    own_row (Write c ref q v) of = (refl, of)
    own_row (StaticWrite ref q v) of = tt
    own_row (StaticCollectionDeletion ref d) of = tt

pub one_spot : (a : Atom) (p : Partition) (m : List (Spot × Content)) (s : Spot) (tag : Option TypeTag) → wanted a ≡ wants.At s tag → m ≡ with_spot s tag p.spots
    → MakesPlace a p (with_spots p m)
one_spot a p m s tag w e = record {
  no_more = λ order of.
      subst (λ l. SaysNoMore (atoms_with p.top p.ranges l) (partition_atoms p)) (sym e) (one_spot_no_more p s tag (closes order p.ranges of.marks));
  some = subst (λ l. IsThere (atom_of PartitionDeletion p.top ++ (ranges p.ranges ++ l))) (sym (ap said_at e ∙ with_spot_says s tag p.spots));
  ends = λ ws moves. moves;
  same = λ order of atom.
      alike_same (alike_is (partition_atoms (with_spots p m)) (partition_atoms p)
      (ap (λ l. atom_of PartitionDeletion p.top ++ (ranges p.ranges ++ l)) (ap said_at e ∙ with_spot_says s tag p.spots)));
  of = in_order;
  fits = λ columns t f. record {
    of = in_order (clustering_order columns) t.of (fits_of columns a f);
    cuts = t.cuts;
    entries = subst (AreIn columns) (sym e) (with_spot_in columns s tag p.spots (wanted_in columns a s tag w f) t.entries);
  };
  others = λ b h. spots_kept p.ranges p.spots m (λ t there. ap (has_spot t) e ∙ with_spot_kept t s tag p.spots there) (wanted b) h;
}
  where
    in_order : (order : List Ordered) → IsOf order p → IsAtomOf order a → IsOf order (with_spots p m)
    in_order order of atom = record {
      marks = of.marks;
      rows = subst (Rows order) (sym e) (with_spot_rows order s tag p.spots (spot_row order a s tag w atom) of.rows);
    }

pub spot_there : (a : Atom) (p : Partition) (m : List (Spot × Content)) (s : Spot) (tag : Option TypeTag) → wanted a ≡ wants.At s tag → m ≡ with_spot s tag p.spots
    → HasPlace (with_spots p m) a
spot_there a p m s tag w e = ap (is_there p.ranges m) w ∙ ap (has_spot s) e ∙ with_spot_there s tag p.spots

pub same_spots : (a : Atom) (p : Partition) (m : List (Spot × Content)) → m ≡ p.spots → MakesPlace a p (with_spots p m)
same_spots a p m e = record {
  no_more = λ order of. subst (λ l. SaysNoMore (atoms_with p.top p.ranges l) (partition_atoms p)) (sym e) (no_more_itself (partition_atoms p));
  some = subst (λ l. IsThere (atoms_with p.top p.ranges l)) (sym e);
  ends = λ ws moves. moves;
  same = λ order of atom. alike_same (alike_is (partition_atoms (with_spots p m)) (partition_atoms p) (ap (λ l. atom_of PartitionDeletion p.top ++ (ranges p.ranges ++ said_at l)) e));
  of = λ order of atom. record { marks = of.marks; rows = subst (Rows order) (sym e) of.rows };
  fits = λ columns t f. record {
    of = record { marks = t.of.marks; rows = subst (Rows (clustering_order columns)) (sym e) t.of.rows };
    cuts = t.cuts;
    entries = subst (AreIn columns) (sym e) t.entries;
  };
  others = λ b h. ap (λ l. is_there p.ranges l (wanted b)) e ∙ h;
}

-- ---- atoms are joined

raised_top : (top : Option Deletion) (d : Deletion) → Alike (atom_of PartitionDeletion (greater deletion_cmp top (Some d))) (atom_of PartitionDeletion top ++ PartitionDeletion d ∷ [])
raised_top None d = alike_itself (PartitionDeletion d ∷ [])
raised_top (Some e) d = record { covers = λ x. refl; lives = λ c. refl; cells = λ x. refl }

pub whole_joins : (a : Atom) (p : Partition) (top : Option Deletion) (d : Deletion) → given a ≡ gives.Whole d → top ≡ greater deletion_cmp p.top (Some d)
    → Joins a p (record { top = top; ranges = p.ranges; spots = p.spots })
whole_joins a p top d g e = record {
  no_more = λ order of.
      subst (λ l. SaysNoMore (atoms_with top p.ranges p.spots) (partition_atoms p ++ l)) (whole_is a d g)
      (subst (λ t. SaysNoMore (atoms_with t p.ranges p.spots) (partition_atoms p ++ PartitionDeletion d ∷ [])) (sym e) (whole_no_more p d (closes order p.ranges of.marks)));
  some = λ order of atom. subst (λ t. IsThere (atoms_with t p.ranges p.spots)) (sym e) (top_there p.top d (ranges p.ranges ++ said_at p.spots));
  ends = λ order of atom ws moves. ends_before ws (a ∷ []) p.ranges moves;
  joined = λ order of atom.
      subst (λ l. Same (atoms_with top p.ranges p.spots) (partition_atoms p ++ l)) (whole_is a d g)
      (subst (λ t. Same (atoms_with t p.ranges p.spots) (partition_atoms p ++ PartitionDeletion d ∷ [])) (sym e)
      (alike_same (in_front (atom_of PartitionDeletion (greater deletion_cmp p.top (Some d))) (atom_of PartitionDeletion p.top) (PartitionDeletion d ∷ [])
      (ranges p.ranges ++ said_at p.spots) (raised_top p.top d))));
  of = λ order of atom. record { marks = of.marks; rows = of.rows };
  fits = λ columns t f. record { of = record { marks = t.of.marks; rows = t.of.rows }; cuts = t.cuts; entries = t.entries };
  others = λ b h. h;
}
  where
    adds : Addition → List Atom
    adds (gives.Whole f) = PartitionDeletion f ∷ []
    adds (gives.Range lo hi f) = []
    adds (gives.At s c) = []

    whole_is : (a : Atom) (d : Deletion) → given a ≡ gives.Whole d → PartitionDeletion d ∷ [] ≡ a ∷ []
    whole_is (PartitionDeletion f) d g = ap adds (sym g)
    whole_is (RangeDeletion lo hi f) d g = cc
    whole_is (RowDeletion c f) d g = cc
    whole_is (CollectionDeletion c ref f) d g = cc
    whole_is (Live c l) d g = cc
    whole_is (Write c ref q v) d g = cc
    whole_is (StaticWrite ref q v) d g = cc
    whole_is (StaticCollectionDeletion ref f) d g = cc

module _ (a : Atom) (lo hi : Cut) (d : Deletion) (g : given a ≡ gives.Range lo hi d) where
  adds : Addition → Atom
  adds (gives.Whole f) = a
  adds (gives.Range k l f) = RangeDeletion k l f
  adds (gives.At s c) = a

  range_is : RangeDeletion lo hi d ≡ a
  unfolding adds
  range_is = go a g
    where
      go : (b : Atom) → given b ≡ gives.Range lo hi d → RangeDeletion lo hi d ≡ b
      go (PartitionDeletion f) h = cc
      go (RangeDeletion k l f) h = ap adds (sym h)
      go (RowDeletion c f) h = cc
      go (CollectionDeletion c ref f) h = cc
      go (Live c l) h = cc
      go (Write c ref q v) h = cc
      go (StaticWrite ref q v) h = cc
      go (StaticCollectionDeletion ref f) h = cc

  pub range_joins : (p : Partition) (ns : List Change) → ns ≡ raised (lies lo hi) d p.ranges → HasPlace p a → Joins a p (with_ranges p ns)
  range_joins p ns e there =
      let (low, high) = both_true (has_cut lo p.ranges) (has_cut hi p.ranges) (ap (λ b. is_there p.ranges p.spots (wanted b)) range_is ∙ there) in
      record {
        no_more = λ order of.
            subst (λ b. SaysNoMore (atoms_with p.top ns p.spots) (partition_atoms p ++ b ∷ [])) range_is
            (subst (λ l. SaysNoMore (atoms_with p.top l p.spots) (partition_atoms p ++ RangeDeletion lo hi d ∷ [])) (sym e) (range_no_more p lo hi d (closes order p.ranges of.marks)));
        some = λ order of atom.
            let (lo_of, hi_of, below) = subst (IsAtomOf order) (sym range_is) atom in
            let rise : Rise order p.ranges = rising order p.ranges of.marks in
            let closed : at_end None p.ranges ≡ None = closes order p.ranges of.marks in
            subst (λ l. IsThere (atoms_with p.top l p.spots)) (sym e)
            (raised_there p.top lo hi d p.ranges p.spots (keys_below order lo hi lo_of hi_of below) low (raised_closed order lo hi d p.ranges lo_of hi_of below low high rise closed));
        joined = λ order of atom.
            let (lo_of, hi_of, below) = subst (IsAtomOf order) (sym range_is) atom in
            let rise : Rise order p.ranges = rising order p.ranges of.marks in
            let closed : at_end None p.ranges ≡ None = closes order p.ranges of.marks in
            subst (λ b. Same (atoms_with p.top ns p.spots) (partition_atoms p ++ b ∷ [])) range_is
            (subst (λ l. Same (atoms_with p.top l p.spots) (partition_atoms p ++ RangeDeletion lo hi d ∷ [])) (sym e)
            (alike_same (at_back (atom_of PartitionDeletion p.top) (ranges (raised (lies lo hi) d p.ranges) ++ said_at p.spots) (ranges p.ranges ++ said_at p.spots) (RangeDeletion lo hi d ∷ [])
            (in_front (ranges (raised (lies lo hi) d p.ranges)) (ranges p.ranges) (RangeDeletion lo hi d ∷ []) (said_at p.spots)
            (more_ranges p.ranges (raised (lies lo hi) d p.ranges) lo hi d
            (λ x. raised_covers order lo hi d p.ranges lo_of hi_of below low high rise closed x (row_of x) refl))))));
        ends = λ order of atom ws moves.
            let (lo_of, hi_of, below) = subst (IsAtomOf order) (sym range_is) atom in
            let rise : Rise order p.ranges = rising order p.ranges of.marks in
            subst (AreAtEnds (ws ++ a ∷ [])) (sym e)
            (raised_moves order lo hi lo_of hi_of (sym (as_points order lo hi lo_of hi_of) ∙ keys_below order lo hi lo_of hi_of below) (IsEnd (ws ++ a ∷ []))
            (end_behind ws (a ∷ []) lo (record { lo = lo; hi = hi; deletion = d; has = inl (sym range_is); at = inl refl }))
            (end_behind ws (a ∷ []) hi (record { lo = lo; hi = hi; deletion = d; has = inl (sym range_is); at = inr refl })) d p.ranges
            (has_stands order lo lo_of p.ranges rise low) (has_stands order hi hi_of p.ranges rise high) rise (ends_before ws (a ∷ []) p.ranges moves));
        of = in_order low high;
        fits = λ columns t f. record {
          of = in_order low high (clustering_order columns) t.of (fits_of columns a f);
          cuts = subst (AreAtCuts columns) (sym e) (raised_at (FitsCut (clustering_order columns)) (lies lo hi) d p.ranges t.cuts);
          entries = t.entries;
        };
        others = λ b h. cuts_kept p.ranges ns p.spots (λ c has. ap (has_cut c) e ∙ raised_has c (lies lo hi) d p.ranges ∙ has) (wanted b) h;
      }
    where
      in_order : has_cut lo p.ranges ≡ true → has_cut hi p.ranges ≡ true → (order : List Ordered) → IsOf order p → IsAtomOf order a → IsOf order (with_ranges p ns)
      in_order low high order of atom =
          let (lo_of, hi_of, below) = subst (IsAtomOf order) (sym range_is) atom in
          let rise : Rise order p.ranges = rising order p.ranges of.marks in
          let closed : at_end None p.ranges ≡ None = closes order p.ranges of.marks in
          record {
            marks = subst (λ l. IsOrdered order (map marker l)) (sym e)
                (in_marks order (raised (lies lo hi) d p.ranges) (raised_rise order (lies lo hi) d p.ranges rise) (raised_closed order lo hi d p.ranges lo_of hi_of below low high rise closed));
            rows = of.rows;
          }

module _ (a : Atom) (s : Spot) (c : Content) (g : given a ≡ gives.At s c) where
  says : Addition → List Atom
  says (gives.Whole f) = []
  says (gives.Range lo hi f) = []
  says (gives.At t b) = own (said t b)

  spot_is : own (said s c) ≡ a ∷ []
  unfolding says
  spot_is = ap says (sym g) ∙ go a g
    where
      go : (b : Atom) → given b ≡ gives.At s c → says (given b) ≡ b ∷ []
      go (PartitionDeletion f) h = cc
      go (RangeDeletion k l f) h = cc
      go (RowDeletion r f) h = refl
      go (CollectionDeletion r ref f) h = refl
      go (Live r l) h = refl
      go (Write r ref q v) h = refl
      go (StaticWrite ref q v) h = refl
      go (StaticCollectionDeletion ref f) h = refl

  seen : List Change → List (Spot × Content) → Addition → Bool
  seen ms es (gives.Whole f) = false
  seen ms es (gives.Range lo hi f) = false
  seen ms es (gives.At t b) = has_spot t es

  spot_seen : (ms : List Change) (es : List (Spot × Content)) → is_there ms es (wanted a) ≡ true → has_spot s es ≡ true
  unfolding seen
  spot_seen ms es there = ap (seen ms es) (sym g) ∙ go a g there
    where
      go : (b : Atom) → given b ≡ gives.At s c → is_there ms es (wanted b) ≡ true → seen ms es (given b) ≡ true
      go (PartitionDeletion f) h t = cc
      go (RangeDeletion k l f) h t = cc
      go (RowDeletion r f) h t = t
      go (CollectionDeletion r ref f) h t = t
      go (Live r l) h t = t
      go (Write r ref q v) h t = t
      go (StaticWrite ref q v) h t = t
      go (StaticCollectionDeletion ref f) h t = t

  found : (es : List (Spot × Content)) → has_spot s es ≡ true → (old : Content) × (lookup (is_at (spot_cmp s)) es ≡ Some old)
  found es there = go (lookup (is_at (spot_cmp s)) es) refl there
    where
      go : (o : Option Content) → lookup (is_at (spot_cmp s)) es ≡ o → is_some o ≡ true → (old : Content) × (lookup (is_at (spot_cmp s)) es ≡ Some old)
      go None e h = absurd (true≢false (sym h))
      go (Some old) e h = (old, e)

  pub spot_joins : (p : Partition) (m : List (Spot × Content))
      → ((old : Content) → lookup (is_at (spot_cmp s)) p.spots ≡ Some old → m ≡ set_value (is_at (spot_cmp s)) p.spots (joined_content old c))
      → HasPlace p a → Joins a p (with_spots p m)
  spot_joins p m writes there =
      let (old, is) = found p.spots (spot_seen p.ranges p.spots there) in
      let e : m ≡ set_value (is_at (spot_cmp s)) p.spots (joined_content old c) = writes old is in
      record {
        no_more = λ order of.
            subst (λ l. SaysNoMore (atoms_with p.top p.ranges m) (partition_atoms p ++ l)) spot_is
            (subst (λ l. SaysNoMore (atoms_with p.top p.ranges l) (partition_atoms p ++ own (said s c))) (sym e) (spot_no_more p s old c is (closes order p.ranges of.marks)));
        some = λ order of atom. subst (λ l. IsThere (atoms_with p.top p.ranges l)) (sym e) (set_there p.top p.ranges s old c p.spots is a spot_is);
        ends = λ order of atom ws moves. ends_before ws (a ∷ []) p.ranges moves;
        joined = λ order of atom.
            subst (λ l. Same (atoms_with p.top p.ranges m) (partition_atoms p ++ l)) spot_is
            (alike_same (at_back (atom_of PartitionDeletion p.top) (ranges p.ranges ++ said_at m) (ranges p.ranges ++ said_at p.spots) (own (said s c))
            (at_back (ranges p.ranges) (said_at m) (said_at p.spots) (own (said s c))
            (subst (λ l. Alike (said_at l) (said_at p.spots ++ own (said s c))) (sym e) (set_said s old c p.spots is)))));
        of = λ order of atom. record { marks = of.marks; rows = subst (Rows order) (sym e) (set_rows order (is_at (spot_cmp s)) (joined_content old c) p.spots of.rows) };
        fits = λ columns t f. record {
          of = record { marks = t.of.marks; rows = subst (Rows (clustering_order columns)) (sym e) (set_rows (clustering_order columns) (is_at (spot_cmp s)) (joined_content old c) p.spots t.of.rows) };
          cuts = t.cuts;
          entries = subst (AreIn columns) (sym e) (set_in columns s old c p.spots is (given_in columns a s c g f) t.entries);
        };
        others = λ b h. spots_kept p.ranges p.spots m (λ t has. ap (has_spot t) e ∙ set_kept t (is_at (spot_cmp s)) (joined_content old c) p.spots has) (wanted b) h;
      }
