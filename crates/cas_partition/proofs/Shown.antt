-- A slice of a partition says in the slice what the partition says.
use Rattle.std.proofs.Common.{◌≡◌, ℕ, true, false, cond, not, ◌&&◌, Option, None, Some, List, [], ◌∷◌, ◌++◌, map, Result, Ok, Err, IfOk, refl, sym, ap, ◌∙◌, subst, append_assoc}
use Rattle.std.proofs.lemmas.Bool.{true≢false}
use Rattle.std.proofs.lemmas.List.{append-nil}
use Rattle.std.specs.Option.{option_cmp}
use Rattle.std.specs.List.{AllByRecursion, flat_map}
use Rattle.std.specs.List.Sorted.{IsStrictlySortedBy}
use Rattle.std.specs.Map.{keys_of}
use Rattle.std.specs.declared.cmp.Ordering.{Ordering}
use Rattle.cas_types.specs.Values.{bytes_cmp}
use Rattle.std.specs.Ordering.{nat_cmp, is_le, ordering_then}
use Rattle.cas_types.specs.Orders.{Orders}
use Rattle.cas_types.specs.declared.schema.Column.{Column}
use Rattle.cas_cell.specs.Deletions.{deletion_cmp}
use Rattle.cas_cell.specs.Lives.{live_at, live_cmp}
use Rattle.cas_cell.specs.Cells.{cell_at, cell_cmp}
use Rattle.cas_cell.specs.declared.deletion.Deletion.{Deletion}
use Rattle.cas_cell.proofs.OrderLaws.{deletion_laws, live_laws, cell_laws}
use Rattle.cas_bounds.specs.ClusteringOrder.{clustering_order}
use Rattle.cas_bounds.specs.Cuts.{is_inside}
use Rattle.cas_bounds.specs.Keys.{key_cmp}
use Rattle.cas_bounds.specs.declared.order.Ordered.{Ordered}
use Rattle.cas_bounds.specs.declared.cuts.Cut.{Cut}
use Rattle.cas_bounds.specs.declared.cuts.Slice.{Slice}
use Rattle.cas_bounds.specs.declared.map_key.MapKey.{MapKey}
use Rattle.cas_atoms.specs.Fits.{FitsCut}
use Rattle.cas_atoms.specs.Greatest.{greater, greatest}
use Rattle.cas_atoms.specs.Coordinates.{Coordinate, RowKey, row, clustered, row_of, same_row, deletion_at, live_at_row, cell_at_path}
use Rattle.cas_atoms.specs.Winners.{cover, standing, Same}
use Rattle.cas_atoms.specs.declared.atom.Atom.{Atom}
use Rattle.cas_atoms.specs.declared.atom.Atom.TheVariants.{PartitionDeletion}
use Rattle.cas_atoms.proofs.GreatestLemmas.{greater_comm, greater_assoc, greatest-append}
use Rattle.cas_laws.specs.Inside.{SameWhere, is_in}
use Rattle.cas_laws.proofs.JoinProofs.{cover_joins, winner_is, same_where_joins}
use Rattle.cas_laws.proofs.ShownProofs.{equal_rows}
use Rattle.cas_streams.specs.Places.{place_of, row_in}
use Rattle.cas_streams.specs.Flat.{Change, atom_of, own, changes, ranges, flat}
use Rattle.cas_streams.specs.Streams.{IsOrdered}
use Rattle.cas_streams.specs.Joined.{Stream}
use Rattle.cas_streams.specs.Merged.{merged, flats}
use Rattle.cas_streams.specs.Laws.{is_row}
use Rattle.cas_streams.specs.declared.fragment.Fragment.{Fragment}
use Rattle.cas_streams.proofs.OwnRows.{Only, not_of_row, none_given}
use Rattle.cas_streams.proofs.Joining.{Alike, alike_then, alike_both}
use Rattle.cas_streams.proofs.Merges.{merge_is_join, merge_ordered}
use Rattle.cas_streams.proofs.Weaves.{all_and, all_of}
use Rattle.cas_streams.proofs.Something.{No, there_if, none_made, Silent, silent_own, Still, still_ranges, stream_silent, merge_says_something}
use Rattle.cas_partition.specs.Ends.{IsEnd, AreAtEnds}
use Rattle.cas_partition.specs.Ranges.{key_of, clipped}
use Rattle.cas_partition.specs.Spots.{spot_cmp, piece}
use Rattle.cas_partition.specs.Partitions.{said_at, partition_atoms, marker, IsOf, IsRowOf, AreIn, AreAtCuts}
use Rattle.cas_partition.specs.Slices.{meet, Halves, both, pieces_in, rows_by, AreRowsOf, IsAll, Shows, slice_pieces, slice_streams, SlicesShow}
use Rattle.cas_partition.specs.Ranged.{piece_of, spot_at, below_rows, statics_of, rows_between}
use Rattle.cas_partition.specs.declared.spot.Spot.{Spot}
use Rattle.cas_partition.specs.declared.spot.Content.{Content}
use Rattle.cas_partition.specs.declared.partition.Partition.{Partition}
use Rattle.cas_partition.proofs.Saying.{alike_itself, alike_is, in_front, Rows}
use Rattle.cas_partition.proofs.AtCuts.{merge_at, clipped_at}
use Rattle.cas_partition.proofs.Ends.{merge_moves}
use Rattle.cas_partition.proofs.EndToEnd.{clipped_moves}
use Rattle.cas_partition.proofs.Taking.{marked, rising, closes}
use Rattle.cas_partition.proofs.NoMore.{slice_no_more}
use Rattle.cas_partition.proofs.Slicing.{halves_alike, halves_ordered, Weak, OfRow, pieces_of, kept_rows, kept_weak, cross, no_key, past_key}
use Rattle.cas_streams.proofs.Formed.{Tabled}
use Rattle.cas_streams.specs.Slices.{cut_to}
use Rattle.cas_streams.proofs.Cutting.{cut_keeps_the_slice}
use Rattle.cas_partition.proofs.Clipping.{clipped_is_cut}
use Rattle.cas_partition.proofs.Whole.{halves_silent, cut_still}
use Rattle.cas_partition.proofs.Forming.{pieces_have, kept_in_table, rows_have, markers_have, merge_forms}

abbrev Entries : Type 0
Entries = List (Spot × Content)

-- ---- which entries are kept

kept_static : (order : List Ordered) (key : Option MapKey) (o : Ordering) (k : MapKey) → key ≡ Some k → IsRowOf order key → (true && not (is_le (ordering_then (option_cmp key_cmp (Some below_rows) key) o))) ≡ false
kept_static order key o k e of =
    ap (λ r. true && not (is_le (ordering_then (option_cmp key_cmp (Some below_rows) r) o))) e
    ∙ ap (λ r. true && not (is_le (ordering_then r o))) (no_key order k (subst (IsRowOf order) e of).0)

kept_row : (order : List Ordered) (s : Slice) (key : Option MapKey) (o : Ordering) (k : MapKey) → s.lo.order ≡ order → s.hi.order ≡ order → key ≡ Some k → IsRowOf order key
    → (is_le (ordering_then (option_cmp key_cmp (Some (key_of s.lo)) key) o) && not (is_le (ordering_then (option_cmp key_cmp (Some (key_of s.hi)) key) o))) ≡ is_inside s.lo s.hi k.values
kept_row order s key o k l h e of =
    let is : IsRowOf order (Some k) = subst (IsRowOf order) e of in
    ap (λ r. is_le (ordering_then (option_cmp key_cmp (Some (key_of s.lo)) r) o) && not (is_le (ordering_then (option_cmp key_cmp (Some (key_of s.hi)) r) o))) e
    ∙ (λ i. past_key order s.lo k o l is i && not (past_key order s.hi k o h is i))

static_kept : (key : Option MapKey) (o : Ordering) → key ≡ None → (true && not (is_le (ordering_then (option_cmp key_cmp (Some below_rows) key) o))) ≡ true
static_kept key o e = ap (λ r. true && not (is_le (ordering_then (option_cmp key_cmp (Some below_rows) r) o))) e

static_left : (s : Slice) (key : Option MapKey) (o : Ordering) → key ≡ None
    → (is_le (ordering_then (option_cmp key_cmp (Some (key_of s.lo)) key) o) && not (is_le (ordering_then (option_cmp key_cmp (Some (key_of s.hi)) key) o))) ≡ false
static_left s key o e = ap (λ r. is_le (ordering_then (option_cmp key_cmp (Some (key_of s.lo)) r) o) && not (is_le (ordering_then (option_cmp key_cmp (Some (key_of s.hi)) r) o))) e

-- ---- what is kept says in the slice what all says

row_is : (key : Option MapKey) (column : Option ℕ) (path : Option (List ℕ)) (c : Content) (k : MapKey) → key ≡ Some k → row_in (piece key column path c) ≡ Some (clustered k.values)
row_is key column path c k e = ap (λ r. row_in (piece r column path c)) e

-- a spot of a column against another of its row
abbrev rest : Spot → Ordering
rest t = ordering_then (option_cmp nat_cmp None t.column) (option_cmp bytes_cmp None t.path)

module _ (order : List Ordered) (s : Slice) (low : s.lo.order ≡ order) (high : s.hi.order ≡ order) {Y : Type 0} {cmp : Y → Y → Ordering} (o : Orders cmp) (given : Atom → Option Y) (x : RowKey)
    (silent : (r : RowKey) (a : Atom) → Only r a → same_row r x ≡ false → given a ≡ None) (inside : is_in s x ≡ true) where
  abbrev g : List Atom → Option Y
  g A = greatest cmp given A

  other_row : (k : MapKey) → is_inside s.lo s.hi k.values ≡ false → same_row (clustered k.values) x ≡ false
  other_row k out =
      elim (same_row (clustered k.values) x) as (λ b. same_row (clustered k.values) x ≡ b → b ≡ false) [
        | true ↦ λ e. absurd (true≢false (sym inside ∙ ap (is_in s) (sym (equal_rows (clustered k.values) x e)) ∙ out))
        | false ↦ λ e. refl
      ] refl

  outside : (e : Spot × Content) (k : MapKey) → e.0.row ≡ Some k → is_inside s.lo s.hi k.values ≡ false → g (own (piece_of e)) ≡ None
  outside e k is out =
      let (r, only, apart) = not_of_row (piece_of e) x (ap (is_row x) (row_is e.0.row e.0.column e.0.path e.1 k is) ∙ other_row k out) in
      none_given o given x silent r (own (piece_of e)) only apart

  middle : (a b c : Option Y) → greater cmp a (greater cmp b c) ≡ greater cmp b (greater cmp a c)
  middle a b c = sym (greater_assoc o a b c) ∙ ap (λ d. greater cmp d c) (greater_comm o a b) ∙ greater_assoc o b a c

  split : (es : Entries) → Rows order es → greater cmp (g (said_at (statics_of es))) (g (said_at (rows_between s.lo s.hi es))) ≡ g (said_at es)
  split [] rows = refl
  split (e ∷ es) rows = go e.0.row refl (split es rows.1)
    where
      S : Entries
      S = statics_of es

      B : Entries
      B = rows_between s.lo s.hi es

      a : Option Y
      a = greatest cmp given (own (piece_of e))

      go : (r : Option MapKey) → e.0.row ≡ r → greater cmp (greatest cmp given (said_at S)) (greatest cmp given (said_at B)) ≡ greatest cmp given (said_at es)
          → greater cmp (greatest cmp given (said_at (statics_of (e ∷ es)))) (greatest cmp given (said_at (rows_between s.lo s.hi (e ∷ es)))) ≡ greatest cmp given (said_at (e ∷ es))
      go None is ih =
          (λ i. greater cmp (greatest cmp given (said_at (cond (static_kept e.0.row (rest e.0) is i) (e ∷ S) S))) (greatest cmp given (said_at (cond (static_left s e.0.row (rest e.0) is i) (e ∷ B) B))))
          ∙ (λ i. greater cmp (greatest-append o given (own (piece_of e)) (said_at S) i) (greatest cmp given (said_at B)))
          ∙ greater_assoc o a (greatest cmp given (said_at S)) (greatest cmp given (said_at B)) ∙ ap (greater cmp a) ih ∙ sym (greatest-append o given (own (piece_of e)) (said_at es))
      go (Some k) is ih =
          (λ i. greater cmp (greatest cmp given (said_at (cond (kept_static order e.0.row (rest e.0) k is rows.0 i) (e ∷ S) S)))
          (greatest cmp given (said_at (cond (kept_row order s e.0.row (rest e.0) k low high is rows.0 i) (e ∷ B) B))))
          ∙ elim (is_inside s.lo s.hi k.values) as (λ b. is_inside s.lo s.hi k.values ≡ b
          → greater cmp (greatest cmp given (said_at S)) (greatest cmp given (said_at (cond b (e ∷ B) B))) ≡ greatest cmp given (said_at (e ∷ es))) [
            | true ↦ λ within.
                ap (greater cmp (greatest cmp given (said_at S))) (greatest-append o given (own (piece_of e)) (said_at B))
                ∙ middle (greatest cmp given (said_at S)) a (greatest cmp given (said_at B)) ∙ ap (greater cmp a) ih ∙ sym (greatest-append o given (own (piece_of e)) (said_at es))
            | false ↦ λ out. ih ∙ sym (greatest-append o given (own (piece_of e)) (said_at es) ∙ ap (λ d. greater cmp d (greatest cmp given (said_at es))) (outside e k is out))
          ] refl

-- ---- alike in a slice

pub record AlikeIn (s : Slice) (A B : List Atom) : Type 0 where
  pub covers : (x : Coordinate) → is_in s (row_of x) ≡ true → cover A x ≡ cover B x
  pub lives : (c : List (List ℕ)) → is_in s (clustered c) ≡ true → greatest live_cmp (live_at_row c) A ≡ greatest live_cmp (live_at_row c) B
  pub cells : (x : Coordinate) → is_in s (row_of x) ≡ true → greatest cell_cmp (cell_at_path x) A ≡ greatest cell_cmp (cell_at_path x) B

everywhere : (s : Slice) (A B : List Atom) → Alike A B → AlikeIn s A B
everywhere s A B a = record { covers = λ x e. a.covers x; lives = λ c e. a.lives c; cells = λ x e. a.cells x }

in_then : (s : Slice) (A B C : List Atom) → AlikeIn s A B → AlikeIn s B C → AlikeIn s A C
in_then s A B C a b = record { covers = λ x e. a.covers x e ∙ b.covers x e; lives = λ c e. a.lives c e ∙ b.lives c e; cells = λ x e. a.cells x e ∙ b.cells x e }

behind_same : (s : Slice) (A B C : List Atom) → AlikeIn s B C → AlikeIn s (A ++ B) (A ++ C)
behind_same s A B C a = record {
  covers = λ x e. cover_joins A B x ∙ ap (greater deletion_cmp (cover A x)) (a.covers x e) ∙ sym (cover_joins A C x);
  lives = λ c e. greatest-append live_laws.orders (live_at_row c) A B ∙ ap (greater live_cmp (greatest live_cmp (live_at_row c) A)) (a.lives c e) ∙ sym (greatest-append live_laws.orders (live_at_row c) A C);
  cells = λ x e. greatest-append cell_laws.orders (cell_at_path x) A B ∙ ap (greater cell_cmp (greatest cell_cmp (cell_at_path x) A)) (a.cells x e) ∙ sym (greatest-append cell_laws.orders (cell_at_path x) A C);
}

in_same : (s : Slice) (A B : List Atom) → AlikeIn s A B → SameWhere (is_in s) A B
in_same s A B a = record {
  covers = a.covers;
  lives = λ c e. winner_is live_laws.orders live_laws.by_time (live_at_row c) (row c) A ∙ (λ i. standing live_at (a.covers (row c) e i) (a.lives c e i))
      ∙ sym (winner_is live_laws.orders live_laws.by_time (live_at_row c) (row c) B);
  cells = λ x e. winner_is cell_laws.orders cell_laws.by_time (cell_at_path x) x A ∙ (λ i. standing cell_at (a.covers x e i) (a.cells x e i))
      ∙ sym (winner_is cell_laws.orders cell_laws.by_time (cell_at_path x) x B);
}

two_parts : (A B : Entries) → said_at (A ++ B) ≡ said_at A ++ said_at B
two_parts [] B = refl
two_parts (e ∷ A) B = ap (λ l. own (piece_of e) ++ l) (two_parts A B) ∙ sym (append_assoc (own (piece_of e)) (said_at A) (said_at B))

said_pieces : (es : Entries) → flat_map own (map piece_of es) ≡ said_at es
said_pieces [] = refl
said_pieces (e ∷ es) = ap (λ l. own (piece_of e) ++ l) (said_pieces es)

parts_say : (order : List Ordered) (s : Slice) (es : Entries) → s.lo.order ≡ order → s.hi.order ≡ order → Rows order es
    → AlikeIn s (said_at (statics_of es) ++ said_at (rows_between s.lo s.hi es)) (said_at es)
parts_say order s es low high rows = record {
  covers = λ x e. cover_joins (said_at (statics_of es)) (said_at (rows_between s.lo s.hi es)) x
      ∙ split order s low high deletion_laws.orders (deletion_at x) (row_of x) (λ r a only apart. only.deletes x apart) e es rows;
  lives = λ c e. greatest-append live_laws.orders (live_at_row c) (said_at (statics_of es)) (said_at (rows_between s.lo s.hi es))
      ∙ split order s low high live_laws.orders (live_at_row c) (clustered c) (λ r a only apart. only.lives c apart) e es rows;
  cells = λ x e. greatest-append cell_laws.orders (cell_at_path x) (said_at (statics_of es)) (said_at (rows_between s.lo s.hi es))
      ∙ split order s low high cell_laws.orders (cell_at_path x) (row_of x) (λ r a only apart. only.cells x apart) e es rows;
}

-- the rows of the slice, put together
pub rows_say : (order : List Ordered) (s : Slice) (es : Entries) (h : Halves) → pieces_in h ≡ map piece_of (statics_of es ++ rows_between s.lo s.hi es)
    → s.lo.order ≡ order → s.hi.order ≡ order → Rows order es → AlikeIn s (flat_map own (rows_by h)) (said_at es)
rows_say order s es h e low high rows =
    let S : Entries = statics_of es in
    let B : Entries = rows_between s.lo s.hi es in
    in_then s (flat_map own (rows_by h)) (said_at S ++ said_at B) (said_at es)
    (everywhere s (flat_map own (rows_by h)) (said_at S ++ said_at B)
    (alike_then (halves_alike h) (alike_is (flat_map own (pieces_in h)) (said_at S ++ said_at B) (ap (flat_map own) e ∙ said_pieces (S ++ B) ∙ two_parts S B))))
    (parts_say order s es low high rows)

-- ---- where they stand

append_pieces : (A B : Entries) → map piece_of (A ++ B) ≡ map piece_of A ++ map piece_of B
append_pieces [] B = refl
append_pieces (e ∷ A) B = ap (λ l. piece_of e ∷ l) (append_pieces A B)

append_rows : (order : List Ordered) (A B : Entries) → Rows order A → Rows order B → Rows order (A ++ B)
append_rows order [] B a b = b
append_rows order (e ∷ A) B a b = (a.0, append_rows order A B a.1 b)

all_static : (order : List Ordered) (es : Entries) → Rows order es → AllByRecursion (λ f. place_of f ≡ None) (map piece_of (statics_of es))
all_static order [] rows = tt
all_static order (e ∷ es) rows = go (all_static order es rows.1) e.0.row refl
  where
    none_at : (r : Option MapKey) → r ≡ None → place_of (piece r e.0.column e.0.path e.1) ≡ None
    none_at r is = ap (λ q. place_of (piece q e.0.column e.0.path e.1)) is

    go : AllByRecursion (λ f. place_of f ≡ None) (map piece_of (statics_of es)) → (r : Option MapKey) → e.0.row ≡ r → AllByRecursion (λ f. place_of f ≡ None) (map piece_of (statics_of (e ∷ es)))
    go ih None is = subst (λ b. AllByRecursion (λ f. place_of f ≡ None) (map piece_of (cond b (e ∷ statics_of es) (statics_of es)))) (sym (static_kept e.0.row (rest e.0) is))
        (none_at e.0.row is, ih)
    go ih (Some k) is = subst (λ b. AllByRecursion (λ f. place_of f ≡ None) (map piece_of (cond b (e ∷ statics_of es) (statics_of es)))) (sym (kept_static order e.0.row (rest e.0) k is rows.0))
        ih

pub rows_ordered : (order : List Ordered) (lo hi : Cut) (es : Entries) (h : Halves) → pieces_in h ≡ map piece_of (statics_of es ++ rows_between lo hi es)
    → IsStrictlySortedBy spot_cmp (keys_of es) → Rows order es → IsOrdered order (rows_by h) × (changes (rows_by h) ≡ [])
rows_ordered order lo hi es h e sorted rows =
    let S : Entries = statics_of es in
    let B : Entries = rows_between lo hi es in
    let first : Rows order S = kept_rows order (λ e. true && not (is_le (spot_cmp (spot_at below_rows) e.0))) es rows in
    let later : Rows order B = kept_rows order (λ e. is_le (spot_cmp (spot_at (key_of lo)) e.0) && not (is_le (spot_cmp (spot_at (key_of hi)) e.0))) es rows in
    halves_ordered order h (subst (AllByRecursion (OfRow order)) (sym e) (pieces_of order (S ++ B) (append_rows order S B first later)))
    (subst (Weak order) (sym (e ∙ append_pieces S B))
    (cross order (map piece_of S) (map piece_of B) (all_static order es rows)
    (kept_weak order (λ e. true && not (is_le (spot_cmp (spot_at below_rows) e.0))) es sorted rows)
    (kept_weak order (λ e. is_le (spot_cmp (spot_at (key_of lo)) e.0) && not (is_le (spot_cmp (spot_at (key_of hi)) e.0))) es sorted rows)))

append_in : (columns : List Column) (A B : Entries) → AreIn columns A → AreIn columns B → AreIn columns (A ++ B)
append_in columns [] B a b = b
append_in columns (e ∷ A) B a b = (a.0, append_in columns A B a.1 b)

rows_in_table : (columns : List Column) (lo hi : Cut) (es : Entries) (h : Halves) → pieces_in h ≡ map piece_of (statics_of es ++ rows_between lo hi es) → AreIn columns es
    → AllByRecursion (Tabled columns) (rows_by h)
rows_in_table columns lo hi es h e all =
    let S : Entries = statics_of es in
    let B : Entries = rows_between lo hi es in
    rows_have columns h (subst (AllByRecursion (Tabled columns)) (sym e) (pieces_have columns (S ++ B)
    (append_in columns S B (kept_in_table columns (λ e. true && not (is_le (spot_cmp (spot_at below_rows) e.0))) es all)
    (kept_in_table columns (λ e. is_le (spot_cmp (spot_at (key_of lo)) e.0) && not (is_le (spot_cmp (spot_at (key_of hi)) e.0))) es all))))

pub in_both : (all front back left right : List Fragment) → front ++ back ≡ all → AreRowsOf front left → AreRowsOf back right → AreRowsOf all (meet left right)
in_both all front back left right e a b = (both a.0 b.0, (λ i. a.1 i ++ b.1 i) ∙ e, (λ i. meet (a.2 i) (b.2 i)))

-- nothing is said at any of these spots
abbrev AreSilent : Entries → Type 0
AreSilent es = AllByRecursion Silent (map piece_of es)

-- what is said of the static row and of rows, in a slice where all rows are inside
parts_silent : (order : List Ordered) (s : Slice) → s.lo.order ≡ order → s.hi.order ≡ order → ((c : List (List ℕ)) → is_inside s.lo s.hi c ≡ true) → (es : Entries) → Rows order es
    → AreSilent (statics_of es) → AreSilent (rows_between s.lo s.hi es) → No (said_at es)
parts_silent order s low high inside [] rows a b = tt
parts_silent order s low high inside (e ∷ es) rows a b = go (parts_silent order s low high inside es rows.1) e.0.row refl
  where
    S : Entries
    S = statics_of es

    B : Entries
    B = rows_between s.lo s.hi es

    go : (AreSilent S → AreSilent B → No (said_at es)) → (r : Option MapKey) → e.0.row ≡ r → No (said_at (e ∷ es))
    go ih None is =
        let (f, x) = subst (λ t. AreSilent (cond t (e ∷ S) S)) (static_kept e.0.row (rest e.0) is) a in
        all_and (λ a. ⊥) (own (piece_of e)) (said_at es) (silent_own (piece_of e) f) (ih x (subst (λ t. AreSilent (cond t (e ∷ B) B)) (static_left s e.0.row (rest e.0) is) b))
    go ih (Some k) is =
        let (f, y) = subst (λ t. AreSilent (cond t (e ∷ B) B)) (kept_row order s e.0.row (rest e.0) k low high is rows.0 ∙ inside k.values) b in
        all_and (λ a. ⊥) (own (piece_of e)) (said_at es) (silent_own (piece_of e) f) (ih (subst (λ t. AreSilent (cond t (e ∷ S) S)) (kept_static order e.0.row (rest e.0) k is rows.0) a) y)

-- ---- both streams

no_own : (ms : List Change) → flat_map own (map marker ms) ≡ []
no_own [] = refl
no_own (m ∷ ms) = no_own ms

pub shows : (s : Slice) (p : Partition) (rows : List Fragment) (top : Option Deletion) (fs : List Fragment) → IsStrictlySortedBy spot_cmp (keys_of p.spots)
    → AreRowsOf (slice_pieces s p) rows → top ≡ (merged (slice_streams s p rows)).top → fs ≡ (merged (slice_streams s p rows)).fragments → Shows s p top fs
shows s p rows top fs sorted are t f = subst (λ d. Shows s p d fs) (sym t) (subst (λ l. Shows s p (merged ss).top l) (sym f) (record {
  ordered = λ order of low high. merge_ordered order ss (each_ordered order of low high);
  no_more = λ order of. slice_no_more s p rows are (closes order p.ranges of.marks);
  some = λ order of all is.
      let low : s.lo.order ≡ order = ap (λ (c : Cut). c.order) all.0 in
      let high : s.hi.order ≡ order = ap (λ (c : Cut). c.order) all.1 in
      merge_says_something order ss (each_ordered order of low high) (there_if (partition_atoms p) (flats ss) (all_silent order of low high all) is);
  ends = λ order of all ws moves.
      let low : s.lo.order ≡ order = ap (λ (c : Cut). c.order) all.0 in
      let high : s.hi.order ≡ order = ap (λ (c : Cut). c.order) all.1 in
      merge_moves (IsEnd ws) order ss (each_ordered order of low high) (
        subst (AreAtEnds ws) (sym (in_rows order of).1) tt,
        (
          subst (AreAtEnds ws) (sym (marked (clipped s p.ranges)))
              (clipped_moves order (IsEnd ws) s p.ranges all (rising order p.ranges of.marks) (closes order p.ranges of.marks) moves),
          tt,
        ),
      );
  same = λ order of low high. chained (merge_is_join order ss (each_ordered order of low high)) (in_slice order of low high);
  formed = λ columns t low high. merge_forms columns ss (each_ordered (clustering_order columns) t.of low high)
      (subst (AllByRecursion (Tabled columns)) are.2 (rows_in_table columns s.lo s.hi p.spots are.0 are.1 t.entries), (markers_have columns (clipped s p.ranges), tt));
  cuts = λ columns t low high. merge_at (FitsCut (clustering_order columns)) ss (
    subst (AreAtCuts columns) (sym (in_rows (clustering_order columns) t.of).1) tt,
    (subst (AreAtCuts columns) (sym (marked (clipped s p.ranges))) (clipped_at (FitsCut (clustering_order columns)) s p.ranges low high t.cuts), tt),
  );
}))
  where
    with_markers : List Change → List Stream
    with_markers ms = record { top = p.top; fragments = rows } ∷ record { top = None; fragments = map marker ms } ∷ []

    ss : List Stream
    ss = with_markers (clipped s p.ranges)

    in_rows : (order : List Ordered) → IsOf order p → IsOrdered order rows × (changes rows ≡ [])
    in_rows order of = subst (λ l. IsOrdered order l × (changes l ≡ [])) are.2 (rows_ordered order s.lo s.hi p.spots are.0 are.1 sorted of.rows)

    cut : (order : List Ordered) → IsOf order p → s.lo.order ≡ order → s.hi.order ≡ order → map marker (clipped s p.ranges) ≡ cut_to s (map marker p.ranges)
    cut order of low high = clipped_is_cut order s low high p.ranges (rising order p.ranges of.marks)

    each_ordered : (order : List Ordered) → IsOf order p → s.lo.order ≡ order → s.hi.order ≡ order → AllByRecursion (λ z. IsOrdered order z.fragments) ss
    each_ordered order of low high = (
      (in_rows order of).0,
      (subst (IsOrdered order) (sym (cut order of low high)) (cut_keeps_the_slice.ordered order s (map marker p.ranges) (record { lo = low; hi = high }) of.marks), tt),
    )

    chained : {A B C : List Atom} → Same A B → SameWhere (is_in s) B C → SameWhere (is_in s) A C
    chained a b = record { covers = λ x i. a.covers x ∙ b.covers x i; lives = λ c i. a.lives c ∙ b.lives c i; cells = λ x i. a.cells x ∙ b.cells x i }

    then_in : {A B C : List Atom} → SameWhere (is_in s) A B → SameWhere (is_in s) B C → SameWhere (is_in s) A C
    then_in a b = record { covers = λ x i. a.covers x i ∙ b.covers x i; lives = λ c i. a.lives c i ∙ b.lives c i; cells = λ x i. a.cells x i ∙ b.cells x i }

    itself : (A : List Atom) → SameWhere (is_in s) A A
    itself A = record { covers = λ x i. refl; lives = λ c i. refl; cells = λ x i. refl }

    -- the markers in the slice say there what all markers say
    cut_says : (order : List Ordered) → IsOf order p → s.lo.order ≡ order → s.hi.order ≡ order → SameWhere (is_in s) (flats ss) (flats (with_markers p.ranges))
    cut_says order of low high =
        let C : List Atom = flat None (map marker (clipped s p.ranges)) in
        let M : List Atom = flat None (map marker p.ranges) in
        let R : List Atom = flat p.top rows in
        let one : SameWhere (is_in s) C M =
        subst (λ l. SameWhere (is_in s) (flat None l) M) (sym (cut order of low high)) (cut_keeps_the_slice.same order s None (map marker p.ranges) (record { lo = low; hi = high }) of.marks) in
        same_where_joins (is_in s) R R (C ++ []) (M ++ []) (itself R)
        (subst (λ l. SameWhere (is_in s) l (M ++ [])) (sym (append-nil C)) (subst (λ l. SameWhere (is_in s) C l) (sym (append-nil M)) one))

    regroup : (T G R : List Atom) → (T ++ G) ++ (R ++ []) ≡ T ++ (G ++ R)
    regroup T G R = ap (λ l. (T ++ G) ++ l) (append-nil R) ∙ append_assoc T G R

    swap : (G R : List Atom) → Alike (G ++ R) (R ++ G)
    swap G R = alike_then (alike_is (G ++ R) (G ++ (R ++ [])) (ap (λ l. G ++ l) (sym (append-nil R)))) (alike_then (in_front G [] G (R ++ []) (alike_itself G)) (alike_is ((R ++ []) ++ G) (R ++ G) (ap (λ l. l ++ G) (append-nil R))))

    all_say : (order : List Ordered) → IsOf order p → s.lo.order ≡ order → s.hi.order ≡ order → AlikeIn s (flats (with_markers p.ranges)) (partition_atoms p)
    all_say order of low high =
        let T : List Atom = atom_of PartitionDeletion p.top in
        let G : List Atom = flat_map own rows in
        let R : List Atom = ranges p.ranges in
        let flat_rows : flats (with_markers p.ranges) ≡ T ++ (G ++ R) =
        (λ i. (T ++ (ranges ((in_rows order of).1 i) ++ G)) ++ ((ranges (marked p.ranges i) ++ no_own p.ranges i) ++ []))
        ∙ ap (λ l. (T ++ G) ++ (l ++ [])) (append-nil R) ∙ regroup T G R in
        in_then s (flats (with_markers p.ranges)) (T ++ (R ++ G)) (partition_atoms p)
        (everywhere s (flats (with_markers p.ranges)) (T ++ (R ++ G)) (alike_then (alike_is (flats (with_markers p.ranges)) (T ++ (G ++ R)) flat_rows) (alike_both (alike_itself T) (swap G R))))
        (behind_same s T (R ++ G) (R ++ said_at p.spots)
        (behind_same s R G (said_at p.spots)
        (subst (λ l. AlikeIn s (flat_map own l) (said_at p.spots)) are.2 (rows_say order s p.spots are.0 are.1 low high of.rows))))

    in_slice : (order : List Ordered) → IsOf order p → s.lo.order ≡ order → s.hi.order ≡ order → SameWhere (is_in s) (flats ss) (partition_atoms p)
    in_slice order of low high = then_in (cut_says order of low high) (in_same s (flats (with_markers p.ranges)) (partition_atoms p) (all_say order of low high))

    -- of a slice from end to end, both streams are silent only where the partition is
    all_silent : (order : List Ordered) → IsOf order p → s.lo.order ≡ order → s.hi.order ≡ order → IsAll order s → No (flats ss) → No (partition_atoms p)
    all_silent order of low high all n =
        let C : List Change = clipped s p.ranges in
        let A : List Atom = flat p.top rows in
        let M : List Atom = flat None (map marker C) in
        let (first, others) = all_of (λ a. ⊥) A (M ++ []) n in
        let (top, said) = stream_silent (record { top = p.top; fragments = rows }) (in_rows order of).0.closed first in
        let marks : AllByRecursion Silent (map marker C) =
        (stream_silent (record { top = None; fragments = map marker C }) (each_ordered order of low high).1.0.closed (subst No (append-nil M) others)).1 in
        let still : Still p.ranges =
        cut_still order p.ranges (rising order p.ranges of.marks) (closes order p.ranges of.marks)
        (subst (λ t. AllByRecursion Silent (cut_to t (map marker p.ranges))) (λ i. record { lo = all.0 i; hi = all.1 i }) (subst (AllByRecursion Silent) (cut order of low high) marks)) in
        let S : Entries = statics_of p.spots in
        let B : Entries = rows_between s.lo s.hi p.spots in
        let pieces : AllByRecursion Silent (map piece_of S ++ map piece_of B) =
        subst (AllByRecursion Silent) (are.1 ∙ append_pieces S B) (halves_silent are.0 (subst (AllByRecursion Silent) (sym are.2) said)) in
        let (statics, inside) = all_of Silent (map piece_of S) (map piece_of B) pieces in
        all_and (λ a. ⊥) (atom_of PartitionDeletion p.top) (ranges p.ranges ++ said_at p.spots) (none_made PartitionDeletion p.top top)
        (all_and (λ a. ⊥) (ranges p.ranges) (said_at p.spots) (still_ranges p.ranges still)
        (parts_silent order s low high (λ c i. is_inside (all.0 i) (all.1 i) c) p.spots of.rows statics inside))

pub slices_show : SlicesShow
slices_show s p rows sorted are = shows s p rows _ _ sorted are refl refl

-- ---- from what calls ensure

pub if_ok_too : {A E : Type 0} (r : Result A E) (P Q : A → Type 0) → ((x : A) → P x → Q x) → IfOk r P → IfOk r Q
if_ok_too (Ok x) P Q h p = h x p
if_ok_too (Err e) P Q h p = tt
