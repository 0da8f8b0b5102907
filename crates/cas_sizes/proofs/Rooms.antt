-- Of what a table may hold, what is little has room in its fields.
use Rattle.std.proofs.Common.{◌≡◌, inl, inr, ℕ, ◌+◌, ◌<◌, ◌≤◌, ◌^◌, Bool, Option, None, Some, List, [], ◌∷◌, ◌++◌, length, map, take, refl, subst, arith}
use Rattle.std.proofs.lemmas.Bool.Decides.{nat_tests}
use Rattle.std.proofs.lemmas.List.Sums.{sum_by-cons}
use Rattle.std.proofs.lemmas.Option.{slice_get_within}
use Rattle.std.specs.List.{AllByRecursion, flat_map, sum_by}
use Rattle.std.specs.List.Sorted.{IsStrictlySortedBy}
use Rattle.std.specs.Ordering.{nat_cmp}
use Rattle.std.specs.declared.cmp.Ordering.TheVariants.{Less}
use Rattle.cas_types.specs.Limits.{IsNarrow}
use Rattle.cas_types.specs.declared.limits.TheConstants.{COLUMN_LIMIT}
use Rattle.cas_types.specs.declared.schema.Column.{Column}
use Rattle.cas_types.specs.declared.schema.Kind.{Kind}
use Rattle.cas_cell.specs.Cells.{cell_value}
use Rattle.cas_cell.specs.declared.cell.Cell.{Cell}
use Rattle.cas_cell.specs.declared.cell.Cell.TheVariants as cell
use Rattle.cas_bounds.specs.ClusteringOrder.{clustering_order}
use Rattle.cas_bounds.specs.declared.cuts.Clustering.{Clustering}
use Rattle.cas_bounds.specs.declared.cuts.Cut.{Cut}
use Rattle.cas_bounds.specs.declared.order.Ordered.{Ordered}
use Rattle.cas_atoms.specs.Coordinates.{RowKey, row, path, clustered, static_row}
use Rattle.cas_atoms.specs.Fits.{Fits, FitsClustering, FitsCut, FitsValues}
use Rattle.cas_atoms.specs.LogLength.{cell_length}
use Rattle.cas_atoms.specs.declared.atom.Atom.{Atom}
use Rattle.cas_atoms.specs.declared.atom.Atom.TheVariants.{PartitionDeletion, RangeDeletion, RowDeletion, CollectionDeletion, Live, Write, StaticWrite, StaticCollectionDeletion}
use Rattle.cas_atoms.specs.declared.atom.ColumnRef.{ColumnRef}
use Rattle.cas_atoms.specs.declared.row.PathCell.{PathCell}
use Rattle.cas_atoms.specs.declared.row.Row.{Row}
use Rattle.cas_atoms.specs.declared.row.RowColumn.{RowColumn}
use Rattle.cas_records.proofs.BoundLaws.{values_count}
use Rattle.cas_fragments.specs.Allowed.{AreShort, CellHasRoom, ColumnHasRoom, HaveRoom, HasSpelling}
use Rattle.cas_fragments.specs.Blocks.{statics_in, behind_statics}
use Rattle.cas_fragments.specs.Lengths.{path_cell_length, column_length}
use Rattle.cas_partition.specs.Partitions.{AllFit, AreAtCuts}
use Rattle.cas_streams.specs.Flat.{atom_of, empties, writes, of_column, own, changes, ranges}
use Rattle.cas_streams.specs.Joined.{Stream}
use Rattle.cas_streams.specs.Merged.{flat_of}
use Rattle.cas_streams.specs.NoMore.{partition, range, one_row, one_column, SaysNoMore}
use Rattle.cas_streams.specs.Places.{Place, place_cmp, place_of}
use Rattle.cas_streams.specs.Streams.{IsThere, IsColumn, AreColumns, IsFragment, WellFormed}
use Rattle.cas_streams.specs.declared.fragment.Fragment.{Fragment}
use Rattle.cas_streams.specs.declared.fragment.Fragment.TheVariants as fragment
use Rattle.cas_streams.proofs.Weaves.{all_of}
use Rattle.cas_streams.proofs.Winning.{all_have}
use Rattle.cas_sizes.proofs.Answered.{weight, AnsweredBy, all_answered}
use Rattle.cas_sizes.proofs.Shapes.{size}
use Rattle.cas_sizes.proofs.Spots.{Spot, spot_of, row_at, some_is, in_row}

-- ---- spots that the table may have

short_values : (order : List Ordered) (vs : List (List ℕ)) → FitsValues order vs → AllByRecursion (λ v. length v < 2 ^ 16) vs
short_values [] [] fit = tt
short_values [] (v ∷ vs) fit = absurd fit
short_values (o ∷ os) [] fit = absurd fit
short_values (o ∷ os) (v ∷ vs) fit = (fit.0.0, short_values os vs fit.1)

short_place : (order : List Ordered) (c : Clustering) → FitsClustering order c → AreShort c.values
short_place order c fit =
    let few : length order < 2 ^ 8 = fit.2 in
    (omega (arith, few, values_count order c.values fit.1), short_values order c.values fit.1)

short_cut : (order : List Ordered) (c : Cut) → FitsCut order c → AreShort c.prefix
short_cut order c fit = (fit.3, short_values (take (length c.prefix) order) c.prefix fit.1)

abbrev IsShortRow : RowKey → Type 0
IsShortRow (clustered c) = AreShort c
IsShortRow static_row = Unit {0}

-- the row's values are short, and so is the path
abbrev IsShort : Spot → Type 0
IsShort (inl partition) = Unit {0}
IsShort (inl range) = Unit {0}
IsShort (inl (one_row c)) = AreShort c
IsShort (inl (one_column r n)) = IsShortRow r
IsShort (inr (row c)) = AreShort c
IsShort (inr (path r n p)) = IsShortRow r × (length p < 2 ^ 16)

short_spot : (columns : List Column) (a : Atom) → Fits columns a → IsShort (spot_of a)
short_spot columns (PartitionDeletion d) fit = tt
short_spot columns (RangeDeletion lo hi d) fit = tt
short_spot columns (RowDeletion c d) fit = short_place (clustering_order columns) c fit.0
short_spot columns (CollectionDeletion c ref d) fit = short_place (clustering_order columns) c fit.0
short_spot columns (Live c l) fit = short_place (clustering_order columns) c fit.0
short_spot columns (Write c ref p v) fit = (short_place (clustering_order columns) c fit.0, fit.1.path.0)
short_spot columns (StaticWrite ref p v) fit = (tt, fit.path.0)
short_spot columns (StaticCollectionDeletion ref d) fit = tt

abbrev AllShort : List Atom → Type 0
AllShort A = AllByRecursion (λ a. IsShort (spot_of a)) A

all_short : (columns : List Column) (A B : List Atom) → AllFit columns B → AllByRecursion (λ a. AnsweredBy B (spot_of a) (weight a)) A → AllShort A
all_short columns [] B fit all = tt
all_short columns (a ∷ A) B fit all =
    (subst IsShort all.0.same (short_spot columns all.0.one (all_have (Fits columns) B all.0.one fit all.0.has)), all_short columns A B fit all.1)

-- ---- cells and columns

value_small : (v : Cell) → length (cell_value v) ≤ cell_length v
value_small (cell.Plain at value) = omega arith
value_small (cell.Expiring at expiry ttl value) = omega arith
value_small (cell.Tombstone at second) = omega arith

short_path : (at : Option Clustering) (ref : ColumnRef) (c : PathCell) → IsShort (spot_of (writes at ref c)) → length c.path < 2 ^ 16
short_path None ref c short = short.1
short_path (Some at) ref c short = short.1

cells_room : (at : Option Clustering) (ref : ColumnRef) (cells : List PathCell) → AllShort (map (writes at ref) cells) → sum_by path_cell_length cells < 2 ^ 32
    → AllByRecursion CellHasRoom cells
cells_room at ref [] short few = tt
cells_room at ref (c ∷ cells) short few = (
  (short_path at ref c short.0, omega (arith, few, sum_by-cons path_cell_length c cells, value_small c.cell)),
  cells_room at ref cells short.1 (omega (arith, few, sum_by-cons path_cell_length c cells)),
)

few_cells : (cells : List PathCell) → length cells ≤ sum_by path_cell_length cells
few_cells [] = omega arith
few_cells (c ∷ cells) = omega (arith, sum_by-cons path_cell_length c cells, few_cells cells)

column_room : (at : Option Clustering) (c : RowColumn) → AllShort (of_column at c) → column_length c < 2 ^ 32 → ColumnHasRoom c
column_room at c short few =
    let (emptied, written) = all_of (λ a. IsShort (spot_of a)) (atom_of (empties at c.column) c.deletion) (map (writes at c.column) c.cells) short in
    (omega (arith, few, few_cells c.cells), cells_room at c.column c.cells written (omega (arith, few)))

columns_room : (at : Option Clustering) (cs : List RowColumn) → AllShort (flat_map (of_column at) cs) → sum_by column_length cs < 2 ^ 32
    → AllByRecursion ColumnHasRoom cs
columns_room at [] short few = tt
columns_room at (c ∷ cs) short few =
    let (here, there) = all_of (λ a. IsShort (spot_of a)) (of_column at c) (flat_map (of_column at) cs) short in
    (column_room at c here (omega (arith, few, sum_by-cons column_length c cs)), columns_room at cs there (omega (arith, few, sum_by-cons column_length c cs)))

-- ---- a table has few columns

nat_less : (a b : ℕ) → nat_cmp a b ≡ Less → a < b
nat_less a b less = grind (arith, nat_tests, less)

few_above : (columns : List Column) (is_of : Kind → Bool) (m : ℕ) (cs : List RowColumn)
    → AllByRecursion (λ q. nat_cmp m q ≡ Less) (map (λ c. c.column.number) cs) → IsStrictlySortedBy nat_cmp (map (λ c. c.column.number) cs)
    → AllByRecursion (IsColumn is_of columns) cs → m < length columns → length cs + m < length columns
unfolding IsStrictlySortedBy
few_above columns is_of m [] above ascend of low = omega (arith, low)
few_above columns is_of m (c ∷ cs) above ascend of low =
    omega (
      arith,
      nat_less m c.column.number above.0,
      few_above columns is_of c.column.number cs ascend.0 ascend.1 of.1 (slice_get_within columns c.column.number of.0.column of.0.named.there),
    )

few_columns : (columns : List Column) (is_of : Kind → Bool) (cs : List RowColumn) → AreColumns is_of columns cs → length cs ≤ length columns
unfolding IsStrictlySortedBy
few_columns columns is_of [] of = omega arith
few_columns columns is_of (c ∷ cs) of =
    omega (
      arith,
      few_above columns is_of c.column.number cs of.ascend.0 of.ascend.1 of.each.1
          (slice_get_within columns c.column.number of.each.0.column of.each.0.named.there),
    )

have_room : (columns : List Column) (is_of : Kind → Bool) (at : Option Clustering) (cs : List RowColumn) → IsNarrow columns → AreColumns is_of columns cs
    → AllShort (flat_map (of_column at) cs) → sum_by column_length cs < 2 ^ 32 → HaveRoom cs
have_room columns is_of at cs narrow of short few =
    let limit : COLUMN_LIMIT ≡ 256 = refl in
    (omega (arith, narrow, limit, few_columns columns is_of cs of), columns_room at cs short few)

-- ---- rows and markers

short_row : (s : Spot) (c : List (List ℕ)) → IsShort s → row_at s ≡ Some (clustered c) → AreShort c
short_row (inl partition) c short e = absurd (nothing e)
  where
    nothing : None ≡ Some (clustered c) → ⊥
    nothing e = cc
short_row (inl range) c short e = absurd (nothing e)
  where
    nothing : None ≡ Some (clustered c) → ⊥
    nothing e = cc
short_row (inl (one_row d)) c short e = subst IsShortRow (some_is (clustered d) (clustered c) e) short
short_row (inl (one_column r n)) c short e = subst IsShortRow (some_is r (clustered c) e) short
short_row (inr (row d)) c short e = subst IsShortRow (some_is (clustered d) (clustered c) e) short
short_row (inr (path r n p)) c short e = subst IsShortRow (some_is r (clustered c) e) short.0

row_short : (c : List (List ℕ)) (A : List Atom) → IsThere A → AllByRecursion (λ a. row_at (spot_of a) ≡ Some (clustered c)) A → AllShort A → AreShort c
row_short c [] there in_row short = absurd there
row_short c (a ∷ A) there in_row short = short_row (spot_of a) c short.0 in_row.0

columns_of : (r : Row) → AllShort (own (fragment.Row r)) → AllShort (flat_map (of_column (Some r.clustering)) r.columns)
columns_of r short =
    let rest : List Atom = flat_map (of_column (Some r.clustering)) r.columns in
    let lives : List Atom = atom_of (Live r.clustering) r.live in
    let (deletes, behind) = all_of (λ a. IsShort (spot_of a)) (atom_of (RowDeletion r.clustering) r.deletion) (lives ++ rest) short in
    (all_of (λ a. IsShort (spot_of a)) lives rest behind).1

-- no static row is among them
abbrev pub NoneStatic : List Fragment → Type 0
NoneStatic [] = Unit {0}
NoneStatic (fragment.Static cs ∷ fs) = ⊥
NoneStatic (fragment.Row r ∷ fs) = NoneStatic fs
NoneStatic (fragment.Marker cut d ∷ fs) = NoneStatic fs

all_room : (columns : List Column) (fs : List Fragment) → IsNarrow columns → NoneStatic fs → AllByRecursion (IsFragment columns) fs → AllShort (flat_map own fs)
    → AreAtCuts columns (changes fs) → sum_by size fs < 2 ^ 32 → AllByRecursion HasSpelling fs
all_room columns [] narrow rows of short cuts few = tt
all_room columns (fragment.Static cs ∷ fs) narrow rows of short cuts few = absurd rows
all_room columns (fragment.Row r ∷ fs) narrow rows of short cuts few =
    let (here, there) = all_of (λ a. IsShort (spot_of a)) (own (fragment.Row r)) (flat_map own fs) short in (
      (
        row_short r.clustering.values (own (fragment.Row r)) of.0.1 (in_row (fragment.Row r)) here,
        have_room columns _ (Some r.clustering) r.columns narrow of.0.0 (columns_of r here) (omega (arith, few, sum_by-cons size (fragment.Row r) fs)),
      ),
      all_room columns fs narrow rows of.1 there cuts (omega (arith, few, sum_by-cons size (fragment.Row r) fs)),
    )
all_room columns (fragment.Marker cut d ∷ fs) narrow rows of short cuts few = (
  short_cut (clustering_order columns) cut cuts.0,
  all_room columns fs narrow rows of.1 short cuts.1 (omega (arith, few, sum_by-cons size (fragment.Marker cut d) fs)),
)

-- behind the first fragment there is no static row
none_static : (order : List Ordered) (p : Place) (fs : List Fragment) → AllByRecursion (λ q. place_cmp order p q ≡ Less) (map place_of fs) → NoneStatic fs
none_static order p [] all = tt
none_static order p (fragment.Static cs ∷ fs) all = absurd (not_first p all.0)
  where
    not_first : (p : Place) → place_cmp order p None ≡ Less → ⊥
    not_first None e = cc
    not_first (Some q) e = cc
none_static order p (fragment.Row r ∷ fs) all = none_static order p fs all.1
none_static order p (fragment.Marker cut d ∷ fs) all = none_static order p fs all.1

-- ---- streams

pub rows_behind : (columns : List Column) (fs : List Fragment) → WellFormed columns fs → NoneStatic (behind_statics fs)
unfolding IsStrictlySortedBy
rows_behind columns [] formed = tt
rows_behind columns (fragment.Static cs ∷ fs) formed = none_static (clustering_order columns) None fs formed.ordered.places.0
rows_behind columns (fragment.Row r ∷ fs) formed =
    none_static (clustering_order columns) (place_of (fragment.Row r)) fs formed.ordered.places.0
rows_behind columns (fragment.Marker cut d ∷ fs) formed =
    none_static (clustering_order columns) (place_of (fragment.Marker cut d)) fs formed.ordered.places.0

-- static columns, and what stands behind them
abbrev pub HasRooms : List Fragment → Type 0
HasRooms fs = HaveRoom (statics_in fs) × AllByRecursion HasSpelling (behind_statics fs)

no_statics : HaveRoom []
no_statics = (omega arith, tt)

room_by : (columns : List Column) (fs : List Fragment) → IsNarrow columns → WellFormed columns fs → AllShort (flat_map own fs)
    → AreAtCuts columns (changes fs) → sum_by size fs < 2 ^ 32 → HasRooms fs
room_by columns [] narrow formed short cuts few = (no_statics, tt)
room_by columns (fragment.Static cs ∷ fs) narrow formed short cuts few =
    let (here, there) = all_of (λ a. IsShort (spot_of a)) (own (fragment.Static cs)) (flat_map own fs) short in (
      have_room columns _ None cs narrow formed.fragments.0.0 here (omega (arith, few, sum_by-cons size (fragment.Static cs) fs)),
      all_room columns fs narrow (rows_behind columns (fragment.Static cs ∷ fs) formed) formed.fragments.1 there cuts
          (omega (arith, few, sum_by-cons size (fragment.Static cs) fs)),
    )
room_by columns (fragment.Row r ∷ fs) narrow formed short cuts few =
    (no_statics, all_room columns (fragment.Row r ∷ fs) narrow (rows_behind columns (fragment.Row r ∷ fs) formed) formed.fragments short cuts few)
room_by columns (fragment.Marker cut d ∷ fs) narrow formed short cuts few =
    (no_statics, all_room columns (fragment.Marker cut d ∷ fs) narrow (rows_behind columns (fragment.Marker cut d ∷ fs) formed) formed.fragments short cuts few)

pub stream_room : (columns : List Column) (s : Stream) (atoms : List Atom) → IsNarrow columns → AllFit columns atoms → WellFormed columns s.fragments
    → AreAtCuts columns (changes s.fragments) → SaysNoMore (flat_of s) atoms → sum_by size s.fragments < 2 ^ 32 → HasRooms s.fragments
stream_room columns s atoms narrow fit formed cuts no_more few =
    let covered : List Atom = ranges (changes s.fragments) in
    let (top, rest) = all_of Each (atom_of PartitionDeletion s.top) (covered ++ flat_map own s.fragments) (all_answered atoms (flat_of s) no_more) in
    let (ranged, owned) = all_of Each covered (flat_map own s.fragments) rest in
    room_by columns s.fragments narrow formed (all_short columns (flat_map own s.fragments) atoms fit owned) cuts few
  where
    Each : Atom → Type 0
    Each a = AnsweredBy atoms (spot_of a) (weight a)
