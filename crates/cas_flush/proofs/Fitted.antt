-- A well-formed stream of which each atom is allowed fits a table.
use Rattle.std.proofs.Common.{◌≡◌, ℕ, Bool, ◌^◌, ◌<◌, true, Option, None, Some, List, [], ◌∷◌, map, length, refl, sym, ap, ◌∙◌, subst, arith}
use Rattle.std.specs.Prelude.{IfSome, slice_get}
use Rattle.std.specs.List.{AllByRecursion}
use Rattle.std.specs.List.Sorted.{IsStrictlySortedBy}
use Rattle.std.specs.Option.{unwrap_or}
use Rattle.std.specs.declared.cmp.Ordering.TheVariants.{Less}
use Rattle.cas_types.specs.Schemas.{is_static, is_regular}
use Rattle.cas_types.specs.declared.schema.Column.{Column}
use Rattle.cas_types.specs.declared.schema.Kind.{Kind}
use Rattle.cas_cell.specs.Cells.{cell_value}
use Rattle.cas_cell.specs.declared.cell.Cell.{Cell}
use Rattle.cas_cell.specs.declared.cell.Cell.TheVariants as cell
use Rattle.cas_cell.specs.declared.deletion.Deletion.{Deletion}
use Rattle.cas_cell.specs.declared.liveness.Liveness.{Liveness}
use Rattle.cas_bounds.specs.ClusteringOrder.{clustering_order}
use Rattle.cas_bounds.specs.declared.cuts.Clustering.{Clustering}
use Rattle.cas_bounds.specs.declared.cuts.Cut.{Cut}
use Rattle.cas_bounds.specs.declared.order.Ordered.{Ordered}
use Rattle.cas_atoms.specs.Coordinates.{clustered}
use Rattle.cas_atoms.specs.Fits.{FitsDeletion, FitsLive, FitsCell, is_cell_value}
use Rattle.cas_atoms.specs.declared.atom.Atom.{Atom}
use Rattle.cas_atoms.specs.declared.atom.Atom.TheVariants.{PartitionDeletion, RangeDeletion, RowDeletion, Live}
use Rattle.cas_atoms.specs.declared.atom.ColumnRef.{ColumnRef}
use Rattle.cas_atoms.specs.declared.row.PathCell.{PathCell}
use Rattle.cas_atoms.specs.declared.row.Row.{Row}
use Rattle.cas_atoms.specs.declared.row.RowColumn.{RowColumn}
use Rattle.cas_records.specs.Allowed.{FitsCellOf}
use Rattle.cas_streams.specs.Flat.{atom_of, empties, writes, of_column, own, changes, flat}
use Rattle.cas_streams.specs.Joined.{Stream}
use Rattle.cas_streams.specs.NoMore.{SaysNoMore}
use Rattle.cas_streams.specs.Places.{Place, place_cmp, place_of}
use Rattle.cas_streams.specs.Streams.{IsOf, IsThere, IsColumn, AreColumns, IsFragment, WellFormed}
use Rattle.cas_streams.specs.declared.fragment.Fragment.{Fragment}
use Rattle.cas_streams.specs.declared.fragment.Fragment.TheVariants as fragment
use Rattle.cas_streams.proofs.NoMore.{Says, of_its, all_row, flat_all, all_holds}
use Rattle.cas_fragments.specs.Allowed.{FitsPathCell, FitsColumn, FitColumns, FitsRow, FitsFragment, CellHasRoom, ColumnHasRoom, HaveRoom, HasSpelling}
use Rattle.cas_partition.specs.Partitions.{AllFit, AreAtCuts}
use Rattle.cas_flush.specs.Fitting.{FitsTable, HasRoom}
use Rattle.cas_flush.proofs.Allowing.{RowFits, CellFits, Allowed, allowed_by_place, allowed_emptied, allowed_written, all_allowed}

module _ (columns : List Column) where
  -- ---- cells and columns

  held_value : (column : Column) (v : Cell) → length (cell_value v) < 2 ^ 32 → FitsCell (λ bytes. is_cell_value column bytes ≡ true) v → FitsCellOf column v
  held_value column (cell.Plain at value) short f = (f.0, (short, f.1))
  held_value column (cell.Expiring at expiry ttl value) short f = (f.0, f.1, f.2, (short, f.3))
  held_value column (cell.Tombstone at second) short f = f

  -- the column of a number is one
  one_column_there : (n : ℕ) (c d : Column) → slice_get columns n ≡ Some c → slice_get columns n ≡ Some d → c ≡ d
  one_column_there n c d e f = ap (λ o. unwrap_or o c) (sym e ∙ f)

  cell_fits : (n : ℕ) (column : Column) → slice_get columns n ≡ Some column → (p : PathCell) → CellFits columns n p.path p.cell → CellHasRoom p → FitsPathCell column p
  cell_fits n column there p f room =
      subst (λ c. FitsPathCell c p) (one_column_there n f.column column f.there there) (f.path, held_value f.column p.cell room.1 f.cell)

  cells_fit : (at : Option Clustering) (m : ColumnRef) (column : Column) → slice_get columns m.number ≡ Some column → (ps : List PathCell)
      → AllByRecursion (λ p. Allowed columns (writes at m p)) ps → AllByRecursion CellHasRoom ps → AllByRecursion (FitsPathCell column) ps
  cells_fit at m column there [] all room = tt
  cells_fit at m column there (p ∷ ps) all room =
      (cell_fits m.number column there p (allowed_written columns at m p all.0).1 room.0, cells_fit at m column there ps all.1 room.1)

  emptied_fits : (at : Option Clustering) (m : ColumnRef) (d : Option Deletion) → AllByRecursion (Allowed columns) (atom_of (empties at m) d) → IfSome d FitsDeletion
  emptied_fits at m None all = tt
  emptied_fits at m (Some d) all = (allowed_emptied columns at m d all.0).1

  column_fits : (is_of : Kind → Bool) (at : Option Clustering) (c : RowColumn) → IsColumn is_of columns c → AllByRecursion (Allowed columns) (of_column at c)
      → ColumnHasRoom c → FitsColumn is_of columns c
  column_fits is_of at c of all room =
      let (emptied, cells) = of_its (Allowed columns) (allowed_by_place columns) at c all in
      record {
        of = of;
        deletion = emptied_fits at c.column c.deletion emptied;
        cells = cells_fit at c.column of.column of.named.there c.cells cells room.1;
        few = room.0;
      }

  columns_fit : (is_of : Kind → Bool) (at : Option Clustering) (cs : List RowColumn) → AllByRecursion (IsColumn is_of columns) cs
      → AllByRecursion (λ c. AllByRecursion (Allowed columns) (of_column at c)) cs → AllByRecursion ColumnHasRoom cs → AllByRecursion (FitsColumn is_of columns) cs
  columns_fit is_of at [] of all room = tt
  columns_fit is_of at (c ∷ cs) of all room = (column_fits is_of at c of.0 all.0 room.0, columns_fit is_of at cs of.1 all.1 room.1)

  all_fit : (is_of : Kind → Bool) (at : Option Clustering) (cs : List RowColumn) → AreColumns is_of columns cs
      → AllByRecursion (λ c. AllByRecursion (Allowed columns) (of_column at c)) cs → HaveRoom cs → FitColumns is_of columns cs
  all_fit is_of at cs of all room = record { ascend = of.ascend; each = columns_fit is_of at cs of.each all room.1; few = room.0 }

  -- ---- rows

  -- something is said of a row, and so it is one that the table may have
  column_placed : (c : Clustering) (m : ColumnRef) (d : Option Deletion) (ps : List PathCell) → (d ≡ None → IsThere ps)
      → AllByRecursion (Allowed columns) (atom_of (empties (Some c) m) d) → AllByRecursion (λ p. Allowed columns (writes (Some c) m p)) ps → RowFits columns (clustered c.values)
  column_placed c m (Some d) ps said all cells = all.0.0
  column_placed c m None [] said all cells = absurd (said refl)
  column_placed c m None (p ∷ ps) said all cells = cells.0.0

  placed : (c : Clustering) (d : Option Deletion) (l : Option Liveness) (cs : List RowColumn) → AllByRecursion (IsColumn is_regular columns) cs
      → IsThere (own (fragment.Row (record { clustering = c; deletion = d; live = l; columns = cs })))
      → AllByRecursion (Allowed columns) (atom_of (RowDeletion c) d) → AllByRecursion (Allowed columns) (atom_of (Live c) l)
      → AllByRecursion (λ x. AllByRecursion (Allowed columns) (of_column (Some c) x)) cs → RowFits columns (clustered c.values)
  placed c (Some d) l cs of there deletes lives all = deletes.0.0
  placed c None (Some l) cs of there deletes lives all = lives.0.0
  placed c None None [] of there deletes lives all = absurd there
  placed c None None (x ∷ cs) of there deletes lives all =
      let (emptied, cells) = of_its (Allowed columns) (allowed_by_place columns) (Some c) x all.0 in column_placed c x.column x.deletion x.cells of.0.said emptied cells

  deleted_fits : (c : Clustering) (d : Option Deletion) → AllByRecursion (Allowed columns) (atom_of (RowDeletion c) d) → IfSome d FitsDeletion
  deleted_fits c None all = tt
  deleted_fits c (Some d) all = all.0.1

  live_fits : (c : Clustering) (l : Option Liveness) → AllByRecursion (Allowed columns) (atom_of (Live c) l) → IfSome l FitsLive
  live_fits c None all = tt
  live_fits c (Some l) all = all.0.1

  row_fits : (r : Row) → r.clustering.order ≡ clustering_order columns → AreColumns is_regular columns r.columns → IsThere (own (fragment.Row r))
      → AllByRecursion (Allowed columns) (own (fragment.Row r)) → HaveRoom r.columns → FitsRow columns r
  row_fits r order of there all room =
      let (deletes, lives, each) = all_row (Allowed columns) (allowed_by_place columns) r all in
      let place : RowFits columns (clustered r.clustering.values) = placed r.clustering r.deletion r.live r.columns of.each there deletes lives each in
      record {
        clustering = (order, place.0, place.1);
        deletion = deleted_fits r.clustering r.deletion deletes;
        live = live_fits r.clustering r.live lives;
        each = all_fit is_regular (Some r.clustering) r.columns of each room;
        said = there;
      }

  -- ---- fragments

  force_fits : (k : Cut) (d : Option Deletion) → AllByRecursion (Allowed columns) (atom_of (RangeDeletion k k) d) → IfSome d FitsDeletion
  force_fits k None all = tt
  force_fits k (Some d) all = all.0

  abbrev IsBehind : Fragment → Type 0
  IsBehind (fragment.Static cs) = ⊥
  IsBehind (fragment.Row r) = Unit {0}
  IsBehind (fragment.Marker cut d) = Unit {0}

  abbrev Told : Fragment → Type 0
  Told f = Says (Allowed columns) (allowed_by_place columns) f

  fragments_fit : (fs : List Fragment) → AllByRecursion IsBehind fs → AllByRecursion (IsOf (clustering_order columns)) fs → AllByRecursion (IsFragment columns) fs
      → AllByRecursion Told fs → AllByRecursion HasSpelling fs → AreAtCuts columns (changes fs) → AllByRecursion (FitsFragment columns) fs
  fragments_fit [] behind of are told room cuts = tt
  fragments_fit (fragment.Static cs ∷ fs) behind of are told room cuts = absurd behind.0
  fragments_fit (fragment.Row r ∷ fs) behind of are told room cuts =
      (row_fits r of.0 are.0.0 are.0.1 told.0 room.0.1, fragments_fit fs behind.1 of.1 are.1 told.1 room.1 cuts)
  fragments_fit (fragment.Marker k d ∷ fs) behind of are told room cuts =
      ((cuts.0, force_fits k d (told.0 k k)), fragments_fit fs behind.1 of.1 are.1 told.1 room.1 cuts.1)

  -- behind the first fragment there is no static row
  none_static : (order : List Ordered) (p : Place) (fs : List Fragment) → AllByRecursion (λ q. place_cmp order p q ≡ Less) (map place_of fs) → AllByRecursion IsBehind fs
  none_static order p [] all = tt
  none_static order p (fragment.Static cs ∷ fs) all = absurd (not_first p all.0)
    where
      not_first : (p : Place) → place_cmp order p None ≡ Less → ⊥
      not_first None e = cc
      not_first (Some q) e = cc
  none_static order p (fragment.Row r ∷ fs) all = (tt, none_static order p fs all.1)
  none_static order p (fragment.Marker cut d ∷ fs) all = (tt, none_static order p fs all.1)

  -- ---- streams

  top_fits : (top : Option Deletion) → AllByRecursion (Allowed columns) (atom_of PartitionDeletion top) → IfSome top FitsDeletion
  top_fits None all = tt
  top_fits (Some d) all = all.0

  no_columns : FitColumns is_static columns []
  unfolding IsStrictlySortedBy
  no_columns = record { ascend = tt; each = tt; few = omega arith }

  pub fits_told : (top : Option Deletion) (fs : List Fragment) → WellFormed columns fs → AreAtCuts columns (changes fs)
      → AllByRecursion (Allowed columns) (atom_of PartitionDeletion top) → AllByRecursion Told fs → HasRoom fs → FitsTable columns top fs
  unfolding IsStrictlySortedBy
  fits_told top [] formed cuts over told room = record { top = top_fits top over; statics = no_columns; rest = tt }
  fits_told top (fragment.Static cs ∷ fs) formed cuts over told room = record {
    top = top_fits top over;
    statics = all_fit is_static None cs formed.fragments.0.0 (flat_all (Allowed columns) (allowed_by_place columns) (of_column None) cs told.0) room.0;
    rest = fragments_fit fs (none_static (clustering_order columns) None fs formed.ordered.places.0) formed.ordered.of.1 formed.fragments.1 told.1 room.1 cuts;
  }
  fits_told top (fragment.Row r ∷ fs) formed cuts over told room = record {
    top = top_fits top over;
    statics = no_columns;
    rest = fragments_fit (fragment.Row r ∷ fs) (tt, none_static (clustering_order columns) (place_of (fragment.Row r)) fs formed.ordered.places.0) formed.ordered.of
        formed.fragments told room.1 cuts;
  }
  fits_told top (fragment.Marker k d ∷ fs) formed cuts over told room = record {
    top = top_fits top over;
    statics = no_columns;
    rest = fragments_fit (fragment.Marker k d ∷ fs) (tt, none_static (clustering_order columns) (place_of (fragment.Marker k d)) fs formed.ordered.places.0) formed.ordered.of
        formed.fragments told room.1 cuts;
  }

  pub stream_fits : (top : Option Deletion) (fs : List Fragment) (atoms : List Atom) → WellFormed columns fs → AreAtCuts columns (changes fs) → SaysNoMore (flat top fs) atoms
      → AllFit columns atoms → HasRoom fs → FitsTable columns top fs
  stream_fits top fs atoms formed cuts no_more all room =
      let s : Stream = record { top = top; fragments = fs } in
      let (over, told) = all_holds (Allowed columns) (allowed_by_place columns) (clustering_order columns) s formed.ordered
      (all_allowed columns atoms all (flat top fs) no_more) in
      fits_told top fs formed cuts over told room
