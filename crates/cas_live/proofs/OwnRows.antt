-- A row in order shows by its view what it shows read from itself.
use Rattle.std.proofs.Common.{◌≡◌, ℕ, suc, ◌+◌, ◌≤◌, ℤ, Bool, true, false, cond, not, ◌&&◌, ◌||◌, ◌==◌, Option, None, Some, List, [], ◌∷◌, ◌++◌, map, filter, slice_get, option_map, ◌↔◌, inl, inr, refl, sym, ap, ◌∙◌, subst, arith}
use Rattle.std.proofs.lemmas.Bool.{true≢false, and_parts, eq-eqb}
use Rattle.std.specs.Bool.{then_some}
use Rattle.std.specs.List.{flat_map}
use Rattle.std.specs.List.Sorted.{IsStrictlySortedBy}
use Rattle.std.specs.declared.cmp.Ordering.{Ordering}
use Rattle.cas_types.specs.Orders.{Orders}
use Rattle.cas_types.specs.Schemas.{path_type, is_regular, type_or_blob}
use Rattle.cas_types.specs.declared.schema.Column.{Column}
use Rattle.cas_types.specs.declared.tag.TypeTag.{TypeTag}
use Rattle.cas_types.specs.declared.schema.Kind.{Kind}
use Rattle.cas_types.specs.declared.schema.Kind.TheVariants.{Partition, Ascending, Descending, Static, Regular}
use Rattle.cas_types.specs.declared.schema.Shape.{Shape}
use Rattle.cas_types.specs.declared.schema.Shape.TheVariants as shape
use Rattle.cas_cell.specs.Cells.{cell_at, cell_cmp, cell_value}
use Rattle.cas_cell.specs.Deletions.{deletion_cmp}
use Rattle.cas_cell.specs.Lives.{live_at, live_cmp}
use Rattle.cas_cell.specs.declared.cell.Cell.{Cell}
use Rattle.cas_cell.specs.declared.deletion.Deletion.{Deletion}
use Rattle.cas_cell.specs.declared.liveness.Liveness.{Liveness}
use Rattle.cas_cell.proofs.OrderLaws.{deletion_laws, live_laws, cell_laws}
use Rattle.cas_bounds.specs.Cuts.{is_inside}
use Rattle.cas_bounds.specs.declared.cuts.Clustering.{Clustering}
use Rattle.cas_atoms.specs.Greatest.{greater, greatest}
use Rattle.cas_atoms.specs.Coordinates.{Coordinate, RowKey, row, path, clustered, static_row, same_row, same_bytes, deletion_at, live_at_row, cell_at_path}
use Rattle.cas_atoms.specs.Winners.{cover, standing, live_winner, cell_winner}
use Rattle.cas_atoms.specs.RowsAndPaths.{path_cmp, alive_paths, is_alive}
use Rattle.cas_atoms.specs.Picks.{living, cell_bytes, one_or_null, set_or_null, list_or_null, map_or_null, number_or_null, shown_element, shown_by_shape, value_by_kind, column_value, plain_cell, cell_by_kind, picked_cell, left_of, picked}
use Rattle.cas_atoms.specs.Answers.{is_empty, has_cell, is_living, is_shown, row_shown}
use Rattle.cas_atoms.specs.declared.atom.Atom.{Atom}
use Rattle.cas_atoms.specs.declared.atom.Atom.TheVariants.{PartitionDeletion, RangeDeletion, RowDeletion, CollectionDeletion, Live, Write, StaticWrite, StaticCollectionDeletion}
use Rattle.cas_atoms.specs.declared.atom.ColumnRef.{ColumnRef}
use Rattle.cas_atoms.specs.declared.query.Datum.{Datum}
use Rattle.cas_atoms.specs.declared.query.Pick.{Pick}
use Rattle.cas_atoms.specs.declared.query.Pick.TheVariants.{Value, WriteTime, Ttl}
use Rattle.cas_atoms.specs.declared.query.Query.{Query}
use Rattle.cas_atoms.specs.declared.row.PathCell.{PathCell}
use Rattle.cas_atoms.specs.declared.row.Row.{Row}
use Rattle.cas_atoms.specs.declared.row.RowColumn.{RowColumn}
use Rattle.cas_atoms.proofs.GreatestLemmas.{greater_none, greater_assoc, greatest-append}
use Rattle.cas_laws.specs.Given.{Has}
use Rattle.cas_laws.specs.Inside.{AliveWhere}
use Rattle.cas_laws.proofs.JoinProofs.{winner_is}
use Rattle.cas_laws.proofs.AliveProofs.{alive_where, paths_are}
use Rattle.cas_streams.specs.Flat.{atom_of, writes, empties, of_column}
use Rattle.cas_live.specs.Inner.InOrder.{is_of_all, are_of_all, ascend_in, are_in_order}
use Rattle.cas_live.specs.Inner.OwnRow.{of_whole, top_of, row_cover, columns_from, front_of, cover_in, cells_in, cell_of, shows, some_shows, shown_cells, plain_shown, own_value, own_pick, own_has_cell, own_is_shown, if_regular, own_or_shared, own_picked, own_row, own_answer}
use Rattle.cas_live.specs.Views.{row_view, if_answered}
use Rattle.cas_live.proofs.RowViews.{same_itself, at_moment, static_view}
use Rattle.cas_live.proofs.OwnColumns.{columns_twice, column_of, value_in, in_columns, found_ascends, paths, ascend_sorted, found_is_greatest, shown_sorted, has_shown, found_own, shows_alive, some_shown}

-- ---- atoms of the whole partition and of the static row

of_all : (P : Atom → Type 0) → ((d : Deletion) → P (PartitionDeletion d)) → ((c : ColumnRef) (p : List ℕ) (v : Cell) → P (StaticWrite c p v))
    → ((c : ColumnRef) (d : Deletion) → P (StaticCollectionDeletion c d)) → (a : Atom) → is_of_all a ≡ true → P a
of_all P f g h (PartitionDeletion d) e = f d
of_all P f g h (RangeDeletion lo hi d) e = absurd (true≢false (sym e))
of_all P f g h (RowDeletion c d) e = absurd (true≢false (sym e))
of_all P f g h (CollectionDeletion c column d) e = absurd (true≢false (sym e))
of_all P f g h (Live c l) e = absurd (true≢false (sym e))
of_all P f g h (Write c column p v) e = absurd (true≢false (sym e))
of_all P f g h (StaticWrite column p v) e = g column p v
of_all P f g h (StaticCollectionDeletion column d) e = h column d

module _ {Y : Type 0} (cmp : Y → Y → Ordering) (f g : Atom → Option Y) (alike : (a : Atom) → is_of_all a ≡ true → f a ≡ g a) where
  greatest_of_all : (all : List Atom) → are_of_all all ≡ true → greatest cmp f all ≡ greatest cmp g all
  greatest_of_all [] e = refl
  greatest_of_all (a ∷ all) e =
      let (first, others) = and_parts (is_of_all a) (are_of_all all) e in
      λ i. greater cmp (alike a first i) (greatest_of_all all others i)

greatest_none : {Y : Type 0} (cmp : Y → Y → Ordering) (all : List Atom) → greatest cmp (λ a. None) all ≡ None
greatest_none cmp [] = refl
greatest_none cmp (a ∷ all) = greatest_none cmp all

-- ---- what covers and what is written at a path of the row

module _ (at : Clustering) (n : ℕ) (p : List ℕ) where
  abbrev x : Coordinate
  x = path (clustered at.values) n p

  covers_none : (column : ColumnRef) (cells : List PathCell) → greatest deletion_cmp (deletion_at x) (map (writes (Some at) column) cells) ≡ None
  covers_none column [] = refl
  covers_none column (c ∷ cells) = covers_none column cells

  column_covers : (column : ColumnRef) (d : Option Deletion) (cells : List PathCell) (b : Bool) → (column.number == n) ≡ b
      → greatest deletion_cmp (deletion_at x) (atom_of (empties (Some at) column) d ++ map (writes (Some at) column) cells) ≡ cond b d None
  column_covers column None cells true e = covers_none column cells
  column_covers column None cells false e = covers_none column cells
  column_covers column (Some d) cells true e = λ i. greater deletion_cmp (then_some (same_itself at.values i && e i) d) (covers_none column cells i)
  column_covers column (Some d) cells false e = λ i. greater deletion_cmp (then_some (same_itself at.values i && e i) d) (covers_none column cells i)

  empties_none : (column : ColumnRef) (d : Option Deletion) (cells : List PathCell)
      → greatest cell_cmp (cell_at_path x) (atom_of (empties (Some at) column) d ++ map (writes (Some at) column) cells) ≡ greatest cell_cmp (cell_at_path x) (map (writes (Some at) column) cells)
  empties_none column None cells = refl
  empties_none column (Some d) cells = refl

  writes_elsewhere : (column : ColumnRef) (cells : List PathCell) → (column.number == n) ≡ false → greatest cell_cmp (cell_at_path x) (map (writes (Some at) column) cells) ≡ None
  writes_elsewhere column [] e = refl
  writes_elsewhere column (c ∷ cells) e = λ i. greater cell_cmp (then_some (same_itself at.values i && (e i && same_bytes c.path p)) c.cell) (writes_elsewhere column cells e i)

  deletes : (d : Option Deletion) → greatest deletion_cmp (deletion_at x) (atom_of (RowDeletion at) d) ≡ d
  deletes None = refl
  deletes (Some d) = ap (λ b. greater deletion_cmp (then_some b d) None) (same_itself at.values)

  lives_nowhere : (l : Option Liveness) → greatest deletion_cmp (deletion_at x) (atom_of (Live at) l) ≡ None
  lives_nowhere None = refl
  lives_nowhere (Some l) = refl

  deletes_no_cell : (d : Option Deletion) → greatest cell_cmp (cell_at_path x) (atom_of (RowDeletion at) d) ≡ None
  deletes_no_cell None = refl
  deletes_no_cell (Some d) = refl

  lives_no_cell : (l : Option Liveness) → greatest cell_cmp (cell_at_path x) (atom_of (Live at) l) ≡ None
  lives_no_cell None = refl
  lives_no_cell (Some l) = refl

-- ---- and at the row's own place

module _ (at : Clustering) where
  row_deletes : (d : Option Deletion) → greatest deletion_cmp (deletion_at (row at.values)) (atom_of (RowDeletion at) d) ≡ d
  row_deletes None = refl
  row_deletes (Some d) = ap (λ b. greater deletion_cmp (then_some b d) None) (same_itself at.values)

  row_lives_nowhere : (l : Option Liveness) → greatest deletion_cmp (deletion_at (row at.values)) (atom_of (Live at) l) ≡ None
  row_lives_nowhere None = refl
  row_lives_nowhere (Some l) = refl

  deletes_no_live : (d : Option Deletion) → greatest live_cmp (live_at_row at.values) (atom_of (RowDeletion at) d) ≡ None
  deletes_no_live None = refl
  deletes_no_live (Some d) = refl

  lives : (l : Option Liveness) → greatest live_cmp (live_at_row at.values) (atom_of (Live at) l) ≡ l
  lives None = refl
  lives (Some l) = ap (λ b. greater live_cmp (then_some b l) None) (same_itself at.values)

  -- columns say nothing of the row's own place
  module _ {Y : Type 0} {cmp : Y → Y → Ordering} (o : Orders cmp) (f : Atom → Option Y)
      (no_write : (column : ColumnRef) (p : List ℕ) (v : Cell) → f (Write at column p v) ≡ None)
      (no_deletion : (column : ColumnRef) (d : Deletion) → f (CollectionDeletion at column d) ≡ None) where
    of_cells : (column : ColumnRef) (cells : List PathCell) → greatest cmp f (map (writes (Some at) column) cells) ≡ None
    of_cells column [] = refl
    of_cells column (c ∷ cells) = λ i. greater cmp (no_write column c.path c.cell i) (of_cells column cells i)

    of_emptied : (column : ColumnRef) (d : Option Deletion) (cells : List PathCell) → greatest cmp f (atom_of (empties (Some at) column) d ++ map (writes (Some at) column) cells) ≡ None
    of_emptied column None cells = of_cells column cells
    of_emptied column (Some d) cells = λ i. greater cmp (no_deletion column d i) (of_cells column cells i)

    of_columns : (cs : List RowColumn) → greatest cmp f (flat_map (of_column (Some at)) cs) ≡ None
    of_columns [] = refl
    of_columns (c ∷ cs) =
        greatest-append o f (of_column (Some at) c) (flat_map (of_column (Some at)) cs)
        ∙ (λ i. greater cmp (of_emptied c.column c.deletion c.cells i) (of_columns cs i))

-- ---- the row by its view

-- each part of a view gives its greatest
view_parts : {Y : Type 0} {cmp : Y → Y → Ordering} (o : Orders cmp) (f : Atom → Option Y) (all : List Atom) (force : Option Deletion) (r : Row)
    → greatest cmp f (row_view all force r) ≡ greater cmp (greatest cmp f all) (greater cmp (greatest cmp f (atom_of (RowDeletion r.clustering) force))
    (greater cmp (greatest cmp f (atom_of (RowDeletion r.clustering) r.deletion)) (greater cmp (greatest cmp f (atom_of (Live r.clustering) r.live))
    (greatest cmp f (flat_map (of_column (Some r.clustering)) r.columns)))))
view_parts {cmp = cmp} o f all force r =
    let columns : List Atom = flat_map (of_column (Some r.clustering)) r.columns in
    let live : List Atom = atom_of (Live r.clustering) r.live in
    let deleted : List Atom = atom_of (RowDeletion r.clustering) r.deletion in
    let forced : List Atom = atom_of (RowDeletion r.clustering) force in
    greatest-append o f all (forced ++ (deleted ++ (live ++ columns)))
    ∙ ap (greater cmp (greatest cmp f all))
    (greatest-append o f forced (deleted ++ (live ++ columns))
    ∙ ap (greater cmp (greatest cmp f forced))
    (greatest-append o f deleted (live ++ columns)
    ∙ ap (greater cmp (greatest cmp f deleted)) (greatest-append o f live columns)))

cells_of_value : (p : List ℕ) (m : Option RowColumn) → value_in (λ c. cell_of p c.cells) m ≡ cell_of p (cells_in m)
cells_of_value p None = refl
cells_of_value p (Some c) = refl

cover_of_value : (over : Option Deletion) (m : Option RowColumn) → greater deletion_cmp over (value_in (λ c. c.deletion) m) ≡ cover_in over m
cover_of_value over None = greater_none deletion_laws.orders over
cover_of_value over (Some c) = refl

-- the column whose paths ascend as the table has it gives what is found in it
found_here : (columns : List Column) (at : Clustering) (n : ℕ) (p : List ℕ) (k : Option Column) (column : ColumnRef) (d : Option Deletion) (cells : List PathCell) → ascend_in k cells ≡ true → column.number ≡ n
    → greatest cell_cmp (cell_at_path (path (clustered at.values) n p)) (atom_of (empties (Some at) column) d ++ map (writes (Some at) column) cells) ≡ cell_of p cells
found_here columns at n p None column d cells e same = absurd (true≢false (sym e))
found_here columns at n p (Some k) column d cells e same =
    let tag = path_type k.shape k.tag in
    empties_none at n p column d cells ∙ found_is_greatest tag at n p column same cells (ascend_sorted tag cells e)

-- what is made of the paths of some cells is what is made of the cells
map_shown : {Z : Type 0} (f : List ℕ → Z) (g : PathCell → Z) (t : PathCell → Bool) (cs : List PathCell) → ((c : PathCell) → Has cs c → t c ≡ true → f c.path ≡ g c)
    → map f (paths (filter t cs)) ≡ map g (filter t cs)
map_shown f g t [] h = refl
map_shown f g t (c ∷ cs) h =
    elim (t c) as (λ b. t c ≡ b → map f (paths (cond b (c ∷ filter t cs) (filter t cs))) ≡ map g (cond b (c ∷ filter t cs) (filter t cs))) [
      | true ↦ λ e i. h c (inl refl) e i ∷ map_shown f g t cs (λ d has. h d (inr has)) i
      | false ↦ λ e. map_shown f g t cs (λ d has. h d (inr has))
    ] refl

module _ (columns : List Column) (all : List Atom) (force : Option Deletion) (r : Row) (shared : are_of_all all ≡ true) (ordered : are_in_order columns r.columns ≡ true) where
  abbrev view : List Atom
  view = row_view all force r

  abbrev key : RowKey
  key = clustered r.clustering.values

  abbrev over : Option Deletion
  over = row_cover all force r

  regroup : (top rest : Option Deletion) → greater deletion_cmp top (greater deletion_cmp force (greater deletion_cmp r.deletion rest)) ≡ greater deletion_cmp (greater deletion_cmp top (greater deletion_cmp force r.deletion)) rest
  regroup top rest =
      ap (greater deletion_cmp top) (sym (greater_assoc deletion_laws.orders force r.deletion rest))
      ∙ sym (greater_assoc deletion_laws.orders top (greater deletion_cmp force r.deletion) rest)

  module _ (n : ℕ) where
    abbrev mine : Option RowColumn
    mine = column_of n r.columns

    module _ (p : List ℕ) where
      covered_there : cover view (path key n p) ≡ cover_in over mine
      covered_there =
          view_parts deletion_laws.orders (deletion_at (path key n p)) all force r
          ∙ (λ i. greater deletion_cmp
          (greatest_of_all deletion_cmp (deletion_at (path key n p)) of_whole (of_all (λ a. deletion_at (path key n p) a ≡ of_whole a) (λ d. refl) (λ c q v. refl) (λ c d. refl)) all shared i)
          (greater deletion_cmp (deletes r.clustering n p force i) (greater deletion_cmp (deletes r.clustering n p r.deletion i) (greater deletion_cmp (lives_nowhere r.clustering n p r.live i)
          (in_columns deletion_laws.orders (deletion_at (path key n p)) (λ c. c.deletion) columns r.clustering n
          (λ c _ same. column_covers r.clustering n p c.column c.deletion c.cells true (eq-eqb c.column.number n same))
          (λ c other. column_covers r.clustering n p c.column c.deletion c.cells false other) r.columns ordered i)))))
          ∙ regroup (top_of all) (value_in (λ c. c.deletion) mine)
          ∙ cover_of_value over mine

      written_there : greatest cell_cmp (cell_at_path (path key n p)) view ≡ cell_of p (cells_in mine)
      written_there =
          view_parts cell_laws.orders (cell_at_path (path key n p)) all force r
          ∙ (λ i. greater cell_cmp
          ((greatest_of_all cell_cmp (cell_at_path (path key n p)) (λ a. None) (of_all (λ a. cell_at_path (path key n p) a ≡ None) (λ d. refl) (λ c q v. refl) (λ c d. refl)) all shared ∙ greatest_none cell_cmp all) i)
          (greater cell_cmp (deletes_no_cell r.clustering n p force i) (greater cell_cmp (deletes_no_cell r.clustering n p r.deletion i) (greater cell_cmp (lives_no_cell r.clustering n p r.live i)
          (in_columns cell_laws.orders (cell_at_path (path key n p)) (λ c. cell_of p c.cells) columns r.clustering n
          (λ c ascends same. found_here columns r.clustering n p (slice_get columns c.column.number) c.column c.deletion c.cells ascends same)
          (λ c other. empties_none r.clustering n p c.column c.deletion c.cells ∙ writes_elsewhere r.clustering n p c.column c.cells other) r.columns ordered i)))))
          ∙ cells_of_value p mine

      -- the cell that counts
      pub wins_there : cell_winner view (path key n p) ≡ standing cell_at (cover_in over mine) (cell_of p (cells_in mine))
      wins_there =
          winner_is cell_laws.orders cell_laws.by_time (cell_at_path (path key n p)) (path key n p) view
          ∙ (λ i. standing cell_at (covered_there i) (written_there i))

  covered_row : cover view (row r.clustering.values) ≡ over
  covered_row =
      view_parts deletion_laws.orders (deletion_at (row r.clustering.values)) all force r
      ∙ (λ i. greater deletion_cmp
      (greatest_of_all deletion_cmp (deletion_at (row r.clustering.values)) of_whole (of_all (λ a. deletion_at (row r.clustering.values) a ≡ of_whole a) (λ d. refl) (λ c q v. refl) (λ c d. refl)) all shared i)
      (greater deletion_cmp (row_deletes r.clustering force i) (greater deletion_cmp (row_deletes r.clustering r.deletion i) (greater deletion_cmp (row_lives_nowhere r.clustering r.live i)
      (of_columns r.clustering deletion_laws.orders (deletion_at (row r.clustering.values)) (λ c p v. refl) (λ c d. refl) r.columns i)))))
      ∙ regroup (top_of all) None
      ∙ greater_none deletion_laws.orders over

  lives_in_row : greatest live_cmp (live_at_row r.clustering.values) view ≡ r.live
  lives_in_row =
      view_parts live_laws.orders (live_at_row r.clustering.values) all force r
      ∙ (λ i. greater live_cmp
      ((greatest_of_all live_cmp (live_at_row r.clustering.values) (λ a. None) (of_all (λ a. live_at_row r.clustering.values a ≡ None) (λ d. refl) (λ c q v. refl) (λ c d. refl)) all shared ∙ greatest_none live_cmp all) i)
      (greater live_cmp (deletes_no_live r.clustering force i) (greater live_cmp (deletes_no_live r.clustering r.deletion i) (greater live_cmp (lives r.clustering r.live i)
      (of_columns r.clustering live_laws.orders (live_at_row r.clustering.values) (λ c p v. refl) (λ c d. refl) r.columns i)))))
      ∙ greater_none live_laws.orders r.live

  pub lives_there : live_winner view r.clustering.values ≡ standing live_at over r.live
  lives_there =
      winner_is live_laws.orders live_laws.by_time (live_at_row r.clustering.values) (row r.clustering.values) view
      ∙ (λ i. standing live_at (covered_row i) (lives_in_row i))

  -- ---- its columns

  module _ (now : ℤ) (n : ℕ) (c : Column) (there : slice_get columns n ≡ Some c) where
    abbrev cells : List PathCell
    cells = cells_in (column_of n r.columns)

    abbrev above : Option Deletion
    above = cover_in over (column_of n r.columns)

    abbrev tag : Option TypeTag
    tag = path_type c.shape c.tag

    sorted : IsStrictlySortedBy (path_cmp tag) (paths cells)
    sorted = ascend_sorted tag cells (found_ascends columns n c there r.columns ordered)

    -- its paths that are alive are those of the cells that show
    pub paths_there : paths (shown_cells now above cells) ≡ alive_paths view now key n c
    paths_there =
        (paths_are view now key n c (paths (shown_cells now above cells))).1 (
          shown_sorted tag now above cells sorted,
          λ p. subst (λ w. Has (paths (shown_cells now above cells)) p ↔ (is_alive now w ≡ true)) (sym (wins_there n p)) (has_shown tag now above p cells sorted),
        )

    -- at each of them stands that cell's value
    element_there : (e : PathCell) → Has cells e → shows now above e ≡ true → shown_element view now key n e.path ≡ cell_value e.cell
    element_there e has shown =
        ap cell_bytes (ap (living now) (wins_there n e.path ∙ ap (standing cell_at above) (found_own tag now above e cells sorted has)) ∙ shows_alive now above e shown)

    values_there : map (λ e. cell_value e.cell) (shown_cells now above cells) ≡ map (shown_element view now key n) (alive_paths view now key n c)
    values_there =
        sym (map_shown (shown_element view now key n) (λ e. cell_value e.cell) (shows now above) cells element_there)
        ∙ ap (map (shown_element view now key n)) paths_there

    abbrev entry : List ℕ → List ℕ × List ℕ
    entry p = (p, shown_element view now key n p)

    abbrev own_entry : PathCell → List ℕ × List ℕ
    own_entry e = (e.path, cell_value e.cell)

    entries_there : map own_entry (shown_cells now above cells) ≡ map entry (alive_paths view now key n c)
    entries_there =
        sym (map_shown entry own_entry (shows now above) cells (λ e has shown i. (e.path, element_there e has shown i)))
        ∙ ap (map entry) paths_there

    pub plain_there : plain_shown now above cells ≡ plain_cell view now key n
    plain_there = ap (living now) (sym (wins_there n []))

    pub shape_there : (s : Shape) → own_value s now above cells c ≡ shown_by_shape s view now key n c
    shape_there shape.One = ap (λ v. one_or_null c.tag (option_map cell_value v)) plain_there
    shape_there shape.Set = ap (set_or_null c.tag) paths_there
    shape_there shape.List = ap (list_or_null c.tag) values_there
    shape_there shape.Map = ap (map_or_null c.tag (type_or_blob c.second)) entries_there

  -- some column has an alive cell where one of the row's has
  has_there : (now : ℤ) (n : ℕ) (cs : List Column) (others : List RowColumn) → ((i : ℕ) → slice_get cs i ≡ slice_get columns (n + i))
      → ((m : ℕ) → n ≤ m → columns_from m others ≡ columns_from m r.columns) → own_has_cell now over n cs others ≡ has_cell view now key n cs
  has_there now n [] others suffix from = refl
  has_there now n (c ∷ cs) others suffix from =
      let is : slice_get columns n ≡ Some c = sym (suffix 0 ∙ ap (slice_get columns) (omega arith)) in
      let here : columns_from n others ≡ columns_from n r.columns = from n (omega arith) in
      let rest : own_has_cell now over (n + 1) cs (columns_from n others) ≡ has_cell view now key (n + 1) cs =
      has_there now (n + 1) cs (columns_from n others)
      (λ i. suffix (suc i) ∙ ap (slice_get columns) (omega arith))
      (λ m above. columns_twice n m others (omega arith) ∙ from m (omega arith)) in
      (λ i. (is_regular c.kind && some_shows now (cover_in over (front_of n (here i))) (cells_in (front_of n (here i)))) || rest i)
      ∙ ap (λ b. (is_regular c.kind && b) || has_cell view now key (n + 1) cs)
      (sym (some_shown now (cover_in over (column_of n r.columns)) (cells_in (column_of n r.columns))) ∙ ap (λ ps. not (is_empty ps)) (paths_there now n c is))

-- ---- what it shows for each pick

module _ (q : Query) (now : ℤ) (all : List Atom) (force : Option Deletion) (r : Row) (shared : are_of_all all ≡ true) (ordered : are_in_order q.columns r.columns ≡ true) where
  abbrev seen : List Atom
  seen = row_view all force r

  abbrev here : RowKey
  here = clustered r.clustering.values

  abbrev deleted : Option Deletion
  deleted = row_cover all force r

  abbrev its : ℕ → Option RowColumn
  its n = column_of n r.columns

  same_static : AliveWhere (same_row static_row) now all seen
  same_static = at_moment now (static_view all force r)

  static_alike : (s : Shape) (n : ℕ) (c : Column) → shown_by_shape s all now static_row n c ≡ shown_by_shape s seen now static_row n c
  static_alike shape.One n c = ap (λ v. one_or_null c.tag (option_map cell_value v)) (same_static.cells (path static_row n []) refl)
  static_alike shape.Set n c = ap (set_or_null c.tag) (alive_where same_static static_row n c refl)
  static_alike shape.List n c = λ i. list_or_null c.tag (map (λ p. cell_bytes (same_static.cells (path static_row n p) refl i)) (alive_where same_static static_row n c refl i))
  static_alike shape.Map n c =
      λ i. map_or_null c.tag (type_or_blob c.second) (map {B = List ℕ × List ℕ} (λ p. (p, cell_bytes (same_static.cells (path static_row n p) refl i))) (alive_where same_static static_row n c refl i))

  abbrev shows_own : Pick → ℕ → Option Column → Datum
  shows_own pick n k = own_or_shared k q all now deleted r.clustering.values (its n) pick

  module _ (n : ℕ) (c : Column) (is : slice_get q.columns n ≡ Some c) where
    by_all : (k : Kind) → c.kind ≡ k → column_value q all now here n (slice_get q.columns n) ≡ value_by_kind k q all now here n c
    by_all k kind = ap (column_value q all now here n) is ∙ ap (λ k. value_by_kind k q all now here n c) kind

    by_seen : (k : Kind) → c.kind ≡ k → column_value q seen now here n (slice_get q.columns n) ≡ value_by_kind k q seen now here n c
    by_seen k kind = ap (column_value q seen now here n) is ∙ ap (λ k. value_by_kind k q seen now here n c) kind

    value_by : (k : Kind) → c.kind ≡ k → shows_own (Value n) n (then_some (is_regular k) c) ≡ picked q seen now here (Value n)
    unfolding picked
    value_by Partition kind = by_all Partition kind ∙ sym (by_seen Partition kind)
    value_by Ascending kind = by_all Ascending kind ∙ sym (by_seen Ascending kind)
    value_by Descending kind = by_all Descending kind ∙ sym (by_seen Descending kind)
    value_by Static kind = by_all Static kind ∙ static_alike c.shape n c ∙ sym (by_seen Static kind)
    value_by Regular kind = shape_there q.columns all force r shared ordered now n c is c.shape ∙ sym (by_seen Regular kind)

    cell_all : (k : Kind) → c.kind ≡ k → picked_cell q all now here n (slice_get q.columns n) ≡ cell_by_kind k all now here n
    cell_all k kind = ap (picked_cell q all now here n) is ∙ ap (λ k. cell_by_kind k all now here n) kind

    cell_seen : (k : Kind) → c.kind ≡ k → picked_cell q seen now here n (slice_get q.columns n) ≡ cell_by_kind k seen now here n
    cell_seen k kind = ap (picked_cell q seen now here n) is ∙ ap (λ k. cell_by_kind k seen now here n) kind

    -- of a pick that speaks of one cell
    module _ (f : Option Cell → Datum) (pick : Pick) (of_all : picked q all now here pick ≡ f (picked_cell q all now here n (slice_get q.columns n)))
        (of_seen : picked q seen now here pick ≡ f (picked_cell q seen now here n (slice_get q.columns n)))
        (of_own : (over : Option Deletion) (cells : List PathCell) → own_pick pick now over cells c ≡ f (plain_shown now over cells)) where
      cell_by : (k : Kind) → c.kind ≡ k → shows_own pick n (then_some (is_regular k) c) ≡ picked q seen now here pick
      cell_by Partition kind = of_all ∙ ap f (cell_all Partition kind ∙ sym (cell_seen Partition kind)) ∙ sym of_seen
      cell_by Ascending kind = of_all ∙ ap f (cell_all Ascending kind ∙ sym (cell_seen Ascending kind)) ∙ sym of_seen
      cell_by Descending kind = of_all ∙ ap f (cell_all Descending kind ∙ sym (cell_seen Descending kind)) ∙ sym of_seen
      cell_by Static kind = of_all ∙ ap f (cell_all Static kind ∙ same_static.cells (path static_row n []) refl ∙ sym (cell_seen Static kind)) ∙ sym of_seen
      cell_by Regular kind =
          of_own (cover_in deleted (its n)) (cells_in (its n))
          ∙ ap f (plain_there q.columns all force r shared ordered now n c is ∙ sym (cell_seen Regular kind)) ∙ sym of_seen

  value_picked : (n : ℕ) (k : Option Column) → slice_get q.columns n ≡ k → shows_own (Value n) n (if_regular k) ≡ picked q seen now here (Value n)
  unfolding picked
  value_picked n None is = ap (column_value q all now here n) is ∙ sym (ap (column_value q seen now here n) is)
  value_picked n (Some c) is = value_by n c is c.kind refl

  time_picked : (n : ℕ) (k : Option Column) → slice_get q.columns n ≡ k → shows_own (WriteTime n) n (if_regular k) ≡ picked q seen now here (WriteTime n)
  unfolding picked
  time_picked n None is = ap (λ k. number_or_null (option_map cell_at (picked_cell q all now here n k))) is ∙ sym (ap (λ k. number_or_null (option_map cell_at (picked_cell q seen now here n k))) is)
  time_picked n (Some c) is = cell_by n c is (λ v. number_or_null (option_map cell_at v)) (WriteTime n) refl refl (λ over cells. refl) c.kind refl

  left_picked : (n : ℕ) (k : Option Column) → slice_get q.columns n ≡ k → shows_own (Ttl n) n (if_regular k) ≡ picked q seen now here (Ttl n)
  unfolding picked
  left_picked n None is = ap (λ k. number_or_null (left_of now (picked_cell q all now here n k))) is ∙ sym (ap (λ k. number_or_null (left_of now (picked_cell q seen now here n k))) is)
  left_picked n (Some c) is = cell_by n c is (λ v. number_or_null (left_of now v)) (Ttl n) refl refl (λ over cells. refl) c.kind refl

  each_picked : (pick : Pick) → own_picked q all now deleted r pick ≡ picked q seen now here pick
  each_picked (Value n) = value_picked n (slice_get q.columns n) refl
  each_picked (WriteTime n) = time_picked n (slice_get q.columns n) refl
  each_picked (Ttl n) = left_picked n (slice_get q.columns n) refl

  shown_alike : own_row q all now deleted r ≡ row_shown q seen now here
  unfolding row_shown
  shown_alike = λ i. record { values = map (λ pick. each_picked pick i) q.picks }

  is_shown_alike : own_is_shown now deleted q.columns r ≡ is_shown seen now q.columns r.clustering.values
  is_shown_alike =
      λ i. is_living now (sym (lives_there q.columns all force r shared ordered) i)
      || has_there q.columns all force r shared ordered now 0 q.columns r.columns (λ k. ap (slice_get q.columns) (omega arith)) (λ m above. refl) i

  pub own_answers : own_answer q all now deleted r ≡ if_answered q now seen r.clustering.values
  own_answers = λ i. then_some (is_inside q.slice.lo q.slice.hi r.clustering.values && is_shown_alike i) (shown_alike i)
