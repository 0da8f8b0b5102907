-- Fragments are as long as they are counted, and those that fit have a spelling.
use Rattle.std.proofs.Common.{◌≡◌, ℕ, ◌+◌, ◌<◌, ◌^◌, ◌++◌, Bool, false, Option, None, Some, List, [], ◌∷◌, length, take, refl, ◌∙◌, arith}
use Rattle.std.specs.List.{AllByRecursion, flat_map, sum_by}
use Rattle.std.proofs.lemmas.List.{length-append}
use Rattle.std.proofs.lemmas.List.Sums.{sum_by-cons}
use Rattle.cas_types.specs.Schemas.{is_regular}
use Rattle.cas_types.specs.declared.schema.Column.{Column}
use Rattle.cas_types.specs.declared.schema.Kind.{Kind}
use Rattle.cas_cell.specs.Cells.{cell_value}
use Rattle.cas_cell.specs.declared.cell.Cell.{Cell}
use Rattle.cas_cell.specs.declared.cell.Cell.TheVariants as cell
use Rattle.cas_cell.specs.declared.deletion.Deletion.{Deletion}
use Rattle.cas_cell.specs.declared.liveness.Liveness.{Liveness}
use Rattle.cas_bounds.specs.ClusteringOrder.{clustering_order}
use Rattle.cas_bounds.specs.declared.order.Ordered.{Ordered}
use Rattle.cas_codec.specs.Fields.{u8, u16, u32, bytes16, maybe}
use Rattle.cas_codec.proofs.FieldLengths.{u8_long, u16_long, u32_long, flag_long, bytes16_long}
use Rattle.cas_atoms.specs.Fits.{FitsValues}
use Rattle.cas_atoms.specs.declared.row.PathCell.{PathCell}
use Rattle.cas_atoms.specs.declared.row.RowColumn.{RowColumn}
use Rattle.cas_atoms.specs.declared.row.Row.{Row}
use Rattle.cas_records.specs.Spelling.{deletion_bytes, live_bytes, cell_bytes, clustering_bytes, cut_bytes}
use Rattle.cas_records.specs.Allowed.{FitsCellOf}
use Rattle.cas_records.proofs.CellLaws.{deletion_long, live_long, cell_long}
use Rattle.cas_records.proofs.BoundLaws.{clustering_long, cut_long, values_count}
use Rattle.cas_streams.specs.declared.fragment.Fragment.{Fragment}
use Rattle.cas_streams.specs.declared.fragment.Fragment.TheVariants as fragment
use Rattle.cas_fragments.specs.Spelling.{path_cell_bytes, cells_bytes, column_bytes, columns_bytes, row_bytes, marker_bytes, fragment_bytes}
use Rattle.cas_fragments.specs.Lengths.{path_cell_length, maybe_deletion_length, maybe_live_length, column_length, columns_length, row_length, fragment_length}
use Rattle.cas_fragments.specs.Allowed.{FitsPathCell, FitsColumn, FitColumns, FitsFragment, CellHasRoom, ColumnHasRoom, HaveRoom, HasSpelling}

pub cells_longer : (c : PathCell) (others : List PathCell) → sum_by path_cell_length (c ∷ others) ≡ path_cell_length c + sum_by path_cell_length others
cells_longer c others = sum_by-cons path_cell_length c others

pub columns_longer : (c : RowColumn) (others : List RowColumn) → sum_by column_length (c ∷ others) ≡ column_length c + sum_by column_length others
columns_longer c others = sum_by-cons column_length c others

-- ---- lengths

path_cell_long : (c : PathCell) → length (path_cell_bytes c) ≡ path_cell_length c
path_cell_long c = omega (arith, length-append (bytes16 c.path) (cell_bytes c.cell), bytes16_long c.path, cell_long c.cell)

each_cell_long : (cells : List PathCell) → length (flat_map path_cell_bytes cells) ≡ sum_by path_cell_length cells
each_cell_long [] = refl
each_cell_long (c ∷ cells) =
    length-append (path_cell_bytes c) (flat_map path_cell_bytes cells) ∙ omega (arith, path_cell_long c, each_cell_long cells, cells_longer c cells)

maybe_deletion_long : (d : Option Deletion) → length (maybe deletion_bytes d) ≡ maybe_deletion_length d
maybe_deletion_long None = flag_long false
maybe_deletion_long (Some d) = omega (arith, length-append (u8 1) (deletion_bytes d), u8_long 1, deletion_long d)

maybe_live_long : (l : Option Liveness) → length (maybe live_bytes l) ≡ maybe_live_length l
maybe_live_long None = flag_long false
maybe_live_long (Some l) = omega (arith, length-append (u8 1) (live_bytes l), u8_long 1, live_long l)

column_long : (c : RowColumn) → length (column_bytes c) ≡ column_length c
column_long c =
    omega (
      arith,
      length-append (u16 c.column.number) (maybe deletion_bytes c.deletion ++ cells_bytes c.cells),
      length-append (maybe deletion_bytes c.deletion) (cells_bytes c.cells),
      length-append (u32 (length c.cells)) (flat_map path_cell_bytes c.cells),
      u16_long c.column.number,
      u32_long (length c.cells),
      maybe_deletion_long c.deletion,
      each_cell_long c.cells,
    )

each_column_long : (cs : List RowColumn) → length (flat_map column_bytes cs) ≡ sum_by column_length cs
each_column_long [] = refl
each_column_long (c ∷ cs) =
    length-append (column_bytes c) (flat_map column_bytes cs) ∙ omega (arith, column_long c, each_column_long cs, columns_longer c cs)

pub columns_long : (cs : List RowColumn) → length (columns_bytes cs) ≡ columns_length cs
columns_long cs = omega (arith, length-append (u16 (length cs)) (flat_map column_bytes cs), u16_long (length cs), each_column_long cs)

row_long : (r : Row) → length (row_bytes r) ≡ row_length r
row_long r =
    omega (
      arith,
      length-append (clustering_bytes r.clustering) (maybe deletion_bytes r.deletion ++ (maybe live_bytes r.live ++ columns_bytes r.columns)),
      length-append (maybe deletion_bytes r.deletion) (maybe live_bytes r.live ++ columns_bytes r.columns),
      length-append (maybe live_bytes r.live) (columns_bytes r.columns),
      clustering_long r.clustering,
      maybe_deletion_long r.deletion,
      maybe_live_long r.live,
      columns_long r.columns,
    )

pub fragment_long : (f : Fragment) → length (fragment_bytes f) ≡ fragment_length f
fragment_long (fragment.Static cs) = refl
fragment_long (fragment.Row r) = omega (arith, length-append (u8 1) (row_bytes r), u8_long 1, row_long r)
fragment_long (fragment.Marker cut d) =
    omega (
      arith,
      length-append (u8 2) (marker_bytes cut d),
      length-append (cut_bytes cut) (maybe deletion_bytes d),
      u8_long 2,
      cut_long cut,
      maybe_deletion_long d,
    )

-- ---- what fits has room in its fields

short_values : (order : List Ordered) (vs : List (List ℕ)) → FitsValues order vs → AllByRecursion (λ v. length v < 2 ^ 16) vs
short_values [] [] fit = tt
short_values [] (v ∷ vs) fit = absurd fit
short_values (o ∷ os) [] fit = absurd fit
short_values (o ∷ os) (v ∷ vs) fit = (fit.0.0, short_values os vs fit.1)

short_cell : (column : Column) (v : Cell) → FitsCellOf column v → length (cell_value v) < 2 ^ 32
short_cell column (cell.Plain at value) fit = fit.1.0
short_cell column (cell.Expiring at expiry ttl value) fit = fit.3.0
short_cell column (cell.Tombstone at second) fit = omega arith

cells_room : (column : Column) (cells : List PathCell) → AllByRecursion (FitsPathCell column) cells → AllByRecursion CellHasRoom cells
cells_room column [] fit = tt
cells_room column (c ∷ cells) fit = ((fit.0.0.0, short_cell column c.cell fit.0.1), cells_room column cells fit.1)

columns_room : (is_of : Kind → Bool) (columns : List Column) (cs : List RowColumn) → AllByRecursion (FitsColumn is_of columns) cs → AllByRecursion ColumnHasRoom cs
columns_room is_of columns [] fit = tt
columns_room is_of columns (c ∷ cs) fit = ((fit.0.few, cells_room fit.0.of.column c.cells fit.0.cells), columns_room is_of columns cs fit.1)

pub have_room : (is_of : Kind → Bool) (columns : List Column) (cs : List RowColumn) → FitColumns is_of columns cs → HaveRoom cs
have_room is_of columns cs fit = (fit.few, columns_room is_of columns cs fit.each)

pub has_spelling : (columns : List Column) (f : Fragment) → FitsFragment columns f → HasSpelling f
has_spelling columns (fragment.Static cs) fit = tt
has_spelling columns (fragment.Row r) fit =
    let order = clustering_order columns in
    let count : length r.clustering.values ≡ length order = values_count order r.clustering.values fit.clustering.1 in
    let few : length order < 2 ^ 8 = fit.clustering.2 in
    ((omega arith, short_values order r.clustering.values fit.clustering.1), have_room is_regular columns r.columns fit.each)
has_spelling columns (fragment.Marker cut d) fit =
    (fit.0.3, short_values (take (length cut.prefix) (clustering_order columns)) cut.prefix fit.0.1)
