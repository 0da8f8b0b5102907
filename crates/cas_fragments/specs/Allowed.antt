-- Which columns, rows and fragments a table file holds: those that a stream of the table may have, of values that a table may hold, whose numbers and
-- lengths their fields can tell.
-- CQL documentation, "Data types: collections" and "Data definition: static columns"; own.
use Rattle.std.specs.Prelude.{◌≡◌, ◌^◌, ◌<◌, ℕ, Bool, List, [], length, map, Option, IfSome}
use Rattle.std.specs.List.{AllByRecursion}
use Rattle.std.specs.List.Sorted.{IsStrictlySortedBy}
use Rattle.std.specs.Ordering.{nat_cmp}
use Rattle.cas_types.specs.Schemas.{is_static, is_regular}
use Rattle.cas_types.specs.declared.schema.Column.{Column}
use Rattle.cas_types.specs.declared.schema.Kind.{Kind}
use Rattle.cas_cell.specs.Cells.{cell_value}
use Rattle.cas_cell.specs.declared.deletion.Deletion.{Deletion}
use Rattle.cas_bounds.specs.ClusteringOrder.{clustering_order}
use Rattle.cas_atoms.specs.Fits.{FitsKey, FitsDeletion, FitsLive, FitsClustering, FitsCut, FitsPath}
use Rattle.cas_atoms.specs.declared.row.PathCell.{PathCell}
use Rattle.cas_atoms.specs.declared.row.RowColumn.{RowColumn}
use Rattle.cas_atoms.specs.declared.row.Row.{Row}
use Rattle.cas_records.specs.Allowed.{FitsCellOf}
use Rattle.cas_streams.specs.Flat.{own}
use Rattle.cas_streams.specs.Streams.{IsThere, IsColumn}
use Rattle.cas_streams.specs.declared.fragment.Fragment.{Fragment}
use Rattle.cas_streams.specs.declared.fragment.Fragment.TheVariants as fragment
use Rattle.cas_fragments.specs.declared.heads.Version.{Version}
use Rattle.cas_fragments.specs.declared.heads.Version.TheVariants.{First, Second}

-- a cell of the column at one of its paths
abbrev pub FitsPathCell : Column → PathCell → Type 0
FitsPathCell column c = FitsPath column c.path × FitsCellOf column c.cell

-- a column that a stream of the table may have, whose cells are of its types
pub record FitsColumn (is_of : Kind → Bool) (columns : List Column) (c : RowColumn) : Type 0 where
  pub of : IsColumn is_of columns c
  pub deletion : IfSome c.deletion FitsDeletion
  pub cells : AllByRecursion (FitsPathCell of.column) c.cells
  pub few : length c.cells < 2 ^ 32

-- columns of that kind, by ascending number
pub record FitColumns (is_of : Kind → Bool) (columns : List Column) (cs : List RowColumn) : Type 0 where
  pub ascend : IsStrictlySortedBy nat_cmp (map (λ c. c.column.number) cs)
  pub each : AllByRecursion (FitsColumn is_of columns) cs
  pub few : length cs < 2 ^ 16

-- a row of the table; something is said of it
pub record FitsRow (columns : List Column) (r : Row) : Type 0 where
  pub clustering : FitsClustering (clustering_order columns) r.clustering
  pub deletion : IfSome r.deletion FitsDeletion
  pub live : IfSome r.live FitsLive
  pub each : FitColumns is_regular columns r.columns
  pub said : IsThere (own (fragment.Row r))

-- a fragment that a block may hold of a table with these columns: a row or a marker
abbrev pub FitsFragment : List Column → Fragment → Type 0
FitsFragment columns (fragment.Static cs) = ⊥
FitsFragment columns (fragment.Row r) = FitsRow columns r
FitsFragment columns (fragment.Marker cut d) = FitsCut (clustering_order columns) cut × IfSome d FitsDeletion

-- the static columns of a partition, or none; in the format's first version there are none
abbrev pub FitStatics : Version → List Column → List RowColumn → Type 0
FitStatics First columns cs = cs ≡ []
FitStatics Second columns cs = FitColumns is_static columns cs

-- the head of a partition of the table: a key, perhaps the DELETE of all of it, and static columns
abbrev pub FitsHead : Version → List Column → List ℕ × Option Deletion × List RowColumn → Type 0
FitsHead version columns h = FitsKey h.0 × IfSome h.1 FitsDeletion × FitStatics version columns h.2

-- ---- what has room in its fields

-- fewer than 256 values, each of fewer than 65,536 bytes
abbrev pub AreShort : List (List ℕ) → Type 0
AreShort values = (length values < 2 ^ 8) × AllByRecursion (λ v. length v < 2 ^ 16) values

-- a path of fewer than 65,536 bytes, and a value of fewer than 2^32
abbrev pub CellHasRoom : PathCell → Type 0
CellHasRoom c = (length c.path < 2 ^ 16) × (length (cell_value c.cell) < 2 ^ 32)

-- fewer than 2^32 cells
abbrev pub ColumnHasRoom : RowColumn → Type 0
ColumnHasRoom c = (length c.cells < 2 ^ 32) × AllByRecursion CellHasRoom c.cells

-- fewer than 65,536 columns
abbrev pub HaveRoom : List RowColumn → Type 0
HaveRoom cs = (length cs < 2 ^ 16) × AllByRecursion ColumnHasRoom cs

-- a fragment whose numbers and lengths have room in their fields
abbrev pub HasSpelling : Fragment → Type 0
HasSpelling (fragment.Static cs) = Unit {0}
HasSpelling (fragment.Row r) = AreShort r.clustering.values × HaveRoom r.columns
HasSpelling (fragment.Marker cut d) = AreShort cut.prefix
