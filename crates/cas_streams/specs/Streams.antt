-- Streams of a partition's fragments that are well formed.
-- Cassandra documentation, "Operating: Compaction, tombstones"; own.
use Rattle.std.specs.Prelude.{◌≡◌, Bool, true, false, Option, None, Some, List, [], ◌∷◌, map}
use Rattle.std.specs.List.{AllByRecursion}
use Rattle.std.specs.List.Sorted.{IsStrictlySortedBy}
use Rattle.std.specs.Ordering.{nat_cmp}
use Rattle.cas_types.specs.Schemas.{is_static, is_regular, is_plain, path_type}
use Rattle.cas_types.specs.declared.schema.Column.{Column}
use Rattle.cas_types.specs.declared.schema.Kind.{Kind}
use Rattle.cas_cell.specs.declared.deletion.Deletion.{Deletion}
use Rattle.cas_bounds.specs.ClusteringOrder.{clustering_order}
use Rattle.cas_bounds.specs.declared.order.Ordered.{Ordered}
use Rattle.cas_atoms.specs.Fits.{Names, is_path}
use Rattle.cas_atoms.specs.RowsAndPaths.{path_cmp}
use Rattle.cas_atoms.specs.declared.row.RowColumn.{RowColumn}
use Rattle.cas_streams.specs.Places.{place_of, place_cmp}
use Rattle.cas_streams.specs.Flat.{Change, changes, at_end, own}
use Rattle.cas_streams.specs.declared.fragment.Fragment.{Fragment}
use Rattle.cas_streams.specs.declared.fragment.Fragment.TheVariants as fragment

-- the fragment's row or cut is ordered as the table orders its rows
abbrev pub IsOf : List Ordered → Fragment → Type 0
IsOf order (fragment.Static columns) = Unit {0}
IsOf order (fragment.Row r) = r.clustering.order ≡ order
IsOf order (fragment.Marker cut d) = cut.order ≡ order

-- fragments stand one after another, and no range deletion is left in force at the end
pub record IsOrdered (order : List Ordered) (fs : List Fragment) : Type 0 where
  pub places : IsStrictlySortedBy (place_cmp order) (map place_of fs)
  pub of : AllByRecursion (IsOf order) fs
  pub closed : at_end None (changes fs) ≡ None

-- something is there
abbrev pub IsThere : {X : Type 0} → List X → Type 0
IsThere [] = ⊥
IsThere (x ∷ xs) = Unit {0}

-- a column of the table, of that kind: its paths ascend, a plain one has the empty path alone and no deletion, and something is said of it
pub record IsColumn (is_of : Kind → Bool) (columns : List Column) (c : RowColumn) : Type 0 where
  pub column : Column
  pub named : Names columns c.column column
  pub kind : is_of column.kind ≡ true
  pub ascend : IsStrictlySortedBy (path_cmp (path_type column.shape column.tag)) (map (λ p. p.path) c.cells)
  pub paths : AllByRecursion (λ p. is_path column p.path ≡ true) c.cells
  pub collection : (d : Deletion) → c.deletion ≡ Some d → is_plain column.shape ≡ false
  pub said : (c.deletion ≡ None) → IsThere c.cells

-- columns of that kind, by ascending number
pub record AreColumns (is_of : Kind → Bool) (columns : List Column) (cs : List RowColumn) : Type 0 where
  pub ascend : IsStrictlySortedBy nat_cmp (map (λ c. c.column.number) cs)
  pub each : AllByRecursion (IsColumn is_of columns) cs

-- a fragment that a stream of the table may have: something is said of the row
abbrev pub IsFragment : List Column → Fragment → Type 0
IsFragment columns (fragment.Static cs) = AreColumns is_static columns cs × IsThere (own (fragment.Static cs))
IsFragment columns (fragment.Row r) = AreColumns is_regular columns r.columns × IsThere (own (fragment.Row r))
IsFragment columns (fragment.Marker cut d) = Unit {0}

-- each change differs from what is in force before it
abbrev pub Differ : Option Deletion → List Change → Type 0
Differ now [] = Unit {0}
Differ now (m ∷ ms) = (now ≡ m.to → ⊥) × Differ m.to ms

-- a well-formed stream of a table with these columns
pub record WellFormed (columns : List Column) (fs : List Fragment) : Type 0 where
  pub ordered : IsOrdered (clustering_order columns) fs
  pub fragments : AllByRecursion (IsFragment columns) fs
  pub markers : Differ None (changes fs)
