-- What holds of a merge on its way, of what it gives, and of streams that are the same (own).
use Rattle.std.specs.Prelude.{◌≡◌, ℕ, Option, None, Some, List, ◌++◌, filter}
use Rattle.std.specs.List.{AllByRecursion, flat_map}
use Rattle.std.specs.declared.cmp.Ordering.TheVariants.{Less}
use Rattle.cas_types.specs.declared.schema.Column.{Column}
use Rattle.cas_cell.specs.declared.cell.Cell.{Cell}
use Rattle.cas_cell.specs.declared.deletion.Deletion.{Deletion}
use Rattle.cas_cell.specs.declared.liveness.Liveness.{Liveness}
use Rattle.cas_bounds.specs.Points.{row_point}
use Rattle.cas_bounds.specs.declared.cuts.Clustering.{Clustering}
use Rattle.cas_bounds.specs.declared.order.Ordered.{Ordered}
use Rattle.cas_atoms.specs.Coordinates.{Coordinate, RowKey, clustered, static_row, path, same_row, deletion_at, live_at_row, cell_at_path}
use Rattle.cas_atoms.specs.Winners.{cover, Same}
use Rattle.cas_atoms.specs.declared.atom.Atom.{Atom}
use Rattle.cas_atoms.specs.declared.atom.ColumnRef.{ColumnRef}
use Rattle.cas_atoms.specs.declared.atom.Atom.TheVariants.{PartitionDeletion, Live, Write, StaticWrite}
use Rattle.cas_laws.specs.Given.{Gives, Has}
use Rattle.cas_laws.specs.Inside.{SameWhere}
use Rattle.cas_streams.specs.Places.{Place, place_of, place_cmp, row_in}
use Rattle.cas_streams.specs.Flat.{atom_of, own, changes, at_end, reaching, in_force}
use Rattle.cas_streams.specs.Streams.{IsOrdered, IsThere}
use Rattle.cas_streams.specs.Joined.{Stream}
use Rattle.cas_streams.specs.Merged.{merged, flat_of, flats, IsMerged}
use Rattle.cas_streams.specs.NoMore.{SaysNoMore}
use Rattle.cas_streams.specs.Laws.{is_row, row_says}
use Rattle.cas_streams.specs.declared.fragment.Fragment.{Fragment}

-- ---- a merge on its way: of its fragments some were given, and the rest is to come

-- the place of a row
abbrev pub place_of_row : RowKey → Place
place_of_row static_row = None
place_of_row (clustered c) = Some (row_point c)

-- what is in force at a row by fragments to come, if before them `now` is; at the static row none is
abbrev pub force_from : Option Deletion → List Fragment → RowKey → Option Deletion
force_from now fs static_row = None
force_from now fs (clustered c) = reaching now (changes fs) c

-- all that fragments to come say of a row
abbrev pub says_from : Option Deletion → Option Deletion → List Fragment → RowKey → List Atom
says_from top now fs r =
    atom_of PartitionDeletion top ++ (atom_of PartitionDeletion (force_from now fs r) ++ flat_map own (filter (λ f. is_row r (row_in f)) fs))

-- at each moment all streams are the same: in a row that all fragments to come stand behind, as what was given; in a row that stands behind all that
-- was given, as what is to come, if what is in force then stays so until the next marker
pub record MergeByPlaces : Type 0 where
  pub passed : (order : List Ordered) (ss : List Stream) → AllByRecursion (λ s. IsOrdered order s.fragments) ss → (given rest : List Fragment)
      → (merged ss).fragments ≡ given ++ rest → (r : RowKey) → AllByRecursion (λ f. place_cmp order (place_of_row r) (place_of f) ≡ Less) rest
      → SameWhere (same_row r) (row_says (merged ss).top given r) (flats ss)
  pub ahead : (order : List Ordered) (ss : List Stream) → AllByRecursion (λ s. IsOrdered order s.fragments) ss → (given rest : List Fragment)
      → (merged ss).fragments ≡ given ++ rest → (r : RowKey) → AllByRecursion (λ f. place_cmp order (place_of f) (place_of_row r) ≡ Less) given
      → SameWhere (same_row r) (says_from (merged ss).top (at_end None (changes given)) rest r) (flats ss)

-- ---- nothing is invented

-- a merge says no more than its streams; which range deletion is in force at a row in it, is so in one of them, and what covers in it, one of them has
pub record MergeInventsNothing : Type 0 where
  pub says : (order : List Ordered) (ss : List Stream) → AllByRecursion (λ s. IsOrdered order s.fragments) ss → SaysNoMore (flat_of (merged ss)) (flats ss)
  pub forces : (order : List Ordered) (ss : List Stream) → AllByRecursion (λ s. IsOrdered order s.fragments) ss → (r : RowKey) (d : Deletion)
      → in_force (merged ss).fragments r ≡ Some d → Gives (λ s. in_force s.fragments r) ss d
  pub covers : (order : List Ordered) (ss : List Stream) → AllByRecursion (λ s. IsOrdered order s.fragments) ss → (x : Coordinate) (d : Deletion)
      → cover (flat_of (merged ss)) x ≡ Some d → Gives (deletion_at x) (flats ss) d

-- ---- nor is all lost

-- where something is said in the streams, something is said in their merge, also where it says the same as no atoms: a range deletion between two neighbours
-- covers no row, and is told
abbrev pub MergeSaysSomething : Type 0
MergeSaysSomething = (order : List Ordered) (ss : List Stream) → AllByRecursion (λ s. IsOrdered order s.fragments) ss → IsThere (flats ss)
    → IsThere (flat_of (merged ss))

-- ---- what determines a stream

-- what a merged stream writes stands in whatever is the same as it; so two merged streams that are the same have the same writes at each coordinate. They
-- may differ in deletions that a greater one stands above, and in where a cut stands between two rows
pub record SameWritesAlike : Type 0 where
  pub lives : (columns : List Column) (s : Stream) (A : List Atom) → IsMerged columns s → Same (flat_of s) A → (c : Clustering) (l : Liveness)
      → Has (flat_of s) (Live c l) → Gives (live_at_row c.values) A l
  pub cells : (columns : List Column) (s : Stream) (A : List Atom) → IsMerged columns s → Same (flat_of s) A → (c : Clustering) (column : ColumnRef)
      (p : List ℕ) (v : Cell) → Has (flat_of s) (Write c column p v) → Gives (cell_at_path (path (clustered c.values) column.number p)) A v
  pub statics : (columns : List Column) (s : Stream) (A : List Atom) → IsMerged columns s → Same (flat_of s) A → (column : ColumnRef) (p : List ℕ)
      (v : Cell) → Has (flat_of s) (StaticWrite column p v) → Gives (cell_at_path (path static_row column.number p)) A v
