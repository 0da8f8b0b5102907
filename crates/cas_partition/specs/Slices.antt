-- A partition in memory as a stream of fragments: what is said of rows, row by row, and the markers of its range deletions.
-- Cassandra documentation, "Storage engine: memtables"; CQL documentation, "Data manipulation: SELECT; WHERE".
use Rattle.std.specs.Prelude.{◌≡◌, true, false, Option, None, Some, List, [], ◌∷◌, ◌++◌, map, if◌then◌else◌}
use Rattle.std.specs.List.Sorted.{IsStrictlySortedBy}
use Rattle.std.specs.Map.{keys_of}
use Rattle.std.specs.Ordering.{is_eq}
use Rattle.cas_types.specs.declared.schema.Column.{Column}
use Rattle.cas_cell.specs.declared.deletion.Deletion.{Deletion}
use Rattle.cas_bounds.specs.ClusteringOrder.{clustering_order}
use Rattle.cas_bounds.specs.declared.order.Ordered.{Ordered}
use Rattle.cas_bounds.specs.declared.cuts.Slice.{Slice}
use Rattle.cas_atoms.specs.Fits.{FitsCut}
use Rattle.cas_atoms.specs.declared.atom.Atom.{Atom}
use Rattle.cas_laws.specs.Inside.{SameIn}
use Rattle.cas_streams.specs.Flat.{changes, flat}
use Rattle.cas_streams.specs.NoMore.{SaysNoMore}
use Rattle.cas_streams.specs.Streams.{IsOrdered, IsThere, WellFormed}
use Rattle.cas_streams.specs.Joined.{joined_fragment, fragment_cmp, Stream}
use Rattle.cas_streams.specs.Merged.{merged}
use Rattle.cas_streams.specs.declared.fragment.Fragment.{Fragment}
use Rattle.cas_partition.specs.Ranges.{clipped}
use Rattle.cas_partition.specs.Ends.{AreAtEnds}
use Rattle.cas_partition.specs.Spots.{spot_cmp}
use Rattle.cas_partition.specs.Partitions.{partition_atoms, marker, IsOf, AreAtCuts, IsOfTable}
use Rattle.cas_partition.specs.Ranged.{piece_of, statics_of, rows_between}
use Rattle.cas_partition.specs.declared.partition.Partition.{Partition}

-- pieces one after another, those of one row put together
abbrev pub grouped_from : Fragment → List Fragment → List Fragment
grouped_from f [] = f ∷ []
grouped_from f (g ∷ gs) = if is_eq (fragment_cmp f g) then grouped_from (joined_fragment f g) gs else f ∷ grouped_from g gs

-- the pieces, behind a first one that may be there
abbrev pub grouped : Option Fragment → List Fragment → List Fragment
grouped (Some f) gs = grouped_from f gs
grouped None [] = []
grouped None (g ∷ gs) = grouped_from g gs

-- the slice reaches from one end of a partition to the other: from before all rows of a table that orders them so, to after all of them
abbrev pub IsAll : List Ordered → Slice → Type 0
IsAll order s = (s.lo ≡ record { prefix = []; after = false; order = order }) × (s.hi ≡ record { prefix = []; after = true; order = order })

-- a stream that tells these fragments under that deletion says in the slice what the partition says, and nowhere more: its fragments are in order, and
-- well formed where the partition is of a table with these columns; its markers then stand at cuts that the table may have, if the slice's own are. Where
-- the slice is all of the partition and something is said in that, something is in the stream, also where it says the same as no atoms; and there the
-- markers change what is in force only at ends of range deletions, if the partition's changes do
pub record Shows (s : Slice) (p : Partition) (top : Option Deletion) (fs : List Fragment) : Type 0 where
  pub ordered : (order : List Ordered) → IsOf order p → s.lo.order ≡ order → s.hi.order ≡ order → IsOrdered order fs
  pub same : (order : List Ordered) → IsOf order p → s.lo.order ≡ order → s.hi.order ≡ order → SameIn s (flat top fs) (partition_atoms p)
  pub no_more : (order : List Ordered) → IsOf order p → SaysNoMore (flat top fs) (partition_atoms p)
  pub some : (order : List Ordered) → IsOf order p → IsAll order s → IsThere (partition_atoms p) → IsThere (flat top fs)
  pub ends : (order : List Ordered) → IsOf order p → IsAll order s → (ws : List Atom) → AreAtEnds ws p.ranges → AreAtEnds ws (changes fs)
  pub formed : (columns : List Column) → IsOfTable columns p → s.lo.order ≡ clustering_order columns → s.hi.order ≡ clustering_order columns
      → WellFormed columns fs
  pub cuts : (columns : List Column) → IsOfTable columns p → FitsCut (clustering_order columns) s.lo → FitsCut (clustering_order columns) s.hi
      → AreAtCuts columns (changes fs)

-- rows that begin with this one, and later ones: where the first of the later ones is the last of the earlier ones, both are put together
abbrev pub meet_from : Fragment → List Fragment → List Fragment → List Fragment
meet_from f [] [] = f ∷ []
meet_from f [] (g ∷ gs) = grouped_from f (g ∷ []) ++ gs
meet_from f (h ∷ fs) gs = f ∷ meet_from h fs gs

-- rows, and later ones, put together in the same way
abbrev pub meet : List Fragment → List Fragment → List Fragment
meet [] gs = gs
meet (f ∷ fs) gs = meet_from f fs gs

-- pieces in halves, and those in halves again; a few are one after another
pub data Halves : Type 0 where
  few : List Fragment → Halves
  both : Halves → Halves → Halves

-- the pieces in halves, one after another
abbrev pub pieces_in : Halves → List Fragment
pieces_in (few fs) = fs
pieces_in (both a b) = pieces_in a ++ pieces_in b

-- the rows that the halves make: of a few pieces those that lie together, of two halves those of each, put together where they meet
abbrev pub rows_by : Halves → List Fragment
rows_by (few fs) = grouped None fs
rows_by (both a b) = meet (rows_by a) (rows_by b)

-- the rows of these pieces, in whichever halves they are put together
abbrev pub AreRowsOf : List Fragment → List Fragment → Type 0
AreRowsOf pieces rows = (h : Halves) × (pieces_in h ≡ pieces) × (rows_by h ≡ rows)

-- ---- a slice as two streams

-- what is said of the static row and of the rows of the slice, piece by piece
abbrev pub slice_pieces : Slice → Partition → List Fragment
slice_pieces s p = map piece_of (statics_of p.spots ++ rows_between s.lo s.hi p.spots)

-- the rows under the deletion of the whole, and the range deletions in the slice
abbrev pub slice_streams : Slice → Partition → List Fragment → List Stream
slice_streams s p rows = record { top = p.top; fragments = rows } ∷ record { top = None; fragments = map marker (clipped s p.ranges) } ∷ []

-- the merge of both is in order and well formed, and says in the slice what the partition says, and nowhere more
abbrev pub SlicesShow : Type 0
SlicesShow = (s : Slice) (p : Partition) (rows : List Fragment) → IsStrictlySortedBy spot_cmp (keys_of p.spots) → AreRowsOf (slice_pieces s p) rows
    → Shows s p (merged (slice_streams s p rows)).top (merged (slice_streams s p rows)).fragments
