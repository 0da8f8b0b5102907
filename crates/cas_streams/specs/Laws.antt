-- What ordered streams say, row by row (own).
use Rattle.std.specs.Prelude.{◌≡◌, Bool, true, Option, None, Some, List, ◌++◌, filter, false}
use Rattle.std.specs.List.{AllByRecursion, flat_map}
use Rattle.cas_types.specs.declared.schema.Column.{Column}
use Rattle.cas_cell.specs.declared.deletion.Deletion.{Deletion}
use Rattle.cas_bounds.specs.ClusteringOrder.{clustering_order}
use Rattle.cas_bounds.specs.declared.order.Ordered.{Ordered}
use Rattle.cas_atoms.specs.Coordinates.{RowKey, same_row}
use Rattle.cas_atoms.specs.Winners.{Same}
use Rattle.cas_atoms.specs.declared.atom.Atom.{Atom}
use Rattle.cas_atoms.specs.declared.atom.Atom.TheVariants.{PartitionDeletion}
use Rattle.cas_bounds.specs.declared.cuts.Slice.{Slice}
use Rattle.cas_laws.specs.Inside.{SameWhere, SameIn, is_in}
use Rattle.cas_streams.specs.Places.{row_in}
use Rattle.cas_streams.specs.Flat.{atom_of, own, in_force, flat}
use Rattle.cas_streams.specs.Streams.{IsOrdered, WellFormed}
use Rattle.cas_streams.specs.Slices.{IsSliceOf, cut_to}
use Rattle.cas_streams.specs.Joined.{Stream}
use Rattle.cas_streams.specs.Merged.{merged, flat_of, flats, IsMerged}
use Rattle.cas_streams.specs.declared.fragment.Fragment.{Fragment}

-- the row of that key, and no other
abbrev pub is_row : RowKey → Option RowKey → Bool
is_row r None = false
is_row r (Some s) = same_row s r

-- all that a stream says of a row: its top, the range deletion in force there, and what the row's own fragments say
abbrev pub row_says : Option Deletion → List Fragment → RowKey → List Atom
row_says top fs r = atom_of PartitionDeletion top ++ (atom_of PartitionDeletion (in_force fs r) ++ flat_map own (filter (λ f. is_row r (row_in f)) fs))

-- in each row, an ordered stream is the same as what it says of that row
abbrev pub RowsSayAll : Type 0
RowsSayAll = (order : List Ordered) (top : Option Deletion) (fs : List Fragment) → IsOrdered order fs → (r : RowKey)
    → SameWhere (same_row r) (flat top fs) (row_says top fs r)

-- an ordered stream is determined, in some rows, by its top, by the range deletion in force at each row, and by what its fragments say of their
-- rows; where its cuts stand isn't, as long as no row stands between
abbrev pub SameByRows : Type 0
SameByRows = (order other : List Ordered) (top : Option Deletion) (fs gs : List Fragment) → IsOrdered order fs → IsOrdered other gs → (inside : RowKey → Bool) →
    ((r : RowKey) → inside r ≡ true → in_force fs r ≡ in_force gs r) → SameWhere inside (flat_map own fs) (flat_map own gs) →
    SameWhere inside (flat top fs) (flat top gs)

-- ---- slices

-- a stream cut to a slice is ordered, and the same in the slice: at each row there the deletion in force is that of the whole
pub record CutKeepsTheSlice : Type 0 where
  pub ordered : (order : List Ordered) (s : Slice) (fs : List Fragment) → IsSliceOf order s → IsOrdered order fs → IsOrdered order (cut_to s fs)
  pub force : (order : List Ordered) (s : Slice) (fs : List Fragment) → IsSliceOf order s → IsOrdered order fs → (r : RowKey) → is_in s r ≡ true
      → in_force (cut_to s fs) r ≡ in_force fs r
  pub same : (order : List Ordered) (s : Slice) (top : Option Deletion) (fs : List Fragment) → IsSliceOf order s → IsOrdered order fs
      → SameIn s (flat top (cut_to s fs)) (flat top fs)

-- and well formed, if the stream is
abbrev pub CutIsWellFormed : Type 0
CutIsWellFormed = (columns : List Column) (s : Slice) (fs : List Fragment) → IsSliceOf (clustering_order columns) s → WellFormed columns fs
    → WellFormed columns (cut_to s fs)

-- ---- the merge

-- the merge of streams is the same as all their atoms one after another
abbrev pub MergeIsJoin : Type 0
MergeIsJoin = (order : List Ordered) (ss : List Stream) → AllByRecursion (λ s. IsOrdered order s.fragments) ss → Same (flat_of (merged ss)) (flats ss)

-- the merge of a table's well-formed streams is well formed
abbrev pub MergeIsWellFormed : Type 0
MergeIsWellFormed = (columns : List Column) (ss : List Stream) → AllByRecursion (λ s. WellFormed columns s.fragments) ss
    → WellFormed columns (merged ss).fragments

-- and each of its writes wins where it is written
abbrev pub MergeIsMerged : Type 0
MergeIsMerged = (columns : List Column) (ss : List Stream) → AllByRecursion (λ s. WellFormed columns s.fragments) ss → IsMerged columns (merged ss)
