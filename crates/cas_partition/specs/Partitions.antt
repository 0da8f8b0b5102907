-- What a partition in memory says, as atoms; what more atoms do to it; and the places that are made for atoms beforehand.
-- Cassandra documentation, "Storage engine: memtables"; own.
use Rattle.std.specs.Prelude.{◌≡◌, ℕ, Bool, true, false, ◌&&◌, Option, None, Some, List, ◌++◌, map, is_some, if◌then◌else◌}
use Rattle.std.specs.List.{AllByRecursion, flat_map}
use Rattle.std.specs.Map.{lookup}
use Rattle.std.specs.BTreeMap.{insert_entry, is_at}
use Rattle.std.specs.declared.cmp.Ordering.TheVariants.{Less}
use Rattle.cas_types.specs.Schemas.{is_static, is_regular, is_plain}
use Rattle.cas_types.specs.declared.schema.Column.{Column}
use Rattle.cas_types.specs.declared.schema.Kind.{Kind}
use Rattle.cas_types.specs.declared.tag.TypeTag.{TypeTag}
use Rattle.cas_cell.specs.declared.deletion.Deletion.{Deletion}
use Rattle.cas_bounds.specs.ClusteringOrder.{clustering_order}
use Rattle.cas_bounds.specs.Cuts.{cut_cmp}
use Rattle.cas_bounds.specs.declared.order.Ordered.{Ordered}
use Rattle.cas_bounds.specs.declared.map_key.End.TheVariants.{Row}
use Rattle.cas_bounds.specs.declared.map_key.MapKey.{MapKey}
use Rattle.cas_atoms.specs.Fits.{Fits, FitsCut, Names, is_path}
use Rattle.cas_atoms.specs.Winners.{Same}
use Rattle.cas_atoms.specs.declared.atom.Atom.{Atom}
use Rattle.cas_atoms.specs.declared.atom.Atom.TheVariants.{PartitionDeletion, RangeDeletion, RowDeletion, CollectionDeletion}
use Rattle.cas_atoms.specs.declared.atom.Atom.TheVariants.{Live, Write, StaticWrite, StaticCollectionDeletion}
use Rattle.cas_streams.specs.Flat.{Change, atom_of, own, ranges}
use Rattle.cas_streams.specs.NoMore.{SaysNoMore}
use Rattle.cas_streams.specs.Streams.{IsOrdered, IsThere}
use Rattle.cas_streams.specs.declared.fragment.Fragment.{Fragment}
use Rattle.cas_streams.specs.declared.fragment.Fragment.TheVariants as fragment
use Rattle.cas_partition.specs.Ranges.{has_cut}
use Rattle.cas_partition.specs.Ends.{AreAtEnds}
use Rattle.cas_partition.specs.Spots.{spot_cmp, said, blank}
use Rattle.cas_partition.specs.Placed.{wanted}
use Rattle.cas_partition.specs.declared.spot.Spot.{Spot}
use Rattle.cas_partition.specs.declared.spot.Content.{Content}
use Rattle.cas_partition.specs.declared.spot.Room.{Room}
use Rattle.cas_partition.specs.declared.spot.Room.TheVariants.{Whole, Cuts, At}
use Rattle.cas_partition.specs.declared.partition.Partition.{Partition}

-- ---- what it says

-- what is said at all spots
abbrev pub said_at : List (Spot × Content) → List Atom
said_at es = flat_map (λ e. own (said e.0 e.1)) es

-- the deletion of the whole, the range deletions, and what is said of rows
abbrev pub atoms_with : Option Deletion → List Change → List (Spot × Content) → List Atom
atoms_with top ms es = atom_of PartitionDeletion top ++ (ranges ms ++ said_at es)

-- what the partition says
abbrev pub partition_atoms : Partition → List Atom
partition_atoms p = atoms_with p.top p.ranges p.spots

-- ---- of which table

-- the row is ordered as the table orders its rows
abbrev pub IsRowOf : List Ordered → Option MapKey → Type 0
IsRowOf order None = Unit {0}
IsRowOf order (Some k) = (k.end ≡ Row) × (k.order ≡ order)

-- a change, as a marker of a stream
abbrev pub marker : Change → Fragment
marker m = fragment.Marker m.at m.to

-- cuts one after another in the table's order, at the last of which no deletion stays in force; and rows of that order
pub record IsOf (order : List Ordered) (p : Partition) : Type 0 where
  pub marks : IsOrdered order (map marker p.ranges)
  pub rows : AllByRecursion (λ e. IsRowOf order e.0.row) p.spots

-- an atom of the table: its rows and cuts are in the table's order, and a range has its low cut below the high one
abbrev pub IsAtomOf : List Ordered → Atom → Type 0
IsAtomOf order (PartitionDeletion d) = Unit {0}
IsAtomOf order (RangeDeletion lo hi d) = (lo.order ≡ order) × (hi.order ≡ order) × (cut_cmp lo hi ≡ Less)
IsAtomOf order (RowDeletion c d) = c.order ≡ order
IsAtomOf order (CollectionDeletion c ref d) = c.order ≡ order
IsAtomOf order (Live c l) = c.order ≡ order
IsAtomOf order (Write c ref p v) = c.order ≡ order
IsAtomOf order (StaticWrite ref p v) = Unit {0}
IsAtomOf order (StaticCollectionDeletion ref d) = Unit {0}

-- ---- of a table with these columns

-- the columns that are kept there: static ones in the static row, regular ones in rows
abbrev pub kept_in : Option MapKey → Kind → Bool
kept_in None = is_static
kept_in (Some k) = is_regular

-- a collection as a whole, or a cell at a path of the column, which has no deletion of its own
abbrev pub IsPathOf : Column → Option (List ℕ) → Content → Type 0
IsPathOf column None c = is_plain column.shape ≡ false
IsPathOf column (Some p) c = (is_path column p ≡ true) × (c.deletion ≡ None)

-- what is said of the column with that number is said of one of the table's
pub record IsColumnIn (columns : List Column) (row : Option MapKey) (n : ℕ) (path : Option (List ℕ)) (c : Content) : Type 0 where
  pub column : Column
  pub named : Names columns (record { number = n; path = c.tag }) column
  pub kind : kept_in row column.kind ≡ true
  pub at : IsPathOf column path c

-- it is said of a row itself, or of a column of the table
abbrev pub IsIn : List Column → Option MapKey → Option ℕ → Option (List ℕ) → Content → Type 0
IsIn columns row None path c = Unit {0}
IsIn columns row (Some n) path c = IsColumnIn columns row n path c

-- all of them are
abbrev pub AreIn : List Column → List (Spot × Content) → Type 0
AreIn columns es = AllByRecursion (λ e. IsIn columns e.0.row e.0.column e.0.path e.1) es

-- the changes are at cuts that the table may have: their values are values of its first clustering columns
abbrev pub AreAtCuts : List Column → List Change → Type 0
AreAtCuts columns ms = AllByRecursion (λ m. FitsCut (clustering_order columns) m.at) ms

-- a partition of the table: its rows and cuts are in the table's order, the cuts are ones that it may have, and what is said is said of its columns
pub record IsOfTable (columns : List Column) (p : Partition) : Type 0 where
  pub of : IsOf (clustering_order columns) p
  pub cuts : AreAtCuts columns p.ranges
  pub entries : AreIn columns p.spots

-- ---- places

-- the spot is among those of the partition
abbrev pub has_spot : Spot → List (Spot × Content) → Bool
has_spot s es = is_some (lookup (is_at (spot_cmp s)) es)

-- there is place for what is kept there
abbrev pub is_there : List Change → List (Spot × Content) → Room → Bool
is_there ms es Whole = true
is_there ms es (Cuts lo hi) = has_cut lo ms && has_cut hi ms
is_there ms es (At s tag) = has_spot s es

-- the partition has the place that the atom wants
abbrev pub HasPlace : Partition → Atom → Type 0
HasPlace p a = is_there p.ranges p.spots (wanted a) ≡ true

-- the entries with one more at a spot, where nothing is said, if none is there
abbrev pub with_spot : Spot → Option TypeTag → List (Spot × Content) → List (Spot × Content)
with_spot s tag es = if has_spot s es then es else insert_entry spot_cmp es s (blank tag)

-- ---- lists of atoms

-- each is of a table that orders its rows so
abbrev pub AreAtomsOf : List Ordered → List Atom → Type 0
AreAtomsOf order atoms = AllByRecursion (IsAtomOf order) atoms

-- each is one that the table may hold
abbrev pub AllFit : List Column → List Atom → Type 0
AllFit columns atoms = AllByRecursion (Fits columns) atoms

-- each has its place
abbrev pub HavePlaces : Partition → List Atom → Type 0
HavePlaces p atoms = AllByRecursion (HasPlace p) atoms

-- ---- what calls do

-- place was made for these atoms, or for some first of them, which say nothing yet: for each table and order of its rows; nothing is invented, something
-- is still said if something was, what is in force changes at no more cuts, and each other atom keeps its place
pub record MakesPlaces (atoms : List Atom) (p q : Partition) : Type 0 where
  pub same : (order : List Ordered) → IsOf order p → AreAtomsOf order atoms → Same (partition_atoms q) (partition_atoms p)
  pub no_more : (order : List Ordered) → IsOf order p → AreAtomsOf order atoms → SaysNoMore (partition_atoms q) (partition_atoms p)
  pub some : IsThere (partition_atoms p) → IsThere (partition_atoms q)
  pub ends : (ws : List Atom) → AreAtEnds ws p.ranges → AreAtEnds ws q.ranges
  pub of : (order : List Ordered) → IsOf order p → AreAtomsOf order atoms → IsOf order q
  pub fits : (columns : List Column) → IsOfTable columns p → AllFit columns atoms → IsOfTable columns q
  pub others : (b : Atom) → HasPlace p b → HasPlace q b

-- these atoms were joined, nothing else was invented, something is said if something was or there is one of them, also a range deletion that covers no
-- row; what is in force changes besides at most at the atoms' own ends; and each atom keeps its place
pub record JoinsAll (atoms : List Atom) (p q : Partition) : Type 0 where
  pub joined : (order : List Ordered) → IsOf order p → AreAtomsOf order atoms → Same (partition_atoms q) (partition_atoms p ++ atoms)
  pub no_more : (order : List Ordered) → IsOf order p → AreAtomsOf order atoms → SaysNoMore (partition_atoms q) (partition_atoms p ++ atoms)
  pub some : (order : List Ordered) → IsOf order p → AreAtomsOf order atoms → IsThere (partition_atoms p ++ atoms) → IsThere (partition_atoms q)
  pub ends : (order : List Ordered) → IsOf order p → AreAtomsOf order atoms → (ws : List Atom) → AreAtEnds ws p.ranges → AreAtEnds (ws ++ atoms) q.ranges
  pub of : (order : List Ordered) → IsOf order p → AreAtomsOf order atoms → IsOf order q
  pub fits : (columns : List Column) → IsOfTable columns p → AllFit columns atoms → IsOfTable columns q
  pub others : (b : Atom) → HasPlace p b → HasPlace q b
