-- Which mutations stand in which memtable of a table, and what all of them say of a partition.
-- Cassandra documentation, "Storage engine: memtables"; own.
use Rattle.std.specs.Prelude.{◌≡◌, ℕ, Bool, true, false, is_some, Option, None, Some, List, [], ◌∷◌, ◌++◌, map, if◌then◌else◌}
use Rattle.std.specs.List.{flat_map, list_any, AllByRecursion}
use Rattle.std.specs.Ordering.{is_gt}
use Rattle.cas_types.specs.Values.{bytes_cmp}
use Rattle.std.specs.Arc.{arc_value}
use Rattle.cas_types.specs.declared.schema.Column.{Column}
use Rattle.cas_bounds.specs.ClusteringOrder.{clustering_order}
use Rattle.cas_bounds.specs.declared.order.Ordered.{Ordered}
use Rattle.cas_bounds.specs.declared.cuts.Slice.{Slice}
use Rattle.cas_cell.specs.declared.deletion.Deletion.{Deletion}
use Rattle.cas_atoms.specs.Coordinates.{same_bytes}
use Rattle.cas_atoms.specs.Fits.{FitsCut, FitsKey}
use Rattle.cas_atoms.specs.Winners.{Same}
use Rattle.cas_atoms.specs.declared.atom.Atom.{Atom}
use Rattle.cas_atoms.specs.declared.atom.Mutation.{Mutation}
use Rattle.cas_laws.specs.Inside.{SameIn}
use Rattle.cas_merge.specs.Told.{streams_told}
use Rattle.cas_streams.specs.Flat.{changes}
use Rattle.cas_streams.specs.Joined.{Stream}
use Rattle.cas_streams.specs.Merged.{flats}
use Rattle.cas_streams.specs.NoMore.{SaysNoMore}
use Rattle.cas_streams.specs.Streams.{IsOrdered, IsThere, WellFormed}
use Rattle.cas_streams.specs.declared.fragment.Fragment.{Fragment}
use Rattle.cas_partition.specs.Partitions.{AllFit, AreAtCuts}
use Rattle.cas_partition.specs.Ends.{AreAtEnds}
use Rattle.cas_partition.specs.Slices.{IsAll}
use Rattle.cas_memtable.specs.Memtables.{atoms_of, changes_of, is_above, least_of, least_with, bytes_with, IsOfColumns, IsOfTable as IsOrderedBy}
use Rattle.cas_memtable.specs.declared.memtable.MemPart.{MemPart}
use Rattle.cas_memtable.specs.declared.parts.Parts.{Parts}

-- ---- mutations

-- what a mutation writes under a key
abbrev pub atoms_at : List ℕ → Mutation → List Atom
atoms_at key w = if same_bytes w.key key then w.atoms else []

-- what mutations write under a key, one after another
abbrev pub atoms_under : List ℕ → List Mutation → List Atom
atoms_under key ws = flat_map (atoms_at key) ws

-- the bytes of their records, of those with atoms
abbrev pub bytes_of : ℕ → List Mutation → ℕ
bytes_of bytes [] = bytes
bytes_of bytes (w ∷ ws) = bytes_of (bytes_with bytes w) ws

-- ---- memtables

-- These mutations stand in the memtable: under each key it says the same as they together, and no more, and has an atom where one of them has; what is in
-- force changes only at ends of their range deletions; it tells the least of their timestamps, and how long their records are.
pub record StandIn (order : List Ordered) (m : MemPart) (ws : List Mutation) : Type 0 where
  pub of : IsOrderedBy order m
  pub same : (key : List ℕ) → Same (atoms_of m key) (atoms_under key ws)
  pub no_more : (key : List ℕ) → SaysNoMore (atoms_of m key) (atoms_under key ws)
  pub some : (key : List ℕ) → IsThere (atoms_under key ws) → IsThere (atoms_of m key)
  pub ends : (key : List ℕ) → AreAtEnds (atoms_under key ws) (changes_of m key)
  pub least : (key : List ℕ) → least_of m key ≡ least_with None (atoms_under key ws)
  pub bytes : m.bytes ≡ bytes_of 0 ws

-- all memtables of a table, in the order in which they were begun: the last one is written to
abbrev pub memtables_of : Parts → List MemPart
memtables_of p = map arc_value p.frozen.items ++ p.active ∷ []

-- in each memtable these stand
abbrev pub StandInEach : List Ordered → List MemPart → List (List Mutation) → Type 0
StandInEach order [] [] = Unit {0}
StandInEach order (m ∷ ms) (ws ∷ wss) = StandIn order m ws × StandInEach order ms wss
StandInEach order [] (ws ∷ wss) = ⊥
StandInEach order (m ∷ ms) [] = ⊥

-- a table's memory keeps these mutations, memtable by memtable
abbrev pub Keeps : List Ordered → Parts → List (List Mutation) → Type 0
Keeps order p wss = StandInEach order (memtables_of p) wss

-- a table's memory is of a table with these columns
abbrev pub IsOfTable : List Column → Parts → Type 0
IsOfTable columns p = AllByRecursion (IsOfColumns columns) (memtables_of p)

-- all of them, one after another
abbrev pub all_of : List (List Mutation) → List Mutation
all_of wss = flat_map (λ ws. ws) wss

-- ---- what a table may hold

-- a key and atoms that a table with these columns may hold
abbrev pub MayHold : List Column → Mutation → Type 0
MayHold columns w = FitsKey w.key × AllFit columns w.atoms

-- memtables of a table with these columns hold these mutations, memtable by memtable, each of which the table may hold
pub record HoldMutations (columns : List Column) (ms : List MemPart) (wss : List (List Mutation)) : Type 0 where
  pub stand : StandInEach (clustering_order columns) ms wss
  pub of : AllByRecursion (IsOfColumns columns) ms
  pub may : AllByRecursion (MayHold columns) (all_of wss)

-- they hold just these, one after another
pub record HoldJust (columns : List Column) (ms : List MemPart) (ws : List Mutation) : Type 0 where
  pub places : List (List Mutation)
  pub held : HoldMutations columns ms places
  pub all : all_of places ≡ ws

-- ---- scans

-- something was written under the key to one of the memtables
abbrev pub has_key : List MemPart → List ℕ → Bool
has_key ms key = list_any (λ m. is_some (least_of m key)) ms

-- the least key above that one, or of all, that they have; none where there is none
abbrev pub IsNextKey : List MemPart → Option (List ℕ) → Option (List ℕ) → Type 0
IsNextKey ms after None = (key : List ℕ) → is_above after key ≡ true → has_key ms key ≡ false
IsNextKey ms after (Some next) =
    (is_above after next ≡ true) × (has_key ms next ≡ true)
    × ((key : List ℕ) → is_above after key ≡ true → has_key ms key ≡ true → is_gt (bytes_cmp next key) ≡ false)

-- ---- what calls do

-- with one more in the last memtable
abbrev pub with_one : Mutation → List (List Mutation) → List (List Mutation)
with_one w [] = []
with_one w (ws ∷ []) = (ws ++ w ∷ []) ∷ []
with_one w (ws ∷ vs ∷ wss) = ws ∷ with_one w (vs ∷ wss)

-- a new memtable behind the others
abbrev pub begun : List (List Mutation) → List (List Mutation)
begun wss = wss ++ [] ∷ []

-- Sources that show a partition: what they tell are streams in order, and well formed where the memory is of a table with some columns, whose markers then
-- stand at cuts that the table may have, if the slice's own are; in the slice they say the same as the mutations together, and nowhere more. There is none
-- exactly where nothing was written under the key; and where something was, a slice from end to end has an atom, be it one that covers no row. In such a
-- slice each stream changes what is in force only at ends of range deletions of these mutations.
pub record ShowPartition {M : Type 0} (tells : M → Option (List Fragment)) (tops : M → Option Deletion) (order : List Ordered) (s : Slice)
    (key : List ℕ) (ms : List MemPart) (ws : List Mutation) (sources : List M) : Type 0 where
  pub streams : List Stream
  pub told : streams_told tells tops sources ≡ Some streams
  pub ordered : AllByRecursion (λ x. IsOrdered order x.fragments) streams
  pub same : SameIn s (flats streams) (atoms_under key ws)
  pub no_more : SaysNoMore (flats streams) (atoms_under key ws)
  pub said : IsAll order s → IsThere (atoms_under key ws) → IsThere (flats streams)
  pub ends : IsAll order s → AllByRecursion (λ x. AreAtEnds (atoms_under key ws) (changes x.fragments)) streams
  pub formed : (columns : List Column) → clustering_order columns ≡ order → AllByRecursion (IsOfColumns columns) ms
      → AllByRecursion (λ x. WellFormed columns x.fragments) streams
  pub cuts : (columns : List Column) → clustering_order columns ≡ order → AllByRecursion (IsOfColumns columns) ms
      → FitsCut (clustering_order columns) s.lo → FitsCut (clustering_order columns) s.hi
      → AllByRecursion (λ x. AreAtCuts columns (changes x.fragments)) streams
  pub none : sources ≡ [] → atoms_under key ws ≡ []
  pub some : atoms_under key ws ≡ [] → sources ≡ []
