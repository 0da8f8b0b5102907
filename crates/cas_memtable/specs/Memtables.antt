-- What a memtable says, partition by partition.
-- Cassandra documentation, "Storage engine: memtables"; that it has the least timestamp of all that was written is own.
use Rattle.std.specs.Prelude.{◌≡◌, ℕ, ℤ, int_lt, ◌+◌, ◌-◌, ◌^◌, min, Bool, true, false, Option, None, Some, IsSome, List, [], ◌∷◌, ◌++◌, if◌then◌else◌}
use Rattle.std.specs.BTreeMap.{get}
use Rattle.std.specs.Ordering.{is_lt, is_gt}
use Rattle.cas_types.specs.Values.{bytes_cmp}
use Rattle.cas_types.specs.declared.schema.Column.{Column}
use Rattle.cas_cell.specs.declared.deletion.Deletion.{Deletion}
use Rattle.cas_bounds.specs.declared.order.Ordered.{Ordered}
use Rattle.cas_bounds.specs.declared.cuts.Slice.{Slice}
use Rattle.cas_atoms.specs.Winners.{Same}
use Rattle.cas_atoms.specs.Coordinates.{atom_at}
use Rattle.cas_atoms.specs.LogLength.{record_length}
use Rattle.cas_atoms.specs.declared.atom.Atom.{Atom}
use Rattle.cas_atoms.specs.declared.atom.Mutation.{Mutation}
use Rattle.cas_streams.specs.Flat.{Change}
use Rattle.cas_streams.specs.NoMore.{SaysNoMore}
use Rattle.cas_streams.specs.Streams.{IsThere}
use Rattle.cas_streams.specs.declared.fragment.Fragment.{Fragment}
use Rattle.cas_partition.specs.Ends.{AreAtEnds}
use Rattle.cas_partition.specs.Slices.{Shows}
use Rattle.cas_partition.specs.Partitions.{partition_atoms, IsOf, AreAtomsOf, AllFit, HavePlaces, IsOfTable as IsPartitionOf}
use Rattle.cas_memtable.specs.declared.memtable.Held.{Held}
use Rattle.cas_memtable.specs.declared.memtable.MemPart.{MemPart}

-- the partition of a key, if it is held
abbrev pub held_at : MemPart → List ℕ → Option Held
held_at m key = get bytes_cmp m.partitions key

-- what it says
abbrev pub atoms_held : Option Held → List Atom
atoms_held None = []
atoms_held (Some h) = partition_atoms h.partition

-- what the memtable says under a key
abbrev pub atoms_of : MemPart → List ℕ → List Atom
atoms_of m key = atoms_held (held_at m key)

-- where what is in force changes in it
abbrev pub changes_held : Option Held → List Change
changes_held None = []
changes_held (Some h) = h.partition.ranges

-- where it does under a key
abbrev pub changes_of : MemPart → List ℕ → List Change
changes_of m key = changes_held (held_at m key)

-- the least timestamp of all that was joined to it; none where nothing was
abbrev pub least_held : Option Held → Option ℤ
least_held None = None
least_held (Some h) = h.least

-- the least timestamp under a key
abbrev pub least_of : MemPart → List ℕ → Option ℤ
least_of m key = least_held (held_at m key)

-- the lesser of two timestamps, where there are two
abbrev pub earlier : Option ℤ → ℤ → Option ℤ
earlier None at = Some at
earlier (Some b) at = if int_lt at b then Some at else Some b

-- the least timestamp, these atoms among them
abbrev pub least_with : Option ℤ → List Atom → Option ℤ
least_with least [] = least
least_with least (a ∷ atoms) = least_with (earlier least (atom_at a)) atoms

-- the bytes of the records so far, this one among them, if it has atoms
abbrev pub added : ℕ → List Atom → ℕ → ℕ
added bytes [] length = bytes
added bytes (a ∷ atoms) length = min (bytes + length) (2 ^ 64 - 1)

-- the bytes with a mutation's record
abbrev pub bytes_with : ℕ → Mutation → ℕ
bytes_with bytes m = added bytes m.atoms (record_length m)

-- ---- scans

-- the key stands above that one, if there is one
abbrev pub is_above : Option (List ℕ) → List ℕ → Bool
is_above None key = true
is_above (Some after) key = is_lt (bytes_cmp after key)

-- the least key above that one, or of all, under which the memtable has atoms; none where there is none
abbrev pub IsNextKey : MemPart → Option (List ℕ) → Option (List ℕ) → Type 0
IsNextKey m after None = (key : List ℕ) → is_above after key ≡ true → least_of m key ≡ None
IsNextKey m after (Some next) =
    (is_above after next ≡ true) × IsSome (least_of m next)
    × ((key : List ℕ) → is_above after key ≡ true → IsSome (least_of m key) → is_gt (bytes_cmp next key) ≡ false)

-- ---- what calls do

-- each partition is of a table that orders its rows so
abbrev pub IsOfTable : List Ordered → MemPart → Type 0
IsOfTable order m = (key : List ℕ) (h : Held) → held_at m key ≡ Some h → IsOf order h.partition

-- and with these columns
abbrev pub IsOfColumns : List Column → MemPart → Type 0
IsOfColumns columns m = (key : List ℕ) (h : Held) → held_at m key ≡ Some h → IsPartitionOf columns h.partition

-- the mutation's atoms have their places
abbrev pub PlacesIn : Option Held → List Atom → Type 0
PlacesIn None atoms = ⊥
PlacesIn (Some h) atoms = HavePlaces h.partition atoms

-- in the partition of its key
abbrev pub HasPlaces : MemPart → Mutation → Type 0
HasPlaces m w = PlacesIn (held_at m w.key) w.atoms

-- place was made: no partition says more or less, whatever was made, and one that has atoms still has some; and what is in force changes at no more cuts
pub record MakesPlaces (w : Mutation) (m n : MemPart) : Type 0 where
  pub same : (order : List Ordered) → IsOfTable order m → AreAtomsOf order w.atoms → (key : List ℕ) → Same (atoms_of n key) (atoms_of m key)
  pub no_more : (order : List Ordered) → IsOfTable order m → AreAtomsOf order w.atoms → (key : List ℕ) → SaysNoMore (atoms_of n key) (atoms_of m key)
  pub some : (key : List ℕ) → IsThere (atoms_of m key) → IsThere (atoms_of n key)
  pub ends : (key : List ℕ) (ws : List Atom) → AreAtEnds ws (changes_of m key) → AreAtEnds ws (changes_of n key)
  pub of : (order : List Ordered) → IsOfTable order m → AreAtomsOf order w.atoms → IsOfTable order n
  pub fits : (columns : List Column) → IsOfColumns columns m → AllFit columns w.atoms → IsOfColumns columns n
  pub least : (key : List ℕ) → least_of n key ≡ least_of m key
  pub bytes : n.bytes ≡ m.bytes

-- the mutation was joined: its partition says the same as before together with its atoms, and each thing in it was said before or is one of them; it has an
-- atom, if it had one or the mutation has, and what is in force changes besides at most at ends of these atoms; the others say what they said
pub record Joins (w : Mutation) (m n : MemPart) : Type 0 where
  pub joined : (order : List Ordered) → IsOfTable order m → AreAtomsOf order w.atoms → Same (atoms_of n w.key) (atoms_of m w.key ++ w.atoms)
  pub no_more : (order : List Ordered) → IsOfTable order m → AreAtomsOf order w.atoms → SaysNoMore (atoms_of n w.key) (atoms_of m w.key ++ w.atoms)
  pub some : (order : List Ordered) → IsOfTable order m → AreAtomsOf order w.atoms → IsThere (atoms_of m w.key ++ w.atoms) → IsThere (atoms_of n w.key)
  pub ends : (order : List Ordered) → IsOfTable order m → AreAtomsOf order w.atoms → (ws : List Atom) → AreAtEnds ws (changes_of m w.key)
      → AreAtEnds (ws ++ w.atoms) (changes_of n w.key)
  pub of : (order : List Ordered) → IsOfTable order m → AreAtomsOf order w.atoms → IsOfTable order n
  pub fits : (columns : List Column) → IsOfColumns columns m → AllFit columns w.atoms → IsOfColumns columns n
  pub least : least_of n w.key ≡ least_with (least_of m w.key) w.atoms
  pub others : (key : List ℕ) → (key ≡ w.key → ⊥) → held_at n key ≡ held_at m key
  pub bytes : n.bytes ≡ bytes_with m.bytes w

-- a source is given of a partition to which atoms were joined, and none of others: of those that tell what is to come, it shows what the partition
-- says in the slice, and nowhere more than the partition says
abbrev pub GivesPart : {M : Type 0} → Slice → Option Held → (M → Option (List Fragment)) → (M → Option Deletion) → Option M → Type 0
GivesPart s held tells tops None = least_held held ≡ None
GivesPart s None tells tops (Some m) = ⊥
GivesPart s (Some h) tells tops (Some m) = (least_held (Some h) ≡ None → ⊥) × (fs : List Fragment) × (tells m ≡ Some fs) × Shows s h.partition (tops m) fs
