-- What calls on the map of partitions do at each key (own).
use Rattle.std.specs.Prelude.{◌≡◌, ℕ, cond, Option, None, Some, is_some, List, [], ◌∷◌, ◌⊎◌, Result, Ok, Err, OnOk, IsErr, if◌then◌else◌}
use Rattle.std.specs.Ordering.{is_eq}
use Rattle.cas_types.specs.Values.{bytes_cmp}
use Rattle.cas_types.specs.declared.schema.Column.{Column}
use Rattle.cas_bounds.specs.declared.order.Ordered.{Ordered}
use Rattle.cas_atoms.specs.declared.atom.Atom.{Atom}
use Rattle.cas_partition.specs.Ends.{AreAtEnds}
use Rattle.cas_partition.specs.Partitions.{partition_atoms, IsOf, IsOfTable, HavePlaces, MakesPlaces, JoinsAll}
use Rattle.cas_memtable.specs.Memtables.{least_with}
use Rattle.cas_memtable.specs.declared.memtable.Held.{Held}

-- a partition that says nothing
pub record IsBlank (h : Held) : Type 0 where
  pub empty : partition_atoms h.partition ≡ []
  pub least : h.least ≡ None
  pub of : (order : List Ordered) → IsOf order h.partition
  pub table : (columns : List Column) → IsOfTable columns h.partition
  pub ends : (ws : List Atom) → AreAtEnds ws h.partition.ranges

-- what is held at a key stays; where nothing was, a blank partition may be
abbrev pub StaysOrBlank : Option Held → Option Held → Type 0
StaysOrBlank (Some h) after = after ≡ Some h
StaysOrBlank None after = (after ≡ None) ⊎ ((h : Held) × (after ≡ Some h) × IsBlank h)

-- what is held at the key becomes that; what is held at others stays
abbrev pub Puts : List ℕ → Held → (List ℕ → Option Held) → (List ℕ → Option Held) → Type 0
Puts key h before after = (q : List ℕ) → after q ≡ cond (is_eq (bytes_cmp key q)) (Some h) (before q)

-- place was made for the atoms in what is held at the key
pub record ReservesAt (key : List ℕ) (atoms : List Atom) (h : Held) (before after : List ℕ → Option Held) {E : Type 0}
    (result : Result (Unit {0}) E) : Type 0 where
  pub held : Held
  pub puts : Puts key held before after
  pub least : held.least ≡ h.least
  pub makes : MakesPlaces atoms h.partition held.partition
  pub places : OnOk result (HavePlaces held.partition atoms)

-- place was made for the atoms under the key, in what was held there or in a blank partition; or it wasn't, and no more than blank partitions came
pub record ReservesIn (key : List ℕ) (atoms : List Atom) (before after : List ℕ → Option Held) {E : Type 0} (result : Result (Unit {0}) E) : Type 0 where
  pub middle : List ℕ → Option Held
  pub kept : (q : List ℕ) → StaysOrBlank (before q) (middle q)
  pub reserved : (IsErr result × ((q : List ℕ) → after q ≡ middle q)) ⊎ ((h : Held) × (middle key ≡ Some h) × ReservesAt key atoms h middle after result)

-- the atoms were joined to it
pub record AppliesAt (key : List ℕ) (atoms : List Atom) (h : Held) (before after : List ℕ → Option Held) : Type 0 where
  pub held : Held
  pub puts : Puts key held before after
  pub least : held.least ≡ least_with h.least atoms
  pub joins : JoinsAll atoms h.partition held.partition

-- the atoms were joined to what was held at the key, or to a blank partition; or they weren't, and place may have been made for them
abbrev pub Inserts : {E : Type 0} → List ℕ → List Atom → (List ℕ → Option Held) → (List ℕ → Option Held) → Result (Unit {0}) E → Type 0
Inserts key atoms before after (Ok x) = (h : Held) × StaysOrBlank (before key) (Some h) × AppliesAt key atoms h before after
Inserts key atoms before after (Err e) = ReservesIn key atoms before after (Err e)

-- the first key at which something is held
abbrev pub first_key : List (List ℕ × Held) → Option (List ℕ)
first_key [] = None
first_key (e ∷ es) = if is_some e.1.least then Some e.0 else first_key es
