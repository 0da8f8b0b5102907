-- What is proved of one atom at a time: place is made for it, and it is joined.
use Rattle.std.specs.Prelude.{List, [], ◌∷◌, ◌++◌}
use Rattle.cas_types.specs.declared.schema.Column.{Column}
use Rattle.cas_bounds.specs.declared.order.Ordered.{Ordered}
use Rattle.cas_atoms.specs.Fits.{Fits}
use Rattle.cas_atoms.specs.Winners.{Same}
use Rattle.cas_atoms.specs.declared.atom.Atom.{Atom}
use Rattle.cas_streams.specs.NoMore.{SaysNoMore}
use Rattle.cas_streams.specs.Streams.{IsThere}
use Rattle.cas_partition.specs.Ends.{AreAtEnds}
use Rattle.cas_partition.specs.Partitions.{partition_atoms, IsOf, IsAtomOf, IsOfTable, HasPlace}
use Rattle.cas_partition.specs.declared.partition.Partition.{Partition}

-- place was made for an atom, which says nothing yet: for each table and order of its rows; nothing is invented, something is still said if something
-- was, what is in force changes at no more cuts, and each other atom keeps its place
pub record MakesPlace (a : Atom) (p q : Partition) : Type 0 where
  pub same : (order : List Ordered) → IsOf order p → IsAtomOf order a → Same (partition_atoms q) (partition_atoms p)
  pub no_more : (order : List Ordered) → IsOf order p → SaysNoMore (partition_atoms q) (partition_atoms p)
  pub some : IsThere (partition_atoms p) → IsThere (partition_atoms q)
  pub ends : (ws : List Atom) → AreAtEnds ws p.ranges → AreAtEnds ws q.ranges
  pub of : (order : List Ordered) → IsOf order p → IsAtomOf order a → IsOf order q
  pub fits : (columns : List Column) → IsOfTable columns p → Fits columns a → IsOfTable columns q
  pub others : (b : Atom) → HasPlace p b → HasPlace q b

-- the atom was joined, nothing else was invented, something is said now, also by a range deletion that covers no row; what is in force changes besides
-- at most at the atom's own ends; and each atom keeps its place
pub record Joins (a : Atom) (p q : Partition) : Type 0 where
  pub joined : (order : List Ordered) → IsOf order p → IsAtomOf order a → Same (partition_atoms q) (partition_atoms p ++ a ∷ [])
  pub no_more : (order : List Ordered) → IsOf order p → SaysNoMore (partition_atoms q) (partition_atoms p ++ a ∷ [])
  pub some : (order : List Ordered) → IsOf order p → IsAtomOf order a → IsThere (partition_atoms q)
  pub ends : (order : List Ordered) → IsOf order p → IsAtomOf order a → (ws : List Atom) → AreAtEnds ws p.ranges → AreAtEnds (ws ++ a ∷ []) q.ranges
  pub of : (order : List Ordered) → IsOf order p → IsAtomOf order a → IsOf order q
  pub fits : (columns : List Column) → IsOfTable columns p → Fits columns a → IsOfTable columns q
  pub others : (b : Atom) → HasPlace p b → HasPlace q b
