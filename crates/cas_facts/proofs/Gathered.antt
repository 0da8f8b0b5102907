-- What is gathered piece by piece are the facts of what the pieces tell.
use Rattle.std.proofs.Common.{◌≡◌, ℤ, Option, None, Some, List, [], ◌∷◌, ◌++◌, map, fold, refl, sym, subst, append_assoc}
use Rattle.std.specs.List.{flat_map}
use Rattle.std.proofs.lemmas.List.{append-nil}
use Rattle.cas_cell.specs.declared.deletion.Deletion.{Deletion}
use Rattle.cas_cell.specs.declared.liveness.Liveness.{Liveness}
use Rattle.cas_bounds.specs.declared.cuts.Clustering.{Clustering}
use Rattle.cas_atoms.specs.Coordinates.{atom_at}
use Rattle.cas_atoms.specs.declared.atom.ColumnRef.{ColumnRef}
use Rattle.cas_atoms.specs.declared.atom.Atom.{Atom}
use Rattle.cas_atoms.specs.declared.atom.Atom.TheVariants.{PartitionDeletion, RangeDeletion, RowDeletion, Live}
use Rattle.cas_atoms.specs.declared.row.Row.{Row}
use Rattle.cas_atoms.specs.declared.row.RowColumn.{RowColumn}
use Rattle.cas_atoms.specs.declared.row.PathCell.{PathCell}
use Rattle.cas_streams.specs.Flat.{atom_of, writes, empties, of_column}
use Rattle.cas_streams.specs.declared.fragment.Fragment.{Fragment}
use Rattle.cas_streams.specs.declared.fragment.Fragment.TheVariants as fragment
use Rattle.cas_purge.specs.Droppable.{atom_end}
use Rattle.cas_facts.specs.declared.facts.Facts.{Facts}
use Rattle.cas_facts.specs.Facts.{AreFacts, AreFactsSoFar}
use Rattle.cas_facts.specs.Told.{top_told, told}
use Rattle.cas_facts.specs.Inner.Gathering.{lone, with_one, with_deletion, with_live, with_cell, with_column, with_columns, with_row, with_fragment}
use Rattle.cas_facts.proofs.Joining.{joined_facts, lone_facts}

moved : (A B : List Atom) (f : Option Facts) → A ≡ B → AreFactsSoFar A f → AreFactsSoFar B f
moved A B f e h = subst (λ l. AreFactsSoFar l f) e h

nothing_more : (A : List Atom) (f : Option Facts) → AreFactsSoFar A f → AreFactsSoFar (A ++ []) f
nothing_more A f h = moved A (A ++ []) f (sym (append-nil A)) h

-- what comes in two parts
in_two : (A B C : List Atom) (f : Option Facts) → AreFactsSoFar ((A ++ B) ++ C) f → AreFactsSoFar (A ++ (B ++ C)) f
in_two A B C f h = moved ((A ++ B) ++ C) (A ++ (B ++ C)) f (append_assoc A B C) h

one_more : (A : List Atom) (f : Option Facts) (a : Atom) → AreFactsSoFar A f → AreFactsSoFar (A ++ a ∷ []) (with_one f (lone (atom_at a) (atom_end a)))
one_more A None a e = subst (λ l. AreFacts (l ++ a ∷ []) (lone (atom_at a) (atom_end a))) (sym e) (lone_facts a)
one_more A (Some f) a h = joined_facts A (a ∷ []) f (lone (atom_at a) (atom_end a)) h (lone_facts a)

-- an atom that is known to have that timestamp and end
one_such : (A : List Atom) (f : Option Facts) (a : Atom) (at : ℤ) (end : Option ℤ) → atom_at a ≡ at → atom_end a ≡ end → AreFactsSoFar A f
    → AreFactsSoFar (A ++ a ∷ []) (with_one f (lone at end))
one_such A f a at end e g h = subst (AreFactsSoFar (A ++ a ∷ [])) (λ i. with_one f (lone (e i) (g i))) (one_more A f a h)

module _ (make : Deletion → Atom) (at : (d : Deletion) → atom_at (make d) ≡ d.at) (end : (d : Deletion) → atom_end (make d) ≡ Some d.second) where
  pub deletion_seen : (A : List Atom) (f : Option Facts) (d : Option Deletion) → AreFactsSoFar A f → AreFactsSoFar (A ++ atom_of make d) (with_deletion f d)
  deletion_seen A f None h = nothing_more A f h
  deletion_seen A f (Some d) h = one_such A f (make d) d.at (Some d.second) (at d) (end d) h

live_seen : (c : Clustering) (A : List Atom) (f : Option Facts) (l : Option Liveness) → AreFactsSoFar A f → AreFactsSoFar (A ++ atom_of (Live c) l) (with_live f l)
live_seen c A f None h = nothing_more A f h
live_seen c A f (Some l) h = one_more A f (Live c l) h

emptied_seen : (at : Option Clustering) (column : ColumnRef) (A : List Atom) (f : Option Facts) (d : Option Deletion) → AreFactsSoFar A f
    → AreFactsSoFar (A ++ atom_of (empties at column) d) (with_deletion f d)
emptied_seen None column A f d h = deletion_seen (empties None column) (λ d. refl) (λ d. refl) A f d h
emptied_seen (Some c) column A f d h = deletion_seen (empties (Some c) column) (λ d. refl) (λ d. refl) A f d h

cell_seen : (at : Option Clustering) (column : ColumnRef) (A : List Atom) (f : Option Facts) (p : PathCell) → AreFactsSoFar A f
    → AreFactsSoFar (A ++ writes at column p ∷ []) (with_cell f p)
cell_seen None column A f p h = one_more A f (writes None column p) h
cell_seen (Some c) column A f p h = one_more A f (writes (Some c) column p) h

cells_seen : (at : Option Clustering) (column : ColumnRef) (cells : List PathCell) (A : List Atom) (f : Option Facts) → AreFactsSoFar A f
    → AreFactsSoFar (A ++ map (writes at column) cells) (fold with_cell f cells)
cells_seen at column [] A f h = nothing_more A f h
cells_seen at column (p ∷ cells) A f h =
    in_two A (writes at column p ∷ []) (map (writes at column) cells) (fold with_cell (with_cell f p) cells)
    (cells_seen at column cells (A ++ writes at column p ∷ []) (with_cell f p) (cell_seen at column A f p h))

column_seen : (at : Option Clustering) (c : RowColumn) (A : List Atom) (f : Option Facts) → AreFactsSoFar A f → AreFactsSoFar (A ++ of_column at c) (with_column f c)
column_seen at c A f h =
    in_two A (atom_of (empties at c.column) c.deletion) (map (writes at c.column) c.cells) (with_column f c)
    (cells_seen at c.column c.cells (A ++ atom_of (empties at c.column) c.deletion) (with_deletion f c.deletion) (emptied_seen at c.column A f c.deletion h))

columns_seen : (at : Option Clustering) (cs : List RowColumn) (A : List Atom) (f : Option Facts) → AreFactsSoFar A f
    → AreFactsSoFar (A ++ flat_map (of_column at) cs) (with_columns f cs)
columns_seen at [] A f h = nothing_more A f h
columns_seen at (c ∷ cs) A f h =
    in_two A (of_column at c) (flat_map (of_column at) cs) (with_columns (with_column f c) cs)
    (columns_seen at cs (A ++ of_column at c) (with_column f c) (column_seen at c A f h))

row_seen : (r : Row) (A : List Atom) (f : Option Facts) → AreFactsSoFar A f → AreFactsSoFar (A ++ told (fragment.Row r)) (with_row f r)
row_seen r A f h =
    let deleted : List Atom = atom_of (RowDeletion r.clustering) r.deletion in
    let lives : List Atom = atom_of (Live r.clustering) r.live in
    let columns : List Atom = flat_map (of_column (Some r.clustering)) r.columns in
    let first : AreFactsSoFar (A ++ deleted) (with_deletion f r.deletion) = deletion_seen (RowDeletion r.clustering) (λ d. refl) (λ d. refl) A f r.deletion h in
    let second : AreFactsSoFar ((A ++ deleted) ++ lives) (with_live (with_deletion f r.deletion) r.live) = live_seen r.clustering (A ++ deleted) (with_deletion f r.deletion) r.live first in
    in_two A deleted (lives ++ columns) (with_row f r)
    (in_two (A ++ deleted) lives columns (with_row f r)
    (columns_seen (Some r.clustering) r.columns ((A ++ deleted) ++ lives) (with_live (with_deletion f r.deletion) r.live) second))

pub top_seen : (A : List Atom) (f : Option Facts) (top : Option Deletion) → AreFactsSoFar A f → AreFactsSoFar (A ++ top_told top) (with_deletion f top)
top_seen A f top h = deletion_seen PartitionDeletion (λ d. refl) (λ d. refl) A f top h

pub fragment_seen : (A : List Atom) (f : Option Facts) (g : Fragment) → AreFactsSoFar A f → AreFactsSoFar (A ++ told g) (with_fragment f g)
fragment_seen A f (fragment.Static cs) h = columns_seen None cs A f h
fragment_seen A f (fragment.Row r) h = row_seen r A f h
fragment_seen A f (fragment.Marker cut d) h = deletion_seen (RangeDeletion cut cut) (λ d. refl) (λ d. refl) A f d h
