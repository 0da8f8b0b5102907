-- Where the range deletions begin and end that partitions tell.
use Rattle.std.proofs.Common.{◌≡◌, inl, inr, ℕ, true, false, cond, Option, None, Some, List, [], ◌∷◌, ◌++◌, map, refl, sym, subst}
use Rattle.std.specs.List.{AllByRecursion, flat_map}
use Rattle.cas_cell.specs.declared.deletion.Deletion.{Deletion}
use Rattle.cas_bounds.specs.declared.cuts.Clustering.{Clustering}
use Rattle.cas_bounds.specs.declared.cuts.Cut.{Cut}
use Rattle.cas_atoms.specs.Coordinates.{same_bytes}
use Rattle.cas_atoms.specs.declared.atom.Atom.{Atom}
use Rattle.cas_atoms.specs.declared.atom.Atom.TheVariants.{PartitionDeletion, RangeDeletion, RowDeletion, CollectionDeletion, Live, Write, StaticWrite, StaticCollectionDeletion}
use Rattle.cas_atoms.specs.declared.atom.ColumnRef.{ColumnRef}
use Rattle.cas_atoms.specs.declared.atom.Mutation.{Mutation}
use Rattle.cas_atoms.specs.declared.row.PathCell.{PathCell}
use Rattle.cas_atoms.specs.declared.row.RowColumn.{RowColumn}
use Rattle.cas_laws.specs.Given.{Has}
use Rattle.cas_laws.proofs.ShownProofs.{equal_bytes}
use Rattle.cas_streams.specs.Flat.{Change, atom_of, between, changes, empties, flat, of_column, own, ranges, ranges_after, writes}
use Rattle.cas_streams.specs.Merged.{flat_of}
use Rattle.cas_streams.specs.declared.fragment.Fragment.{Fragment}
use Rattle.cas_streams.specs.declared.fragment.Fragment.TheVariants as fragment
use Rattle.cas_streams.proofs.Weaves.{all_and}
use Rattle.cas_partition.specs.Ends.{AllAtEnds, IsEnd}
use Rattle.cas_memtable.specs.Kept.{atoms_under}
use Rattle.cas_tables.specs.Contents.{Partition}
use Rattle.cas_flush.specs.Flushed.{said_under}

has_of : (Q : Atom → Type 0) (atoms : List Atom) (a : Atom) → AllByRecursion Q atoms → Has atoms a → Q a
has_of Q [] a all has = absurd has
has_of Q (x ∷ atoms) a all (inl e) = subst Q e all.0
has_of Q (x ∷ atoms) a all (inr h) = has_of Q atoms a all.1 h

module _ (P : Cut → Type 0) where
  -- a range deletion begins and ends at cuts of that kind
  abbrev Ranged : Atom → Type 0
  Ranged (PartitionDeletion d) = Unit {0}
  Ranged (RangeDeletion lo hi d) = P lo × P hi
  Ranged (RowDeletion c d) = Unit {0}
  Ranged (CollectionDeletion c column d) = Unit {0}
  Ranged (Live c l) = Unit {0}
  Ranged (Write c column p v) = Unit {0}
  Ranged (StaticWrite column p v) = Unit {0}
  Ranged (StaticCollectionDeletion column d) = Unit {0}

  abbrev All : List Atom → Type 0
  All atoms = AllByRecursion Ranged atoms

  made : {X : Type 0} (make : X → Atom) (o : Option X) → ((x : X) → Ranged (make x)) → All (atom_of make o)
  made make None h = tt
  made make (Some x) h = (h x, tt)

  range_all : (m : Change) (ms : List Change) → AllByRecursion (λ n. P n.at) (m ∷ ms) → All (ranges_after m ms)
  range_all m [] at = tt
  range_all m (n ∷ ms) at = all_and Ranged (between m n) (ranges_after n ms) (made (RangeDeletion m.at n.at) m.to (λ d. (at.0, at.1.0))) (range_all n ms at.1)

  ranges_all : (ms : List Change) → AllByRecursion (λ n. P n.at) ms → All (ranges ms)
  ranges_all [] at = tt
  ranges_all (m ∷ ms) at = range_all m ms at

  empties_all : (at : Option Clustering) (column : ColumnRef) (d : Deletion) → Ranged (empties at column d)
  empties_all None column d = tt
  empties_all (Some c) column d = tt

  writes_all : (at : Option Clustering) (column : ColumnRef) (cs : List PathCell) → All (map (writes at column) cs)
  writes_all at column [] = tt
  writes_all None column (c ∷ cs) = (tt, writes_all None column cs)
  writes_all (Some k) column (c ∷ cs) = (tt, writes_all (Some k) column cs)

  columns_all : (at : Option Clustering) (cs : List RowColumn) → All (flat_map (of_column at) cs)
  columns_all at [] = tt
  columns_all at (c ∷ cs) =
      all_and Ranged (of_column at c) (flat_map (of_column at) cs)
      (all_and Ranged (atom_of (empties at c.column) c.deletion) (map (writes at c.column) c.cells) (made (empties at c.column) c.deletion (empties_all at c.column))
      (writes_all at c.column c.cells)) (columns_all at cs)

  own_all : (f : Fragment) → All (own f)
  own_all (fragment.Static cs) = columns_all None cs
  own_all (fragment.Row r) =
      all_and Ranged (atom_of (RowDeletion r.clustering) r.deletion) (atom_of (Live r.clustering) r.live ++ flat_map (of_column (Some r.clustering)) r.columns)
      (made (RowDeletion r.clustering) r.deletion (λ d. tt))
      (all_and Ranged (atom_of (Live r.clustering) r.live) (flat_map (of_column (Some r.clustering)) r.columns) (made (Live r.clustering) r.live (λ l. tt))
      (columns_all (Some r.clustering) r.columns))
  own_all (fragment.Marker cut d) = tt

  owns_all : (fs : List Fragment) → All (flat_map own fs)
  owns_all [] = tt
  owns_all (f ∷ fs) = all_and Ranged (own f) (flat_map own fs) (own_all f) (owns_all fs)

  -- what a stream tells, whose markers are at such cuts
  flat_all : (top : Option Deletion) (fs : List Fragment) → AllByRecursion (λ m. P m.at) (changes fs) → All (flat top fs)
  flat_all top fs at =
      all_and Ranged (atom_of PartitionDeletion top) (ranges (changes fs) ++ flat_map own fs) (made PartitionDeletion top (λ d. tt))
      (all_and Ranged (ranges (changes fs)) (flat_map own fs) (ranges_all (changes fs) at) (owns_all fs))

  end_in : (atoms : List Atom) (c : Cut) → All atoms → IsEnd atoms c → P c
  end_in atoms c all e =
      let (low, high) = has_of Ranged atoms (RangeDeletion e.lo e.hi e.deletion) all e.has in
      elim e.at [ inl same ↦ subst P (sym same) low | inr same ↦ subst P (sym same) high ]

module _ (ws : List Mutation) where
  told_all : (ps : List Partition) → AllByRecursion (λ p. AllAtEnds (atoms_under p.key ws) (changes p.stream.fragments)) ps → (key : List ℕ)
      → AllByRecursion (Ranged (IsEnd (atoms_under key ws))) (said_under key ps)
  told_all [] at key = tt
  told_all (p ∷ ps) at key =
      let P : Cut → Type 0 = IsEnd (atoms_under key ws) in
      elim (same_bytes p.key key) as (λ b. same_bytes p.key key ≡ b → AllByRecursion (Ranged P) (cond b (flat_of p.stream) [] ++ said_under key ps)) [
        | true ↦ λ e.
            all_and (Ranged P) (flat_of p.stream) (said_under key ps)
            (flat_all P p.stream.top p.stream.fragments (subst (λ k. AllAtEnds (atoms_under k ws) (changes p.stream.fragments)) (equal_bytes p.key key e) at.0)) (told_all ps at.1 key)
        | false ↦ λ e. told_all ps at.1 key
      ] refl

  pub told_ends : (ps : List Partition) → AllByRecursion (λ p. AllAtEnds (atoms_under p.key ws) (changes p.stream.fragments)) ps → (key : List ℕ) (c : Cut)
      → IsEnd (said_under key ps) c → IsEnd (atoms_under key ws) c
  told_ends ps at key c e = end_in (IsEnd (atoms_under key ws)) (said_under key ps) c (told_all ps at key) e
