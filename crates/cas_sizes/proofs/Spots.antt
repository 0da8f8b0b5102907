-- A well-formed stream writes and deletes at each spot once.
use Rattle.std.proofs.Common.{◌≡◌, ◌⊎◌, inl, inr, ℕ, Bool, Option, None, Some, List, [], ◌∷◌, ◌++◌, map, refl, sym, ap, ◌∙◌}
use Rattle.std.proofs.lemmas.Cmp.{nat_cmp_total}
use Rattle.std.specs.List.{AllByRecursion, flat_map}
use Rattle.std.specs.List.Sorted.{IsStrictlySortedBy}
use Rattle.std.specs.Ordering.{nat_cmp}
use Rattle.std.specs.declared.cmp.Ordering.TheVariants.{Less}
use Rattle.cas_types.specs.Schemas.{path_type}
use Rattle.cas_types.specs.declared.schema.Column.{Column}
use Rattle.cas_types.specs.declared.schema.Kind.{Kind}
use Rattle.cas_types.specs.declared.tag.TypeTag.{TypeTag}
use Rattle.cas_cell.specs.declared.deletion.Deletion.{Deletion}
use Rattle.cas_cell.specs.declared.liveness.Liveness.{Liveness}
use Rattle.cas_bounds.specs.ClusteringOrder.{clustering_order}
use Rattle.cas_bounds.specs.Points.{row_point}
use Rattle.cas_bounds.specs.declared.cuts.Clustering.{Clustering}
use Rattle.cas_bounds.specs.declared.order.Ordered.{Ordered}
use Rattle.cas_atoms.specs.Coordinates.{Coordinate, RowKey, row, path, clustered, static_row}
use Rattle.cas_atoms.specs.RowsAndPaths.{path_cmp}
use Rattle.cas_atoms.specs.declared.atom.Atom.{Atom}
use Rattle.cas_atoms.specs.declared.atom.Atom.TheVariants.{PartitionDeletion, RangeDeletion, RowDeletion, CollectionDeletion, Live, Write, StaticWrite, StaticCollectionDeletion}
use Rattle.cas_atoms.specs.declared.atom.ColumnRef.{ColumnRef}
use Rattle.cas_atoms.specs.declared.row.PathCell.{PathCell}
use Rattle.cas_atoms.specs.declared.row.Row.{Row}
use Rattle.cas_atoms.specs.declared.row.RowColumn.{RowColumn}
use Rattle.cas_laws.proofs.ShownProofs.{path_orders}
use Rattle.cas_streams.specs.Flat.{atom_of, empties, writes, of_column, own}
use Rattle.cas_streams.specs.NoMore.{Target, partition, range, one_row, one_column}
use Rattle.cas_streams.specs.Places.{place_cmp, place_of, row_in}
use Rattle.cas_streams.specs.Streams.{IsColumn, IsFragment, WellFormed}
use Rattle.cas_streams.specs.declared.fragment.Fragment.{Fragment}
use Rattle.cas_streams.specs.declared.fragment.Fragment.TheVariants as fragment
use Rattle.cas_streams.proofs.Forces.{places_total}
use Rattle.cas_streams.proofs.OwnRows.{key_of}
use Rattle.cas_streams.proofs.Weaves.{all_and, all_so}
use Rattle.cas_sizes.proofs.Counting.{Apart}
use Rattle.cas_sizes.proofs.Lists.{all_flat, all_mapped, all_made, all_each, not_below, Across, apart_both, by_kind}

-- a spot: the target of a deletion, or the coordinate of what is written
abbrev pub Spot : Type 0
Spot = Target ⊎ Coordinate

abbrev pub spot_of : Atom → Spot
spot_of (PartitionDeletion d) = inl partition
spot_of (RangeDeletion lo hi d) = inl range
spot_of (RowDeletion c d) = inl (one_row c.values)
spot_of (CollectionDeletion c ref d) = inl (one_column (clustered c.values) ref.number)
spot_of (Live c l) = inr (row c.values)
spot_of (Write c ref p v) = inr (path (clustered c.values) ref.number p)
spot_of (StaticWrite ref p v) = inr (path static_row ref.number p)
spot_of (StaticCollectionDeletion ref d) = inl (one_column static_row ref.number)

abbrev pub row_at : Spot → Option RowKey
row_at (inl partition) = None
row_at (inl range) = None
row_at (inl (one_row c)) = Some (clustered c)
row_at (inl (one_column r n)) = Some r
row_at (inr (row c)) = Some (clustered c)
row_at (inr (path r n p)) = Some r

abbrev column_at : Spot → Option ℕ
column_at (inl partition) = None
column_at (inl range) = None
column_at (inl (one_row c)) = None
column_at (inl (one_column r n)) = Some n
column_at (inr (row c)) = None
column_at (inr (path r n p)) = Some n

abbrev path_at : Spot → Option (List ℕ)
path_at (inl t) = None
path_at (inr (row c)) = None
path_at (inr (path r n p)) = Some p

pub some_is : {X : Type 0} (a b : X) → Some a ≡ Some b → a ≡ b
some_is a b e = cc

-- ---- a column

emptied_row : (at : Option Clustering) (ref : ColumnRef) (d : Deletion) → row_at (spot_of (empties at ref d)) ≡ Some (key_of at)
emptied_row None ref d = refl
emptied_row (Some c) ref d = refl

emptied_column : (at : Option Clustering) (ref : ColumnRef) (d : Deletion) → column_at (spot_of (empties at ref d)) ≡ Some ref.number
emptied_column None ref d = refl
emptied_column (Some c) ref d = refl

emptied_path : (at : Option Clustering) (ref : ColumnRef) (d : Deletion) → path_at (spot_of (empties at ref d)) ≡ None
emptied_path None ref d = refl
emptied_path (Some c) ref d = refl

written_row : (at : Option Clustering) (ref : ColumnRef) (p : PathCell) → row_at (spot_of (writes at ref p)) ≡ Some (key_of at)
written_row None ref p = refl
written_row (Some c) ref p = refl

written_column : (at : Option Clustering) (ref : ColumnRef) (p : PathCell) → column_at (spot_of (writes at ref p)) ≡ Some ref.number
written_column None ref p = refl
written_column (Some c) ref p = refl

written_path : (at : Option Clustering) (ref : ColumnRef) (p : PathCell) → path_at (spot_of (writes at ref p)) ≡ Some p.path
written_path None ref p = refl
written_path (Some c) ref p = refl

not_none : {X : Type 0} (o : Option X) (x : X) → o ≡ Some x → o ≡ None → ⊥
not_none o x e f = cc

module _ (at : Option Clustering) (ref : ColumnRef) (tag : Option TypeTag) where
  differ : (p : PathCell) (cells : List PathCell) → AllByRecursion (λ q. path_cmp tag p.path q ≡ Less) (map (λ c. c.path) cells)
      → AllByRecursion (λ b. spot_of (writes at ref p) ≡ spot_of b → ⊥) (map (writes at ref) cells)
  differ p [] below = tt
  differ p (c ∷ cells) below = (
    λ e. not_below (path_cmp tag) (path_orders tag).total p.path c.path
        (some_is p.path c.path (sym (written_path at ref p) ∙ (ap path_at e ∙ written_path at ref c))) below.0,
    differ p cells below.1,
  )

  cells_apart : (cells : List PathCell) → IsStrictlySortedBy (path_cmp tag) (map (λ c. c.path) cells) → Apart spot_of (map (writes at ref) cells)
  unfolding IsStrictlySortedBy
  cells_apart [] ascend = tt
  cells_apart (c ∷ cells) ascend = (differ c cells ascend.0, cells_apart cells ascend.1)

one_apart : {X : Type 0} (make : X → Atom) (o : Option X) → Apart spot_of (atom_of make o)
one_apart make None = tt
one_apart make (Some x) = (tt, tt)

column_apart : (is_of : Kind → Bool) (columns : List Column) (at : Option Clustering) (c : RowColumn) → IsColumn is_of columns c
    → Apart spot_of (of_column at c)
column_apart is_of columns at c of =
    apart_both spot_of (atom_of (empties at c.column) c.deletion) (map (writes at c.column) c.cells) (one_apart (empties at c.column) c.deletion)
    (cells_apart at c.column (path_type of.column.shape of.column.tag) c.cells of.ascend)
    (by_kind spot_of path_at None (atom_of (empties at c.column) c.deletion) (map (writes at c.column) c.cells)
    (all_made (λ a. path_at (spot_of a) ≡ None) (empties at c.column) c.deletion (emptied_path at c.column))
    (all_mapped (λ a. path_at (spot_of a) ≡ None → ⊥) (writes at c.column) c.cells
    (λ p. not_none (path_at (spot_of (writes at c.column p))) p.path (written_path at c.column p))))

-- ---- the columns of a row

of_its_number : (at : Option Clustering) (c : RowColumn) → AllByRecursion (λ a. column_at (spot_of a) ≡ Some c.column.number) (of_column at c)
of_its_number at c =
    all_and (λ a. column_at (spot_of a) ≡ Some c.column.number) (atom_of (empties at c.column) c.deletion) (map (writes at c.column) c.cells)
    (all_made (λ a. column_at (spot_of a) ≡ Some c.column.number) (empties at c.column) c.deletion (emptied_column at c.column))
    (all_mapped (λ a. column_at (spot_of a) ≡ Some c.column.number) (writes at c.column) c.cells (written_column at c.column))

other_numbers : (at : Option Clustering) (n : ℕ) (cs : List RowColumn) → AllByRecursion (λ m. nat_cmp n m ≡ Less) (map (λ c. c.column.number) cs)
    → AllByRecursion (λ c. AllByRecursion (λ a. column_at (spot_of a) ≡ Some n → ⊥) (of_column at c)) cs
other_numbers at n [] below = tt
other_numbers at n (c ∷ cs) below = (
  all_so (λ a. column_at (spot_of a) ≡ Some c.column.number) (λ a. column_at (spot_of a) ≡ Some n → ⊥)
      (λ a is e. not_below nat_cmp nat_cmp_total n c.column.number (some_is n c.column.number (sym e ∙ is)) below.0) (of_column at c) (of_its_number at c),
  other_numbers at n cs below.1,
)

columns_apart : (is_of : Kind → Bool) (columns : List Column) (at : Option Clustering) (cs : List RowColumn)
    → IsStrictlySortedBy nat_cmp (map (λ c. c.column.number) cs) → AllByRecursion (IsColumn is_of columns) cs → Apart spot_of (flat_map (of_column at) cs)
unfolding IsStrictlySortedBy
columns_apart is_of columns at [] ascend of = tt
columns_apart is_of columns at (c ∷ cs) ascend of =
    apart_both spot_of (of_column at c) (flat_map (of_column at) cs) (column_apart is_of columns at c of.0) (columns_apart is_of columns at cs ascend.1 of.1)
    (by_kind spot_of column_at (Some c.column.number) (of_column at c) (flat_map (of_column at) cs) (of_its_number at c)
    (all_flat (λ a. column_at (spot_of a) ≡ Some c.column.number → ⊥) (of_column at) cs (other_numbers at c.column.number cs ascend.0)))

of_its_row : (at : Option Clustering) (c : RowColumn) → AllByRecursion (λ a. row_at (spot_of a) ≡ Some (key_of at)) (of_column at c)
of_its_row at c =
    all_and (λ a. row_at (spot_of a) ≡ Some (key_of at)) (atom_of (empties at c.column) c.deletion) (map (writes at c.column) c.cells)
    (all_made (λ a. row_at (spot_of a) ≡ Some (key_of at)) (empties at c.column) c.deletion (emptied_row at c.column))
    (all_mapped (λ a. row_at (spot_of a) ≡ Some (key_of at)) (writes at c.column) c.cells (written_row at c.column))

some_number : (at : Option Clustering) (c : RowColumn) → AllByRecursion (λ a. column_at (spot_of a) ≡ None → ⊥) (of_column at c)
some_number at c =
    all_so (λ a. column_at (spot_of a) ≡ Some c.column.number) (λ a. column_at (spot_of a) ≡ None → ⊥)
    (λ a is. not_none (column_at (spot_of a)) c.column.number is) (of_column at c) (of_its_number at c)

-- ---- a row

row_apart : (columns : List Column) (r : Row) → IsFragment columns (fragment.Row r) → Apart spot_of (own (fragment.Row r))
row_apart columns r of =
    apart_both spot_of deleted (lives ++ rest) (one_apart (RowDeletion r.clustering) r.deletion)
    (apart_both spot_of lives rest (one_apart (Live r.clustering) r.live) (columns_apart _ columns (Some r.clustering) r.columns of.0.ascend of.0.each)
    (by_kind spot_of column_at None lives rest (all_made (λ a. column_at (spot_of a) ≡ None) (Live r.clustering) r.live (λ l. refl)) numbered))
    (across r.deletion)
  where
    deleted : List Atom
    deleted = atom_of (RowDeletion r.clustering) r.deletion

    lives : List Atom
    lives = atom_of (Live r.clustering) r.live

    rest : List Atom
    rest = flat_map (of_column (Some r.clustering)) r.columns

    numbered : AllByRecursion (λ a. column_at (spot_of a) ≡ None → ⊥) rest
    numbered =
        all_flat (λ a. column_at (spot_of a) ≡ None → ⊥) (of_column (Some r.clustering)) r.columns
        (all_each (λ c. AllByRecursion (λ a. column_at (spot_of a) ≡ None → ⊥) (of_column (Some r.clustering) c)) r.columns (some_number (Some r.clustering)))

    other : (d : Deletion) (a : Atom) → (column_at (spot_of a) ≡ None → ⊥) → spot_of (RowDeletion r.clustering d) ≡ spot_of a → ⊥
    other d a some e = some (sym (ap column_at e))

    no_live : (d : Deletion) (l : Liveness) → spot_of (RowDeletion r.clustering d) ≡ spot_of (Live r.clustering l) → ⊥
    no_live d l e = cc

    across : (o : Option Deletion) → Across spot_of (atom_of (RowDeletion r.clustering) o) (lives ++ rest)
    across None = tt
    across (Some d) = (
      all_and (λ a. spot_of (RowDeletion r.clustering d) ≡ spot_of a → ⊥) lives rest
          (all_made (λ a. spot_of (RowDeletion r.clustering d) ≡ spot_of a → ⊥) (Live r.clustering) r.live (no_live d))
          (all_so (λ a. column_at (spot_of a) ≡ None → ⊥) (λ a. spot_of (RowDeletion r.clustering d) ≡ spot_of a → ⊥) (other d) rest numbered),
      tt,
    )

fragment_apart : (columns : List Column) (f : Fragment) → IsFragment columns f → Apart spot_of (own f)
fragment_apart columns (fragment.Static cs) of = columns_apart _ columns None cs of.0.ascend of.0.each
fragment_apart columns (fragment.Row r) of = row_apart columns r of
fragment_apart columns (fragment.Marker cut d) of = tt

-- ---- rows apart

pub in_row : (f : Fragment) → AllByRecursion (λ a. row_at (spot_of a) ≡ row_in f) (own f)
in_row (fragment.Static cs) =
    all_flat (λ a. row_at (spot_of a) ≡ Some static_row) (of_column None) cs
    (all_each (λ c. AllByRecursion (λ a. row_at (spot_of a) ≡ Some static_row) (of_column None c)) cs (of_its_row None))
in_row (fragment.Row r) =
    all_and at_row (atom_of (RowDeletion r.clustering) r.deletion) (atom_of (Live r.clustering) r.live ++ flat_map (of_column (Some r.clustering)) r.columns)
    (all_made at_row (RowDeletion r.clustering) r.deletion (λ d. refl))
    (all_and at_row (atom_of (Live r.clustering) r.live) (flat_map (of_column (Some r.clustering)) r.columns)
    (all_made at_row (Live r.clustering) r.live (λ l. refl))
    (all_flat at_row (of_column (Some r.clustering)) r.columns
    (all_each (λ c. AllByRecursion at_row (of_column (Some r.clustering) c)) r.columns (of_its_row (Some r.clustering)))))
  where
    at_row : Atom → Type 0
    at_row a = row_at (spot_of a) ≡ Some (clustered r.clustering.values)
in_row (fragment.Marker cut d) = tt

-- what is said of one row is said at one place
one_place : (order : List Ordered) (f g : Fragment) → place_cmp order (place_of f) (place_of g) ≡ Less → (r : RowKey) → row_in f ≡ Some r → row_in g ≡ Some r
    → ⊥
one_place order (fragment.Marker cut d) g below r e f = cc
one_place order f (fragment.Marker cut d) below r e g = cc
one_place order (fragment.Static cs) (fragment.Static ds) below r e f = not_below (place_cmp order) (places_total order) None None refl below
one_place order (fragment.Static cs) (fragment.Row s) below r e f = cc
one_place order (fragment.Row r) (fragment.Static ds) below s e f = cc
one_place order (fragment.Row r) (fragment.Row s) below q e f =
    not_below (place_cmp order) (places_total order) (Some (row_point r.clustering.values)) (Some (row_point s.clustering.values))
    (ap (λ v. Some (row_point v)) (same r.clustering.values s.clustering.values (e ∙ sym f))) below
  where
    same : (v w : List (List ℕ)) → Some (clustered v) ≡ Some (clustered w) → v ≡ w
    same v w e = cc

other_rows : (order : List Ordered) (f : Fragment) (r : RowKey) → row_in f ≡ Some r → (fs : List Fragment)
    → AllByRecursion (λ q. place_cmp order (place_of f) q ≡ Less) (map place_of fs)
    → AllByRecursion (λ g. AllByRecursion (λ a. row_at (spot_of a) ≡ Some r → ⊥) (own g)) fs
other_rows order f r is [] below = tt
other_rows order f r is (g ∷ fs) below = (
  all_so (λ a. row_at (spot_of a) ≡ row_in g) (λ a. row_at (spot_of a) ≡ Some r → ⊥)
      (λ a here e. one_place order f g below.0 r is (sym here ∙ e)) (own g) (in_row g),
  other_rows order f r is fs below.1,
)

fragments_across : (order : List Ordered) (f : Fragment) (fs : List Fragment) → AllByRecursion (λ q. place_cmp order (place_of f) q ≡ Less) (map place_of fs)
    → Across spot_of (own f) (flat_map own fs)
fragments_across order (fragment.Static cs) fs below =
    by_kind spot_of row_at (Some static_row) (own (fragment.Static cs)) (flat_map own fs) (in_row (fragment.Static cs))
    (all_flat (λ a. row_at (spot_of a) ≡ Some static_row → ⊥) own fs (other_rows order (fragment.Static cs) static_row refl fs below))
fragments_across order (fragment.Row r) fs below =
    by_kind spot_of row_at (Some (clustered r.clustering.values)) (own (fragment.Row r)) (flat_map own fs) (in_row (fragment.Row r))
    (all_flat (λ a. row_at (spot_of a) ≡ Some (clustered r.clustering.values) → ⊥) own fs
    (other_rows order (fragment.Row r) (clustered r.clustering.values) refl fs below))
fragments_across order (fragment.Marker cut d) fs below = tt

fragments_apart : (order : List Ordered) (columns : List Column) (fs : List Fragment) → IsStrictlySortedBy (place_cmp order) (map place_of fs)
    → AllByRecursion (IsFragment columns) fs → Apart spot_of (flat_map own fs)
unfolding IsStrictlySortedBy
fragments_apart order columns [] ascend of = tt
fragments_apart order columns (f ∷ fs) ascend of =
    apart_both spot_of (own f) (flat_map own fs) (fragment_apart columns f of.0) (fragments_apart order columns fs ascend.1 of.1)
    (fragments_across order f fs ascend.0)

-- ---- streams

some_row : (f : Fragment) → AllByRecursion (λ a. row_at (spot_of a) ≡ None → ⊥) (own f)
some_row (fragment.Static cs) =
    all_so (λ a. row_at (spot_of a) ≡ Some static_row) (λ a. row_at (spot_of a) ≡ None → ⊥) (λ a is. not_none (row_at (spot_of a)) static_row is)
    (own (fragment.Static cs)) (in_row (fragment.Static cs))
some_row (fragment.Row r) =
    all_so (λ a. row_at (spot_of a) ≡ Some (clustered r.clustering.values)) (λ a. row_at (spot_of a) ≡ None → ⊥)
    (λ a is. not_none (row_at (spot_of a)) (clustered r.clustering.values) is) (own (fragment.Row r)) (in_row (fragment.Row r))
some_row (fragment.Marker cut d) = tt

-- but for range deletions, of which there may be several
pub stream_apart : (columns : List Column) (top : Option Deletion) (fs : List Fragment) → WellFormed columns fs
    → Apart spot_of (atom_of PartitionDeletion top ++ flat_map own fs)
stream_apart columns top fs formed =
    apart_both spot_of (atom_of PartitionDeletion top) (flat_map own fs) (one_apart PartitionDeletion top)
    (fragments_apart (clustering_order columns) columns fs formed.ordered.places formed.fragments)
    (by_kind spot_of row_at None (atom_of PartitionDeletion top) (flat_map own fs)
    (all_made (λ a. row_at (spot_of a) ≡ None) PartitionDeletion top (λ d. refl))
    (all_flat (λ a. row_at (spot_of a) ≡ None → ⊥) own fs (all_each (λ f. AllByRecursion (λ a. row_at (spot_of a) ≡ None → ⊥) (own f)) fs some_row)))
