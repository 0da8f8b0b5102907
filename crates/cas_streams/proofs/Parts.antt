-- What rows and columns that are joined give: the greater of what each gives.
use Rattle.std.proofs.Common.{◌≡◌, ℕ, Bool, true, false, cond, Option, None, Some, List, [], ◌∷◌, ◌++◌, map, refl, sym, ap, ◌∙◌}
use Rattle.std.specs.Bool.{then_some}
use Rattle.std.specs.List.{flat_map}
use Rattle.std.specs.declared.cmp.Ordering.{Ordering}
use Rattle.std.specs.Ordering.{is_lt, nat_cmp}
use Rattle.std.specs.FinMap.{nat_cmp-IsAntisymmetric}
use Rattle.cas_types.specs.Orders.{Orders}
use Rattle.cas_types.specs.declared.tag.TypeTag.{TypeTag}
use Rattle.cas_cell.specs.Deletions.{deletion_cmp}
use Rattle.cas_cell.specs.Lives.{live_cmp}
use Rattle.cas_cell.specs.Cells.{cell_cmp}
use Rattle.cas_cell.specs.declared.deletion.Deletion.{Deletion}
use Rattle.cas_cell.specs.declared.cell.Cell.{Cell}
use Rattle.cas_cell.proofs.OrderLaws.{deletion_laws, live_laws, cell_laws}
use Rattle.cas_bounds.specs.declared.cuts.Clustering.{Clustering}
use Rattle.cas_atoms.specs.Greatest.{greater, greatest}
use Rattle.cas_atoms.specs.Coordinates.{Coordinate, RowKey, clustered, row_of, same_row, same_values, is_at, is_in_column, deletion_at, live_at_row, cell_at_path}
use Rattle.cas_atoms.specs.Winners.{cover}
use Rattle.cas_atoms.specs.RowsAndPaths.{path_cmp}
use Rattle.cas_atoms.specs.declared.atom.ColumnRef.{ColumnRef}
use Rattle.cas_atoms.specs.declared.atom.Atom.{Atom}
use Rattle.cas_atoms.specs.declared.atom.Atom.TheVariants.{RowDeletion, Live}
use Rattle.cas_atoms.specs.declared.row.Row.{Row}
use Rattle.cas_atoms.specs.declared.row.RowColumn.{RowColumn}
use Rattle.cas_atoms.specs.declared.row.PathCell.{PathCell}
use Rattle.cas_atoms.proofs.GreatestLemmas.{greater_none, greatest-append}
use Rattle.cas_laws.proofs.JoinProofs.{cover_joins}
use Rattle.cas_laws.proofs.ShownProofs.{path_orders}
use Rattle.cas_streams.specs.Flat.{atom_of, writes, empties, of_column, own}
use Rattle.cas_streams.specs.Joined.{plainly, joined_cell, joined_cells, joined_column, joined_columns}
use Rattle.cas_streams.specs.declared.fragment.Fragment.TheVariants as fragment
use Rattle.cas_streams.proofs.OwnRows.{key_of}
use Rattle.cas_streams.proofs.Weaves.{woven_gives}

-- what a list of lists gives, is the greatest of what each gives
pub greatest_of_each : {X Y : Type 0} {cmp : Y → Y → Ordering} (o : Orders cmp) (given : Atom → Option Y) (own_of : X → List Atom) (xs : List X)
    → greatest cmp given (flat_map own_of xs) ≡ greatest cmp (λ x. greatest cmp given (own_of x)) xs
greatest_of_each o given own_of [] = refl
greatest_of_each {cmp = cmp} o given own_of (x ∷ xs) =
    greatest-append o given (own_of x) (flat_map own_of xs) ∙ ap (greater cmp (greatest cmp given (own_of x))) (greatest_of_each o given own_of xs)

greatest_of_map : {X Y : Type 0} (cmp : Y → Y → Ordering) (given : Atom → Option Y) (make : X → Atom) (xs : List X)
    → greatest cmp given (map make xs) ≡ greatest cmp (λ x. given (make x)) xs
greatest_of_map cmp given make [] = refl
greatest_of_map cmp given make (x ∷ xs) = ap (greater cmp (given (make x))) (greatest_of_map cmp given make xs)

pub gives_none : {X Y : Type 0} (cmp : Y → Y → Ordering) (v : X → Option Y) → ((x : X) → v x ≡ None) → (xs : List X) → greatest cmp v xs ≡ None
gives_none cmp v h [] = refl
gives_none cmp v h (x ∷ xs) = λ i. greater cmp (h x i) (gives_none cmp v h xs i)

pub alike_each : {X Y : Type 0} (cmp : Y → Y → Ordering) (u v : X → Option Y) → ((x : X) → u x ≡ v x) → (xs : List X) → greatest cmp u xs ≡ greatest cmp v xs
alike_each cmp u v h [] = refl
alike_each cmp u v h (x ∷ xs) = λ i. greater cmp (h x i) (alike_each cmp u v h xs i)

-- ---- cells and columns, by the key of their row

-- what one column deletes, and what it writes, at a coordinate
abbrev pub deletes_in : RowKey → Coordinate → RowColumn → Option Deletion
deletes_in key x c = cond (is_in_column key c.column.number x) c.deletion None

abbrev pub writes_in : RowKey → ℕ → Coordinate → PathCell → Option Cell
writes_in key n x p = then_some (is_at key n p.path x) p.cell

abbrev pub cells_in : RowKey → Coordinate → RowColumn → Option Cell
cells_in key x c = greatest cell_cmp (writes_in key c.column.number x) c.cells

cell_written : (at : Option Clustering) (column : ColumnRef) (x : Coordinate) (p : PathCell) → cell_at_path x (writes at column p) ≡ writes_in (key_of at) column.number x p
cell_written None column x p = refl
cell_written (Some c) column x p = refl

write_deletes : (at : Option Clustering) (column : ColumnRef) (x : Coordinate) (p : PathCell) → deletion_at x (writes at column p) ≡ None
write_deletes None column x p = refl
write_deletes (Some c) column x p = refl

write_lives : (at : Option Clustering) (column : ColumnRef) (c : List (List ℕ)) (p : PathCell) → live_at_row c (writes at column p) ≡ None
write_lives None column c p = refl
write_lives (Some r) column c p = refl

emptied : (at : Option Clustering) (column : ColumnRef) (x : Coordinate) (d : Deletion) → deletion_at x (empties at column d) ≡ then_some (is_in_column (key_of at) column.number x) d
emptied None column x d = refl
emptied (Some c) column x d = refl

empty_lives : (at : Option Clustering) (column : ColumnRef) (c : List (List ℕ)) (d : Deletion) → live_at_row c (empties at column d) ≡ None
empty_lives None column c d = refl
empty_lives (Some r) column c d = refl

empty_writes : (at : Option Clustering) (column : ColumnRef) (x : Coordinate) (d : Deletion) → cell_at_path x (empties at column d) ≡ None
empty_writes None column x d = refl
empty_writes (Some r) column x d = refl

then_cond : {Y : Type 0} (cmp : Y → Y → Ordering) (b : Bool) (y : Y) → greater cmp (then_some b y) None ≡ cond b (Some y) None
then_cond cmp true y = refl
then_cond cmp false y = refl

pub cond_same : {Y : Type 0} (y : Y) (b : Bool) → cond b y y ≡ y
cond_same y true = refl
cond_same y false = refl

-- an atom that may be there, and gives what it is made of where a test passes
pub given_if : {X : Type 0} (cmp : X → X → Ordering) (given : Atom → Option X) (make : X → Atom) (b : Bool) → ((x : X) → given (make x) ≡ then_some b x) → (d : Option X)
    → greatest cmp given (atom_of make d) ≡ cond b d None
given_if cmp given make b h None = sym (cond_same None b)
given_if cmp given make b h (Some x) = ap (λ g. greater cmp g None) (h x) ∙ then_cond cmp b x

pub given_never : {X Y : Type 0} (cmp : Y → Y → Ordering) (given : Atom → Option Y) (make : X → Atom) → ((x : X) → given (make x) ≡ None) → (d : Option X) → greatest cmp given (atom_of make d) ≡ None
given_never cmp given make h None = refl
given_never cmp given make h (Some x) = ap (λ g. greater cmp g None) (h x)

module _ (at : Option Clustering) where
  column_deletes : (x : Coordinate) (c : RowColumn) → cover (of_column at c) x ≡ deletes_in (key_of at) x c
  column_deletes x c =
      cover_joins (atom_of (empties at c.column) c.deletion) (map (writes at c.column) c.cells) x
      ∙ (λ i. greater deletion_cmp
      (given_if deletion_cmp (deletion_at x) (empties at c.column) (is_in_column (key_of at) c.column.number x) (emptied at c.column x) c.deletion i)
      ((greatest_of_map deletion_cmp (deletion_at x) (writes at c.column) c.cells ∙ gives_none deletion_cmp (λ p. deletion_at x (writes at c.column p)) (write_deletes at c.column x) c.cells) i))
      ∙ greater_none deletion_laws.orders (deletes_in (key_of at) x c)

  column_lives : (r : List (List ℕ)) (c : RowColumn) → greatest live_cmp (live_at_row r) (of_column at c) ≡ None
  column_lives r c =
      greatest-append live_laws.orders (live_at_row r) (atom_of (empties at c.column) c.deletion) (map (writes at c.column) c.cells)
      ∙ (λ i. greater live_cmp (given_never live_cmp (live_at_row r) (empties at c.column) (empty_lives at c.column r) c.deletion i)
      ((greatest_of_map live_cmp (live_at_row r) (writes at c.column) c.cells ∙ gives_none live_cmp (λ p. live_at_row r (writes at c.column p)) (write_lives at c.column r) c.cells) i))

  column_writes : (x : Coordinate) (c : RowColumn) → greatest cell_cmp (cell_at_path x) (of_column at c) ≡ cells_in (key_of at) x c
  column_writes x c =
      greatest-append cell_laws.orders (cell_at_path x) (atom_of (empties at c.column) c.deletion) (map (writes at c.column) c.cells)
      ∙ (λ i. greater cell_cmp (given_never cell_cmp (cell_at_path x) (empties at c.column) (empty_writes at c.column x) c.deletion i)
      ((greatest_of_map cell_cmp (cell_at_path x) (writes at c.column) c.cells
      ∙ alike_each cell_cmp (λ p. cell_at_path x (writes at c.column p)) (writes_in (key_of at) c.column.number x) (cell_written at c.column x) c.cells) i))

  pub columns_delete : (x : Coordinate) (cs : List RowColumn) → cover (flat_map (of_column at) cs) x ≡ greatest deletion_cmp (deletes_in (key_of at) x) cs
  columns_delete x cs = greatest_of_each deletion_laws.orders (deletion_at x) (of_column at) cs ∙ alike_each deletion_cmp (λ c. cover (of_column at c) x) (deletes_in (key_of at) x) (column_deletes x) cs

  pub columns_live : (r : List (List ℕ)) (cs : List RowColumn) → greatest live_cmp (live_at_row r) (flat_map (of_column at) cs) ≡ None
  columns_live r cs = greatest_of_each live_laws.orders (live_at_row r) (of_column at) cs ∙ gives_none live_cmp (λ c. greatest live_cmp (live_at_row r) (of_column at c)) (column_lives r) cs

  pub columns_write : (x : Coordinate) (cs : List RowColumn) → greatest cell_cmp (cell_at_path x) (flat_map (of_column at) cs) ≡ greatest cell_cmp (cells_in (key_of at) x) cs
  columns_write x cs = greatest_of_each cell_laws.orders (cell_at_path x) (of_column at) cs ∙ alike_each cell_cmp (λ c. greatest cell_cmp (cell_at_path x) (of_column at c)) (cells_in (key_of at) x) (column_writes x) cs

-- ---- rows

module _ (r : Row) where
  key : RowKey
  key = clustered r.clustering.values

  three : {Y : Type 0} {cmp : Y → Y → Ordering} (o : Orders cmp) (given : Atom → Option Y) (a b c : Option Y)
      → greatest cmp given (atom_of (RowDeletion r.clustering) r.deletion) ≡ a → greatest cmp given (atom_of (Live r.clustering) r.live) ≡ b
      → greatest cmp given (flat_map (of_column (Some r.clustering)) r.columns) ≡ c → greatest cmp given (own (fragment.Row r)) ≡ greater cmp a (greater cmp b c)
  three {cmp = cmp} o given a b c e f g =
      greatest-append o given (atom_of (RowDeletion r.clustering) r.deletion) (atom_of (Live r.clustering) r.live ++ flat_map (of_column (Some r.clustering)) r.columns)
      ∙ (λ i. greater cmp (e i) (greatest-append o given (atom_of (Live r.clustering) r.live) (flat_map (of_column (Some r.clustering)) r.columns) i))
      ∙ (λ i. greater cmp a (greater cmp (f i) (g i)))

  pub row_deletes : (x : Coordinate) → cover (own (fragment.Row r)) x
      ≡ greater deletion_cmp (cond (same_row (clustered r.clustering.values) (row_of x)) r.deletion None) (greatest deletion_cmp (deletes_in (clustered r.clustering.values) x) r.columns)
  row_deletes x =
      three deletion_laws.orders (deletion_at x) (cond (same_row (clustered r.clustering.values) (row_of x)) r.deletion None) None (greatest deletion_cmp (deletes_in (clustered r.clustering.values) x) r.columns)
      (given_if deletion_cmp (deletion_at x) (RowDeletion r.clustering) (same_row (clustered r.clustering.values) (row_of x)) (λ d. refl) r.deletion)
      (given_never deletion_cmp (deletion_at x) (Live r.clustering) (λ l. refl) r.live)
      (columns_delete (Some r.clustering) x r.columns)

  pub row_lives : (c : List (List ℕ)) → greatest live_cmp (live_at_row c) (own (fragment.Row r)) ≡ cond (same_values r.clustering.values c) r.live None
  row_lives c =
      three live_laws.orders (live_at_row c) None (cond (same_values r.clustering.values c) r.live None) None
      (given_never live_cmp (live_at_row c) (RowDeletion r.clustering) (λ d. refl) r.deletion)
      (given_if live_cmp (live_at_row c) (Live r.clustering) (same_values r.clustering.values c) (λ l. refl) r.live)
      (columns_live (Some r.clustering) c r.columns)
      ∙ greater_none live_laws.orders (cond (same_values r.clustering.values c) r.live None)

  pub row_writes : (x : Coordinate) → greatest cell_cmp (cell_at_path x) (own (fragment.Row r)) ≡ greatest cell_cmp (cells_in (clustered r.clustering.values) x) r.columns
  row_writes x =
      three cell_laws.orders (cell_at_path x) None None (greatest cell_cmp (cells_in (clustered r.clustering.values) x) r.columns)
      (given_never cell_cmp (cell_at_path x) (RowDeletion r.clustering) (λ d. refl) r.deletion)
      (given_never cell_cmp (cell_at_path x) (Live r.clustering) (λ l. refl) r.live)
      (columns_write (Some r.clustering) x r.columns)

-- ---- joined

-- under one test, the greater of both
tested : {Y : Type 0} (cmp : Y → Y → Ordering) (b : Bool) (d e : Option Y) → cond b (greater cmp d e) None ≡ greater cmp (cond b d None) (cond b e None)
tested cmp true d e = refl
tested cmp false d e = refl

chosen : {Y : Type 0} (cmp : Y → Y → Ordering) (b : Bool) (y z : Y) → then_some b (cond (is_lt (cmp y z)) z y) ≡ greater cmp (then_some b y) (then_some b z)
chosen cmp true y z = refl
chosen cmp false y z = refl

module _ (at : RowKey) (x : Coordinate) where
  cells_join : (n : ℕ) (tag : Option TypeTag) (ps qs : List PathCell)
      → greatest cell_cmp (writes_in at n x) (joined_cells tag ps qs) ≡ greater cell_cmp (greatest cell_cmp (writes_in at n x) ps) (greatest cell_cmp (writes_in at n x) qs)
  cells_join n tag ps qs =
      woven_gives cell_laws.orders (plainly (λ p q. path_cmp tag p.path q.path) joined_cell) (writes_in at n x) (λ s p. refl) (λ s q. refl)
      (λ s p q e. chosen cell_cmp (is_at at n p.path x) p.cell q.cell
      ∙ ap (λ i. greater cell_cmp (writes_in at n x p) (then_some (is_at at n i x) q.cell)) ((path_orders tag).ties p.path q.path e)) tt ps qs

  pub joined_deletes : (cs ds : List RowColumn) → greatest deletion_cmp (deletes_in at x) (joined_columns cs ds)
      ≡ greater deletion_cmp (greatest deletion_cmp (deletes_in at x) cs) (greatest deletion_cmp (deletes_in at x) ds)
  joined_deletes cs ds =
      woven_gives deletion_laws.orders (plainly (λ c d. nat_cmp c.column.number d.column.number) joined_column) (deletes_in at x) (λ s c. refl) (λ s d. refl)
      (λ s c d e. tested deletion_cmp (is_in_column at c.column.number x) c.deletion d.deletion
      ∙ ap (λ n. greater deletion_cmp (deletes_in at x c) (cond (is_in_column at n x) d.deletion None)) (nat_cmp-IsAntisymmetric c.column.number d.column.number e)) tt cs ds

  pub joined_writes : (cs ds : List RowColumn) → greatest cell_cmp (cells_in at x) (joined_columns cs ds)
      ≡ greater cell_cmp (greatest cell_cmp (cells_in at x) cs) (greatest cell_cmp (cells_in at x) ds)
  joined_writes cs ds =
      woven_gives cell_laws.orders (plainly (λ c d. nat_cmp c.column.number d.column.number) joined_column) (cells_in at x) (λ s c. refl) (λ s d. refl)
      (λ s c d e. cells_join c.column.number c.column.path c.cells d.cells
      ∙ ap (λ n. greater cell_cmp (cells_in at x c) (greatest cell_cmp (writes_in at n x) d.cells)) (nat_cmp-IsAntisymmetric c.column.number d.column.number e)) tt cs ds
