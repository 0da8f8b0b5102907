-- What says no more than atoms that a table may hold writes and deletes what the table may hold, where it may.
use Rattle.std.proofs.Common.{◌≡◌, inl, inr, ℕ, ◌==◌, ◌^◌, ◌<◌, ◌&&◌, Bool, true, false, Option, None, Some, List, [], ◌∷◌, length, refl, ap, subst, arith}
use Rattle.std.proofs.lemmas.Bool.Decides.{nat_tests}
use Rattle.std.proofs.lemmas.Cmp.{tied_itself}
use Rattle.std.proofs.lemmas.Option.{none-some}
use Rattle.std.specs.Prelude.{slice_get}
use Rattle.std.specs.Bool.{then_some}
use Rattle.std.specs.Cmp.Lexicographic.{lists_total}
use Rattle.std.specs.List.{AllByRecursion}
use Rattle.std.specs.Option.{unwrap_or}
use Rattle.std.specs.Ordering.{is_eq}
use Rattle.cas_types.proofs.OrderLaws.{bytes_orders}
use Rattle.cas_types.specs.declared.schema.Column.{Column}
use Rattle.cas_cell.specs.declared.cell.Cell.{Cell}
use Rattle.cas_cell.specs.declared.deletion.Deletion.{Deletion}
use Rattle.cas_cell.specs.declared.liveness.Liveness.{Liveness}
use Rattle.cas_bounds.specs.ClusteringOrder.{clustering_order}
use Rattle.cas_bounds.specs.declared.cuts.Clustering.{Clustering}
use Rattle.cas_atoms.specs.Coordinates.{RowKey, clustered, static_row, Coordinate, row, path, same_values, same_row, same_bytes, is_at, live_at_row, cell_at_path}
use Rattle.cas_atoms.specs.Fits.{FitsValues, FitsDeletion, FitsLive, FitsPath, FitsCell, is_cell_value, Fits}
use Rattle.cas_atoms.specs.declared.atom.Atom.{Atom}
use Rattle.cas_atoms.specs.declared.atom.Atom.TheVariants.{PartitionDeletion, RangeDeletion, RowDeletion, CollectionDeletion, Live, Write, StaticWrite, StaticCollectionDeletion}
use Rattle.cas_atoms.specs.declared.atom.ColumnRef.{ColumnRef}
use Rattle.cas_atoms.specs.declared.row.PathCell.{PathCell}
use Rattle.cas_laws.specs.Given.{Gives}
use Rattle.cas_laws.proofs.ShownProofs.{both_hold, equal_values, equal_bytes, equal_rows}
use Rattle.cas_streams.specs.Flat.{empties, writes}
use Rattle.cas_streams.specs.NoMore.{Target, partition, range, one_row, one_column, deletion_of, SaysNoMore}
use Rattle.cas_streams.proofs.NoMore.{ByPlace}
use Rattle.cas_streams.proofs.OwnRows.{key_of}
use Rattle.cas_partition.specs.Partitions.{AllFit}

-- ---- what is there only where a test holds

if_true : {X : Type 0} (b : Bool) (x y : X) → then_some b x ≡ Some y → (b ≡ true) × (x ≡ y)
if_true true x y e = (refl, ap (λ o. unwrap_or o x) e)
if_true false x y e = absurd (none-some y e)

pub where_true : {X : Type 0} (b : Bool) (x : X) → b ≡ true → then_some b x ≡ Some x
where_true b x e = ap (λ t. then_some t x) e

pub same_itself : (c : List (List ℕ)) → same_values c c ≡ true
same_itself c = ap is_eq (tied_itself (lists_total bytes_orders.total) c)

row_itself : (r : RowKey) → same_row r r ≡ true
row_itself static_row = refl
row_itself (clustered c) = same_itself c

number_itself : (n : ℕ) → (n == n) ≡ true
number_itself n = grind (arith, nat_tests)

pub column_itself : (r : RowKey) (n : ℕ) → (same_row r r && (n == n)) ≡ true
column_itself r n = λ i. row_itself r i && number_itself n i

pub at_itself : (r : RowKey) (n : ℕ) (p : List ℕ) → is_at r n p (path r n p) ≡ true
at_itself r n p = λ i. row_itself r i && (number_itself n i && ap is_eq (tied_itself bytes_orders.total p) i)

equal_numbers : (m n : ℕ) → (m == n) ≡ true → m ≡ n
equal_numbers m n e = grind (arith, nat_tests, e)

module _ (columns : List Column) where
  -- a row that the table may have
  abbrev pub RowFits : RowKey → Type 0
  RowFits (clustered c) = FitsValues (clustering_order columns) c × (length (clustering_order columns) < 2 ^ 8)
  RowFits static_row = Unit {0}

  -- a cell that it may have at a path of the column of that number
  pub record CellFits (n : ℕ) (at : List ℕ) (v : Cell) : Type 0 where
    pub column : Column
    pub there : slice_get columns n ≡ Some column
    pub path : FitsPath column at
    pub cell : FitsCell (λ bytes. is_cell_value column bytes ≡ true) v

  -- an atom that it may hold, but for a range's cuts and what a column is
  abbrev pub Allowed : Atom → Type 0
  Allowed (PartitionDeletion d) = FitsDeletion d
  Allowed (RangeDeletion lo hi d) = FitsDeletion d
  Allowed (RowDeletion c d) = RowFits (clustered c.values) × FitsDeletion d
  Allowed (CollectionDeletion c ref d) = RowFits (clustered c.values) × FitsDeletion d
  Allowed (Live c l) = RowFits (clustered c.values) × FitsLive l
  Allowed (Write c ref p v) = RowFits (clustered c.values) × CellFits ref.number p v
  Allowed (StaticWrite ref p v) = RowFits static_row × CellFits ref.number p v
  Allowed (StaticCollectionDeletion ref d) = RowFits static_row × FitsDeletion d

  -- ---- it goes by places

  emptied_allowed : (at : Option Clustering) (m : ColumnRef) (d : Deletion) → RowFits (key_of at) × FitsDeletion d → Allowed (empties at m d)
  emptied_allowed None m d h = h
  emptied_allowed (Some c) m d h = h

  pub allowed_emptied : (at : Option Clustering) (m : ColumnRef) (d : Deletion) → Allowed (empties at m d) → RowFits (key_of at) × FitsDeletion d
  allowed_emptied None m d h = h
  allowed_emptied (Some c) m d h = h

  written_allowed : (at : Option Clustering) (m : ColumnRef) (p : PathCell) → RowFits (key_of at) × CellFits m.number p.path p.cell → Allowed (writes at m p)
  written_allowed None m p h = h
  written_allowed (Some c) m p h = h

  pub allowed_written : (at : Option Clustering) (m : ColumnRef) (p : PathCell) → Allowed (writes at m p) → RowFits (key_of at) × CellFits m.number p.path p.cell
  allowed_written None m p h = h
  allowed_written (Some c) m p h = h

  pub allowed_by_place : ByPlace Allowed
  allowed_by_place = record {
    ranges = λ lo hi k l d h. h;
    rows = λ c e same d h. (subst (λ v. RowFits (clustered v)) same h.0, h.1);
    lives = λ c e same l h. (subst (λ v. RowFits (clustered v)) same h.0, h.1);
    columns = λ at by m n key number d h. let (r, f) = allowed_emptied at m d h in emptied_allowed by n d (subst RowFits key r, f);
    cells = λ at by m n key number p q same h.
        let (r, f) = allowed_written at m p h in
        written_allowed by n (record { path = q; cell = p.cell })
        (subst RowFits key r, subst (λ k. CellFits k q p.cell) number (subst (λ z. CellFits m.number z p.cell) same f));
  }

  -- ---- what is given by atoms that the table may hold

  abbrev TargetFits : Target → Type 0
  TargetFits partition = Unit {0}
  TargetFits range = Unit {0}
  TargetFits (one_row r) = RowFits (clustered r)
  TargetFits (one_column r n) = RowFits r

  abbrev PlaceFits : Coordinate → Cell → Type 0
  PlaceFits (row c) v = Unit {0}
  PlaceFits (path r n p) v = RowFits r × CellFits n p v

  deleted : (t : Target) (a : Atom) (d : Deletion) → Fits columns a → deletion_of t a ≡ Some d → TargetFits t × FitsDeletion d
  deleted partition (PartitionDeletion x) d f e = (tt, subst FitsDeletion (ap (λ o. unwrap_or o x) e) f)
  deleted range (RangeDeletion lo hi x) d f e = (tt, subst FitsDeletion (ap (λ o. unwrap_or o x) e) f.1)
  deleted (one_row r) (RowDeletion c x) d f e =
      let (same, is) = if_true (same_values c.values r) x d e in
      (subst (λ v. RowFits (clustered v)) (equal_values c.values r same) (f.0.1, f.0.2), subst FitsDeletion is f.1)
  deleted (one_column r n) (CollectionDeletion c ref x) d f e =
      let (same, is) = if_true (same_row (clustered c.values) r && (ref.number == n)) x d e in
      (subst RowFits (equal_rows (clustered c.values) r (both_hold (same_row (clustered c.values) r) (ref.number == n) same).0) (f.0.1, f.0.2), subst FitsDeletion is f.2)
  deleted (one_column r n) (StaticCollectionDeletion ref x) d f e =
      let (same, is) = if_true (same_row static_row r && (ref.number == n)) x d e in
      (subst RowFits (equal_rows static_row r (both_hold (same_row static_row r) (ref.number == n) same).0) tt, subst FitsDeletion is f.1)
  deleted partition (RangeDeletion lo hi x) d f e = absurd (none-some d e)
  deleted partition (RowDeletion c x) d f e = absurd (none-some d e)
  deleted partition (CollectionDeletion c ref x) d f e = absurd (none-some d e)
  deleted partition (Live c l) d f e = absurd (none-some d e)
  deleted partition (Write c ref p v) d f e = absurd (none-some d e)
  deleted partition (StaticWrite ref p v) d f e = absurd (none-some d e)
  deleted partition (StaticCollectionDeletion ref x) d f e = absurd (none-some d e)
  deleted range (PartitionDeletion x) d f e = absurd (none-some d e)
  deleted range (RowDeletion c x) d f e = absurd (none-some d e)
  deleted range (CollectionDeletion c ref x) d f e = absurd (none-some d e)
  deleted range (Live c l) d f e = absurd (none-some d e)
  deleted range (Write c ref p v) d f e = absurd (none-some d e)
  deleted range (StaticWrite ref p v) d f e = absurd (none-some d e)
  deleted range (StaticCollectionDeletion ref x) d f e = absurd (none-some d e)
  deleted (one_row r) (PartitionDeletion x) d f e = absurd (none-some d e)
  deleted (one_row r) (RangeDeletion lo hi x) d f e = absurd (none-some d e)
  deleted (one_row r) (CollectionDeletion c ref x) d f e = absurd (none-some d e)
  deleted (one_row r) (Live c l) d f e = absurd (none-some d e)
  deleted (one_row r) (Write c ref p v) d f e = absurd (none-some d e)
  deleted (one_row r) (StaticWrite ref p v) d f e = absurd (none-some d e)
  deleted (one_row r) (StaticCollectionDeletion ref x) d f e = absurd (none-some d e)
  deleted (one_column r n) (PartitionDeletion x) d f e = absurd (none-some d e)
  deleted (one_column r n) (RangeDeletion lo hi x) d f e = absurd (none-some d e)
  deleted (one_column r n) (RowDeletion c x) d f e = absurd (none-some d e)
  deleted (one_column r n) (Live c l) d f e = absurd (none-some d e)
  deleted (one_column r n) (Write c ref p v) d f e = absurd (none-some d e)
  deleted (one_column r n) (StaticWrite ref p v) d f e = absurd (none-some d e)

  lived : (r : List (List ℕ)) (a : Atom) (l : Liveness) → Fits columns a → live_at_row r a ≡ Some l → RowFits (clustered r) × FitsLive l
  lived r (Live c m) l f e =
      let (same, is) = if_true (same_values c.values r) m l e in
      (subst (λ v. RowFits (clustered v)) (equal_values c.values r same) (f.0.1, f.0.2), subst FitsLive is f.1)
  lived r (PartitionDeletion x) l f e = absurd (none-some l e)
  lived r (RangeDeletion lo hi x) l f e = absurd (none-some l e)
  lived r (RowDeletion c x) l f e = absurd (none-some l e)
  lived r (CollectionDeletion c ref x) l f e = absurd (none-some l e)
  lived r (Write c ref p v) l f e = absurd (none-some l e)
  lived r (StaticWrite ref p v) l f e = absurd (none-some l e)
  lived r (StaticCollectionDeletion ref x) l f e = absurd (none-some l e)

  -- a cell written at a place, by a row, a number and a path that are those of the place
  at_place : (s : RowKey) (m : ℕ) (q : List ℕ) (w : Cell) (x : Coordinate) (v : Cell) → RowFits s → CellFits m q w → then_some (is_at s m q x) w ≡ Some v → PlaceFits x v
  at_place s m q w (row c) v r f e = absurd (none-some v e)
  at_place s m q w (path t n p) v r f e =
      let (same, is) = if_true (is_at s m q (path t n p)) w v e in
      let (rows, rest) = both_hold (same_row s t) ((m == n) && same_bytes q p) same in
      let (number, bytes) = both_hold (m == n) (same_bytes q p) rest in (
        subst RowFits (equal_rows s t rows) r,
        subst (λ k. CellFits k p v) (equal_numbers m n number) (subst (λ z. CellFits m z v) (equal_bytes q p bytes) (subst (CellFits m q) is f)),
      )

  wrote : (x : Coordinate) (a : Atom) (v : Cell) → Fits columns a → cell_at_path x a ≡ Some v → PlaceFits x v
  wrote x (Write c ref q w) v f e =
      at_place (clustered c.values) ref.number q w x v (f.0.1, f.0.2) (record { column = f.1.column; there = f.1.named.there; path = f.1.path; cell = f.1.cell }) e
  wrote x (StaticWrite ref q w) v f e =
      at_place static_row ref.number q w x v tt (record { column = f.column; there = f.named.there; path = f.path; cell = f.cell }) e
  wrote x (PartitionDeletion d) v f e = absurd (none-some v e)
  wrote x (RangeDeletion lo hi d) v f e = absurd (none-some v e)
  wrote x (RowDeletion c d) v f e = absurd (none-some v e)
  wrote x (CollectionDeletion c ref d) v f e = absurd (none-some v e)
  wrote x (Live c l) v f e = absurd (none-some v e)
  wrote x (StaticCollectionDeletion ref d) v f e = absurd (none-some v e)

  -- ---- in a list that says no more

  some_given : {K : Type 0} (given : Atom → Option K) (F : K → Type 0) → ((a : Atom) (k : K) → Fits columns a → given a ≡ Some k → F k) → (B : List Atom)
      → AllFit columns B → (k : K) → Gives given B k → F k
  some_given given F h [] all k g = absurd g
  some_given given F h (a ∷ B) all k (inl e) = h a k all.0 e
  some_given given F h (a ∷ B) all k (inr g) = some_given given F h B all.1 k g

  module _ (B : List Atom) (all : AllFit columns B) where
    any_deletion : (t : Target) (d : Deletion) → Gives (deletion_of t) B d → TargetFits t × FitsDeletion d
    any_deletion t = some_given (deletion_of t) (λ d. TargetFits t × FitsDeletion d) (deleted t) B all

    any_live : (r : List (List ℕ)) (l : Liveness) → Gives (live_at_row r) B l → RowFits (clustered r) × FitsLive l
    any_live r = some_given (live_at_row r) (λ l. RowFits (clustered r) × FitsLive l) (lived r) B all

    any_cell : (x : Coordinate) (v : Cell) → Gives (cell_at_path x) B v → PlaceFits x v
    any_cell x = some_given (cell_at_path x) (PlaceFits x) (wrote x) B all

    one_allowed : (a : Atom) (A : List Atom) → SaysNoMore (a ∷ A) B → Allowed a
    one_allowed (PartitionDeletion d) A m = (any_deletion partition d (m.deletions partition d (inl refl))).1
    one_allowed (RangeDeletion lo hi d) A m = (any_deletion range d (m.deletions range d (inl refl))).1
    one_allowed (RowDeletion c d) A m =
        any_deletion (one_row c.values) d (m.deletions (one_row c.values) d (inl (where_true (same_values c.values c.values) d (same_itself c.values))))
    one_allowed (CollectionDeletion c ref d) A m =
        let r : RowKey = clustered c.values in
        any_deletion (one_column r ref.number) d
        (m.deletions (one_column r ref.number) d (inl (where_true (same_row r r && (ref.number == ref.number)) d (column_itself r ref.number))))
    one_allowed (Live c l) A m = any_live c.values l (m.lives c.values l (inl (where_true (same_values c.values c.values) l (same_itself c.values))))
    one_allowed (Write c ref p v) A m =
        let x : Coordinate = path (clustered c.values) ref.number p in
        any_cell x v (m.cells x v (inl (where_true (is_at (clustered c.values) ref.number p x) v (at_itself (clustered c.values) ref.number p))))
    one_allowed (StaticWrite ref p v) A m =
        let x : Coordinate = path static_row ref.number p in
        any_cell x v (m.cells x v (inl (where_true (is_at static_row ref.number p x) v (at_itself static_row ref.number p))))
    one_allowed (StaticCollectionDeletion ref d) A m =
        any_deletion (one_column static_row ref.number) d
        (m.deletions (one_column static_row ref.number) d (inl (where_true (same_row static_row static_row && (ref.number == ref.number)) d (column_itself static_row ref.number))))

    others : (a : Atom) (A : List Atom) → SaysNoMore (a ∷ A) B → SaysNoMore A B
    others a A m = record { lives = λ r l g. m.lives r l (inr g); cells = λ x v g. m.cells x v (inr g); deletions = λ t d g. m.deletions t d (inr g) }

    pub all_allowed : (A : List Atom) → SaysNoMore A B → AllByRecursion Allowed A
    all_allowed [] m = tt
    all_allowed (a ∷ A) m = (one_allowed a A m, all_allowed A (others a A m))
