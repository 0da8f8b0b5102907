-- What is shown was written.
use Rattle.std.proofs.Common.{◌≡◌, ℕ, ◌==◌, ℤ, Bool, true, false, cond, not, ◌&&◌, ◌||◌, Option, None, Some, ◌+◌, List, [], ◌∷◌, filter, ◌⊎◌, inl, inr, refl, sym, ap}
use Rattle.std.proofs.lemmas.Bool.{true≢false}
use Rattle.std.specs.Bool.{then_some}
use Rattle.std.specs.Cmp.{Equal-is}
use Rattle.std.specs.FinMap.{slice_cmp-IsAntisymmetric}
use Rattle.std.specs.Cmp.Lexicographic.{slice_cmp}
use Rattle.cas_types.specs.Orders.{Orders}
use Rattle.cas_types.specs.Values.{bytes_cmp}
use Rattle.cas_types.specs.Schemas.{path_type}
use Rattle.cas_types.specs.declared.tag.TypeTag.{TypeTag}
use Rattle.cas_types.specs.declared.schema.Column.{Column}
use Rattle.cas_types.proofs.OrderLaws.{bytes_orders, value_orders}
use Rattle.cas_cell.specs.Lives.{live_at, live_cmp}
use Rattle.cas_cell.specs.Cells.{cell_at, cell_cmp}
use Rattle.cas_cell.specs.declared.deletion.Deletion.{Deletion}
use Rattle.cas_cell.specs.declared.liveness.Liveness.{Liveness}
use Rattle.cas_cell.specs.declared.cell.Cell.{Cell}
use Rattle.cas_atoms.specs.Coordinates.{RowKey, clustered, static_row, row, path, same_values, same_bytes, same_row, is_at, live_at_row, cell_at_path}
use Rattle.cas_atoms.specs.Winners.{cover, standing, live_winner, cell_winner}
use Rattle.cas_atoms.specs.RowsAndPaths.{ordered, written_row, written_path, path_cmp, is_alive, alive_paths}
use Rattle.cas_atoms.specs.Picks.{living}
use Rattle.cas_atoms.specs.Answers.{is_empty, has_kind, has_cell, is_living, is_shown}
use Rattle.cas_atoms.specs.declared.atom.Atom.{Atom}
use Rattle.cas_atoms.specs.declared.atom.Atom.TheVariants.{PartitionDeletion, RangeDeletion, RowDeletion, CollectionDeletion, Live, Write, StaticWrite, StaticCollectionDeletion}
use Rattle.cas_laws.specs.Given.{Gives}
use Rattle.cas_laws.proofs.GreatestProofs.{no_none, Gives-greatest}
use Rattle.cas_laws.proofs.OrderedLists.{Gives-mono}

-- ---- tests that hold

pub both_hold : (a b : Bool) → (a && b) ≡ true → (a ≡ true) × (b ≡ true)
both_hold true b e = (refl, e)
both_hold false b e = absurd (true≢false (sym e))

one_holds : (a b : Bool) → (a || b) ≡ true → (a ≡ true) ⊎ (b ≡ true)
one_holds true b e = inl refl
one_holds false b e = inr e

not_true : (b : Bool) → not b ≡ true → b ≡ false
not_true true e = absurd (true≢false (sym e))
not_true false e = refl

pub equal_values : (xs ys : List (List ℕ)) → same_values xs ys ≡ true → xs ≡ ys
equal_values xs ys e = slice_cmp-IsAntisymmetric bytes_orders.ties xs ys ((Equal-is (slice_cmp bytes_cmp xs ys)).0 e)

pub equal_bytes : (xs ys : List ℕ) → same_bytes xs ys ≡ true → xs ≡ ys
equal_bytes xs ys e = bytes_orders.ties xs ys ((Equal-is (bytes_cmp xs ys)).0 e)

pub equal_rows : (r s : RowKey) → same_row r s ≡ true → r ≡ s
equal_rows (clustered c) (clustered d) e = ap clustered (equal_values c d e)
equal_rows (clustered c) static_row e = absurd (true≢false (sym e))
equal_rows static_row (clustered d) e = absurd (true≢false (sym e))
equal_rows static_row static_row e = refl

-- ---- what wins was written

module _ {Y : Type 0} (at : Y → ℤ) where
  nothing_stands : (d : Option Deletion) (y : Y) {G : Type 0} → standing at d None ≡ Some y → G
  nothing_stands None y e = no_none y e
  nothing_stands (Some d) y e = no_none y e

  stands_where_true : (d : Option Deletion) (b : Bool) (x y : Y) → standing at d (then_some b x) ≡ Some y → b ≡ true
  stands_where_true d true x y e = refl
  stands_where_true d false x y e = nothing_stands d y e

live_writes : (d : Option Deletion) (r : List (List ℕ)) (l : Liveness) (a : Atom) → standing live_at d (live_at_row r a) ≡ Some l → written_row a ≡ Some r
live_writes d r l (Live c m) e = ap Some (equal_values c.values r (stands_where_true live_at d (same_values c.values r) m l e))
live_writes d r l (PartitionDeletion _) e = nothing_stands live_at d l e
live_writes d r l (RangeDeletion _ _ _) e = nothing_stands live_at d l e
live_writes d r l (RowDeletion _ _) e = nothing_stands live_at d l e
live_writes d r l (CollectionDeletion _ _ _) e = nothing_stands live_at d l e
live_writes d r l (Write _ _ _ _) e = nothing_stands live_at d l e
live_writes d r l (StaticWrite _ _ _) e = nothing_stands live_at d l e
live_writes d r l (StaticCollectionDeletion _ _) e = nothing_stands live_at d l e

-- an atom's place that is that of the path: its row, its column and its path are
at_place : (s r : RowKey) (m n : ℕ) (q p : List ℕ) → is_at s m q (path r n p) ≡ true → (same_row s r ≡ true) × ((m == n) ≡ true) × (q ≡ p)
at_place s r m n q p e =
    let (in_row, rest) = both_hold (same_row s r) ((m == n) && same_bytes q p) e in
    let (in_column, there) = both_hold (m == n) (same_bytes q p) rest in
    (in_row, in_column, equal_bytes q p there)

written_there : (s r : RowKey) (m n : ℕ) (q p : List ℕ) → is_at s m q (path r n p) ≡ true → then_some (same_row s r && (m == n)) q ≡ Some p
written_there s r m n q p e =
    let (in_row, in_column, there) = at_place s r m n q p e in
    λ i. then_some (in_row i && in_column i) (there i)

cell_writes_path : (d : Option Deletion) (r : RowKey) (n : ℕ) (p : List ℕ) (w : Cell) (a : Atom) → standing cell_at d (cell_at_path (path r n p) a) ≡ Some w → written_path r n a ≡ Some p
cell_writes_path d r n p w (Write c column q v) e = written_there (clustered c.values) r column.number n q p (stands_where_true cell_at d _ v w e)
cell_writes_path d r n p w (StaticWrite column q v) e = written_there static_row r column.number n q p (stands_where_true cell_at d _ v w e)
cell_writes_path d r n p w (PartitionDeletion _) e = nothing_stands cell_at d w e
cell_writes_path d r n p w (RangeDeletion _ _ _) e = nothing_stands cell_at d w e
cell_writes_path d r n p w (RowDeletion _ _) e = nothing_stands cell_at d w e
cell_writes_path d r n p w (CollectionDeletion _ _ _) e = nothing_stands cell_at d w e
cell_writes_path d r n p w (Live _ _) e = nothing_stands cell_at d w e
cell_writes_path d r n p w (StaticCollectionDeletion _ _) e = nothing_stands cell_at d w e

cell_writes_row : (d : Option Deletion) (r : List (List ℕ)) (n : ℕ) (p : List ℕ) (w : Cell) (a : Atom) → standing cell_at d (cell_at_path (path (clustered r) n p) a) ≡ Some w → written_row a ≡ Some r
cell_writes_row d r n p w (Write c column q v) e = ap Some (equal_values c.values r (at_place (clustered c.values) (clustered r) column.number n q p (stands_where_true cell_at d _ v w e)).0)
cell_writes_row d r n p w (StaticWrite column q v) e = absurd (true≢false (sym (at_place static_row (clustered r) column.number n q p (stands_where_true cell_at d _ v w e)).0))
cell_writes_row d r n p w (PartitionDeletion _) e = nothing_stands cell_at d w e
cell_writes_row d r n p w (RangeDeletion _ _ _) e = nothing_stands cell_at d w e
cell_writes_row d r n p w (RowDeletion _ _) e = nothing_stands cell_at d w e
cell_writes_row d r n p w (CollectionDeletion _ _ _) e = nothing_stands cell_at d w e
cell_writes_row d r n p w (Live _ _) e = nothing_stands cell_at d w e
cell_writes_row d r n p w (StaticCollectionDeletion _ _) e = nothing_stands cell_at d w e

-- what a list has that isn't empty
passes : {K : Type 0} (t : K → Bool) (ks : List K) → is_empty (filter t ks) ≡ false → (k : K) × (t k ≡ true)
passes {K = K} t [] e = absurd (true≢false e)
passes {K = K} t (k ∷ ks) e =
    elim (t k) as (λ b. t k ≡ b → is_empty (cond b (k ∷ filter t ks) (filter t ks)) ≡ false → (k : K) × (t k ≡ true)) [
      | true ↦ λ p _. (k, p)
      | false ↦ λ p later. passes t ks later
    ] refl e

-- ---- what is shown was written

alive_is : (now : ℤ) (c : Option Cell) → is_alive now c ≡ true → (w : Cell) × (c ≡ Some w)
alive_is now None e = absurd (true≢false (sym e))
alive_is now (Some w) e = (w, refl)

living_is : (now : ℤ) (l : Option Liveness) → is_living now l ≡ true → (m : Liveness) × (l ≡ Some m)
living_is now None e = absurd (true≢false (sym e))
living_is now (Some m) e = (m, refl)

pub path_written : (atoms : List Atom) (now : ℤ) (r : RowKey) (n : ℕ) (p : List ℕ) → is_alive now (cell_winner atoms (path r n p)) ≡ true → Gives (written_path r n) atoms p
path_written atoms now r n p e =
    let (w, is) = alive_is now (cell_winner atoms (path r n p)) e in
    Gives-mono _ (written_path r n) w p (cell_writes_path (cover atoms (path r n p)) r n p w) atoms (Gives-greatest cell_cmp _ atoms w is)

row_written_by_cell : (atoms : List Atom) (now : ℤ) (r : List (List ℕ)) (n : ℕ) (p : List ℕ) → is_alive now (cell_winner atoms (path (clustered r) n p)) ≡ true → Gives written_row atoms r
row_written_by_cell atoms now r n p e =
    let (w, is) = alive_is now (cell_winner atoms (path (clustered r) n p)) e in
    Gives-mono _ written_row w r (cell_writes_row (cover atoms (path (clustered r) n p)) r n p w) atoms (Gives-greatest cell_cmp _ atoms w is)

row_written_by_insert : (atoms : List Atom) (now : ℤ) (r : List (List ℕ)) → is_living now (live_winner atoms r) ≡ true → Gives written_row atoms r
row_written_by_insert atoms now r e =
    let (l, is) = living_is now (live_winner atoms r) e in
    Gives-mono _ written_row l r (live_writes (cover atoms (row r)) r l) atoms (Gives-greatest live_cmp _ atoms l is)

row_written_in_column : (atoms : List Atom) (now : ℤ) (r : List (List ℕ)) (n : ℕ) (c : Column) → is_empty (alive_paths atoms now (clustered r) n c) ≡ false → Gives written_row atoms r
row_written_in_column atoms now r n c e =
    let (p, is) = passes (λ p. is_alive now (cell_winner atoms (path (clustered r) n p))) (ordered (path_cmp (path_type c.shape c.tag)) (written_path (clustered r) n) atoms) e in
    row_written_by_cell atoms now r n p is

row_written_in : (atoms : List Atom) (now : ℤ) (r : List (List ℕ)) (n : ℕ) (columns : List Column) → has_cell atoms now (clustered r) n columns ≡ true → Gives written_row atoms r
row_written_in atoms now r n [] e = absurd (true≢false (sym e))
row_written_in atoms now r n (c ∷ cs) e =
    let none : Bool = is_empty (alive_paths atoms now (clustered r) n c) in
    elim (one_holds (has_kind (clustered r) c.kind && not none) (has_cell atoms now (clustered r) (n + 1) cs) e) [
      | inl here ↦ row_written_in_column atoms now r n c (not_true none (both_hold (has_kind (clustered r) c.kind) (not none) here).1)
      | inr later ↦ row_written_in atoms now r (n + 1) cs later
    ]

pub row_written : (atoms : List Atom) (now : ℤ) (columns : List Column) (r : List (List ℕ)) → is_shown atoms now columns r ≡ true → Gives written_row atoms r
row_written atoms now columns r e =
    elim (one_holds (is_living now (live_winner atoms r)) (has_cell atoms now (clustered r) 0 columns) e) [
      | inl living ↦ row_written_by_insert atoms now r living
      | inr cell ↦ row_written_in atoms now r 0 columns cell
    ]

pub path_orders : (tag : Option TypeTag) → Orders (path_cmp tag)
path_orders None = bytes_orders
path_orders (Some tag) = value_orders tag
