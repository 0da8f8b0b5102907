-- Atoms that are the same as none delete and write nothing at any coordinate.
use Rattle.std.proofs.Common.{◌≡◌, ℕ, ℤ, ◌==◌, ◌&&◌, cond, Option, None, Some, List, [], ◌∷◌, refl, sym, ap, ◌∙◌}
use Rattle.std.proofs.lemmas.Option.{none-some}
use Rattle.std.specs.List.{AllByRecursion}
use Rattle.std.specs.Ordering.{is_lt}
use Rattle.std.specs.declared.cmp.Ordering.{Ordering}
use Rattle.cas_cell.specs.Cells.{cell_at, cell_cmp}
use Rattle.cas_cell.specs.Deletions.{deletion_cmp}
use Rattle.cas_cell.specs.Lives.{live_at, live_cmp}
use Rattle.cas_cell.specs.declared.deletion.Deletion.{Deletion}
use Rattle.cas_atoms.specs.Coordinates.{Coordinate, RowKey, clustered, static_row, row, path, same_values, same_row, is_at, deletion_at, live_at_row, cell_at_path}
use Rattle.cas_atoms.specs.Greatest.{greater, greatest}
use Rattle.cas_atoms.specs.Winners.{Same, cover, standing}
use Rattle.cas_atoms.specs.declared.atom.Atom.{Atom}
use Rattle.cas_atoms.specs.declared.atom.Atom.TheVariants.{PartitionDeletion, RangeDeletion, RowDeletion, CollectionDeletion, Live, Write, StaticWrite, StaticCollectionDeletion}
use Rattle.cas_flush.specs.Laws.{IsRange}
use Rattle.cas_flush.proofs.Allowing.{where_true, same_itself, column_itself, at_itself}

-- where there is no greatest, nothing is given
none_given : {Y : Type 0} (cmp : Y → Y → Ordering) (f : Atom → Option Y) (A : List Atom) → greatest cmp f A ≡ None → AllByRecursion (λ a. f a ≡ None) A
none_given cmp f [] e = tt
none_given {Y} cmp f (a ∷ A) e = by (λ h. none_given cmp f A h) (f a) (greatest cmp f A) refl refl e
  where
    by : (greatest cmp f A ≡ None → AllByRecursion (λ b. f b ≡ None) A) → (x y : Option Y) → f a ≡ x → greatest cmp f A ≡ y → greater cmp x y ≡ None → (f a ≡ None) × AllByRecursion (λ b. f b ≡ None) A
    by rest None y h g e = (h, rest (g ∙ e))
    by rest (Some x) None h g e = absurd (none-some x (sym e))
    by rest (Some x) (Some y) h g e = absurd (none-some (cond (is_lt (cmp x y)) y x) (sym e))

at_every : {K : Type 0} (P : K → Atom → Type 0) (A : List Atom) → ((k : K) → AllByRecursion (P k) A) → AllByRecursion (λ a. (k : K) → P k a) A
at_every P [] h = tt
at_every P (a ∷ A) h = (λ k. (h k).0, at_every P A (λ k. (h k).1))

uncovered : {Y : Type 0} (at : Y → ℤ) (over : Option Deletion) (w : Option Y) → over ≡ None → standing at over w ≡ None → w ≡ None
uncovered at over w none e = ap (λ d. standing at d w) (sym none) ∙ e

gives_none : {Y G : Type 0} (o : Option Y) (y : Y) → o ≡ Some y → o ≡ None → G
gives_none o y e f = absurd (none-some y (sym f ∙ e))

one_range : (a : Atom) → ((x : Coordinate) → deletion_at x a ≡ None) → ((r : List (List ℕ)) → live_at_row r a ≡ None) → ((x : Coordinate) → cell_at_path x a ≡ None) → IsRange a
one_range (PartitionDeletion d) deletes lives writes = gives_none (Some d) d refl (deletes (row []))
one_range (RangeDeletion lo hi d) deletes lives writes = tt
one_range (RowDeletion c d) deletes lives writes =
    gives_none (deletion_at (row c.values) (RowDeletion c d)) d (where_true (same_values c.values c.values) d (same_itself c.values)) (deletes (row c.values))
one_range (CollectionDeletion c ref d) deletes lives writes =
    let r : RowKey = clustered c.values in
    gives_none (deletion_at (path r ref.number []) (CollectionDeletion c ref d)) d
    (where_true (same_row r r && (ref.number == ref.number)) d (column_itself r ref.number)) (deletes (path r ref.number []))
one_range (Live c l) deletes lives writes =
    gives_none (live_at_row c.values (Live c l)) l (where_true (same_values c.values c.values) l (same_itself c.values)) (lives c.values)
one_range (Write c ref p v) deletes lives writes =
    let r : RowKey = clustered c.values in
    gives_none (cell_at_path (path r ref.number p) (Write c ref p v)) v (where_true (is_at r ref.number p (path r ref.number p)) v (at_itself r ref.number p))
    (writes (path r ref.number p))
one_range (StaticWrite ref p v) deletes lives writes =
    gives_none (cell_at_path (path static_row ref.number p) (StaticWrite ref p v)) v
    (where_true (is_at static_row ref.number p (path static_row ref.number p)) v (at_itself static_row ref.number p)) (writes (path static_row ref.number p))
one_range (StaticCollectionDeletion ref d) deletes lives writes =
    gives_none (deletion_at (path static_row ref.number []) (StaticCollectionDeletion ref d)) d
    (where_true (same_row static_row static_row && (ref.number == ref.number)) d (column_itself static_row ref.number)) (deletes (path static_row ref.number []))

all_ranges : (A : List Atom) → AllByRecursion (λ a. (x : Coordinate) → deletion_at x a ≡ None) A → AllByRecursion (λ a. (r : List (List ℕ)) → live_at_row r a ≡ None) A
    → AllByRecursion (λ a. (x : Coordinate) → cell_at_path x a ≡ None) A → AllByRecursion IsRange A
all_ranges [] deletes lives writes = tt
all_ranges (a ∷ A) deletes lives writes = (one_range a deletes.0 lives.0 writes.0, all_ranges A deletes.1 lives.1 writes.1)

all_bare : {Y : Type 0} (at : Y → ℤ) (over : Option Deletion) (f : Atom → Option Y) (A : List Atom) → over ≡ None → AllByRecursion (λ a. standing at over (f a) ≡ None) A
    → AllByRecursion (λ a. f a ≡ None) A
all_bare at over f [] none all = tt
all_bare at over f (a ∷ A) none all = (uncovered at over (f a) none all.0, all_bare at over f A none all.1)

pub silent_ranges : (A : List Atom) → Same [] A → AllByRecursion IsRange A
silent_ranges A same =
    let bare : (x : Coordinate) → cover A x ≡ None = λ x. sym (same.covers x) in
    all_ranges A
    (at_every (λ x a. deletion_at x a ≡ None) A (λ x. none_given deletion_cmp (deletion_at x) A (bare x)))
    (at_every (λ r a. live_at_row r a ≡ None) A
    (λ r. all_bare live_at (cover A (row r)) (live_at_row r) A (bare (row r)) (none_given live_cmp (λ a. standing live_at (cover A (row r)) (live_at_row r a)) A (sym (same.lives r)))))
    (at_every (λ x a. cell_at_path x a ≡ None) A
    (λ x. all_bare cell_at (cover A x) (cell_at_path x) A (bare x) (none_given cell_cmp (λ a. standing cell_at (cover A x) (cell_at_path x a)) A (sym (same.cells x)))))
