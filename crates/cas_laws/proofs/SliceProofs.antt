-- A query reads no atom of a single row outside its slice.
use Rattle.std.proofs.Common.{◌≡◌, ℕ, ◌==◌, ℤ, Bool, true, false, ◌&&◌, Option, None, Some, List, [], ◌∷◌, filter, if◌then◌else◌, refl, sym, ap, ◌∙◌}
use Rattle.std.specs.Bool.{then_some}
use Rattle.std.specs.declared.cmp.Ordering.{Ordering}
use Rattle.std.proofs.lemmas.Bool.{true≢false}
use Rattle.cas_cell.specs.Deletions.{deletion_cmp}
use Rattle.cas_cell.specs.Lives.{live_at, live_cmp}
use Rattle.cas_cell.specs.Cells.{cell_at, cell_cmp}
use Rattle.cas_cell.specs.declared.deletion.Deletion.{Deletion}
use Rattle.cas_bounds.specs.Cuts.{is_inside}
use Rattle.cas_bounds.specs.declared.cuts.Slice.{Slice}
use Rattle.cas_atoms.specs.Greatest.{greater, greatest}
use Rattle.cas_atoms.specs.Coordinates.{Coordinate, RowKey, clustered, static_row, row, path, row_of, same_values, same_bytes, same_row, deletion_at, live_at_row, cell_at_path}
use Rattle.cas_atoms.specs.Winners.{cover, standing, live_winner, cell_winner}
use Rattle.cas_atoms.specs.declared.atom.Atom.{Atom}
use Rattle.cas_atoms.specs.declared.atom.Atom.TheVariants.{PartitionDeletion, RangeDeletion, RowDeletion, CollectionDeletion, Live, Write, StaticWrite, StaticCollectionDeletion}
use Rattle.cas_laws.specs.Inside.{SameIn, is_in, is_read}
use Rattle.cas_laws.specs.Laws.{SliceReads}
use Rattle.cas_laws.proofs.ShownProofs.{equal_values}
use Rattle.cas_laws.proofs.AliveProofs.{same_in_answers}

-- elements that give nothing may be left out
without : {X Y : Type 0} (cmp : Y → Y → Ordering) (f : X → Option Y) (p : X → Bool) → ((x : X) → p x ≡ false → f x ≡ None) → (xs : List X)
    → greatest cmp f (filter p xs) ≡ greatest cmp f xs
without cmp f p none [] = refl
without cmp f p none (x ∷ xs) =
    elim (p x) as (λ b. p x ≡ b → greatest cmp f (if b then x ∷ filter p xs else filter p xs) ≡ greater cmp (f x) (greatest cmp f xs)) [
      | true ↦ λ e. ap (greater cmp (f x)) (without cmp f p none xs)
      | false ↦ λ e. without cmp f p none xs ∙ sym (ap (λ y. greater cmp y (greatest cmp f xs)) (none x e))
    ] refl

module _ (s : Slice) where
  -- a row in the slice isn't one outside
  apart : (c : List (List ℕ)) (r : RowKey) → is_inside s.lo s.hi c ≡ false → is_in s r ≡ true → same_row (clustered c) r ≡ false
  apart c static_row out inside = refl
  apart c (clustered d) out inside =
      elim (same_values c d) as (λ b. same_values c d ≡ b → b ≡ false) [
        | true ↦ λ e. absurd (true≢false (sym inside ∙ ap (is_inside s.lo s.hi) (sym (equal_values c d e)) ∙ out))
        | false ↦ λ e. refl
      ] refl

  no_deletion : (x : Coordinate) → is_in s (row_of x) ≡ true → (a : Atom) → is_read s a ≡ false → deletion_at x a ≡ None
  no_deletion x i (RowDeletion c d) out = ap (λ b. then_some b d) (apart c.values (row_of x) out i)
  no_deletion (row r) i (CollectionDeletion c column d) out = refl
  no_deletion (path r n p) i (CollectionDeletion c column d) out = ap (λ b. then_some (b && (column.number == n)) d) (apart c.values r out i)
  no_deletion x i (Live c l) out = refl
  no_deletion x i (Write c column p v) out = refl
  no_deletion x i (PartitionDeletion d) out = absurd (true≢false out)
  no_deletion x i (RangeDeletion lo hi d) out = absurd (true≢false out)
  no_deletion x i (StaticWrite column p v) out = absurd (true≢false out)
  no_deletion x i (StaticCollectionDeletion column d) out = absurd (true≢false out)

  no_live : (r : List (List ℕ)) → is_inside s.lo s.hi r ≡ true → (a : Atom) → is_read s a ≡ false → live_at_row r a ≡ None
  no_live r i (Live c l) out = ap (λ b. then_some b l) (apart c.values (clustered r) out i)
  no_live r i (RowDeletion c d) out = refl
  no_live r i (CollectionDeletion c column d) out = refl
  no_live r i (Write c column p v) out = refl
  no_live r i (PartitionDeletion d) out = refl
  no_live r i (RangeDeletion lo hi d) out = refl
  no_live r i (StaticWrite column p v) out = refl
  no_live r i (StaticCollectionDeletion column d) out = refl

  no_cell : (x : Coordinate) → is_in s (row_of x) ≡ true → (a : Atom) → is_read s a ≡ false → cell_at_path x a ≡ None
  no_cell (row r) i (Write c column p v) out = refl
  no_cell (path r n q) i (Write c column p v) out = ap (λ b. then_some (b && ((column.number == n) && same_bytes p q)) v) (apart c.values r out i)
  no_cell x i (StaticWrite column p v) out = absurd (true≢false out)
  no_cell x i (Live c l) out = refl
  no_cell x i (RowDeletion c d) out = refl
  no_cell x i (CollectionDeletion c column d) out = refl
  no_cell x i (PartitionDeletion d) out = refl
  no_cell x i (RangeDeletion lo hi d) out = refl
  no_cell x i (StaticCollectionDeletion column d) out = refl

  covers_alike : (A : List Atom) (x : Coordinate) → is_in s (row_of x) ≡ true → cover (filter (is_read s) A) x ≡ cover A x
  covers_alike A x i = without deletion_cmp (deletion_at x) (is_read s) (no_deletion x i) A

  none_stands : {Y : Type 0} (at : Y → ℤ) (d : Option Deletion) (w : Option Y) → w ≡ None → standing at d w ≡ None
  none_stands at None w e = e
  none_stands at (Some d) w e = ap (standing at (Some d)) e

  lives_alike : (A : List Atom) (r : List (List ℕ)) → is_inside s.lo s.hi r ≡ true → live_winner (filter (is_read s) A) r ≡ live_winner A r
  lives_alike A r i =
      ap (λ d. greatest live_cmp (λ a. standing live_at d (live_at_row r a)) (filter (is_read s) A)) (covers_alike A (row r) i)
      ∙ without live_cmp (λ a. standing live_at (cover A (row r)) (live_at_row r a)) (is_read s)
      (λ a out. none_stands live_at (cover A (row r)) (live_at_row r a) (no_live r i a out)) A

  cells_alike : (A : List Atom) (x : Coordinate) → is_in s (row_of x) ≡ true → cell_winner (filter (is_read s) A) x ≡ cell_winner A x
  cells_alike A x i =
      ap (λ d. greatest cell_cmp (λ a. standing cell_at d (cell_at_path x a)) (filter (is_read s) A)) (covers_alike A x i)
      ∙ without cell_cmp (λ a. standing cell_at (cover A x) (cell_at_path x a)) (is_read s)
      (λ a out. none_stands cell_at (cover A x) (cell_at_path x a) (no_cell x i a out)) A

  same_in_slice : (A : List Atom) → SameIn s (filter (is_read s) A) A
  same_in_slice A = record { covers = covers_alike A; lives = lives_alike A; cells = cells_alike A }

pub slice_reads : SliceReads
slice_reads = record {
  same = same_in_slice;
  answers = λ A q now. same_in_answers (filter (is_read q.slice) A) A q (same_in_slice q.slice A) now;
}
