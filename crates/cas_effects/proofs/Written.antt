-- The atoms of a write, effect by effect.
use Rattle.std.proofs.Common.{◌≡◌, ℕ, ℤ, pos, ◌+ℤ◌, ◌-ℤ◌, ◌==◌, Bool, true, false, cond, not, ◌&&◌, ◌||◌, if◌then◌else◌, List, [], ◌∷◌, ◌++◌, map, filter, Option, None, Some, is_some, refl, sym, ap, ◌∙◌, arith}
use Rattle.std.specs.Bool.{then_some}
use Rattle.std.specs.List.{list_any, list_all, flat_map, slice_get, AllByRecursion}
use Rattle.std.specs.Ordering.{is_lt, is_gt, int_eq, ordering_reverse}
use Rattle.std.specs.declared.cmp.Ordering.{Ordering}
use Rattle.std.specs.declared.cmp.Ordering.TheVariants.{Less, Equal, Greater}
use Rattle.std.proofs.lemmas.Bool.Decides.{Decides-int_eq}
use Rattle.std.proofs.lemmas.Cmp.{int_eq_equiv}
use Rattle.std.proofs.lemmas.Int.{ints}
use Rattle.std.proofs.lemmas.List.Elements.{recursion_from_All, filter-append}
use Rattle.std.proofs.lemmas.List.Folds.{list_any-append, list_all-append}
use Rattle.cas_bounds.specs.Cuts.{is_past, is_inside, cut_cmp}
use Rattle.cas_bounds.specs.declared.cuts.Clustering.{Clustering}
use Rattle.cas_bounds.specs.declared.cuts.Cut.{Cut}
use Rattle.cas_bounds.specs.Laws.{Place, cut_at}
use Rattle.cas_bounds.proofs.CutLaws.{cut_orders, cuts_divide_rows}
use Rattle.cas_cell.specs.Cells.{cell_at}
use Rattle.cas_cell.specs.Lives.{live_at}
use Rattle.cas_cell.specs.declared.cell.Cell.{Cell}
use Rattle.cas_cell.specs.declared.cell.Cell.TheVariants as cell
use Rattle.cas_cell.specs.declared.liveness.Liveness.TheVariants as live
use Rattle.cas_cell.specs.declared.deletion.Deletion.{Deletion}
use Rattle.cas_atoms.specs.Coordinates.{live_at_row, atom_at}
use Rattle.cas_atoms.specs.declared.atom.Atom.{Atom}
use Rattle.cas_atoms.specs.declared.atom.Atom.TheVariants as atom
use Rattle.cas_atoms.specs.declared.atom.ColumnRef.{ColumnRef}
use Rattle.cas_effects.specs.AtomsOf.{live_of, cell_of, deletion_of, deletion_before, write_at, emptied_at, placed, element_atom, element_atoms, effect_atoms, stamp_of, mutation_of}
use Rattle.cas_effects.specs.WriteLaws.{is_of_column, deletes_row, has_room, has_elements, changes_column, inserts_row, removes_row, replaced, HasOneOrder, WriteLaws}
use Rattle.cas_effects.specs.declared.effect.BoundWrite.{BoundWrite}
use Rattle.cas_effects.specs.declared.effect.Effect.{Effect}
use Rattle.cas_effects.specs.declared.effect.Effect.TheVariants as effect
use Rattle.cas_effects.specs.declared.effect.Elements.{Elements}
use Rattle.cas_effects.specs.declared.effect.Elements.TheVariants as elements
use Rattle.cas_effects.specs.declared.stamped.Stamp.{Stamp}

-- ---- lists of lists

or_false : (b : Bool) → (b || false) ≡ b
or_false true = refl
or_false false = refl

module _ {X Y : Type 0} (p : Y → Bool) (q : X → Bool) (f : X → List Y) where
  any_flat : ((x : X) → list_any p (f x) ≡ q x) → (xs : List X) → list_any p (flat_map f xs) ≡ list_any q xs
  any_flat each [] = refl
  any_flat each (x ∷ xs) = list_any-append p (f x) (flat_map f xs) ∙ (λ j. each x j || any_flat each xs j)

  any_flat_of : (P : X → Type 0) → ((x : X) → P x → list_any p (f x) ≡ q x) → (xs : List X) → AllByRecursion P xs → list_any p (flat_map f xs) ≡ list_any q xs
  any_flat_of P each [] all = refl
  any_flat_of P each (x ∷ xs) all = list_any-append p (f x) (flat_map f xs) ∙ (λ j. each x all.0 j || any_flat_of P each xs all.1 j)

module _ {X Y : Type 0} (p : Y → Bool) (f : X → List Y) where
  all_flat : ((x : X) → list_all p (f x) ≡ true) → (xs : List X) → list_all p (flat_map f xs) ≡ true
  all_flat each [] = refl
  all_flat each (x ∷ xs) = list_all-append p (f x) (flat_map f xs) ∙ (λ j. each x j && all_flat each xs j)

  filter_flat : (g : X → List Y) → ((x : X) → filter p (f x) ≡ g x) → (xs : List X) → filter p (flat_map f xs) ≡ flat_map g xs
  filter_flat g each [] = refl
  filter_flat g each (x ∷ xs) = filter-append p (f x) (flat_map f xs) ∙ (λ j. each x j ++ filter_flat g each xs j)

module _ {X Y : Type 0} (p : Y → Bool) (f : X → Y) (b : Bool) (same : (x : X) → p (f x) ≡ b) where
  any_same : (xs : List X) → list_any p (map f xs) ≡ (b && is_some (slice_get xs 0))
  any_same [] = elim b as (λ c. false ≡ (c && false)) [ true ↦ refl | false ↦ refl ]
  any_same (x ∷ xs) =
      (λ j. same x j || any_same xs j)
      ∙ elim b as (λ c. (c || (c && is_some (slice_get xs 0))) ≡ (c && true)) [ true ↦ refl | false ↦ refl ]

module _ {X Y : Type 0} (p : Y → Bool) (f : X → Y) where
  none_kept : ((x : X) → p (f x) ≡ false) → (xs : List X) → filter p (map f xs) ≡ []
  none_kept none [] = refl
  none_kept none (x ∷ xs) = ap (λ b. cond b (f x ∷ filter p (map f xs)) (filter p (map f xs))) (none x) ∙ none_kept none xs

  all_pass : ((x : X) → p (f x) ≡ true) → (xs : List X) → list_all p (map f xs) ≡ true
  all_pass pass [] = refl
  all_pass pass (x ∷ xs) = λ j. pass x j && all_pass pass xs j

-- ---- columns

some_placed : (number : ℕ) (es : Elements) → is_some (slice_get (placed number es) 0) ≡ has_elements es
some_placed number (elements.At es) = refl
some_placed number (elements.Appended []) = refl
some_placed number (elements.Appended (v ∷ vs)) = refl
some_placed number (elements.Prepended []) = refl
some_placed number (elements.Prepended (v ∷ vs)) = refl

module _ (n : ℕ) where
  column_written : (row : Option Clustering) (column : ColumnRef) (path : List ℕ) (cell : Cell) → is_of_column n (write_at row column path cell) ≡ (column.number == n)
  column_written None column path cell = refl
  column_written (Some c) column path cell = refl

  column_emptied : (row : Option Clustering) (column : ColumnRef) (d : Deletion) → is_of_column n (emptied_at row column d) ≡ (column.number == n)
  column_emptied None column d = refl
  column_emptied (Some c) column d = refl

  column_parts : (s : Stamp) (row : Option Clustering) (column : ColumnRef) (es : Elements) → list_any (is_of_column n) (element_atoms s row column es) ≡ ((column.number == n) && has_elements es)
  unfolding element_atoms
  column_parts s row column es =
      any_same (is_of_column n) (element_atom s row column) (column.number == n) (λ e. column_written row column e.0 (cell_of s e.1)) (placed s.number es)
      ∙ ap (λ b. (column.number == n) && b) (some_placed s.number es)

  absorbed : (b c : Bool) → (b || (b && c)) ≡ b
  absorbed true c = refl
  absorbed false c = refl

  column_effect : (s : Stamp) (e : Effect) → list_any (is_of_column n) (effect_atoms s e) ≡ changes_column n e
  unfolding effect_atoms
  column_effect s (effect.Live c) = refl
  column_effect s (effect.Plain row column v) = or_false _ ∙ column_written row column [] (cell_of s v)
  column_effect s (effect.Whole row column es) =
      (λ j. column_emptied row column (deletion_before s) j || column_parts s row column es j) ∙ absorbed (column.number == n) (has_elements es)
  column_effect s (effect.Parts row column es) = column_parts s row column es
  column_effect s (effect.Emptied row column) = or_false _ ∙ column_emptied row column (deletion_of s)
  column_effect s (effect.Row c) = refl
  column_effect s (effect.Range lo hi) = elim (is_lt (cut_cmp lo hi)) as (λ b. list_any (is_of_column n) (if b then atom.RangeDeletion lo hi (deletion_of s) ∷ [] else []) ≡ false) [ true ↦ refl | false ↦ refl ]
  column_effect s effect.Partition = refl

-- ---- rows that are inserted

module _ (r : List (List ℕ)) where
  some_then : {X : Type 0} (b : Bool) (x : X) → is_some (then_some b x) ≡ b
  some_then true x = refl
  some_then false x = refl

  written_marks_none : (row : Option Clustering) (column : ColumnRef) (path : List ℕ) (cell : Cell) → is_some (live_at_row r (write_at row column path cell)) ≡ false
  written_marks_none None column path cell = refl
  written_marks_none (Some c) column path cell = refl

  emptied_marks_none : (row : Option Clustering) (column : ColumnRef) (d : Deletion) → is_some (live_at_row r (emptied_at row column d)) ≡ false
  emptied_marks_none None column d = refl
  emptied_marks_none (Some c) column d = refl

  parts_mark_none : (s : Stamp) (row : Option Clustering) (column : ColumnRef) (es : Elements) → list_any (λ a. is_some (live_at_row r a)) (element_atoms s row column es) ≡ false
  unfolding element_atoms
  parts_mark_none s row column es =
      any_same (λ a. is_some (live_at_row r a)) (element_atom s row column) false (λ e. written_marks_none row column e.0 (cell_of s e.1)) (placed s.number es)

  live_effect : (s : Stamp) (e : Effect) → list_any (λ a. is_some (live_at_row r a)) (effect_atoms s e) ≡ inserts_row r e
  unfolding effect_atoms
  live_effect s (effect.Live c) = or_false _ ∙ some_then _ (live_of s)
  live_effect s (effect.Plain row column v) = or_false _ ∙ written_marks_none row column [] (cell_of s v)
  live_effect s (effect.Whole row column es) = λ j. emptied_marks_none row column (deletion_before s) j || parts_mark_none s row column es j
  live_effect s (effect.Parts row column es) = parts_mark_none s row column es
  live_effect s (effect.Emptied row column) = or_false _ ∙ emptied_marks_none row column (deletion_of s)
  live_effect s (effect.Row c) = refl
  live_effect s (effect.Range lo hi) =
      elim (is_lt (cut_cmp lo hi)) as (λ b. list_any (λ a. is_some (live_at_row r a)) (if b then atom.RangeDeletion lo hi (deletion_of s) ∷ [] else []) ≡ false) [ true ↦ refl | false ↦ refl ]
  live_effect s effect.Partition = refl

-- ---- rows that are deleted

module _ (r : List (List ℕ)) where
  written_deletes_none : (row : Option Clustering) (column : ColumnRef) (path : List ℕ) (cell : Cell) → deletes_row r (write_at row column path cell) ≡ false
  written_deletes_none None column path cell = refl
  written_deletes_none (Some c) column path cell = refl

  emptied_deletes_none : (row : Option Clustering) (column : ColumnRef) (d : Deletion) → deletes_row r (emptied_at row column d) ≡ false
  emptied_deletes_none None column d = refl
  emptied_deletes_none (Some c) column d = refl

  parts_delete_none : (s : Stamp) (row : Option Clustering) (column : ColumnRef) (es : Elements) → list_any (deletes_row r) (element_atoms s row column es) ≡ false
  unfolding element_atoms
  parts_delete_none s row column es =
      any_same (deletes_row r) (element_atom s row column) false (λ e. written_deletes_none row column e.0 (cell_of s e.1)) (placed s.number es)

  not_both : (x y : Bool) → (x ≡ true → y ≡ true) → (x && not y) ≡ false
  not_both true y h = ap not (h refl)
  not_both false y h = refl

  turned : (o : Ordering) → is_lt o ≡ false → is_gt (ordering_reverse o) ≡ false
  turned Less e = cc
  turned Equal e = refl
  turned Greater e = refl

  -- between two cuts of which the first isn't below the second there is no row
  no_room : (lo hi : Cut) → lo.order ≡ hi.order → is_lt (cut_cmp lo hi) ≡ false → is_inside lo hi r ≡ false
  no_room lo hi same not_below =
      let place : Cut → Place = λ c. record { prefix = c.prefix; after = c.after } in
      let back : cut_cmp hi lo ≡ ordering_reverse (cut_cmp lo hi) =
      ap (λ os. cut_cmp (cut_at os (place hi)) lo) (sym same) ∙ (cut_orders lo.order).total.antisymm (place hi) (place lo) in
      not_both (is_past lo r) (is_past hi r) (cuts_divide_rows hi lo r (sym same) (ap is_gt back ∙ turned (cut_cmp lo hi) not_below))

  range_effect : (s : Stamp) (lo hi : Cut) → lo.order ≡ hi.order → list_any (deletes_row r) (effect_atoms s (effect.Range lo hi)) ≡ is_inside lo hi r
  unfolding effect_atoms
  range_effect s lo hi same =
      elim (is_lt (cut_cmp lo hi)) as (λ b. is_lt (cut_cmp lo hi) ≡ b → list_any (deletes_row r) (if b then atom.RangeDeletion lo hi (deletion_of s) ∷ [] else []) ≡ is_inside lo hi r) [
        | true ↦ λ e. or_false (is_inside lo hi r)
        | false ↦ λ e. sym (no_room lo hi same e)
      ] refl

  row_effect : (s : Stamp) (e : Effect) → HasOneOrder e → list_any (deletes_row r) (effect_atoms s e) ≡ removes_row r e
  unfolding effect_atoms
  row_effect s (effect.Live c) one = refl
  row_effect s (effect.Plain row column v) one = or_false _ ∙ written_deletes_none row column [] (cell_of s v)
  row_effect s (effect.Whole row column es) one = λ j. emptied_deletes_none row column (deletion_before s) j || parts_delete_none s row column es j
  row_effect s (effect.Parts row column es) one = parts_delete_none s row column es
  row_effect s (effect.Emptied row column) one = or_false _ ∙ emptied_deletes_none row column (deletion_of s)
  row_effect s (effect.Row c) one = or_false _
  row_effect s (effect.Range lo hi) one = range_effect s lo hi one
  row_effect s effect.Partition one = refl

-- ---- ranges

written_has_room : (row : Option Clustering) (column : ColumnRef) (path : List ℕ) (cell : Cell) → has_room (write_at row column path cell) ≡ true
written_has_room None column path cell = refl
written_has_room (Some c) column path cell = refl

emptied_has_room : (row : Option Clustering) (column : ColumnRef) (d : Deletion) → has_room (emptied_at row column d) ≡ true
emptied_has_room None column d = refl
emptied_has_room (Some c) column d = refl

parts_have_room : (s : Stamp) (row : Option Clustering) (column : ColumnRef) (es : Elements) → list_all has_room (element_atoms s row column es) ≡ true
unfolding element_atoms
parts_have_room s row column es = all_pass has_room (element_atom s row column) (λ e. written_has_room row column e.0 (cell_of s e.1)) (placed s.number es)

and_true : (b : Bool) → (b && true) ≡ b
and_true true = refl
and_true false = refl

room_effect : (s : Stamp) (e : Effect) → list_all has_room (effect_atoms s e) ≡ true
unfolding effect_atoms
room_effect s (effect.Live c) = refl
room_effect s (effect.Plain row column v) = and_true _ ∙ written_has_room row column [] (cell_of s v)
room_effect s (effect.Whole row column es) = λ j. emptied_has_room row column (deletion_before s) j && parts_have_room s row column es j
room_effect s (effect.Parts row column es) = parts_have_room s row column es
room_effect s (effect.Emptied row column) = and_true _ ∙ emptied_has_room row column (deletion_of s)
room_effect s (effect.Row c) = refl
room_effect s (effect.Range lo hi) =
    elim (is_lt (cut_cmp lo hi)) as (λ b. is_lt (cut_cmp lo hi) ≡ b → list_all has_room (if b then atom.RangeDeletion lo hi (deletion_of s) ∷ [] else []) ≡ true) [
      | true ↦ λ e. and_true _ ∙ e
      | false ↦ λ e. refl
    ] refl
room_effect s effect.Partition = refl

-- ---- timestamps

-- whether an atom is at another timestamp than the write's
abbrev is_elsewhere : Stamp → Atom → Bool
is_elsewhere s a = not (int_eq (atom_at a) s.at)

at_it : (s : Stamp) (at : ℤ) → at ≡ s.at → not (int_eq at s.at) ≡ false
at_it s at e = ap (λ t. not (int_eq t s.at)) e ∙ ap not (int_eq_equiv.refl s.at)

before_it : (s : Stamp) → not (int_eq (s.at -ℤ pos 1) s.at) ≡ true
before_it s =
    elim (int_eq (s.at -ℤ pos 1) s.at) as (λ b. int_eq (s.at -ℤ pos 1) s.at ≡ b → not b ≡ true) [
      | true ↦ λ e. let same : s.at -ℤ pos 1 ≡ s.at = (Decides-int_eq (s.at -ℤ pos 1) s.at).0 e in absurd (omega (arith, ints))
      | false ↦ λ e. refl
    ] refl

cell_timed : (s : Stamp) (v : Option (List ℕ)) → cell_at (cell_of s v) ≡ s.at
cell_timed s None = refl
cell_timed s (Some v) = elim (s.ttl == 0) as (λ b. cell_at (if b then cell.Plain s.at v else cell.Expiring s.at (s.moment +ℤ pos s.ttl) s.ttl v) ≡ s.at) [ true ↦ refl | false ↦ refl ]

live_timed : (s : Stamp) → live_at (live_of s) ≡ s.at
live_timed s = elim (s.ttl == 0) as (λ b. live_at (if b then live.Plain s.at else live.Expiring s.at (s.moment +ℤ pos s.ttl) s.ttl) ≡ s.at) [ true ↦ refl | false ↦ refl ]

write_timed : (s : Stamp) (row : Option Clustering) (column : ColumnRef) (path : List ℕ) (v : Option (List ℕ)) → is_elsewhere s (write_at row column path (cell_of s v)) ≡ false
write_timed s None column path v = at_it s _ (cell_timed s v)
write_timed s (Some c) column path v = at_it s _ (cell_timed s v)

emptied_timed : (row : Option Clustering) (column : ColumnRef) (d : Deletion) → atom_at (emptied_at row column d) ≡ d.at
emptied_timed None column d = refl
emptied_timed (Some c) column d = refl

parts_timed : (s : Stamp) (row : Option Clustering) (column : ColumnRef) (es : Elements) → filter (is_elsewhere s) (element_atoms s row column es) ≡ []
unfolding element_atoms
parts_timed s row column es = none_kept (is_elsewhere s) (element_atom s row column) (λ e. write_timed s row column e.0 e.1) (placed s.number es)

not_kept : (b : Bool) (a : Atom) → b ≡ false → cond b (a ∷ []) [] ≡ []
not_kept b a e = ap (λ c. cond c (a ∷ []) []) e

time_effect : (s : Stamp) (e : Effect) → filter (is_elsewhere s) (effect_atoms s e) ≡ replaced s e
unfolding effect_atoms
time_effect s (effect.Live c) = not_kept _ _ (at_it s _ (live_timed s))
time_effect s (effect.Plain row column v) = not_kept _ _ (write_timed s row column [] v)
time_effect s (effect.Whole row column es) =
    (λ j. cond (is_elsewhere s (emptied_at row column (deletion_before s))) (emptied_at row column (deletion_before s) ∷ parts_timed s row column es j) (parts_timed s row column es j))
    ∙ ap (λ b. cond b (emptied_at row column (deletion_before s) ∷ []) []) (ap (λ t. not (int_eq t s.at)) (emptied_timed row column (deletion_before s)) ∙ before_it s)
time_effect s (effect.Parts row column es) = parts_timed s row column es
time_effect s (effect.Emptied row column) = not_kept _ _ (at_it s _ (emptied_timed row column (deletion_of s)))
time_effect s (effect.Row c) = not_kept _ (atom.RowDeletion c (deletion_of s)) (at_it s s.at refl)
time_effect s (effect.Range lo hi) =
    elim (is_lt (cut_cmp lo hi)) as (λ b. filter (is_elsewhere s) (if b then atom.RangeDeletion lo hi (deletion_of s) ∷ [] else []) ≡ []) [
      | true ↦ not_kept _ (atom.RangeDeletion lo hi (deletion_of s)) (at_it s s.at refl)
      | false ↦ refl
    ]
time_effect s effect.Partition = not_kept _ (atom.PartitionDeletion (deletion_of s)) (at_it s s.at refl)

-- ---- the write

pub write_laws : (w : BoundWrite) (drawn moment : ℤ) (number : ℕ) → WriteLaws w drawn moment number
unfolding mutation_of
write_laws w drawn moment number =
    let s : Stamp = stamp_of w drawn moment number in
    record {
      columns = λ n. any_flat (is_of_column n) (changes_column n) (effect_atoms s) (column_effect n s) w.effects;
      lives = λ r. any_flat (λ a. is_some (live_at_row r a)) (inserts_row r) (effect_atoms s) (live_effect r s) w.effects;
      rows = λ one r. any_flat_of (deletes_row r) (removes_row r) (effect_atoms s) HasOneOrder (row_effect r s) w.effects (recursion_from_All HasOneOrder w.effects one);
      ranges = all_flat has_room (effect_atoms s) (room_effect s) w.effects;
      times = filter_flat (is_elsewhere s) (effect_atoms s) (replaced s) (time_effect s) w.effects;
    }
