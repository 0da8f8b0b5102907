-- What was deleted stays deleted: a purge changes nothing that counts.
use Rattle.std.proofs.Common.{◌≡◌, ℕ, ℤ, pos, ◌-ℤ◌, ◌≤ℤ◌, Bool, true, false, not, ◌||◌, Some, List, [], ◌∷◌, ◌++◌, filter, refl, sym, ap, ◌∙◌, subst, arith}
use Rattle.std.specs.Prelude.{int_lt}
use Rattle.std.specs.Bool.{then_some}
use Rattle.std.specs.Option.{unwrap_or}
use Rattle.std.specs.List.{AllByRecursion}
use Rattle.std.proofs.lemmas.Bool.{true≢false}
use Rattle.std.proofs.lemmas.Int.{ints}
use Rattle.std.proofs.lemmas.List.Elements.{All-from_recursion}
use Rattle.cas_cell.specs.Lives.{live_at, live_lives}
use Rattle.cas_cell.specs.Cells.{cell_at, cell_lives}
use Rattle.cas_cell.specs.declared.deletion.Deletion.{Deletion}
use Rattle.cas_cell.specs.declared.liveness.Liveness.{Liveness}
use Rattle.cas_cell.specs.declared.liveness.Liveness.TheVariants as live
use Rattle.cas_cell.specs.declared.cell.Cell.{Cell}
use Rattle.cas_cell.specs.declared.cell.Cell.TheVariants as cell
use Rattle.cas_cell.proofs.OrderLaws.{live_laws, cell_laws}
use Rattle.cas_atoms.specs.Coordinates.{Coordinate, row, deletion_at, live_at_row, cell_at_path, atom_at}
use Rattle.cas_atoms.specs.declared.atom.Atom.{Atom}
use Rattle.cas_atoms.specs.declared.atom.Atom.TheVariants.{PartitionDeletion, RangeDeletion, RowDeletion, CollectionDeletion, Live, Write, StaticWrite, StaticCollectionDeletion}
use Rattle.cas_laws.specs.Above.{is_late, AllAbove, SameAbove}
use Rattle.cas_laws.proofs.GreatestProofs.{no_none}
use Rattle.cas_laws.proofs.ShownProofs.{both_hold}
use Rattle.cas_laws.proofs.AboveProofs.{same_above_laws}
use Rattle.cas_purge.specs.Droppable.{cell_end, live_end, atom_end, ends_before, droppable, stays}
use Rattle.cas_purge.specs.Laws.{PurgeIsSameAbove, PurgeKeepsAnswers}
use Rattle.cas_purge.proofs.Lasting.{same_lasting, same_late}

-- ---- what an atom gives is of its time

some_is : {Y : Type 0} (x y : Y) → Some x ≡ Some y → x ≡ y
some_is x y e = ap (λ w. unwrap_or w x) e

given : {Y : Type 0} (b : Bool) (x y : Y) → then_some b x ≡ Some y → x ≡ y
given true x y e = some_is x y e
given false x y e = no_none y e

deletion_of : (x : Coordinate) (a : Atom) (d : Deletion) → deletion_at x a ≡ Some d → d.at ≡ atom_at a
deletion_of x (PartitionDeletion c) d e = ap (λ d. d.at) (sym (some_is c d e))
deletion_of x (RangeDeletion _ _ c) d e = ap (λ d. d.at) (sym (given _ c d e))
deletion_of x (RowDeletion _ c) d e = ap (λ d. d.at) (sym (given _ c d e))
deletion_of x (CollectionDeletion _ _ c) d e = ap (λ d. d.at) (sym (given _ c d e))
deletion_of x (Live _ _) d e = no_none d e
deletion_of x (Write _ _ _ _) d e = no_none d e
deletion_of x (StaticWrite _ _ _) d e = no_none d e
deletion_of x (StaticCollectionDeletion _ c) d e = ap (λ d. d.at) (sym (given _ c d e))

-- an INSERT's atom has its end and its time
live_of : (r : List (List ℕ)) (a : Atom) (l : Liveness) → live_at_row r a ≡ Some l → (atom_end a ≡ live_end l) × (atom_at a ≡ live_at l)
live_of r (Live _ m) l e = (ap live_end (given _ m l e), ap live_at (given _ m l e))
live_of r (PartitionDeletion _) l e = no_none l e
live_of r (RangeDeletion _ _ _) l e = no_none l e
live_of r (RowDeletion _ _) l e = no_none l e
live_of r (CollectionDeletion _ _ _) l e = no_none l e
live_of r (Write _ _ _ _) l e = no_none l e
live_of r (StaticWrite _ _ _) l e = no_none l e
live_of r (StaticCollectionDeletion _ _) l e = no_none l e

cell_of : (x : Coordinate) (a : Atom) (v : Cell) → cell_at_path x a ≡ Some v → (atom_end a ≡ cell_end v) × (atom_at a ≡ cell_at v)
cell_of x (Write _ _ _ w) v e = (ap cell_end (given _ w v e), ap cell_at (given _ w v e))
cell_of x (StaticWrite _ _ w) v e = (ap cell_end (given _ w v e), ap cell_at (given _ w v e))
cell_of x (PartitionDeletion _) v e = no_none v e
cell_of x (RangeDeletion _ _ _) v e = no_none v e
cell_of x (RowDeletion _ _) v e = no_none v e
cell_of x (CollectionDeletion _ _ _) v e = no_none v e
cell_of x (Live _ _) v e = no_none v e
cell_of x (StaticCollectionDeletion _ _) v e = no_none v e

-- ---- what went was dead, and isn't later than the mark

is_over : (before floor end : ℤ) → before ≤ℤ floor → int_lt end before ≡ true → int_lt floor end ≡ false
is_over before floor end h e = grind (arith, ints)

not_late : (mark at : ℤ) → at ≤ℤ mark → int_lt mark at ≡ false
not_late mark at h = grind (arith, ints)

live_over : (before floor : ℤ) → before ≤ℤ floor → (l : Liveness) → ends_before before (live_end l) ≡ true → live_lives floor l ≡ false
live_over before floor h (live.Plain at) e = absurd (true≢false (sym e))
live_over before floor h (live.Expiring at expiry ttl) e = is_over before floor expiry h e

cell_over : (before floor : ℤ) → before ≤ℤ floor → (v : Cell) → ends_before before (cell_end v) ≡ true → cell_lives floor v ≡ false
cell_over before floor h (cell.Plain at value) e = absurd (true≢false (sym e))
cell_over before floor h (cell.Expiring at expiry ttl value) e = is_over before floor expiry h e
cell_over before floor h (cell.Tombstone at second) e = refl

neither : (a b : Bool) → a ≡ false → b ≡ false → (a || b) ≡ false
neither true b e f = absurd (true≢false e)
neither false b e f = f

goes : (b : Bool) → not b ≡ false → b ≡ true
goes true e = refl
goes false e = absurd (true≢false e)

pub purge_is_same_above : PurgeIsSameAbove
purge_is_same_above before limit mark floor A win later early =
    let P : Atom → Type 0 = λ a. droppable before limit a ≡ true → atom_at a ≤ℤ mark in
    record {
      covers = λ x.
          same_late (deletion_at x) (stays before limit) mark P
          (λ a d p i e. not_late mark d.at (subst (λ t. t ≤ℤ mark) (sym (deletion_of x a d e)) (p (goes (droppable before limit a) i)))) A early;
      lives = λ r.
          same_lasting live_laws.orders live_laws.by_time (live_at_row r) (row r) (stays before limit) A P (λ l. is_late (Some mark) (live_at l) || live_lives floor l) early (win.lives r)
          (λ a l p i e.
          let (end, time) = live_of r a l e in
          let dropped : droppable before limit a ≡ true = goes (droppable before limit a) i in
          neither (is_late (Some mark) (live_at l)) (live_lives floor l) (not_late mark (live_at l) (subst (λ t. t ≤ℤ mark) time (p dropped)))
          (live_over before floor later l (ap (ends_before before) (sym end) ∙ (both_hold (ends_before before (atom_end a)) (int_lt (atom_at a) limit) dropped).0)));
      cells = λ x.
          same_lasting cell_laws.orders cell_laws.by_time (cell_at_path x) x (stays before limit) A P (λ v. is_late (Some mark) (cell_at v) || cell_lives floor v) early (win.cells x)
          (λ a v p i e.
          let (end, time) = cell_of x a v e in
          let dropped : droppable before limit a ≡ true = goes (droppable before limit a) i in
          neither (is_late (Some mark) (cell_at v)) (cell_lives floor v) (not_late mark (cell_at v) (subst (λ t. t ≤ℤ mark) time (p dropped)))
          (cell_over before floor later v (ap (ends_before before) (sym end) ∙ (both_hold (ends_before before (atom_end a)) (int_lt (atom_at a) limit) dropped).0)));
    }

-- ---- answers

below_limit : (at limit : ℤ) → int_lt at limit ≡ true → at ≤ℤ (limit -ℤ pos 1)
below_limit at limit e = grind (arith, ints)

above_limit : (at limit : ℤ) → limit ≤ℤ at → int_lt (limit -ℤ pos 1) at ≡ true
above_limit at limit h = grind (arith, ints)

no_earlier : (z : ℤ) → z ≤ℤ z
no_earlier z = grind (arith, ints)

each_so : {X : Type 0} (P Q : X → Type 0) → ((x : X) → P x → Q x) → (xs : List X) → AllByRecursion P xs → AllByRecursion Q xs
each_so P Q h [] all = tt
each_so P Q h (x ∷ xs) all = (h x all.0, each_so P Q h xs all.1)

each : {X : Type 0} (P : X → Type 0) → ((x : X) → P x) → (xs : List X) → AllByRecursion P xs
each P h [] = tt
each P h (x ∷ xs) = (h x, each P h xs)

pub purge_keeps_answers : PurgeKeepsAnswers
purge_keeps_answers before limit A elsewhere win apart q now later =
    let mark : ℤ = limit -ℤ pos 1 in
    let B : List Atom = filter (stays before limit) A in
    let above : AllAbove (Some mark) elsewhere = All-from_recursion (λ a. is_late (Some mark) (atom_at a) ≡ true) elsewhere
    (each_so (λ a. limit ≤ℤ atom_at a) (λ a. is_late (Some mark) (atom_at a) ≡ true) (λ a h. above_limit (atom_at a) limit h) elsewhere apart) in
    let same : SameAbove (Some mark) before A B = purge_is_same_above before limit mark before A win (no_earlier before)
    (each (λ a. droppable before limit a ≡ true → atom_at a ≤ℤ mark) (λ a e. below_limit (atom_at a) limit (both_hold (ends_before before (atom_end a)) (int_lt (atom_at a) limit) e).1) A) in
    sym (same_above_laws.answers (Some mark) before (A ++ elsewhere) (B ++ elsewhere) (same_above_laws.kept (Some mark) before A B elsewhere above same) q now later)
