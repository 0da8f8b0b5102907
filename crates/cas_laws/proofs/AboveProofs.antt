-- What is the same above a mark and a floor: what is later can be added, it chains, and from the floor on it answers alike.
use Rattle.std.proofs.Common.{◌≡◌, ℕ, ℤ, ◌≤ℤ◌, ◌<ℤ◌, Bool, true, false, cond, ◌||◌, Option, None, Some, List, [], ◌∷◌, ◌++◌, inl, inr, refl, sym, ap, ◌∙◌, arith}
use Rattle.std.specs.Prelude.{int_le, int_lt}
use Rattle.std.specs.Bool.{then_some}
use Rattle.std.specs.Option.{unwrap_or}
use Rattle.std.proofs.lemmas.Bool.{true≢false}
use Rattle.std.proofs.lemmas.Int.{ints}
use Rattle.std.proofs.lemmas.List.Elements.{All-head, All-tail}
use Rattle.std.specs.declared.cmp.Ordering.{Ordering}
use Rattle.std.specs.Ordering.{is_lt}
use Rattle.cas_types.specs.Orders.{Orders}
use Rattle.cas_cell.specs.Deletions.{deletion_cmp, covered}
use Rattle.cas_cell.specs.Lives.{live_at, live_lives}
use Rattle.cas_cell.specs.Cells.{cell_at, cell_lives}
use Rattle.cas_cell.specs.Laws.{ByTime}
use Rattle.cas_cell.specs.declared.deletion.Deletion.{Deletion}
use Rattle.cas_cell.specs.declared.liveness.Liveness.{Liveness}
use Rattle.cas_cell.specs.declared.liveness.Liveness.TheVariants as live
use Rattle.cas_cell.specs.declared.cell.Cell.{Cell}
use Rattle.cas_cell.specs.declared.cell.Cell.TheVariants as cell
use Rattle.cas_cell.proofs.OrderLaws.{deletion_laws, live_laws, cell_laws}
use Rattle.cas_atoms.specs.Greatest.{greater, greatest}
use Rattle.cas_atoms.specs.Coordinates.{Coordinate, RowKey, row, deletion_at, live_at_row, cell_at_path, atom_at}
use Rattle.cas_atoms.specs.Winners.{cover, standing, live_winner, cell_winner}
use Rattle.cas_atoms.specs.Picks.{living}
use Rattle.cas_atoms.specs.Answers.{is_living}
use Rattle.cas_atoms.specs.declared.atom.Atom.{Atom}
use Rattle.cas_atoms.specs.declared.atom.Atom.TheVariants.{PartitionDeletion, RangeDeletion, RowDeletion, CollectionDeletion, Live, Write, StaticWrite, StaticCollectionDeletion}
use Rattle.cas_atoms.proofs.GreatestLemmas.{greater_none}
use Rattle.cas_laws.specs.Given.{Gives}
use Rattle.cas_laws.specs.Inside.{is_in, AliveWhere}
use Rattle.cas_laws.specs.Above.{is_late, AllAbove, only, unmarked, lasting_live, lasting_cell, SameAbove, later, later_mark}
use Rattle.cas_laws.specs.Laws.{SameAboveLaws}
use Rattle.cas_laws.proofs.GreatestProofs.{no_none, Gives-greatest}
use Rattle.cas_laws.proofs.JoinProofs.{cover_joins, winner_joins}
use Rattle.cas_laws.proofs.AliveProofs.{alive_answer}

-- ---- what is late

earlier : (m : Option ℤ) (a b : ℤ) → is_late m a ≡ false → is_late m b ≡ true → a <ℤ b
earlier None a b e f = absurd (true≢false e)
earlier (Some m) a b e f = before m a b e f
  where
    before : (m a b : ℤ) → int_lt m a ≡ false → int_lt m b ≡ true → a <ℤ b
    before m a b e f = grind (arith, ints)

uncovered : (a b : ℤ) → a <ℤ b → int_le b a ≡ false
uncovered a b h = grind (arith, ints)

-- it is late, where it is there
abbrev Late : {Y : Type 0} → (Y → ℤ) → Option ℤ → Option Y → Type 0
Late at mark None = Unit {0}
Late at mark (Some y) = is_late mark (at y) ≡ true

module _ {Y : Type 0} (at : Y → ℤ) (mark : Option ℤ) where
  -- what isn't late covers nothing that is
  early_free : (d : Option Deletion) (v : Option Y) → Late at mark v → standing at d v ≡ standing at (unmarked mark d) v
  early_free None v late = refl
  early_free (Some d) None late =
      elim (is_late mark d.at) as (λ b. None ≡ standing at (cond b (Some d) None) None) [
        | true ↦ refl
        | false ↦ refl
      ]
  early_free (Some d) (Some z) late =
      elim (is_late mark d.at) as (λ b. is_late mark d.at ≡ b → standing at (Some d) (Some z) ≡ standing at (cond b (Some d) None) (Some z)) [
        | true ↦ λ e. refl
        | false ↦ λ e. ap (λ b. cond b None (Some z)) (uncovered d.at (at z) (earlier mark d.at (at z) e late))
      ] refl

  late_standing : (d : Option Deletion) (v : Option Y) → Late at mark v → Late at mark (standing at d v)
  late_standing None v late = late
  late_standing (Some d) None late = tt
  late_standing (Some d) (Some z) late =
      elim (covered d (at z)) as (λ b. Late at mark (cond b None (Some z))) [
        | true ↦ tt
        | false ↦ late
      ]

  -- the test and the deletion take what they take in either order
  commute : (passes : Y → Bool) (d : Option Deletion) (w : Option Y) → only passes (standing at d w) ≡ standing at d (only passes w)
  commute passes None w = refl
  commute passes (Some d) None = refl
  commute passes (Some d) (Some y) =
      let G : Bool → Bool → Type 0 = λ a b. only passes (cond a None (Some y)) ≡ standing at (Some d) (cond b (Some y) None) in
      elim (covered d (at y)) as (λ a. covered d (at y) ≡ a → G a (passes y)) [
        | true ↦ λ e. elim (passes y) as (λ b. G true b) [
          | true ↦ sym (ap (λ a. cond a None (Some y)) e)
          | false ↦ refl
        ]
        | false ↦ λ e. elim (passes y) as (λ b. passes y ≡ b → G false b) [
          | true ↦ λ f. ap (λ b. cond b (Some y) None) f ∙ sym (ap (λ a. cond a None (Some y)) e)
          | false ↦ λ f. ap (λ b. cond b (Some y) None) f
        ] refl
      ] refl

  module _ {cmp : Y → Y → Ordering} (o : Orders cmp) (t : ByTime cmp at) (passes : Y → Bool) (each : (y : Y) → is_late mark (at y) ≡ true → passes y ≡ true) where
    -- beside something late, what doesn't pass makes no difference
    only_greater : (s v : Option Y) → Late at mark v → only passes (greater cmp s v) ≡ greater cmp (only passes s) v
    only_greater None None late = refl
    only_greater None (Some z) late = ap (λ b. cond b (Some z) None) (each z late)
    only_greater (Some y) None late = sym (greater_none o (only passes (Some y)))
    only_greater (Some y) (Some z) late =
        elim (passes y) as (λ b. passes y ≡ b → only passes (Some (cond (is_lt (cmp y z)) z y)) ≡ greater cmp (cond b (Some y) None) (Some z)) [
          | true ↦ λ e. elim (is_lt (cmp y z)) as (λ l. only passes (Some (cond l z y)) ≡ Some (cond l z y)) [
            | true ↦ ap (λ b. cond b (Some z) None) (each z late)
            | false ↦ ap (λ b. cond b (Some y) None) e
          ]
          | false ↦ λ e.
              ap (λ l. only passes (Some (cond l z y))) (ap is_lt (t.earlier y z (earlier mark (at y) (at z) (not_late e) late)))
              ∙ ap (λ b. cond b (Some z) None) (each z late)
        ] refl
      where
        not_late : passes y ≡ false → is_late mark (at y) ≡ false
        not_late e =
            elim (is_late mark (at y)) as (λ b. is_late mark (at y) ≡ b → b ≡ false) [
              | true ↦ λ l. absurd (true≢false (sym (each y l) ∙ e))
              | false ↦ λ l. refl
            ] refl

-- ---- what an atom gives has the atom's timestamp

some_is : {Y : Type 0} (x y : Y) → Some x ≡ Some y → x ≡ y
some_is x y e = ap (λ w. unwrap_or w x) e

then_given : {Y : Type 0} (b : Bool) (x y : Y) → then_some b x ≡ Some y → x ≡ y
then_given true x y e = some_is x y e
then_given false x y e = no_none y e

stands_given : {Y : Type 0} (at : Y → ℤ) (d : Option Deletion) (w : Option Y) (y : Y) → standing at d w ≡ Some y → w ≡ Some y
stands_given at None w y e = e
stands_given at (Some d) None y e = no_none y e
stands_given at (Some d) (Some x) y e = chosen (covered d (at x)) e
  where
    chosen : (b : Bool) → cond b None (Some x) ≡ Some y → Some x ≡ Some y
    chosen true e = no_none y e
    chosen false e = e

deletion_time : (x : Coordinate) (a : Atom) (d : Deletion) → deletion_at x a ≡ Some d → d.at ≡ atom_at a
deletion_time x (PartitionDeletion c) d e = ap (λ d. d.at) (sym (some_is c d e))
deletion_time x (RangeDeletion _ _ c) d e = ap (λ d. d.at) (sym (then_given _ c d e))
deletion_time x (RowDeletion _ c) d e = ap (λ d. d.at) (sym (then_given _ c d e))
deletion_time x (CollectionDeletion _ _ c) d e = ap (λ d. d.at) (sym (then_given _ c d e))
deletion_time x (Live _ _) d e = no_none d e
deletion_time x (Write _ _ _ _) d e = no_none d e
deletion_time x (StaticWrite _ _ _) d e = no_none d e
deletion_time x (StaticCollectionDeletion _ c) d e = ap (λ d. d.at) (sym (then_given _ c d e))

live_time : (r : List (List ℕ)) (a : Atom) (l : Liveness) → live_at_row r a ≡ Some l → live_at l ≡ atom_at a
live_time r (Live c m) l e = ap live_at (sym (then_given _ m l e))
live_time r (PartitionDeletion _) l e = no_none l e
live_time r (RangeDeletion _ _ _) l e = no_none l e
live_time r (RowDeletion _ _) l e = no_none l e
live_time r (CollectionDeletion _ _ _) l e = no_none l e
live_time r (Write _ _ _ _) l e = no_none l e
live_time r (StaticWrite _ _ _) l e = no_none l e
live_time r (StaticCollectionDeletion _ _) l e = no_none l e

cell_time : (x : Coordinate) (a : Atom) (w : Cell) → cell_at_path x a ≡ Some w → cell_at w ≡ atom_at a
cell_time x (Write _ _ _ v) w e = ap cell_at (sym (then_given _ v w e))
cell_time x (StaticWrite _ _ v) w e = ap cell_at (sym (then_given _ v w e))
cell_time x (PartitionDeletion _) w e = no_none w e
cell_time x (RangeDeletion _ _ _) w e = no_none w e
cell_time x (RowDeletion _ _) w e = no_none w e
cell_time x (CollectionDeletion _ _ _) w e = no_none w e
cell_time x (Live _ _) w e = no_none w e
cell_time x (StaticCollectionDeletion _ _) w e = no_none w e

module _ {Y : Type 0} (cmp : Y → Y → Ordering) (at : Y → ℤ) (mark : Option ℤ) (f : Atom → Option Y) (times : (a : Atom) (y : Y) → f a ≡ Some y → at y ≡ atom_at a) where
  late_given : (C : List Atom) (y : Y) → AllAbove mark C → Gives f C y → is_late mark (at y) ≡ true
  late_given [] y all none = absurd none
  late_given (a ∷ C) y all (inl e) = ap (is_late mark) (times a y e) ∙ All-head (λ a. is_late mark (atom_at a) ≡ true) a C all
  late_given (a ∷ C) y all (inr i) = late_given C y (All-tail (λ a. is_late mark (atom_at a) ≡ true) a C all) i

  late_greatest : (C : List Atom) → AllAbove mark C → Late at mark (greatest cmp f C)
  late_greatest C all =
      elim (greatest cmp f C) as (λ w. greatest cmp f C ≡ w → Late at mark w) [
        | None ↦ λ e. tt
        | Some y ↦ λ e. late_given C y all (Gives-greatest cmp f C y e)
      ] refl

-- ---- something late is added

module _ {Y : Type 0} {cmp : Y → Y → Ordering} {at : Y → ℤ} (o : Orders cmp) (t : ByTime cmp at) (f : Atom → Option Y) (times : (a : Atom) (y : Y) → f a ≡ Some y → at y ≡ atom_at a) (x : Coordinate)
    (mark : Option ℤ) (passes : Y → Bool) (each : (y : Y) → is_late mark (at y) ≡ true → passes y ≡ true) (C : List Atom) (all : AllAbove mark C) where
  wins : List Atom → Option Y
  wins A = greatest cmp (λ a. standing at (cover A x) (f a)) A

  wins_late : Late at mark (wins C)
  unfolding wins
  wins_late = late_greatest cmp at mark (λ a. standing at (cover C x) (f a)) (λ a y e. times a y (stands_given at (cover C x) (f a) y e)) C all

  added : (A : List Atom) → only passes (greatest cmp (λ a. standing at (cover (A ++ C) x) (f a)) (A ++ C))
      ≡ greater cmp (standing at (cover C x) (only passes (wins A))) (standing at (unmarked mark (cover A x)) (wins C))
  unfolding wins
  added A =
      ap (only passes) (winner_joins o t f x A C)
      ∙ only_greater at mark o t passes each (standing at (cover C x) (wins A)) (standing at (cover A x) (wins C)) (late_standing at mark (cover A x) (wins C) wins_late)
      ∙ (λ i. greater cmp (commute at mark passes (cover C x) (wins A) i) (early_free at mark (cover A x) (wins C) wins_late i))

  added_alike : (A B : List Atom) → unmarked mark (cover A x) ≡ unmarked mark (cover B x)
      → only passes (greatest cmp (λ a. standing at (cover A x) (f a)) A) ≡ only passes (greatest cmp (λ a. standing at (cover B x) (f a)) B)
      → only passes (greatest cmp (λ a. standing at (cover (A ++ C) x) (f a)) (A ++ C)) ≡ only passes (greatest cmp (λ a. standing at (cover (B ++ C) x) (f a)) (B ++ C))
  unfolding wins
  added_alike A B c w = added A ∙ (λ i. greater cmp (standing at (cover C x) (w i)) (standing at (c i) (wins C))) ∙ sym (added B)

or_first : (b c : Bool) → b ≡ true → (b || c) ≡ true
or_first true c e = refl
or_first false c e = absurd (true≢false (sym e))

covers_added : (mark : Option ℤ) (A B C : List Atom) (x : Coordinate) → AllAbove mark C → unmarked mark (cover A x) ≡ unmarked mark (cover B x) → unmarked mark (cover (A ++ C) x) ≡ unmarked mark (cover (B ++ C) x)
covers_added mark A B C x all e = one A ∙ ap (λ d. greater deletion_cmp d (cover C x)) e ∙ sym (one B)
  where
    one : (A : List Atom) → unmarked mark (cover (A ++ C) x) ≡ greater deletion_cmp (unmarked mark (cover A x)) (cover C x)
    one A =
        ap (unmarked mark) (cover_joins A C x)
        ∙ only_greater (λ d. d.at) mark deletion_laws.orders deletion_laws.by_time (λ d. is_late mark d.at) (λ d l. l) (cover A x) (cover C x)
        (late_greatest deletion_cmp (λ d. d.at) mark (deletion_at x) (deletion_time x) C all)

-- ---- a test that passes less

module _ {Y : Type 0} (p q : Y → Bool) (less : (y : Y) → q y ≡ true → p y ≡ true) where
  only_less : (w : Option Y) → only q w ≡ only q (only p w)
  only_less None = refl
  only_less (Some y) =
      elim (p y) as (λ b. p y ≡ b → only q (Some y) ≡ only q (cond b (Some y) None)) [
        | true ↦ λ e. refl
        | false ↦ λ e. ap (λ b. cond b (Some y) None) (not_either e)
      ] refl
    where
      not_either : p y ≡ false → q y ≡ false
      not_either e =
          elim (q y) as (λ b. q y ≡ b → b ≡ false) [
            | true ↦ λ f. absurd (true≢false (sym (less y f) ∙ e))
            | false ↦ λ f. refl
          ] refl

  only_alike : (v w : Option Y) → only p v ≡ only p w → only q v ≡ only q w
  only_alike v w e = only_less v ∙ ap (only q) e ∙ sym (only_less w)

first_late : (m n : Option ℤ) (t : ℤ) → is_late (later_mark m n) t ≡ true → is_late m t ≡ true
first_late None n t e = refl
first_late (Some m) None t e = e
first_late (Some m) (Some n) t e = one m n t (int_le m n) refl e
  where
    one : (m n t : ℤ) (b : Bool) → int_le m n ≡ b → int_lt (cond b n m) t ≡ true → int_lt m t ≡ true
    one m n t true h e = grind (arith, ints)
    one m n t false h e = e

second_late : (m n : Option ℤ) (t : ℤ) → is_late (later_mark m n) t ≡ true → is_late n t ≡ true
second_late None n t e = e
second_late (Some m) None t e = refl
second_late (Some m) (Some n) t e = one m n t (int_le m n) refl e
  where
    one : (m n t : ℤ) (b : Bool) → int_le m n ≡ b → int_lt (cond b n m) t ≡ true → int_lt n t ≡ true
    one m n t true h e = e
    one m n t false h e = grind (arith, ints)

first_floor : (f g : ℤ) → f ≤ℤ later f g
first_floor f g = one (int_le f g) refl
  where
    one : (b : Bool) → int_le f g ≡ b → f ≤ℤ cond b g f
    one true h = grind (arith, ints)
    one false h = grind (arith, ints)

second_floor : (f g : ℤ) → g ≤ℤ later f g
second_floor f g = one (int_le f g) refl
  where
    one : (b : Bool) → int_le f g ≡ b → g ≤ℤ cond b g f
    one true h = grind (arith, ints)
    one false h = grind (arith, ints)

still : (f g e : ℤ) → f ≤ℤ g → int_lt g e ≡ true → int_lt f e ≡ true
still f g e h l = grind (arith, ints)

live_before : (f g : ℤ) → f ≤ℤ g → (l : Liveness) → live_lives g l ≡ true → live_lives f l ≡ true
live_before f g h (live.Plain at) e = refl
live_before f g h (live.Expiring at expiry ttl) e = still f g expiry h e

cell_before : (f g : ℤ) → f ≤ℤ g → (c : Cell) → cell_lives g c ≡ true → cell_lives f c ≡ true
cell_before f g h (cell.Plain at value) e = refl
cell_before f g h (cell.Expiring at expiry ttl value) e = still f g expiry h e
cell_before f g h (cell.Tombstone at second) e = e

or_less : (a b c d : Bool) → (a ≡ true → c ≡ true) → (b ≡ true → d ≡ true) → (a || b) ≡ true → (c || d) ≡ true
or_less true b c d f g e = or_first c d (f refl)
or_less false true c d f g e = ap (λ x. c || x) (g refl) ∙ or_true c
  where
    or_true : (c : Bool) → (c || true) ≡ true
    or_true true = refl
    or_true false = refl
or_less false false c d f g e = absurd (true≢false (sym e))

-- a later mark and a later floor let fewer pass
module _ (m n : Option ℤ) (f g : ℤ) (late : (t : ℤ) → is_late n t ≡ true → is_late m t ≡ true) (h : f ≤ℤ g) where
  wider : (A B : List Atom) → SameAbove m f A B → SameAbove n g A B
  wider A B same = record {
    covers = λ x. only_alike (λ d. is_late m d.at) (λ d. is_late n d.at) (λ d e. late d.at e) (cover A x) (cover B x) (same.covers x);
    lives = λ r. only_alike (λ l. is_late m (live_at l) || live_lives f l) (λ l. is_late n (live_at l) || live_lives g l)
        (λ l. or_less (is_late n (live_at l)) (live_lives g l) (is_late m (live_at l)) (live_lives f l) (late (live_at l)) (live_before f g h l))
        (live_winner A r) (live_winner B r) (same.lives r);
    cells = λ x. only_alike (λ c. is_late m (cell_at c) || cell_lives f c) (λ c. is_late n (cell_at c) || cell_lives g c)
        (λ c. or_less (is_late n (cell_at c)) (cell_lives g c) (is_late m (cell_at c)) (cell_lives f c) (late (cell_at c)) (cell_before f g h c))
        (cell_winner A x) (cell_winner B x) (same.cells x);
  }

-- ---- what is alive from the floor on

or_none : (a b : Bool) → (a || b) ≡ false → b ≡ false
or_none true b e = absurd (true≢false e)
or_none false b e = e

module _ (mark : Option ℤ) (floor now : ℤ) (h : floor ≤ℤ now) where
  living_lasts : (c : Option Cell) → living now c ≡ living now (lasting_cell mark floor c)
  living_lasts None = refl
  living_lasts (Some c) =
      elim (is_late mark (cell_at c) || cell_lives floor c) as (λ b. (is_late mark (cell_at c) || cell_lives floor c) ≡ b → then_some (cell_lives now c) c ≡ living now (cond b (Some c) None)) [
        | true ↦ λ e. refl
        | false ↦ λ e. ap (λ b. then_some b c) (dead (or_none (is_late mark (cell_at c)) (cell_lives floor c) e))
      ] refl
    where
      dead : cell_lives floor c ≡ false → cell_lives now c ≡ false
      dead e =
          elim (cell_lives now c) as (λ b. cell_lives now c ≡ b → b ≡ false) [
            | true ↦ λ l. absurd (true≢false (sym (cell_before floor now h c l) ∙ e))
            | false ↦ λ l. refl
          ] refl

  is_living_lasts : (l : Option Liveness) → is_living now l ≡ is_living now (lasting_live mark floor l)
  is_living_lasts None = refl
  is_living_lasts (Some l) =
      elim (is_late mark (live_at l) || live_lives floor l) as (λ b. (is_late mark (live_at l) || live_lives floor l) ≡ b → live_lives now l ≡ is_living now (cond b (Some l) None)) [
        | true ↦ λ e. refl
        | false ↦ λ e. dead (or_none (is_late mark (live_at l)) (live_lives floor l) e)
      ] refl
    where
      dead : live_lives floor l ≡ false → live_lives now l ≡ false
      dead e =
          elim (live_lives now l) as (λ b. live_lives now l ≡ b → b ≡ false) [
            | true ↦ λ f. absurd (true≢false (sym (live_before floor now h l f) ∙ e))
            | false ↦ λ f. refl
          ] refl

  alive_above : (inside : RowKey → Bool) (A B : List Atom) → SameAbove mark floor A B → AliveWhere inside now A B
  alive_above inside A B same = record {
    lives = λ r e. is_living_lasts (live_winner A r) ∙ ap (is_living now) (same.lives r) ∙ sym (is_living_lasts (live_winner B r));
    cells = λ x e. living_lasts (cell_winner A x) ∙ ap (living now) (same.cells x) ∙ sym (living_lasts (cell_winner B x));
  }

-- ---- no mark

all_pass : {Y : Type 0} (w : Option Y) → only (λ _. true) w ≡ w
all_pass None = refl
all_pass (Some y) = refl

chain_above : (mark next : Option ℤ) (floor above : ℤ) (A B C : List Atom) → SameAbove mark floor A B → SameAbove next above B C → SameAbove (later_mark mark next) (later floor above) A C
chain_above mark next floor above A B C s u =
    let first = wider mark (later_mark mark next) floor (later floor above) (first_late mark next) (first_floor floor above) A B s in
    let second = wider next (later_mark mark next) above (later floor above) (second_late mark next) (second_floor floor above) B C u in
    record {
      covers = λ x. first.covers x ∙ second.covers x;
      lives = λ r. first.lives r ∙ second.lives r;
      cells = λ x. first.cells x ∙ second.cells x;
    }

pub same_above_laws : SameAboveLaws
same_above_laws = record {
  none = λ floor A B. (
    λ same. record {
      covers = λ x. sym (all_pass (cover A x)) ∙ same.covers x ∙ all_pass (cover B x);
      lives = λ r. sym (all_pass (live_winner A r)) ∙ same.lives r ∙ all_pass (live_winner B r);
      cells = λ x. sym (all_pass (cell_winner A x)) ∙ same.cells x ∙ all_pass (cell_winner B x);
    },
    λ same. record {
      covers = λ x. ap (unmarked None) (same.covers x);
      lives = λ r. ap (lasting_live None floor) (same.lives r);
      cells = λ x. ap (lasting_cell None floor) (same.cells x);
    },
  );
  kept = λ mark floor A B C all same. record {
    covers = λ x. covers_added mark A B C x all (same.covers x);
    lives = λ r. added_alike live_laws.orders live_laws.by_time (live_at_row r) (live_time r) (row r) mark (λ l. is_late mark (live_at l) || live_lives floor l)
        (λ l. or_first (is_late mark (live_at l)) (live_lives floor l)) C all A B (same.covers (row r)) (same.lives r);
    cells = λ x. added_alike cell_laws.orders cell_laws.by_time (cell_at_path x) (cell_time x) x mark (λ c. is_late mark (cell_at c) || cell_lives floor c)
        (λ c. or_first (is_late mark (cell_at c)) (cell_lives floor c)) C all A B (same.covers x) (same.cells x);
  };
  chained = chain_above;
  answers = λ mark floor A B same q now h. alive_answer q (alive_above mark floor now h (is_in q.slice) A B same);
}
