-- The laws of joined lists of atoms.
use Rattle.std.proofs.Common.{◌≡◌, ℤ, Bool, true, false, cond, Option, None, Some, List, [], ◌∷◌, ◌++◌, refl, sym, ap, ◌∙◌, ◌||◌, arith, append_assoc, ◌≤ℤ◌}
use Rattle.std.specs.Prelude.{int_le}
use Rattle.std.proofs.lemmas.Bool.{true≢false}
use Rattle.std.proofs.lemmas.Int.{ints}
use Rattle.std.specs.declared.cmp.Ordering.{Ordering}
use Rattle.std.specs.Ordering.{is_lt}
use Rattle.cas_types.specs.Orders.{Orders}
use Rattle.cas_cell.specs.Deletions.{deletion_cmp, covered}
use Rattle.cas_cell.specs.Laws.{ByTime}
use Rattle.cas_cell.specs.declared.deletion.Deletion.{Deletion}
use Rattle.cas_cell.proofs.OrderLaws.{deletion_laws, live_laws, cell_laws}
use Rattle.cas_atoms.specs.Greatest.{greater, greatest}
use Rattle.cas_atoms.specs.Coordinates.{Coordinate, row, deletion_at, live_at_row, cell_at_path}
use Rattle.cas_atoms.specs.Winners.{cover, standing, live_winner, cell_winner}
use Rattle.cas_laws.specs.Laws.{JoinLaws, Joined, SameWhereJoins}
use Rattle.cas_atoms.specs.declared.atom.Atom.{Atom}
use Rattle.cas_atoms.proofs.GreatestLemmas.{greater_none, greater_comm, greater_self, greatest-append}

covered_earlier : (d t u : ℤ) → u ≤ℤ t → int_le t d ≡ true → int_le u d ≡ true
covered_earlier d t u h c = grind (arith, ints)

deletion_orders : Orders deletion_cmp
deletion_orders = deletion_laws.orders

-- the tests of one deletion, at two writes of which the one below is covered where the other is
kept : {Y : Type 0} (a b : Bool) (x y : Y) (lt : Bool) → (lt ≡ true → b ≡ true → a ≡ true) → (lt ≡ false → a ≡ true → b ≡ true)
    → (cmp : Y → Y → Ordering) → is_lt (cmp x y) ≡ lt
    → cond (cond lt b a) None (Some (cond lt y x)) ≡ greater cmp (cond a None (Some x)) (cond b None (Some y))
kept true true x y true f g cmp e = refl
kept true false x y true f g cmp e = refl
kept false true x y true f g cmp e = absurd (true≢false (sym (f refl refl)))
kept false false x y true f g cmp e = rw e refl
kept true true x y false f g cmp e = refl
kept true false x y false f g cmp e = absurd (true≢false (sym (g refl refl)))
kept false true x y false f g cmp e = refl
kept false false x y false f g cmp e = rw e refl

cond_of : {A B : Type 0} (f : A → B) (b : Bool) (x y : A) → f (cond b x y) ≡ cond b (f x) (f y)
cond_of f true x y = refl
cond_of f false x y = refl

module _ {Y : Type 0} {cmp : Y → Y → Ordering} {at : Y → ℤ} (o : Orders cmp) (t : ByTime cmp at) where
  -- a deletion that covers the greater covers all
  pub standing-greater : (d : Option Deletion) (a b : Option Y) → standing at d (greater cmp a b) ≡ greater cmp (standing at d a) (standing at d b)
  standing-greater None a b = refl
  standing-greater (Some d) None b = refl
  standing-greater (Some d) (Some x) None = sym (greater_none o (cond (covered d (at x)) None (Some x)))
  standing-greater (Some d) (Some x) (Some y) =
      ap (λ v. cond v None (Some (cond (is_lt (cmp x y)) y x))) (cond_of (λ z. covered d (at z)) (is_lt (cmp x y)) y x)
      ∙ kept (covered d (at x)) (covered d (at y)) x y (is_lt (cmp x y)) (λ l c. covered_earlier d.at (at y) (at x) (t.below x y l) c) (λ l c. covered_earlier d.at (at x) (at y) (t.above x y l) c) cmp refl

  module _ {X : Type 0} (f : X → Option Y) where
    pub greatest-standing : (d : Option Deletion) (A : List X) → greatest cmp (λ a. standing at d (f a)) A ≡ standing at d (greatest cmp f A)
    greatest-standing None [] = refl
    greatest-standing (Some d) [] = refl
    greatest-standing d (a ∷ A) = ap (greater cmp (standing at d (f a))) (greatest-standing d A) ∙ sym (standing-greater d (f a) (greatest cmp f A))

wider : (d e t : ℤ) → e ≤ℤ d → int_le t e ≡ true → int_le t d ≡ true
wider d e t h c = grind (arith, ints)

-- what the later of two covers, one of them covers
either_covers : (d e t : ℤ) → d ≤ℤ e → int_le t e ≡ (int_le t d || int_le t e)
either_covers d e t h =
    elim (int_le t d) as (λ b. int_le t d ≡ b → int_le t e ≡ (b || int_le t e)) [
      | true ↦ λ c. wider e d t h c
      | false ↦ λ c. refl
    ] refl

either_way : (b c : Bool) → (b || c) ≡ (c || b)
either_way true true = refl
either_way true false = refl
either_way false true = refl
either_way false false = refl

pub greater_covers : (d e : Deletion) (t : ℤ) → covered (cond (is_lt (deletion_cmp d e)) e d) t ≡ (covered d t || covered e t)
greater_covers d e t =
    elim (is_lt (deletion_cmp d e)) as (λ b. is_lt (deletion_cmp d e) ≡ b → covered (cond b e d) t ≡ (covered d t || covered e t)) [
      | true ↦ λ l. either_covers d.at e.at t (deletion_laws.by_time.below d e l)
      | false ↦ λ l. either_covers e.at d.at t (deletion_laws.by_time.above d e l) ∙ either_way (covered e t) (covered d t)
    ] refl

module _ {Y : Type 0} (at : Y → ℤ) where
  two_tests : (e : Deletion) (y : Y) (p : Bool) → cond (p || covered e (at y)) None (Some y) ≡ standing at (Some e) (cond p None (Some y))
  two_tests e y true = refl
  two_tests e y false = refl

  -- what stands under the greater of two deletions stands under both
  pub standing_both : (d e : Option Deletion) (w : Option Y) → standing at (greater deletion_cmp d e) w ≡ standing at e (standing at d w)
  standing_both None None w = refl
  standing_both None (Some e) w = refl
  standing_both (Some d) None w = refl
  standing_both (Some d) (Some e) None = refl
  standing_both (Some d) (Some e) (Some y) = ap (λ b. cond b None (Some y)) (greater_covers d e (at y)) ∙ two_tests e y (covered d (at y))

-- the winner of two lists joined, by what covers and what wins in each
module _ {Y : Type 0} {cmp : Y → Y → Ordering} {at : Y → ℤ} (o : Orders cmp) (t : ByTime cmp at) (f : Atom → Option Y) (x : Coordinate) where
  pub winner_is : (A : List Atom) → greatest cmp (λ a. standing at (cover A x) (f a)) A ≡ standing at (cover A x) (greatest cmp f A)
  winner_is A = greatest-standing o t f (cover A x) A

  pub winner_joins : (A B : List Atom) → greatest cmp (λ a. standing at (cover (A ++ B) x) (f a)) (A ++ B)
      ≡ greater cmp (standing at (cover B x) (greatest cmp (λ a. standing at (cover A x) (f a)) A)) (standing at (cover A x) (greatest cmp (λ a. standing at (cover B x) (f a)) B))
  winner_joins A B =
      let a = cover A x in
      let b = cover B x in
      winner_is (A ++ B)
      ∙ (λ i. standing at (greatest-append deletion_orders (deletion_at x) A B i) (greatest-append o f A B i))
      ∙ standing-greater o t (greater deletion_cmp a b) (greatest cmp f A) (greatest cmp f B)
      ∙ (λ i. greater cmp
      ((standing_both at a b (greatest cmp f A) ∙ ap (standing at b) (sym (winner_is A))) i)
      ((ap (λ d. standing at d (greatest cmp f B)) (greater_comm deletion_orders a b) ∙ standing_both at b a (greatest cmp f B) ∙ ap (standing at a) (sym (winner_is B))) i))

  pub same_joined : (A B C D : List Atom) → cover A x ≡ cover B x → cover C x ≡ cover D x
      → greatest cmp (λ a. standing at (cover A x) (f a)) A ≡ greatest cmp (λ a. standing at (cover B x) (f a)) B
      → greatest cmp (λ a. standing at (cover C x) (f a)) C ≡ greatest cmp (λ a. standing at (cover D x) (f a)) D
      → greatest cmp (λ a. standing at (cover (A ++ C) x) (f a)) (A ++ C) ≡ greatest cmp (λ a. standing at (cover (B ++ D) x) (f a)) (B ++ D)
  same_joined A B C D c d w v = winner_joins A C ∙ (λ i. greater cmp (standing at (d i) (w i)) (standing at (c i) (v i))) ∙ sym (winner_joins B D)

  swapped : (A B : List Atom) → greatest cmp (λ a. standing at (cover (A ++ B) x) (f a)) (A ++ B) ≡ greatest cmp (λ a. standing at (cover (B ++ A) x) (f a)) (B ++ A)
  swapped A B = winner_joins A B ∙ greater_comm o (standing at (cover B x) (greatest cmp (λ a. standing at (cover A x) (f a)) A)) (standing at (cover A x) (greatest cmp (λ a. standing at (cover B x) (f a)) B)) ∙ sym (winner_joins B A)

  repeated : (A : List Atom) → greatest cmp (λ a. standing at (cover (A ++ A) x) (f a)) (A ++ A) ≡ greatest cmp (λ a. standing at (cover A x) (f a)) A
  repeated A =
      winner_is (A ++ A) ∙ (λ i. standing at ((greatest-append deletion_orders (deletion_at x) A A ∙ greater_self deletion_orders (cover A x)) i) ((greatest-append o f A A ∙ greater_self o (greatest cmp f A)) i)) ∙ sym (winner_is A)

pub cover_joins : (A B : List Atom) (x : Coordinate) → cover (A ++ B) x ≡ greater deletion_cmp (cover A x) (cover B x)
cover_joins A B x = greatest-append deletion_orders (deletion_at x) A B

pub joined : Joined
joined = record {
  covers = cover_joins;
  lives = λ A B r. winner_joins live_laws.orders live_laws.by_time (live_at_row r) (row r) A B;
  cells = λ A B x. winner_joins cell_laws.orders cell_laws.by_time (cell_at_path x) x A B;
}

pub same_where_joins : SameWhereJoins
same_where_joins inside A B C D h k = record {
  covers = λ x e. cover_joins A C x ∙ (λ i. greater deletion_cmp (h.covers x e i) (k.covers x e i)) ∙ sym (cover_joins B D x);
  lives = λ r e. same_joined live_laws.orders live_laws.by_time (live_at_row r) (row r) A B C D (h.covers (row r) e) (k.covers (row r) e) (h.lives r e) (k.lives r e);
  cells = λ x e. same_joined cell_laws.orders cell_laws.by_time (cell_at_path x) x A B C D (h.covers x e) (k.covers x e) (h.cells x e) (k.cells x e);
}

pub join_laws : JoinLaws
join_laws = record {
  swapped = λ A B. record {
    covers = λ x. cover_joins A B x ∙ greater_comm deletion_orders (cover A x) (cover B x) ∙ sym (cover_joins B A x);
    lives = λ r. swapped live_laws.orders live_laws.by_time (live_at_row r) (row r) A B;
    cells = λ x. swapped cell_laws.orders cell_laws.by_time (cell_at_path x) x A B;
  };
  repeated = λ A. record {
    covers = λ x. cover_joins A A x ∙ greater_self deletion_orders (cover A x);
    lives = λ r. repeated live_laws.orders live_laws.by_time (live_at_row r) (row r) A;
    cells = λ x. repeated cell_laws.orders cell_laws.by_time (cell_at_path x) x A;
  };
  regrouped = λ A B C. record {
    covers = λ x. ap (λ L. cover L x) (append_assoc A B C);
    lives = λ r. ap (λ L. live_winner L r) (append_assoc A B C);
    cells = λ x. ap (λ L. cell_winner L x) (append_assoc A B C);
  };
  kept = λ A B C same. record {
    covers = λ x. cover_joins A C x ∙ ap (λ d. greater deletion_cmp d (cover C x)) (same.covers x) ∙ sym (cover_joins B C x);
    lives = λ r. same_joined live_laws.orders live_laws.by_time (live_at_row r) (row r) A B C C (same.covers (row r)) refl (same.lives r) refl;
    cells = λ x. same_joined cell_laws.orders cell_laws.by_time (cell_at_path x) x A B C C (same.covers x) refl (same.cells x) refl;
  };
}
