-- `greater` is associative and commutative and forgets repeats, where only equal values tie.
use Rattle.std.proofs.Common.{◌≡◌, ℕ, ◌+◌, ◌<◌, Bool, true, false, cond, Option, None, Some, List, [], ◌∷◌, ◌++◌, length, take, get_or, refl, sym, ap, ◌∙◌}
use Rattle.std.proofs.lemmas.Bool.{true≢false}
use Rattle.std.proofs.lemmas.List.{take_more}
use Rattle.std.specs.declared.cmp.Ordering.{Ordering}
use Rattle.std.specs.declared.cmp.Ordering.TheVariants.{Less, Equal, Greater}
use Rattle.std.specs.Ordering.{is_lt, ordering_reverse}
use Rattle.std.specs.Cmp.{IsStrictWeakOrder}
use Rattle.std.proofs.lemmas.List.MinMax.{ranks_by}
use Rattle.cas_types.specs.Orders.{Orders}
use Rattle.cas_atoms.specs.Greatest.{greater, greatest}

abbrev larger : {Y : Type 0} → (Y → Y → Bool) → Y → Y → Y
larger lt x y = cond (lt x y) y x

module _ {Y : Type 0} (lt : Y → Y → Bool) (w : IsStrictWeakOrder lt) (same : (x y : Y) → lt x y ≡ false → lt y x ≡ false → x ≡ y) where
  pub chain_true : (x y z : Y) → lt x y ≡ true → lt y z ≡ true → lt x z ≡ true
  chain_true x y z p q =
      elim (lt x z) as (λ b. lt x z ≡ b → b ≡ true) [
        | true ↦ λ _. refl
        | false ↦ λ e. absurd (true≢false (sym p ∙ w.chain x z y e (w.one_way y z q)))
      ] refl

  larger_assoc : (x y z : Y) → larger lt (larger lt x y) z ≡ larger lt x (larger lt y z)
  larger_assoc x y z =
      let G : Type 0 = larger lt (larger lt x y) z ≡ larger lt x (larger lt y z) in
      elim (lt x y) as (λ b. lt x y ≡ b → G) [
        | true ↦ λ p. elim (lt y z) as (λ c. lt y z ≡ c → G) [
          | true ↦ λ q. rw (p, q, chain_true x y z p q) refl
          | false ↦ λ q. rw (p, q, p) refl
        ] refl
        | false ↦ λ p. elim (lt y z) as (λ c. lt y z ≡ c → G) [
          | true ↦ λ q. rw (p, q) refl
          | false ↦ λ q. rw (p, q, p, w.chain x y z p q) refl
        ] refl
      ] refl

  larger_comm : (x y : Y) → larger lt x y ≡ larger lt y x
  larger_comm x y =
      let G : Type 0 = larger lt x y ≡ larger lt y x in
      elim (lt x y) as (λ b. lt x y ≡ b → G) [
        | true ↦ λ p. rw (p, w.one_way x y p) refl
        | false ↦ λ p. elim (lt y x) as (λ c. lt y x ≡ c → G) [
          | true ↦ λ q. rw (p, q) refl
          | false ↦ λ q. rw (p, q) (same x y p q)
        ] refl
      ] refl

same_cond : {Y : Type 0} (b : Bool) (x : Y) → cond b x x ≡ x
same_cond true x = refl
same_cond false x = refl

tied : (r s : Ordering) → r ≡ ordering_reverse s → is_lt r ≡ false → is_lt s ≡ false → r ≡ Equal
tied Less s e p q = absurd (true≢false p)
tied Equal s e p q = refl
tied Greater Less e p q = absurd (true≢false q)
tied Greater Equal e p q = e
tied Greater Greater e p q = absurd (true≢false (ap is_lt (sym e)))

module _ {Y : Type 0} {cmp : Y → Y → Ordering} (o : Orders cmp) where
  lt : Y → Y → Bool
  lt x y = is_lt (cmp x y)

  pub weak : IsStrictWeakOrder (λ (x y : Y). is_lt (cmp x y))
  weak = ranks_by o.total (λ x. x)

  pub only_equal : (x y : Y) → is_lt (cmp x y) ≡ false → is_lt (cmp y x) ≡ false → x ≡ y
  only_equal x y p q = o.ties x y (tied (cmp x y) (cmp y x) (o.total.antisymm x y) p q)

  pub greater_assoc : (a b c : Option Y) → greater cmp (greater cmp a b) c ≡ greater cmp a (greater cmp b c)
  greater_assoc None b c = refl
  greater_assoc (Some x) None c = refl
  greater_assoc (Some x) (Some y) None = refl
  greater_assoc (Some x) (Some y) (Some z) = ap Some (larger_assoc (λ x y. is_lt (cmp x y)) weak only_equal x y z)

  pub greater_none : (a : Option Y) → greater cmp a None ≡ a
  greater_none None = refl
  greater_none (Some x) = refl

  pub greater_comm : (a b : Option Y) → greater cmp a b ≡ greater cmp b a
  greater_comm None b = sym (greater_none b)
  greater_comm (Some x) None = refl
  greater_comm (Some x) (Some y) = ap Some (larger_comm (λ x y. is_lt (cmp x y)) weak only_equal x y)

  pub greater_self : (a : Option Y) → greater cmp a a ≡ a
  greater_self None = refl
  greater_self (Some x) = ap Some (same_cond (is_lt (cmp x x)) x)

  module _ {X : Type 0} (f : X → Option Y) where
    pub greatest-append : (A B : List X) → greatest cmp f (A ++ B) ≡ greater cmp (greatest cmp f A) (greatest cmp f B)
    greatest-append [] B = refl
    greatest-append (a ∷ A) B = ap (greater cmp (f a)) (greatest-append A B) ∙ sym (greater_assoc (f a) (greatest cmp f A) (greatest cmp f B))

    -- a loop's step
    pub greatest_more : (A : List X) (i : ℕ) (x : X) → i < length A → x ≡ get_or A i x → greatest cmp f (take (i + 1) A) ≡ greater cmp (greatest cmp f (take i A)) (f x)
    greatest_more A i x h e =
        ap (greatest cmp f) (take_more A i x h ∙ ap (λ y. take i A ++ y ∷ []) (sym e)) ∙ greatest-append (take i A) (x ∷ []) ∙ ap (greater cmp (greatest cmp f (take i A))) (greater_none (f x))

    -- the same, from what a loop's calls ensure
    pub greatest_step : (A : List X) (i : ℕ) (x : X) (best next : Option Y) (y : Option Y) → i < length A → x ≡ get_or A i x → best ≡ greatest cmp f (take i A) → y ≡ f x → next ≡ greater cmp best y → next ≡ greatest cmp f (take (i + 1) A)
    greatest_step A i x best next y h e b g n =
        n ∙ ap (λ z. greater cmp z y) b ∙ ap (greater cmp (greatest cmp f (take i A))) g ∙ sym (greatest_more A i x h e)
