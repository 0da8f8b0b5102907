-- The greatest is told by which values are given.
use Rattle.std.proofs.Common.{◌≡◌, ◌↔◌, Bool, true, false, cond, Option, None, Some, is_some, List, [], ◌∷◌, ◌⊎◌, inl, inr, refl, sym, ap, ◌∙◌, subst}
use Rattle.std.proofs.lemmas.Bool.{true≢false}
use Rattle.std.specs.Option.{unwrap_or}
use Rattle.std.specs.declared.cmp.Ordering.{Ordering}
use Rattle.std.specs.Ordering.{is_lt}
use Rattle.std.proofs.lemmas.Cmp.{tied_itself}
use Rattle.cas_types.specs.Orders.{Orders}
use Rattle.cas_atoms.specs.Greatest.{greater, greatest}
use Rattle.cas_atoms.proofs.GreatestLemmas.{weak, only_equal}
use Rattle.cas_laws.specs.Given.{Gives, GiveAlike}
use Rattle.cas_laws.specs.Laws.{GreatestLaws}

pub no_none : {Y : Type 0} (y : Y) {G : Type 0} → None ≡ Some y → G
no_none y e = absurd (true≢false (sym (ap is_some e)))

pub either_greater : {Y : Type 0} (cmp : Y → Y → Ordering) (a b : Option Y) (y : Y) → greater cmp a b ≡ Some y → (a ≡ Some y) ⊎ (b ≡ Some y)
either_greater cmp None b y e = inr e
either_greater cmp (Some x) None y e = inl e
either_greater cmp (Some x) (Some z) y e = chosen (is_lt (cmp x z)) e
  where
    chosen : (b : Bool) → Some (cond b z x) ≡ Some y → (Some x ≡ Some y) ⊎ (Some z ≡ Some y)
    chosen true e = inr e
    chosen false e = inl e

-- the greatest is given by some element
pub Gives-greatest : {X Y : Type 0} (cmp : Y → Y → Ordering) (f : X → Option Y) (xs : List X) (y : Y) → greatest cmp f xs ≡ Some y → Gives f xs y
Gives-greatest cmp f [] y e = no_none y e
Gives-greatest cmp f (x ∷ xs) y e =
    elim (either_greater cmp (f x) (greatest cmp f xs) y e) [
      | inl first ↦ inl first
      | inr later ↦ inr (Gives-greatest cmp f xs y later)
    ]

module _ {Y : Type 0} {cmp : Y → Y → Ordering} (o : Orders cmp) where
  -- y isn't below z
  AtLeast : Y → Y → Type 0
  AtLeast y z = is_lt (cmp y z) ≡ false

  itself : (y : Y) → is_lt (cmp y y) ≡ false
  itself y = ap is_lt (tied_itself o.total y)

  some_is : (x y : Y) → Some x ≡ Some y → x ≡ y
  some_is x y e = ap (λ w. unwrap_or w x) e

  -- the greater of two is not below either
  left_below : (x : Y) (b : Option Y) (y : Y) → greater cmp (Some x) b ≡ Some y → is_lt (cmp y x) ≡ false
  left_below x None y e = subst (λ z. is_lt (cmp z x) ≡ false) (some_is x y e) (itself x)
  left_below x (Some z) y e =
      elim (is_lt (cmp x z)) as (λ b. is_lt (cmp x z) ≡ b → Some (cond b z x) ≡ Some y → is_lt (cmp y x) ≡ false) [
        | true ↦ λ l f. subst (λ w. is_lt (cmp w x) ≡ false) (some_is z y f) ((weak o).one_way x z l)
        | false ↦ λ l f. subst (λ w. is_lt (cmp w x) ≡ false) (some_is x y f) (itself x)
      ] refl e

  right_below : (a : Option Y) (z : Y) (y : Y) → greater cmp a (Some z) ≡ Some y → is_lt (cmp y z) ≡ false
  right_below None z y e = subst (λ w. is_lt (cmp w z) ≡ false) (some_is z y e) (itself z)
  right_below (Some x) z y e =
      elim (is_lt (cmp x z)) as (λ b. is_lt (cmp x z) ≡ b → Some (cond b z x) ≡ Some y → is_lt (cmp y z) ≡ false) [
        | true ↦ λ l f. subst (λ w. is_lt (cmp w z) ≡ false) (some_is z y f) (itself z)
        | false ↦ λ l f. subst (λ w. is_lt (cmp w z) ≡ false) (some_is x y f) l
      ] refl e

  module _ {X : Type 0} (f : X → Option Y) where
    -- where something is given there is a greatest
    has_greatest : (xs : List X) (z : Y) → Gives f xs z → greatest cmp f xs ≡ None → ⊥
    has_greatest [] z none e = none
    has_greatest (x ∷ xs) z (inl g) e = some_greater (f x) (greatest cmp f xs) z g e
      where
        some_greater : (a b : Option Y) (z : Y) → a ≡ Some z → greater cmp a b ≡ None → ⊥
        some_greater None b z g e = no_none z g
        some_greater (Some x) None z g e = no_none x (sym e)
        some_greater (Some x) (Some y) z g e = no_none (cond (is_lt (cmp x y)) y x) (sym e)
    has_greatest (x ∷ xs) z (inr later) e = has_greatest xs z later (none_later (f x) (greatest cmp f xs) e)
      where
        none_later : (a b : Option Y) → greater cmp a b ≡ None → b ≡ None
        none_later None b e = e
        none_later (Some x) None e = refl
        none_later (Some x) (Some y) e = no_none (cond (is_lt (cmp x y)) y x) (sym e)

    pub none_above : (xs : List X) (y : Y) → greatest cmp f xs ≡ Some y → (z : Y) → Gives f xs z → is_lt (cmp y z) ≡ false
    none_above [] y e z none = absurd none
    none_above (x ∷ xs) y e z (inl g) = left_below z (greatest cmp f xs) y (ap (λ a. greater cmp a (greatest cmp f xs)) (sym g) ∙ e)
    none_above (x ∷ xs) y e z (inr later) =
        elim (greatest cmp f xs) as (λ w. greatest cmp f xs ≡ w → is_lt (cmp y z) ≡ false) [
          | None ↦ λ n. absurd (has_greatest xs z later n)
          | Some v ↦ λ n. (weak o).chain y v z (right_below (f x) v y (ap (greater cmp (f x)) (sym n) ∙ e)) (none_above xs v n z later)
        ] refl

    pub greatest_is : (xs : List X) (y : Y) → (greatest cmp f xs ≡ Some y) ↔ (Gives f xs y × ((z : Y) → Gives f xs z → is_lt (cmp y z) ≡ false))
    greatest_is xs y = (
      λ e. (Gives-greatest cmp f xs y e, none_above xs y e),
      λ h. elim (greatest cmp f xs) as (λ w. greatest cmp f xs ≡ w → w ≡ Some y) [
        | None ↦ λ n. absurd (has_greatest xs y h.0 n)
        | Some v ↦ λ n. ap Some (only_equal o v y (none_above xs v n y h.0) (h.1 v (Gives-greatest cmp f xs v n)))
      ] refl,
    )

  -- lists that give the same values have the same greatest
  pub greatest_alike : {X Z : Type 0} (f : X → Option Y) (g : Z → Option Y) (xs : List X) (zs : List Z) → GiveAlike f xs g zs → greatest cmp f xs ≡ greatest cmp g zs
  greatest_alike f g xs zs same =
      elim (greatest cmp f xs) as (λ w. greatest cmp f xs ≡ w → w ≡ greatest cmp g zs) [
        | None ↦ λ n. elim (greatest cmp g zs) as (λ v. greatest cmp g zs ≡ v → None ≡ v) [
          | None ↦ λ m. refl
          | Some y ↦ λ m. absurd (has_greatest f xs y ((same y).1 (Gives-greatest cmp g zs y m)) n)
        ] refl
        | Some y ↦ λ n.
            let (given, above) = (greatest_is f xs y).0 n in
            sym ((greatest_is g zs y).1 ((same y).0 given, λ z i. above z ((same z).1 i)))
      ] refl

  pub greatest_laws : GreatestLaws cmp
  greatest_laws = record {
    is = greatest_is;
    alike = λ f g A B same. greatest_alike f g A B same;
  }
