-- The facts of one atom, of two lists of atoms joined, and that there are no others.
use Rattle.std.proofs.Common.{◌≡◌, ℤ, Bool, true, false, cond, Option, None, Some, List, [], ◌∷◌, ◌++◌, map, ◌⊎◌, inl, inr, refl, sym, ap, subst, arith}
use Rattle.std.specs.Prelude.{◌≤ℤ◌, int_lt}
use Rattle.std.specs.Int.{int_min, int_max}
use Rattle.std.proofs.lemmas.Int.{ints, clamps}
use Rattle.std.proofs.lemmas.List.{map-append}
use Rattle.cas_atoms.specs.Coordinates.{atom_at}
use Rattle.cas_atoms.specs.declared.atom.Atom.{Atom}
use Rattle.cas_laws.specs.Given.{Has}
use Rattle.cas_purge.specs.Droppable.{atom_end}
use Rattle.cas_streams.proofs.Single.{has_either}
use Rattle.cas_facts.specs.declared.facts.Facts.{Facts}
use Rattle.cas_facts.specs.Facts.{IsLeast, IsGreatest, EndsBy, IsLastEnd, AreFacts, AreFactsSoFar}
use Rattle.cas_facts.specs.Inner.Gathering.{last_end, lone, joined}
use Rattle.cas_facts.specs.Laws.{FactsAreOne}

-- ---- what stands in two lists joined

pub has_left : {K : Type 0} (xs ys : List K) (k : K) → Has xs k → Has (xs ++ ys) k
has_left [] ys k none = absurd none
has_left (x ∷ xs) ys k (inl e) = inl e
has_left (x ∷ xs) ys k (inr h) = inr (has_left xs ys k h)

pub has_right : {K : Type 0} (xs ys : List K) (k : K) → Has ys k → Has (xs ++ ys) k
has_right [] ys k h = h
has_right (x ∷ xs) ys k h = inr (has_right xs ys k h)

-- ---- numbers and ends

least_joined : (xs ys : List ℤ) (m n : ℤ) → IsLeast xs m → IsLeast ys n → IsLeast (xs ++ ys) (int_min m n)
least_joined xs ys m n p q = record { one = picked (int_lt n m); below = λ k h. bound k (has_either xs ys k h) }
  where
    picked : (b : Bool) → Has (xs ++ ys) (cond b n m)
    picked true = has_right xs ys n q.one
    picked false = has_left xs ys m p.one

    bound : (k : ℤ) → Has xs k ⊎ Has ys k → int_min m n ≤ℤ k
    bound k (inl h) = let l : m ≤ℤ k = p.below k h in omega (arith, ints, clamps)
    bound k (inr h) = let l : n ≤ℤ k = q.below k h in omega (arith, ints, clamps)

greatest_joined : (xs ys : List ℤ) (m n : ℤ) → IsGreatest xs m → IsGreatest ys n → IsGreatest (xs ++ ys) (int_max m n)
greatest_joined xs ys m n p q = record { one = picked (int_lt n m); above = λ k h. bound k (has_either xs ys k h) }
  where
    picked : (b : Bool) → Has (xs ++ ys) (cond b m n)
    picked true = has_left xs ys m p.one
    picked false = has_right xs ys n q.one

    bound : (k : ℤ) → Has xs k ⊎ Has ys k → k ≤ℤ int_max m n
    bound k (inl h) = let l : k ≤ℤ m = p.above k h in omega (arith, ints, clamps)
    bound k (inr h) = let l : k ≤ℤ n = q.above k h in omega (arith, ints, clamps)

ends_later : (s t : ℤ) (end : Option ℤ) → s ≤ℤ t → EndsBy s end → EndsBy t end
ends_later s t None l h = h
ends_later s t (Some e) l h = omega (arith, ints)

last_joined : (xs ys : List (Option ℤ)) (d e : Option ℤ) → IsLastEnd xs d → IsLastEnd ys e → IsLastEnd (xs ++ ys) (last_end d e)
last_joined xs ys None e p q = has_left xs ys None p
last_joined xs ys (Some d) None p q = has_right xs ys None q
last_joined xs ys (Some d) (Some e) p q = (picked (int_lt e d), λ end h. bound end (has_either xs ys end h))
  where
    picked : (b : Bool) → Has (xs ++ ys) (Some (cond b d e))
    picked true = has_left xs ys (Some d) p.0
    picked false = has_right xs ys (Some e) q.0

    bound : (end : Option ℤ) → Has xs end ⊎ Has ys end → EndsBy (int_max d e) end
    bound end (inl h) = ends_later d (int_max d e) end (omega (arith, ints, clamps)) (p.1 end h)
    bound end (inr h) = ends_later e (int_max d e) end (omega (arith, ints, clamps)) (q.1 end h)

-- ---- atoms

pub joined_facts : (A B : List Atom) (f g : Facts) → AreFacts A f → AreFacts B g → AreFacts (A ++ B) (joined f g)
joined_facts A B f g p q = record {
  least = subst (λ l. IsLeast l (int_min f.least g.least)) (sym (map-append atom_at A B))
      (least_joined (map atom_at A) (map atom_at B) f.least g.least p.least q.least);
  greatest = subst (λ l. IsGreatest l (int_max f.greatest g.greatest)) (sym (map-append atom_at A B))
      (greatest_joined (map atom_at A) (map atom_at B) f.greatest g.greatest p.greatest q.greatest);
  dead = subst (λ l. IsLastEnd l (last_end f.dead g.dead)) (sym (map-append atom_end A B))
      (last_joined (map atom_end A) (map atom_end B) f.dead g.dead p.dead q.dead);
}

same_below : (m n : ℤ) → m ≡ n → m ≤ℤ n
same_below m n e = omega (arith, ints)

lone_end : (e : Option ℤ) → IsLastEnd (e ∷ []) e
lone_end None = inl refl
lone_end (Some s) = (inl refl, λ end h. elim (h) as (λ _. EndsBy s end) [ inl e ↦ subst (EndsBy s) e (same_below s s refl) | inr none ↦ absurd none ])

pub lone_facts : (a : Atom) → AreFacts (a ∷ []) (lone (atom_at a) (atom_end a))
lone_facts a = record {
  least = record { one = inl refl; below = λ n h. elim (h) as (λ _. atom_at a ≤ℤ n) [ inl e ↦ same_below (atom_at a) n e | inr none ↦ absurd none ] };
  greatest = record { one = inl refl; above = λ n h. elim (h) as (λ _. n ≤ℤ atom_at a) [ inl e ↦ same_below n (atom_at a) (sym e) | inr none ↦ absurd none ] };
  dead = lone_end (atom_end a);
}

-- ---- there are facts, and no others

with_more : (a : Atom) (A : List Atom) (g : Option Facts) → AreFactsSoFar A g → (f : Option Facts) × AreFactsSoFar (a ∷ A) f
with_more a A None e = (Some (lone (atom_at a) (atom_end a)), subst (λ l. AreFacts (a ∷ l) (lone (atom_at a) (atom_end a))) (sym e) (lone_facts a))
with_more a A (Some g) h = (Some (joined (lone (atom_at a) (atom_end a)) g), joined_facts (a ∷ []) A (lone (atom_at a) (atom_end a)) g (lone_facts a) h)

some_facts : (A : List Atom) → (f : Option Facts) × AreFactsSoFar A f
some_facts [] = (None, refl)
some_facts (a ∷ A) = let (g, h) = some_facts A in with_more a A g h

of_none : (A : List Atom) (f : Facts) → A ≡ [] → AreFacts A f → ⊥
of_none A f e h = subst (λ l. Has (map atom_at l) f.least) e h.least.one

both : (m n : ℤ) → m ≤ℤ n → n ≤ℤ m → m ≡ n
both m n p q = omega (arith, ints)

last_one : (xs : List (Option ℤ)) (d e : Option ℤ) → IsLastEnd xs d → IsLastEnd xs e → d ≡ e
last_one xs None None p q = refl
last_one xs None (Some e) p q = absurd (q.1 None p)
last_one xs (Some d) None p q = absurd (p.1 None q)
last_one xs (Some d) (Some e) p q = ap (λ (s : ℤ). Some s) (both d e (q.1 (Some d) p.0) (p.1 (Some e) q.0))

one_facts : (A : List Atom) (f g : Option Facts) → AreFactsSoFar A f → AreFactsSoFar A g → f ≡ g
one_facts A None None p q = refl
one_facts A None (Some g) p q = absurd (of_none A g p q)
one_facts A (Some f) None p q = absurd (of_none A f q p)
one_facts A (Some f) (Some g) p q =
    let least : f.least ≡ g.least = both f.least g.least (p.least.below g.least q.least.one) (q.least.below f.least p.least.one) in
    let greatest : f.greatest ≡ g.greatest = both f.greatest g.greatest (q.greatest.above f.greatest p.greatest.one) (p.greatest.above g.greatest q.greatest.one) in
    let dead : f.dead ≡ g.dead = last_one (map atom_end A) f.dead g.dead p.dead q.dead in
    λ i. Some (record { least = least i; greatest = greatest i; dead = dead i })

pub facts_are_one : FactsAreOne
facts_are_one = record { some = some_facts; one = one_facts }
