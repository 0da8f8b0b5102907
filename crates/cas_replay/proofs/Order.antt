-- Per shard numbers ascend by one exactly where each mutation follows those before it.
use Rattle.std.proofs.Common.{◌≡◌, inl, inr, ℕ, ◌+◌, ◌==◌, eqb, Bool, true, false, if◌then◌else◌, List, [], ◌∷◌, ◌++◌, reverse, Some, refl, sym, ap, subst, ◌∙◌, append_assoc, arith}
use Rattle.std.specs.Bool.{Decides}
use Rattle.std.specs.List.{find}
use Rattle.std.proofs.lemmas.Bool.{cases_eq, eq-eqb}
use Rattle.std.proofs.lemmas.Bool.Decides.{Decides-eqb, nat_tests}
use Rattle.std.proofs.lemmas.Grind.{flat_map-append}
use Rattle.std.proofs.lemmas.List.{append-nil, reverse-append, reverse-reverse}
use Rattle.cas_atoms.specs.declared.atom.Mutation.{Mutation}
use Rattle.cas_replay.specs.Reading.{is_next, follows}
use Rattle.cas_replay.specs.Grammar.{numbers_of, AscendByOne, AreInOrder}

-- each follows those before it
abbrev pub Follow : List Mutation → List Mutation → Type 0
Follow before [] = Unit {0}
Follow before (m ∷ mutations) = (follows before m ≡ true) × Follow (before ++ m ∷ []) mutations

-- ---- numbers

-- it is one above the last of these
abbrev ComesAfter : List ℕ → ℕ → Type 0
ComesAfter [] n = Unit {0}
ComesAfter (a ∷ []) n = n ≡ a + 1
ComesAfter (a ∷ b ∷ others) n = ComesAfter (b ∷ others) n

one_more : (ns : List ℕ) (n : ℕ) → AscendByOne ns → ComesAfter ns n → AscendByOne (ns ++ n ∷ [])
one_more [] n ascend after = tt
one_more (a ∷ []) n ascend after = (after, tt)
one_more (a ∷ b ∷ ns) n ascend after = (ascend.0, one_more (b ∷ ns) n ascend.1 after)

last_after : (ns : List ℕ) (n : ℕ) → AscendByOne (ns ++ n ∷ []) → ComesAfter ns n
last_after [] n ascend = tt
last_after (a ∷ []) n ascend = ascend.0
last_after (a ∷ b ∷ ns) n ascend = last_after (b ∷ ns) n ascend.1

front_ascends : (ns others : List ℕ) → AscendByOne (ns ++ others) → AscendByOne ns
front_ascends [] others ascend = tt
front_ascends (a ∷ []) others ascend = tt
front_ascends (a ∷ b ∷ ns) others ascend = (ascend.0, front_ascends (b ∷ ns) others ascend.1)

after_last : (ns : List ℕ) (a n : ℕ) → n ≡ a + 1 → ComesAfter (ns ++ a ∷ []) n
after_last [] a n is = is
after_last (b ∷ []) a n is = is
after_last (b ∷ c ∷ ns) a n is = after_last (c ∷ ns) a n is

is_after_last : (ns : List ℕ) (a n : ℕ) → ComesAfter (ns ++ a ∷ []) n → n ≡ a + 1
is_after_last [] a n after = after
is_after_last (b ∷ []) a n after = after
is_after_last (b ∷ c ∷ ns) a n after = is_after_last (c ∷ ns) a n after

-- ---- mutations

abbrev own : ℕ → Mutation → List ℕ
own shard m = if m.shard == shard then m.number ∷ [] else []

numbers_more : (shard : ℕ) (ms : List Mutation) (m : Mutation) → numbers_of shard (ms ++ m ∷ []) ≡ numbers_of shard ms ++ own shard m
numbers_more shard ms m = flat_map-append (own shard) ms (m ∷ []) ∙ ap (λ (ns : List ℕ). numbers_of shard ms ++ ns) (append-nil (own shard m))

own_yes : (shard : ℕ) (m : Mutation) → m.shard ≡ shard → own shard m ≡ m.number ∷ []
own_yes shard m is = ap (λ (b : Bool). if b then m.number ∷ [] else []) (eq-eqb m.shard shard is)

own_no : (shard : ℕ) (m : Mutation) → (m.shard ≡ shard → ⊥) → own shard m ≡ []
own_no shard m not =
    let no : eqb m.shard shard ≡ false = grind (arith, nat_tests) in
    ap (λ (b : Bool). if b then m.number ∷ [] else []) no

-- found from the end, by what was passed
found_decides : (shard : ℕ) (m : Mutation) (back : List Mutation)
    → Decides (is_next (find (λ x. x.shard == shard) back) m) (ComesAfter (numbers_of shard (reverse back)) m.number)
found_decides shard m [] = (λ e. tt, λ after. refl)
found_decides shard m (x ∷ back) =
    let ns = numbers_of shard (reverse back) in
    let numbers : numbers_of shard (reverse (x ∷ back)) ≡ ns ++ own shard x = ap (numbers_of shard) (reverse-append (x ∷ []) back)
    ∙ numbers_more shard (reverse back) x in
    elim (cases_eq x.shard shard) [
      | inl is ↦
          let whole : numbers_of shard (reverse (x ∷ back)) ≡ ns ++ x.number ∷ [] = numbers ∙ ap (λ (l : List ℕ). ns ++ l) (own_yes shard x is) in
          let test : is_next (find (λ x. x.shard == shard) (x ∷ back)) m ≡ (m.number == x.number + 1) =
          ap (λ (b : Bool). is_next (if b then Some x else find (λ x. x.shard == shard) back) m) (eq-eqb x.shard shard is) in
          let same = Decides-eqb m.number (x.number + 1) in (
            λ e. subst (λ (l : List ℕ). ComesAfter l m.number) (sym whole) (after_last ns x.number m.number (same.0 (sym test ∙ e))),
            λ after. test ∙ same.1 (is_after_last ns x.number m.number (subst (λ (l : List ℕ). ComesAfter l m.number) whole after)),
          )
      | inr not ↦
          let no : eqb x.shard shard ≡ false = grind (arith, nat_tests) in
          let whole : numbers_of shard (reverse (x ∷ back)) ≡ ns = numbers ∙ ap (λ (l : List ℕ). ns ++ l) (own_no shard x not) ∙ append-nil ns in
          let test : is_next (find (λ x. x.shard == shard) (x ∷ back)) m ≡ is_next (find (λ x. x.shard == shard) back) m =
          ap (λ (b : Bool). is_next (if b then Some x else find (λ x. x.shard == shard) back) m) no in
          let before = found_decides shard m back in (
            λ e. subst (λ (l : List ℕ). ComesAfter l m.number) (sym whole) (before.0 (sym test ∙ e)),
            λ after. test ∙ before.1 (subst (λ (l : List ℕ). ComesAfter l m.number) whole after),
          )
    ]

follows_decides : (before : List Mutation) (m : Mutation) → Decides (follows before m) (ComesAfter (numbers_of m.shard before) m.number)
unfolding follows
follows_decides before m =
    subst (λ (l : List Mutation). Decides (is_next (find (λ x. x.shard == m.shard) (reverse before)) m) (ComesAfter
    (numbers_of m.shard l) m.number)) (reverse-reverse before)
    (found_decides m.shard m (reverse before))

in_order_more : (before : List Mutation) (m : Mutation) → AreInOrder before → follows before m ≡ true → AreInOrder (before ++ m ∷ [])
in_order_more before m ordered e shard =
    elim (cases_eq m.shard shard) [
      | inl is ↦
          let after : ComesAfter (numbers_of shard before) m.number = subst (λ (s : ℕ). ComesAfter (numbers_of s before) m.number) is
          ((follows_decides before m).0 e) in
          subst AscendByOne (sym (numbers_more shard before m ∙ ap (λ (l : List ℕ). numbers_of shard before ++ l) (own_yes shard m is)))
          (one_more (numbers_of shard before) m.number (ordered shard) after)
      | inr not ↦
          subst AscendByOne (sym (numbers_more shard before m ∙ ap (λ (l : List ℕ). numbers_of shard before ++ l) (own_no shard m not)
          ∙ append-nil (numbers_of shard before)))
          (ordered shard)
    ]

-- where each follows they are in order
pub in_order : (before ms : List Mutation) → AreInOrder before → Follow before ms → AreInOrder (before ++ ms)
in_order before [] ordered follow = subst AreInOrder (sym (append-nil before)) ordered
in_order before (m ∷ ms) ordered follow =
    subst AreInOrder (append_assoc before (m ∷ []) ms) (in_order (before ++ m ∷ []) ms (in_order_more before m ordered follow.0) follow.1)

-- and the other way round
pub each_follows : (before ms : List Mutation) → AreInOrder (before ++ ms) → Follow before ms
each_follows before [] ordered = tt
each_follows before (m ∷ ms) ordered =
    let regrouped : AreInOrder ((before ++ m ∷ []) ++ ms) = subst AreInOrder (sym (append_assoc before (m ∷ []) ms)) ordered in
    let parts : AscendByOne (numbers_of m.shard (before ++ m ∷ [])) =
    front_ascends (numbers_of m.shard (before ++ m ∷ [])) (numbers_of m.shard ms)
    (subst AscendByOne (flat_map-append (own m.shard) (before ++ m ∷ []) ms) (regrouped m.shard)) in
    let last : AscendByOne (numbers_of m.shard before ++ m.number ∷ []) =
    subst AscendByOne (numbers_more m.shard before m ∙ ap (λ (l : List ℕ). numbers_of m.shard before ++ l) (own_yes m.shard m refl)) parts in
    ((follows_decides before m).1 (last_after (numbers_of m.shard before) m.number last), each_follows (before ++ m ∷ []) ms regrouped)
