-- One number more, in the list and in the tree.
use Rattle.std.proofs.Common.{◌≡◌, ℕ, Bool, true, false, eqb, cond, ◌||◌, List, [], ◌∷◌, ◌++◌, refl, sym, ◌∙◌, ap, arith}
use Rattle.std.specs.List.{list_any}
use Rattle.std.specs.Ordering.{nat_cmp}
use Rattle.std.specs.BTreeSet.{BTreeSet, contains, Updates}
use Rattle.std.specs.BTreeMap.{is_at}
use Rattle.std.proofs.lemmas.List.Folds.{list_any-append}
use Rattle.std.proofs.lemmas.Bool.Decides.{nat_tests}
use Rattle.cas_changes.specs.Saying.{is_listed}

at_number : (k q : ℕ) → is_at (nat_cmp k) q ≡ eqb k q
at_number k q = grind (arith, nat_tests)

or_else : (a b : Bool) → cond b true a ≡ (a || b)
or_else true true = refl
or_else true false = refl
or_else false true = refl
or_else false false = refl

or_not : (b : Bool) → (b || false) ≡ b
or_not true = refl
or_not false = refl

pub listed_more : (known more : BTreeSet ℕ) (numbers : List ℕ) (k : ℕ) → ((n : ℕ) → contains nat_cmp known n ≡ is_listed numbers n) → Updates nat_cmp known more k true
    → (n : ℕ) → contains nat_cmp more n ≡ is_listed (numbers ++ k ∷ []) n
listed_more known more numbers k same updates n =
    updates.0 n
    ∙ ap (λ (b : Bool). cond b true (contains nat_cmp known n)) (at_number k n)
    ∙ or_else (contains nat_cmp known n) (eqb k n)
    ∙ (λ i. same n i || sym (or_not (eqb k n)) i)
    ∙ sym (list_any-append (λ m. eqb m n) numbers (k ∷ []))
