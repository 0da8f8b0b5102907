-- Tables keep their numbers and what holds of each, where one is added and where one gets more columns.
use Rattle.std.proofs.Common.{◌≡◌, ℕ, ◌+◌, ◌≤◌, ◌<◌, ◌==◌, Bool, true, false, cond, List, [], ◌∷◌, ◌++◌, length, map, Option, Some, find, refl, sym, ap, subst, ◌∙◌, eqb-true, arith}
use Rattle.std.specs.List.{AllByRecursion}
use Rattle.cas_types.specs.declared.schema.TableSchema.{TableSchema}
use Rattle.cas_bind.specs.Tables.{AreInPlace, with_added}
use Rattle.cas_define.specs.declared.addition.Addition.{Addition}

-- ---- the one that is found

module _ {X : Type 0} (P : X → Type 0) where
  chosen : (o : Option X) (b : Bool) (y x : X) → P y → (o ≡ Some x → P x) → cond b (Some y) o ≡ Some x → P x
  chosen o true y x its others e = let same : y ≡ x = cc in subst P same its
  chosen o false y x its others e = others e

  pub holds_of_found : (test : X → Bool) (xs : List X) (x : X) → AllByRecursion P xs → find test xs ≡ Some x → P x
  holds_of_found test [] x all e = cc
  holds_of_found test (y ∷ ys) x all e = chosen (find test ys) (test y) y x all.0 (λ f. holds_of_found test ys x all.1 f) e

-- ---- numbers

-- the numbers of tables that are numbered from n on are n and more
numbers_from : (n m : ℕ) (ts : List TableSchema) → m ≤ n → AreInPlace n ts → AllByRecursion (λ t. m ≤ t.number) ts
numbers_from n m [] below numbered = tt
numbers_from n m (t ∷ ts) below numbered = (let is : t.number ≡ n = numbered.0 in omega arith, numbers_from (n + 1) m ts (omega arith) numbered.1)

-- what holds of a table that is found holds of each that has its number, since there is no other
module _ (P : TableSchema → Type 0) (test : TableSchema → Bool) (t : TableSchema) (holds : P t) where
  none_has : (m : ℕ) (ts : List TableSchema) → t.number < m → AllByRecursion (λ u. m ≤ u.number) ts → AllByRecursion (λ u. u.number ≡ t.number → P u) ts
  none_has m [] below above = tt
  none_has m (u ∷ us) below above = ((λ same. let over : m ≤ u.number = above.0 in absurd (omega arith)), none_has m us below above.1)

  first_or_later : (n : ℕ) (u : TableSchema) (us : List TableSchema) → AreInPlace n (u ∷ us) → (o : Option TableSchema) (b : Bool)
      → (o ≡ Some t → n + 1 ≤ t.number) → (o ≡ Some t → AllByRecursion (λ v. v.number ≡ t.number → P v) us)
      → cond b (Some u) o ≡ Some t → AllByRecursion (λ v. v.number ≡ t.number → P v) (u ∷ us)
  first_or_later n u us numbered o true above others e =
      let same : u ≡ t = cc in
      let is : u.number ≡ n = numbered.0 in
      let its : t.number ≡ n = ap (λ v. v.number) (sym same) ∙ is in
      ((λ numbers. subst P (sym same) holds), none_has (n + 1) us (omega arith) (numbers_from (n + 1) (n + 1) us (omega arith) numbered.1))
  first_or_later n u us numbered o false above others e =
      let is : u.number ≡ n = numbered.0 in
      let its : n + 1 ≤ t.number = above e in
      ((λ numbers. absurd (omega arith)), others e)

  pub holds_of_number : (n : ℕ) (ts : List TableSchema) → AreInPlace n ts → find test ts ≡ Some t → AllByRecursion (λ u. u.number ≡ t.number → P u) ts
  holds_of_number n [] numbered e = tt
  holds_of_number n (u ∷ us) numbered e =
      first_or_later n u us numbered (find test us) (test u)
      (λ f. holds_of_found (λ v. n + 1 ≤ v.number) test us t (numbers_from (n + 1) (n + 1) us (omega arith) numbered.1) f)
      (λ f. holds_of_number (n + 1) us numbered.1 f) e

-- ---- one more table

pub numbered_with : (n : ℕ) (ts : List TableSchema) (t : TableSchema) → AreInPlace n ts → t.number ≡ n + length ts → AreInPlace n (ts ++ t ∷ [])
numbered_with n [] t numbered its = (omega arith, tt)
numbered_with n (u ∷ us) t numbered its = (numbered.0, numbered_with (n + 1) us t numbered.1 (omega arith))

-- ---- more columns

module _ (a : Addition) where
  keeps_number : (b : Bool) (t : TableSchema) → (cond b (record t { columns = t.columns ++ a.columns }) t).number ≡ t.number
  keeps_number true t = refl
  keeps_number false t = refl

  pub numbered_after : (n : ℕ) (ts : List TableSchema) → AreInPlace n ts → AreInPlace n (map (with_added a) ts)
  numbered_after n [] numbered = tt
  numbered_after n (t ∷ ts) numbered = (keeps_number (t.number == a.table) t ∙ numbered.0, numbered_after (n + 1) ts numbered.1)

  module _ (P : TableSchema → Type 0) where
    stays : (t : TableSchema) (b : Bool) → b ≡ (t.number == a.table) → P t → (t.number ≡ a.table → P (record t { columns = t.columns ++ a.columns }))
        → P (cond b (record t { columns = t.columns ++ a.columns }) t)
    stays t true is holds with_more = with_more (eqb-true t.number a.table (sym is))
    stays t false is holds with_more = holds

    pub holds_after : (ts : List TableSchema) → AllByRecursion P ts → AllByRecursion (λ t. t.number ≡ a.table → P (record t { columns = t.columns ++ a.columns })) ts
        → AllByRecursion P (map (with_added a) ts)
    holds_after [] all more = tt
    holds_after (t ∷ ts) all more = (stays t (t.number == a.table) refl all.0 more.0, holds_after ts all.1 more.1)
