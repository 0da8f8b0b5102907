-- Tests of Booleans and of lists.
use Rattle.std.proofs.Common.{◌≡◌, Bool, true, false, cond, not, ◌&&◌, ◌||◌, List, [], ◌∷◌, ◌++◌, filter_map, find, Option, None, Some, refl, sym, ap, subst, append_assoc, ◌∙◌}
use Rattle.std.specs.List.{AllByRecursion, cons_option, list_all, list_any}
use Rattle.std.proofs.lemmas.List.{append-nil}
use Rattle.cas_schemas.specs.Each.{EachFits}

pub front : (a b : Bool) → (a && b) ≡ true → a ≡ true
front true b e = refl
front false b e = cc

pub back : (a b : Bool) → (a && b) ≡ true → b ≡ true
back true b e = e
back false b e = cc

pub both : (a b : Bool) → a ≡ true → b ≡ true → (a && b) ≡ true
both true b e f = f
both false b e f = cc

pub not_first : (a b : Bool) → (a || b) ≡ false → a ≡ false
not_first true b e = cc
not_first false b e = refl

pub not_second : (a b : Bool) → (a || b) ≡ false → b ≡ false
not_second true b e = cc
not_second false b e = e

pub neither : (a b : Bool) → a ≡ false → b ≡ false → (a || b) ≡ false
neither true b e f = cc
neither false b e f = f

pub first_so : (a b : Bool) → a ≡ true → (a || b) ≡ true
first_so true b e = refl
first_so false b e = cc

pub second_so : (a b : Bool) → b ≡ true → (a || b) ≡ true
second_so true b e = refl
second_so false b e = e

pub so : (b : Bool) → not b ≡ false → b ≡ true
so true e = refl
so false e = cc

pub not_so : (b : Bool) → not b ≡ true → b ≡ false
not_so true e = cc
not_so false e = refl

pub its_not : (b : Bool) → b ≡ false → not b ≡ true
its_not true e = cc
its_not false e = refl

module _ {X : Type 0} where
  pub both_of : (P Q R : X → Type 0) → ((x : X) → P x → Q x → R x) → (xs : List X) → AllByRecursion P xs → AllByRecursion Q xs → AllByRecursion R xs
  both_of P Q R gives [] p q = tt
  both_of P Q R gives (x ∷ xs) p q = (gives x p.0 q.0, both_of P Q R gives xs p.1 q.1)

  pub each_of : (P Q : X → Type 0) → ((x : X) → P x → Q x) → (xs : List X) → AllByRecursion P xs → AllByRecursion Q xs
  each_of P Q gives [] p = tt
  each_of P Q gives (x ∷ xs) p = (gives x p.0, each_of P Q gives xs p.1)

  pub of_any : (P : X → Type 0) → ((x : X) → P x) → (xs : List X) → AllByRecursion P xs
  of_any P gives [] = tt
  of_any P gives (x ∷ xs) = (gives x, of_any P gives xs)

  pub together : (P : X → Type 0) (xs ys : List X) → AllByRecursion P xs → AllByRecursion P ys → AllByRecursion P (xs ++ ys)
  together P [] ys p q = q
  together P (x ∷ xs) ys p q = (p.0, together P xs ys p.1 q)

  pub fronts : (P : X → Type 0) (xs ys : List X) → AllByRecursion P (xs ++ ys) → AllByRecursion P xs
  fronts P [] ys p = tt
  fronts P (x ∷ xs) ys p = (p.0, fronts P xs ys p.1)

  pub backs : (P : X → Type 0) (xs ys : List X) → AllByRecursion P (xs ++ ys) → AllByRecursion P ys
  backs P [] ys p = p
  backs P (x ∷ xs) ys p = backs P xs ys p.1

  pub passes : (test : X → Bool) (xs : List X) → list_all test xs ≡ true → AllByRecursion (λ x. test x ≡ true) xs
  passes test [] e = tt
  passes test (x ∷ xs) e = (front (test x) (list_all test xs) e, passes test xs (back (test x) (list_all test xs) e))

  pub passed : (test : X → Bool) (xs : List X) → AllByRecursion (λ x. test x ≡ true) xs → list_all test xs ≡ true
  passed test [] p = refl
  passed test (x ∷ xs) p = both (test x) (list_all test xs) p.0 (passed test xs p.1)

  pub none_passes : (test : X → Bool) (xs : List X) → list_any test xs ≡ false → AllByRecursion (λ x. test x ≡ false) xs
  none_passes test [] e = tt
  none_passes test (x ∷ xs) e = (not_first (test x) (list_any test xs) e, none_passes test xs (not_second (test x) (list_any test xs) e))

  -- what is found is one of the items, and passes the test
  pub found : (P : X → Type 0) (test : X → Bool) (xs : List X) (y : X) → AllByRecursion P xs → find test xs ≡ Some y → P y
  found P test [] y p e = cc
  found P test (x ∷ xs) y p e =
      elim (test x) as (λ b. cond b (Some x) (find test xs) ≡ Some y → P y) [
        | true ↦ λ f. let same : x ≡ y = cc in subst P same p.0
        | false ↦ λ f. found P test xs y p.1 f
      ] e

  pub found_so : (test : X → Bool) (xs : List X) (y : X) → find test xs ≡ Some y → test y ≡ true
  found_so test [] y e = cc
  found_so test (x ∷ xs) y e =
      elim (test x) as (λ b. test x ≡ b → cond b (Some x) (find test xs) ≡ Some y → test y ≡ true) [
        | true ↦ λ is f. let same : x ≡ y = cc in ap test (sym same) ∙ is
        | false ↦ λ is f. found_so test xs y f
      ] refl e

  pub each_on : (Fits : List X → X → Type 0) (before xs ys : List X) → EachFits Fits before xs → EachFits Fits (before ++ xs) ys → EachFits Fits before (xs ++ ys)
  each_on Fits before [] ys p q = subst (λ b. EachFits Fits b ys) (append-nil before) q
  each_on Fits before (x ∷ xs) ys p q = (p.0, each_on Fits (before ++ x ∷ []) xs ys p.1 (subst (λ b. EachFits Fits b ys) (sym (append_assoc before (x ∷ []) xs)) q))

  pub each_with : (F G : List X → X → Type 0) (P : X → Type 0) → ((before : List X) (x : X) → F before x → P x → G before x) → (before xs : List X)
      → EachFits F before xs → AllByRecursion P xs → EachFits G before xs
  each_with F G P gives before [] f p = tt
  each_with F G P gives before (x ∷ xs) f p = (gives before x f.0 p.0, each_with F G P gives (before ++ x ∷ []) xs f.1 p.1)

module _ {A X : Type 0} (make : A → Option X) where
  pub made : (P : X → Type 0) (Q : A → Type 0) → ((a : A) (x : X) → Q a → make a ≡ Some x → P x) → (items : List A) → AllByRecursion Q items
      → AllByRecursion P (filter_map make items)
  made P Q gives [] all = tt
  made P Q gives (a ∷ items) all =
      elim (make a) as (λ o. make a ≡ o → AllByRecursion P (cons_option o (filter_map make items))) [
        | None ↦ λ e. made P Q gives items all.1
        | Some x ↦ λ e. (gives a x all.0 e, made P Q gives items all.1)
      ] refl

  pub made_parts : (xs ys : List A) → filter_map make (xs ++ ys) ≡ filter_map make xs ++ filter_map make ys
  made_parts [] ys = refl
  made_parts (a ∷ xs) ys =
      elim (make a) as (λ o. cons_option o (filter_map make (xs ++ ys)) ≡ cons_option o (filter_map make xs) ++ filter_map make ys) [
        | None ↦ made_parts xs ys
        | Some x ↦ ap (λ zs. x ∷ zs) (made_parts xs ys)
      ]
