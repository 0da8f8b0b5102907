-- Facts of each element of a list, and fronts of lists.
use Rattle.std.proofs.Common.{◌≡◌, ℕ, List, [], ◌∷◌, ◌++◌, length, take, sym, ap, subst, ◌∙◌, arith}
use Rattle.std.specs.List.{AllByRecursion}
use Rattle.std.proofs.lemmas.List.{take-append-le, take_all}
use Rattle.std.proofs.lemmas.Grind.{flat_map-append}
use Rattle.cas_atoms.specs.declared.atom.Mutation.{Mutation}
use Rattle.cas_replay.specs.Grammar.{numbers_of, AscendByOne, AreInOrder}

module _ {X : Type 0} (P : X → Type 0) where
  pub all_front : (xs ys : List X) → AllByRecursion P (xs ++ ys) → AllByRecursion P xs
  all_front [] ys all = tt
  all_front (x ∷ xs) ys all = (all.0, all_front xs ys all.1)

  pub all_back : (xs ys : List X) → AllByRecursion P (xs ++ ys) → AllByRecursion P ys
  all_back [] ys all = all
  all_back (x ∷ xs) ys all = all_back xs ys all.1

  pub all_more : (xs : List X) (y : X) → AllByRecursion P xs → P y → AllByRecursion P (xs ++ y ∷ [])
  all_more [] y all one = (one, tt)
  all_more (x ∷ xs) y all one = (all.0, all_more xs y all.1 one)

pub all_mapped : {X : Type 0} (P Q : X → Type 0) → ((x : X) → P x → Q x) → (xs : List X) → AllByRecursion P xs → AllByRecursion Q xs
all_mapped P Q says [] all = tt
all_mapped P Q says (x ∷ xs) all = (says x all.0, all_mapped P Q says xs all.1)

-- ---- numbers in order

front_ascends : (ns others : List ℕ) → AscendByOne (ns ++ others) → AscendByOne ns
front_ascends [] others ascend = tt
front_ascends (a ∷ []) others ascend = tt
front_ascends (a ∷ b ∷ ns) others ascend = (ascend.0, front_ascends (b ∷ ns) others ascend.1)

pub front_in_order : (ms others : List Mutation) → AreInOrder (ms ++ others) → AreInOrder ms
front_in_order ms others ordered shard =
    front_ascends (numbers_of shard ms) (numbers_of shard others) (subst AscendByOne (flat_map-append _ ms others) (ordered shard))

-- ---- fronts

-- so many of a list are its front, where what follows is known
pub take_front : {X : Type 0} (xs ys all : List X) → xs ++ ys ≡ all → take (length xs) all ≡ xs
take_front xs ys all is = ap (take (length xs)) (sym is) ∙ take-append-le (length xs) xs ys (omega arith) ∙ take_all (length xs) xs (omega arith)
