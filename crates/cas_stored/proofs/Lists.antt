-- Elements of lists, and lists one behind another.
use Rattle.std.proofs.Common.{◌≡◌, ◌<◌, ℕ, zero, suc, List, [], ◌∷◌, ◌++◌, length, get_or, inl, inr, refl, subst, arith, Option}
use Rattle.std.specs.List.{AllByRecursion, Contains}
use Rattle.cas_atoms.specs.declared.atom.Atom.{Atom}
use Rattle.cas_laws.specs.Given.{Gives}
use Rattle.cas_streams.specs.NoMore.{SaysNoMore, deletion_of}
use Rattle.cas_atoms.specs.Coordinates.{live_at_row, cell_at_path}
use Rattle.cas_streams.proofs.NoMore.{no_more_kept, no_more_then}

-- what holds of all, of one of them
numbered : {X : Type 0} (P : X → Type 0) (xs : List X) (x : X) (n : ℕ) → n < length xs → get_or xs n x ≡ x → AllByRecursion P xs → P x
numbered P [] x n few is a = absurd (omega (arith, few))
numbered P (y ∷ ys) x zero few is a = subst P is a.0
numbered P (y ∷ ys) x (suc n) few is a = numbered P ys x n (omega (arith, few)) is a.1

pub each_one : {X : Type 0} (P : X → Type 0) (xs : List X) (x : X) → AllByRecursion P xs → Contains xs x → P x
each_one P xs x a there = numbered P xs x there.0 there.1 there.2 a

-- ---- nothing in either

pub front_none : {X : Type 0} (xs ys : List X) → xs ++ ys ≡ [] → xs ≡ []
front_none [] ys e = refl
front_none (x ∷ xs) ys e = cc

pub rest_none : {X : Type 0} (xs ys : List X) → xs ++ ys ≡ [] → ys ≡ []
rest_none [] ys e = e
rest_none (x ∷ xs) ys e = cc

-- ---- no more than another list, with more behind both

given_behind : {K : Type 0} (f : Atom → Option K) (k : K) (A C D : List Atom) → (Gives f C k → Gives f D k) → Gives f (A ++ C) k → Gives f (A ++ D) k
given_behind f k [] C D h g = h g
given_behind f k (a ∷ A) C D h (inl e) = inl e
given_behind f k (a ∷ A) C D h (inr g) = inr (given_behind f k A C D h g)

pub both_no_more : (A B C D : List Atom) → SaysNoMore A B → SaysNoMore C D → SaysNoMore (A ++ C) (B ++ D)
both_no_more A B C D first last =
    no_more_then (A ++ C) (B ++ C) (B ++ D) (no_more_kept A B C first) (record {
      lives = λ r l. given_behind (live_at_row r) l B C D (last.lives r l);
      cells = λ x v. given_behind (cell_at_path x) v B C D (last.cells x v);
      deletions = λ t d. given_behind (deletion_of t) d B C D (last.deletions t d);
    })
