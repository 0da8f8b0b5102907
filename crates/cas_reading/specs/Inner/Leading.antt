-- Blocks that are asked for one after another: the laws of what they lead to.
use Rattle.std.proofs.Common.{ℕ, List, [], ◌∷◌, ◌++◌, refl, subst, sym}
use Rattle.cas_reading.specs.Caching.{Kept, AreAsked, LeadsTo}

module _ {V : Type 0} where
  -- none
  pub no_block : (k : Kept V) → LeadsTo k k
  no_block k = ([], refl)

  both : (places others : List ℕ) (k l m : Kept V) → AreAsked places k l → AreAsked others l m → AreAsked (places ++ others) k m
  both [] others k l m a b = subst (λ (x : Kept V). AreAsked others x m) (sym a) b
  both (place ∷ places) others k l m a b = (a.0, a.1, both places others a.0 l m a.2 b)

  -- some, and then others
  pub one_behind_another : (k l m : Kept V) → LeadsTo k l → LeadsTo l m → LeadsTo k m
  one_behind_another k l m a b = (a.0 ++ b.0, both a.0 b.0 k l m a.1 b.1)
