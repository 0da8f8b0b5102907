-- One log of entries, and the lists that it is read as.
use Rattle.std.specs.Prelude.{◌≡◌, ℕ, ◌⊎◌, List, [], ◌∷◌, ◌++◌, length, ◌==◌}
use Rattle.std.specs.List.{filter, list_any}

module _ {A : Type 0} where
  -- each element is so (own)
  abbrev pub Each : (A → Type 0) → List A → Type 0
  Each P [] = Unit {0}
  Each P (x ∷ xs) = P x × Each P xs

  -- some element is so (own)
  abbrev pub Any : (A → Type 0) → List A → Type 0
  Any P [] = ⊥
  Any P (x ∷ xs) = P x ⊎ Any P xs

  -- the list has this element (own)
  abbrev pub Has : List A → A → Type 0
  Has xs x = Any (λ y. y ≡ x) xs

-- What a log needs of its entries (own)
pub record Rules (E : Type 0) : Type 1 where
  -- the numbers of the lists that an entry stands in
  pub lists : E → List ℕ
  -- the word that counts it
  pub word : E → ℕ
  -- whether it may be the next of a list
  pub may : ℕ → List E → E → Type 0
  -- the earlier entries that it rests on
  pub cites : E → List E

module _ {E : Type 0} (R : Rules E) where
  -- the list with this number: the log's entries that name it, in the log's order (own)
  abbrev pub part : ℕ → List E → List E
  part r log = filter (λ e. list_any (λ k. k == r) (R.lists e)) log

  -- how many entries of the log a word counts (own)
  abbrev pub counted : ℕ → List E → ℕ
  counted w log = length (filter (λ e. R.word e == w) log)

  -- the entry may be the next of each of its lists, and what it rests on is there (own)
  abbrev pub Follows : List E → E → Type 0
  Follows before e = Each (λ r. R.may r (part r before) e) (R.lists e) × Each (λ x. Has before x) (R.cites e)

  abbrev pub LegalAfter : List E → List E → Type 0
  LegalAfter before [] = Unit {0}
  LegalAfter before (e ∷ es) = Follows before e × LegalAfter (before ++ e ∷ []) es

  -- each entry of the log follows those before it (own)
  abbrev pub Legal : List E → Type 0
  Legal log = LegalAfter [] log
