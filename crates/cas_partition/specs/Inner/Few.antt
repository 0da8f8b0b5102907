-- A row's first places in a vector, where one of them is sought, and all of them one after another (own).
use Rattle.std.specs.Prelude.{◌≡◌, ℕ, ⊤, Option, None, Some, [], ◌∷◌, ◌++◌, length}
use Rattle.std.specs.List.{AllByRecursion}
use Rattle.std.specs.declared.cmp.Ordering.TheVariants.{Less, Equal, Greater}
use denote.Ref.{Bor}
use Rattle.cas_partition.specs.Spots.{place_cmp}
use Rattle.cas_partition.specs.Inner.Rows.{Said}
use Rattle.cas_partition.specs.declared.spot.Place.{Place}
use Rattle.cas_partition.specs.declared.spot.Content.{Content}

-- all of them stand before the place
abbrev pub AreBefore : Place → Said → Type 0
AreBefore p es = AllByRecursion (λ e. place_cmp p e.0 ≡ Greater) es

-- the first of them, if there is one, stands behind it
abbrev pub BeginsBehind : Place → Said → Type 0
BeginsBehind p [] = ⊤
BeginsBehind p (e ∷ es) = place_cmp p e.0 ≡ Less

-- the place is one of them, and so many stand before it
pub record StandsAt (p : Place) (es : Said) (at : ℕ) : Type 0 where
  pub before : Said
  pub there : Place × Content
  pub behind : Said
  pub are : es ≡ before ++ there ∷ behind
  pub many : at ≡ length before
  pub past : AreBefore p before
  pub same : place_cmp p there.0 ≡ Equal

-- it isn't, and would stand behind so many
pub record FitsAt (p : Place) (es : Said) (at : ℕ) : Type 0 where
  pub before : Said
  pub behind : Said
  pub are : es ≡ before ++ behind
  pub many : at ≡ length before
  pub past : AreBefore p before
  pub next : BeginsBehind p behind

-- the next place is given with what is said there, or none is left
abbrev pub GivesPlace : Said → Option (Bor Place × Bor Content) → Said → Type 0
GivesPlace es None later = (es ≡ []) × (later ≡ [])
GivesPlace es (Some e) later = es ≡ (e.0.now, e.1.now) ∷ later
