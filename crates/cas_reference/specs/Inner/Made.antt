-- What is always so of the reference's tables. Own.
use Rattle.std.specs.Prelude.{ℕ, ◌+◌, List, [], ◌∷◌}
use mathlib.Core.HLevel.{Unit-prop, ×_prop}
use Rattle.std.proofs.Props.{props}
use Rattle.cas_types.specs.declared.schema.TableSchema.{TableSchema}
use Rattle.cas_bind.specs.Tables.{AreInPlace}

-- that each table's number is its place is shown in one way
pub AreInPlace-prop : (n : ℕ) (ts : List TableSchema) → IsProp (AreInPlace n ts)
AreInPlace-prop n [] = Unit-prop
AreInPlace-prop n (t ∷ ts) = ×_prop (hlevel props) (AreInPlace-prop (n + 1) ts)

pub ruleset made_props = (props, AreInPlace-prop)
