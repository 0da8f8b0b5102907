-- Where changes of what is in force stand: at ends of range deletions among atoms.
-- CQL documentation, "Data manipulation: DELETE"; own.
use Rattle.std.specs.Prelude.{◌≡◌, ◌⊎◌, Option, None, List, [], ◌∷◌}
use Rattle.std.specs.List.{AllByRecursion}
use Rattle.cas_cell.specs.declared.deletion.Deletion.{Deletion}
use Rattle.cas_bounds.specs.declared.cuts.Cut.{Cut}
use Rattle.cas_atoms.specs.declared.atom.Atom.{Atom}
use Rattle.cas_atoms.specs.declared.atom.Atom.TheVariants.{RangeDeletion}
use Rattle.cas_laws.specs.Given.{Has}
use Rattle.cas_streams.specs.Flat.{Change}

-- a range deletion among the atoms begins or ends at the cut
pub record IsEnd (atoms : List Atom) (c : Cut) : Type 0 where
  pub lo : Cut
  pub hi : Cut
  pub deletion : Deletion
  pub has : Has atoms (RangeDeletion lo hi deletion)
  pub at : (c ≡ lo) ⊎ (c ≡ hi)

-- where `now` is in force before these changes: each that changes what is in force is at a cut of that kind
abbrev pub MovesAt : (Cut → Type 0) → Option Deletion → List Change → Type 0
MovesAt P now [] = Unit {0}
MovesAt P now (m ∷ ms) = ((now ≡ m.to) ⊎ P m.at) × MovesAt P m.to ms

-- each change that changes what is in force is at an end of a range deletion among the atoms
abbrev pub AreAtEnds : List Atom → List Change → Type 0
AreAtEnds atoms ms = MovesAt (IsEnd atoms) None ms

-- each change is
abbrev pub AllAtEnds : List Atom → List Change → Type 0
AllAtEnds atoms ms = AllByRecursion (λ m. IsEnd atoms m.at) ms
