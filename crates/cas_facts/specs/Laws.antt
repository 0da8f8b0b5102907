-- What holds of the facts of atoms (own).
use Rattle.std.specs.Prelude.{◌≡◌, ◌↔◌, Option, None, List, ◌++◌}
use Rattle.cas_cell.specs.declared.deletion.Deletion.{Deletion}
use Rattle.cas_atoms.specs.declared.atom.Atom.{Atom}
use Rattle.cas_streams.specs.Flat.{changes, at_end, flat}
use Rattle.cas_streams.specs.declared.fragment.Fragment.{Fragment}
use Rattle.cas_facts.specs.declared.facts.Facts.{Facts}
use Rattle.cas_facts.specs.Facts.{AreFactsSoFar}
use Rattle.cas_facts.specs.Told.{all_told}

-- a list of atoms has one set of facts, where it isn't empty
pub record FactsAreOne : Type 0 where
  pub some : (A : List Atom) → (f : Option Facts) × AreFactsSoFar A f
  pub one : (A : List Atom) (f g : Option Facts) → AreFactsSoFar A f → AreFactsSoFar A g → f ≡ g

-- a stream at whose end no range deletion is in force has the facts of what its fragments told one by one
abbrev pub StreamsTellTheirFacts : Type 0
StreamsTellTheirFacts = (A : List Atom) (f : Option Facts) (top : Option Deletion) (fs : List Fragment) → at_end None (changes fs) ≡ None
    → AreFactsSoFar (A ++ all_told top fs) f ↔ AreFactsSoFar (A ++ flat top fs) f
