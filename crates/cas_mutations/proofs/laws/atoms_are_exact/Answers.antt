use Rattle.cas_mutations.proofs.AtomLaws.{atom_exact}
use Rattle.cas_mutations.proofs.RecordLaws.{atom_long}
use Rattle.cas_mutations.proofs.laws.atoms_are_exact.Goals as goal

pub returns : goal.returns
returns c = record {
  atom = atom_exact;
  length = atom_long;
}
