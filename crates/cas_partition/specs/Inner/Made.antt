-- Places that were made (own).
use Rattle.std.specs.Prelude.{List}
use Rattle.cas_atoms.specs.declared.atom.Atom.{Atom}
use Rattle.cas_partition.specs.Partitions.{MakesPlaces, HavePlaces}
use Rattle.cas_partition.specs.declared.partition.Partition.{Partition}

-- place was made for all of these atoms
abbrev pub MadePlaces : List Atom → Partition → Partition → Type 0
MadePlaces atoms p q = MakesPlaces atoms p q × HavePlaces q atoms
