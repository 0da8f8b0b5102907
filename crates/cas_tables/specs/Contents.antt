-- What a table file holds: partitions of one table and shard by their keys, each a stream of fragments.
-- Cassandra documentation, "Storage engine: SSTables"; own.
use Rattle.std.specs.Prelude.{ℕ, List, map}
use Rattle.cas_atoms.specs.declared.atom.Atom.{Atom}
use Rattle.cas_streams.specs.Joined.{Stream}
use Rattle.cas_streams.specs.Merged.{flats}
use Rattle.cas_tables.specs.declared.header.Header.{Header}

-- a partition: its key, and its stream, the deletion of the whole and the fragments
pub record Partition : Type 0 where
  pub key : List ℕ
  pub stream : Stream

-- what a table file tells of itself, the level it stands in, and its partitions
pub record Contents : Type 0 where
  pub header : Header
  pub level : ℕ
  pub partitions : List Partition

-- the keys, in the order of the partitions
abbrev pub keys : Contents → List (List ℕ)
keys c = map (λ p. p.key) c.partitions

-- the atoms of all partitions
abbrev pub atoms_of : Contents → List Atom
atoms_of c = flats (map (λ p. p.stream) c.partitions)
