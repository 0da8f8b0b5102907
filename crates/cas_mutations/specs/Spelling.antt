-- How atoms and the records of the commit log are spelled as bytes: each has one spelling.
-- Own format.
use Rattle.std.specs.Prelude.{ℕ, ℤ, Bool, List, ◌++◌, length}
use Rattle.std.specs.List.{flat_map}
use Rattle.cas_codec.specs.Fields.{u8, u16, u32, u64, i64, flag, bytes16, bytes32}
use Rattle.cas_records.specs.Spelling.{deletion_bytes, live_bytes, cell_bytes, clustering_bytes, cut_bytes}
use Rattle.cas_atoms.specs.declared.atom.Atom.{Atom}
use Rattle.cas_atoms.specs.declared.atom.Atom.TheVariants.{PartitionDeletion, RangeDeletion, RowDeletion, CollectionDeletion}
use Rattle.cas_atoms.specs.declared.atom.Atom.TheVariants.{Live, Write, StaticWrite, StaticCollectionDeletion}
use Rattle.cas_atoms.specs.declared.atom.Mutation.{Mutation}

-- an atom: a tag in one byte, and what the atom has; a column is told by its number, and a path has its length in two bytes
abbrev pub atom_bytes : Atom → List ℕ
atom_bytes (PartitionDeletion d) = u8 1 ++ deletion_bytes d
atom_bytes (RangeDeletion lo hi d) = u8 2 ++ (cut_bytes lo ++ (cut_bytes hi ++ deletion_bytes d))
atom_bytes (RowDeletion c d) = u8 3 ++ (clustering_bytes c ++ deletion_bytes d)
atom_bytes (CollectionDeletion c column d) = u8 4 ++ (clustering_bytes c ++ (u16 column.number ++ deletion_bytes d))
atom_bytes (Live c l) = u8 5 ++ (clustering_bytes c ++ live_bytes l)
atom_bytes (Write c column p v) = u8 6 ++ (clustering_bytes c ++ (u16 column.number ++ (bytes16 p ++ cell_bytes v)))
atom_bytes (StaticWrite column p v) = u8 7 ++ (u16 column.number ++ (bytes16 p ++ cell_bytes v))
atom_bytes (StaticCollectionDeletion column d) = u8 8 ++ (u16 column.number ++ deletion_bytes d)

-- which mutation it is: the number of its table, its shard, and its number in the shard
abbrev pub place_bytes : ℕ → ℕ → ℕ → List ℕ
place_bytes table shard number = u16 table ++ (u8 shard ++ u64 number)

-- when it was made: whether its timestamp was drawn, the timestamp in microseconds, and the second of the clock
abbrev pub times_bytes : Bool → ℤ → ℤ → List ℕ
times_bytes drawn at moment = flag drawn ++ (i64 at ++ i64 moment)

-- atoms: their number in four bytes, and each
abbrev pub atoms_bytes : List Atom → List ℕ
atoms_bytes atoms = u32 (length atoms) ++ flat_map atom_bytes atoms

-- a mutation: which it is, when it was made, its partition key and its atoms
abbrev pub mutation_bytes : Mutation → List ℕ
mutation_bytes m = place_bytes m.table m.shard m.number ++ (times_bytes m.drawn m.at m.moment ++ (bytes16 m.key ++ atoms_bytes m.atoms))

-- a record of the commit log: a mutation, after its length in four bytes
abbrev pub record_bytes : Mutation → List ℕ
record_bytes m = bytes32 (mutation_bytes m)
