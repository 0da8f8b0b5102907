-- How many bytes the record of a mutation takes in the commit log (own).
use Rattle.std.specs.Prelude.{ℕ, ◌+◌, List, length}
use Rattle.std.specs.List.{sum_by}
use Rattle.cas_cell.specs.declared.cell.Cell.{Cell}
use Rattle.cas_cell.specs.declared.cell.Cell.TheVariants as cell
use Rattle.cas_cell.specs.declared.liveness.Liveness.{Liveness}
use Rattle.cas_cell.specs.declared.liveness.Liveness.TheVariants as live
use Rattle.cas_bounds.specs.declared.cuts.Cut.{Cut}
use Rattle.cas_atoms.specs.declared.atom.Atom.{Atom}
use Rattle.cas_atoms.specs.declared.atom.Atom.TheVariants.{PartitionDeletion, RangeDeletion, RowDeletion, CollectionDeletion}
use Rattle.cas_atoms.specs.declared.atom.Atom.TheVariants.{Live, Write, StaticWrite, StaticCollectionDeletion}
use Rattle.cas_atoms.specs.declared.atom.Mutation.{Mutation}

-- bytes with their length in two bytes
abbrev pub short_length : List ℕ → ℕ
short_length bytes = 2 + length bytes

-- the number of values in one byte, then each
abbrev pub values_length : List (List ℕ) → ℕ
values_length values = 1 + sum_by short_length values

-- the side in one byte, then the prefix
abbrev pub cut_length : Cut → ℕ
cut_length c = 1 + values_length c.prefix

-- a timestamp and a second, eight bytes each
abbrev pub deletion_length : ℕ
deletion_length = 16

-- the rank in one byte and the timestamp in eight, then the expiry in eight, the TTL in four, the value with its length in four, or the second
-- of a DELETE in eight
abbrev pub cell_length : Cell → ℕ
cell_length (cell.Plain at value) = 13 + length value
cell_length (cell.Expiring at expiry ttl value) = 25 + length value
cell_length (cell.Tombstone at second) = 17

-- one byte and the timestamp in eight, then the expiry in eight and the TTL in four
abbrev pub live_length : Liveness → ℕ
live_length (live.Plain at) = 9
live_length (live.Expiring at expiry ttl) = 21

-- a tag in one byte, then what the atom has, a column's number being two bytes
abbrev pub atom_length : Atom → ℕ
atom_length (PartitionDeletion d) = 1 + deletion_length
atom_length (RangeDeletion lo hi d) = 1 + (cut_length lo + (cut_length hi + deletion_length))
atom_length (RowDeletion c d) = 1 + (values_length c.values + deletion_length)
atom_length (CollectionDeletion c column d) = 1 + (values_length c.values + (2 + deletion_length))
atom_length (Live c l) = 1 + (values_length c.values + live_length l)
atom_length (Write c column p v) = 1 + (values_length c.values + (2 + (short_length p + cell_length v)))
atom_length (StaticWrite column p v) = 1 + (2 + (short_length p + cell_length v))
atom_length (StaticCollectionDeletion column d) = 1 + (2 + deletion_length)

-- the record's own length in four bytes, the table in two, the shard in one, the number in eight, whether the timestamp was drawn in one, the
-- timestamp and the moment in eight each, the key with its length in two, the number of atoms in four, and the atoms
abbrev pub record_length : Mutation → ℕ
record_length m = 36 + (short_length m.key + sum_by atom_length m.atoms)
