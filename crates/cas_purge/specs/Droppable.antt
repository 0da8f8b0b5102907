-- Which atoms a compaction may drop: those that have been dead for longer than gc_grace_seconds, and hide nothing that is kept elsewhere.
-- Cassandra documentation, "Operating: Compaction, tombstones; gc_grace_seconds"; the limit is what Cassandra calls the greatest purgeable timestamp.
use Rattle.std.specs.Prelude.{ℤ, int_lt, Bool, false, not, ◌&&◌, Option, None, Some}
use Rattle.cas_cell.specs.declared.liveness.Liveness.{Liveness}
use Rattle.cas_cell.specs.declared.liveness.Liveness.TheVariants as live
use Rattle.cas_cell.specs.declared.cell.Cell.{Cell}
use Rattle.cas_cell.specs.declared.cell.Cell.TheVariants as cell
use Rattle.cas_atoms.specs.Coordinates.{atom_at}
use Rattle.cas_atoms.specs.declared.atom.Atom.{Atom}
use Rattle.cas_atoms.specs.declared.atom.Atom.TheVariants.{PartitionDeletion, RangeDeletion, RowDeletion, CollectionDeletion}
use Rattle.cas_atoms.specs.declared.atom.Atom.TheVariants.{Live, Write, StaticWrite, StaticCollectionDeletion}

-- the second from which on a cell shows no value: a tombstone's own, the expiry of a value with a TTL; a value without one never ends
abbrev pub cell_end : Cell → Option ℤ
cell_end (cell.Plain at value) = None
cell_end (cell.Expiring at expiry ttl value) = Some expiry
cell_end (cell.Tombstone at second) = Some second

-- the second from which on a row doesn't live by its INSERT any more
abbrev pub live_end : Liveness → Option ℤ
live_end (live.Plain at) = None
live_end (live.Expiring at expiry ttl) = Some expiry

-- the second from which on an atom is dead; a deletion is from the second at which it was made
abbrev pub atom_end : Atom → Option ℤ
atom_end (PartitionDeletion d) = Some d.second
atom_end (RangeDeletion lo hi d) = Some d.second
atom_end (RowDeletion c d) = Some d.second
atom_end (CollectionDeletion c column d) = Some d.second
atom_end (Live c l) = live_end l
atom_end (Write c column p v) = cell_end v
atom_end (StaticWrite column p v) = cell_end v
atom_end (StaticCollectionDeletion column d) = Some d.second

-- an end that comes, and before that second
abbrev pub ends_before : ℤ → Option ℤ → Bool
ends_before before None = false
ends_before before (Some second) = int_lt second before

-- an atom may be dropped: it was dead before that second, the moment less gc_grace_seconds, and is earlier than the limit, the least timestamp that
-- is kept elsewhere under the key; at the very second or at the limit it stays
abbrev pub droppable : ℤ → ℤ → Atom → Bool
droppable before limit a = ends_before before (atom_end a) && int_lt (atom_at a) limit

-- and any other stays
abbrev pub stays : ℤ → ℤ → Atom → Bool
stays before limit a = not (droppable before limit a)
