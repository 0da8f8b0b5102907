-- How what the rows of a table are made of is spelled as bytes: each value has one spelling.
-- Own format. Timestamps are in microseconds.
use Rattle.std.specs.Prelude.{ℕ, List, ◌++◌, length}
use Rattle.std.specs.List.{flat_map}
use Rattle.cas_codec.specs.Fields.{u8, u32, i64, flag, bytes16, bytes32}
use Rattle.cas_bounds.specs.declared.cuts.Clustering.{Clustering}
use Rattle.cas_bounds.specs.declared.cuts.Cut.{Cut}
use Rattle.cas_cell.specs.declared.deletion.Deletion.{Deletion}
use Rattle.cas_cell.specs.declared.liveness.Liveness.{Liveness}
use Rattle.cas_cell.specs.declared.liveness.Liveness.TheVariants as live
use Rattle.cas_cell.specs.declared.cell.Cell.{Cell}
use Rattle.cas_cell.specs.declared.cell.Cell.TheVariants as cell

-- what a DELETE leaves: its timestamp, and the second at which it was made
unfoldable pub deletion_bytes : Deletion → List ℕ
deletion_bytes d = i64 d.at ++ i64 d.second

-- what an INSERT leaves of the row itself: 00 and its timestamp; with a TTL 01, the timestamp, the second at which it expires, and the TTL
abbrev pub live_bytes : Liveness → List ℕ
live_bytes (live.Plain at) = u8 0 ++ i64 at
live_bytes (live.Expiring at expiry ttl) = u8 1 ++ (i64 at ++ (i64 expiry ++ u32 ttl))

-- a cell: 00, the timestamp and the value; with a TTL 01, the timestamp, the second at which it expires, the TTL and the value; of a DELETE 02,
-- the timestamp and the second at which it was made
abbrev pub cell_bytes : Cell → List ℕ
cell_bytes (cell.Plain at value) = u8 0 ++ (i64 at ++ bytes32 value)
cell_bytes (cell.Expiring at expiry ttl value) = u8 1 ++ (i64 at ++ (i64 expiry ++ (u32 ttl ++ bytes32 value)))
cell_bytes (cell.Tombstone at second) = u8 2 ++ (i64 at ++ i64 second)

-- the values of clustering columns, in the columns' order: their number in one byte, and each with its length in two; the int 7 alone is
-- 01 00 04 00 00 00 07
abbrev pub values_bytes : List (List ℕ) → List ℕ
values_bytes values = u8 (length values) ++ flat_map bytes16 values

-- where a row stands: the values of its clustering columns
abbrev pub clustering_bytes : Clustering → List ℕ
clustering_bytes c = values_bytes c.values

-- a cut between rows: 00 where it stands before the rows that begin with its prefix, 01 where after them; and the prefix
abbrev pub cut_bytes : Cut → List ℕ
cut_bytes c = flag c.after ++ values_bytes c.prefix
