-- Reading the segments of the commit log from left to right: their mutations, or the first field that isn't as it must be.
-- Own format. The place of a refusal is that of the refused field's first byte.
use Rattle.std.specs.Prelude.{ℕ, zero, suc, ◌+◌, ◌*◌, ◌==◌, nat_le, nat_lt, bytes_eq, codes, Bool, true, List}
use Rattle.std.specs.Prelude.{[], ◌∷◌, ◌++◌, length, reverse, filter, slice_get, unwrap_or, Option, None, Some, Result, Ok, Err, if◌then◌else◌}
use Rattle.std.specs.List.{find}
use Rattle.std.specs.Int.{is_in_range}
use Rattle.cas_types.specs.declared.schema.TableSchema.{TableSchema}
use Rattle.cas_disk.specs.declared.name.Name.TheVariants.{Log}
use Rattle.cas_disk.specs.Disk.{Image, bytes_of}
use Rattle.cas_codec.specs.declared.fault.ReadFault.{ReadFault}
use Rattle.cas_codec.specs.declared.fault.ReadFault.TheVariants.{Short, Bad}
use Rattle.cas_codec.specs.Reading.{Left, Read, ◌>>=◌, checked, bytes_at, u8_at, u32_at, u64_at}
use Rattle.cas_atoms.specs.declared.atom.Mutation.{Mutation}
use Rattle.cas_mutations.specs.Reading.{record_at}
use Rattle.cas_log.specs.declared.limits.TheConstants.{LEAST_SEGMENT, GREATEST_SEGMENT}

-- the last of these mutations that is of the shard
abbrev pub last_of : ℕ → List Mutation → Option Mutation
last_of shard mutations = find (λ m. m.shard == shard) (reverse mutations)

-- its number is one above that of this mutation, where there is one
abbrev pub is_next : Option Mutation → Mutation → Bool
is_next None m = true
is_next (Some last) m = m.number == last.number + 1

-- a mutation that may stand behind these: its number is one above that of the last one of its shard
unfoldable pub follows : List Mutation → Mutation → Bool
follows before m = is_next (last_of m.shard before) m

-- a record whose mutation may stand behind these; one out of order isn't allowed at the record's place
unfoldable pub next_at : List TableSchema → ℕ → List Mutation → Left → Read Mutation
next_at tables shards before left = checked (follows before) (record_at tables shards) left

-- these mutations, and behind them those of so many records
unfoldable pub records_at : List TableSchema → ℕ → ℕ → List Mutation → Left → Read (List Mutation)
records_at tables shards zero before left = Ok (before, left)
records_at tables shards (suc n) before left = do
  next ← next_at tables shards before left
  records_at tables shards n (before ++ next.0 ∷ []) next.1

-- the length of a block's body; one with which the block and the next gate would pass the size isn't allowed there
unfoldable pub length_at : ℕ → Left → Read ℕ
length_at size left = checked (λ long. nat_le (left.at + long + 9) size) u32_at left

-- What stands behind an open gate: so many records that fill the body. A body that is cut short is short at its length.
unfoldable pub block_at : List TableSchema → ℕ → ℕ → List Mutation → Left → Read (List Mutation)
block_at tables shards size before left = do
  long ← length_at size left
  count ← u32_at long.1
  body ← bytes_at left.at long.0 count.1
  found ← records_at tables shards count.0 before (record { bytes = body.0; at = count.1.at })
  if length found.1.bytes == 0 then Ok (found.0, body.1) else Err (Bad found.1.at)

-- Blocks up to the first gate that isn't open, fewer than so many; what follows that gate isn't read.
unfoldable pub blocks_at : List TableSchema → ℕ → ℕ → ℕ → List Mutation → Left → Read (List Mutation)
blocks_at tables shards zero size before left = Err (Short left.at)
blocks_at tables shards (suc n) size before left = do
  gate ← u8_at left
  if gate.0 == 1 then (block_at tables shards size before gate.1 >>= λ block. blocks_at tables shards n size block.0 block.1) else Ok (before, gate.1)

-- the word, the number and the size, of which the size is told
unfoldable pub header_at : ℕ → Left → Read ℕ
header_at number left = do
  word ← checked (λ w. bytes_eq w (codes "CASSLOG1")) (λ l. bytes_at l.at 8 l) left
  named ← checked (λ n. n == number) u64_at word.1
  checked (is_in_range LEAST_SEGMENT GREATEST_SEGMENT) u64_at named.1

-- a segment of this number, behind these mutations; there are fewer blocks than bytes
unfoldable pub segment_at : List TableSchema → ℕ → ℕ → List Mutation → Left → Read (List Mutation)
segment_at tables shards number before left = do
  size ← header_at number left
  blocks_at tables shards (length size.1.bytes) size.0 before size.1

-- these mutations, and behind them those of the segment of this number that the file is, of these tables, in a store of so many shards
unfoldable pub segment_of : List TableSchema → ℕ → ℕ → List Mutation → List ℕ → Result (List Mutation) ReadFault
segment_of tables shards number before file = do
  found ← segment_at tables shards number before (record { bytes = file; at = 0 })
  Ok found.0

-- ---- several segments

-- what was read of a segment goes before what is read of those behind it; a fault is one of this segment
abbrev pub in_segment : ℕ → (List Mutation → Result (List Mutation) (ℕ × ReadFault)) → Result (List Mutation) ReadFault → Result (List Mutation) (ℕ × ReadFault)
in_segment number others (Ok found) = others found
in_segment number others (Err f) = Err (number, f)

-- these mutations, and behind them those of the segments of these numbers, one after another; or the first segment with a field that isn't as it
-- must be, and why
unfoldable pub log_of : List TableSchema → ℕ → (ℕ → List ℕ) → List ℕ → List Mutation → Result (List Mutation) (ℕ × ReadFault)
log_of tables shards file [] before = Ok before
log_of tables shards file (number ∷ numbers) before =
    in_segment number (log_of tables shards file numbers) (segment_of tables shards number before (file number))

-- the bytes of a segment in an image, none where it isn't there
abbrev pub segment_in : Image → ℕ → List ℕ
segment_in c number = bytes_of (c (Log number))

-- ---- frontiers

-- the frontier of a table in a shard, up to which its files hold all mutations: they stand table by table, and one that isn't there is 0
abbrev pub frontier_of : ℕ → List ℕ → ℕ → ℕ → ℕ
frontier_of shards frontiers table shard = unwrap_or (slice_get frontiers (table * shards + shard)) 0

-- a mutation above the frontier of its table and shard
abbrev pub is_above : ℕ → List ℕ → Mutation → Bool
is_above shards frontiers m = nat_lt (frontier_of shards frontiers m.table m.shard) m.number

-- of what was read the mutations above their frontiers, in order
abbrev pub above_in : ℕ → List ℕ → Result (List Mutation) (ℕ × ReadFault) → Result (List Mutation) (ℕ × ReadFault)
above_in shards frontiers (Ok found) = Ok (filter (is_above shards frontiers) found)
above_in shards frontiers (Err f) = Err f
