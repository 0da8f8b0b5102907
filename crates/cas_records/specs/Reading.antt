-- Reading what the rows of a table are made of. That these readings take the spellings and nothing else is a law.
-- Own. The place of a refusal is that of the refused field's first byte.
use Rattle.std.specs.Prelude.{ℕ, ℤ, zero, suc, Bool, true, false, List, [], ◌∷◌, length, take, if◌then◌else◌, Ok, Err}
use Rattle.cas_codec.specs.declared.fault.ReadFault.TheVariants.{Bad}
use Rattle.std.specs.Int.{is_in_range}
use Rattle.cas_codec.specs.Reading.{Left, Read, ◌>>=◌, checked, is_within, u8_at, u32_at, i64_at, flag_at, bytes16_at, bytes32_at}
use Rattle.cas_types.specs.Values.{is_value}
use Rattle.cas_types.specs.declared.tag.TypeTag.{TypeTag}
use Rattle.cas_types.specs.declared.schema.Column.{Column}
use Rattle.cas_atoms.specs.Fits.{is_content}
use Rattle.cas_bounds.specs.declared.order.Ordered.{Ordered}
use Rattle.cas_bounds.specs.declared.cuts.Clustering.{Clustering}
use Rattle.cas_bounds.specs.declared.cuts.Cut.{Cut}
use Rattle.cas_cell.specs.declared.deletion.Deletion.{Deletion}
use Rattle.cas_cell.specs.declared.liveness.Liveness.{Liveness}
use Rattle.cas_cell.specs.declared.liveness.Liveness.TheVariants as live
use Rattle.cas_cell.specs.declared.cell.Cell.{Cell}
use Rattle.cas_cell.specs.declared.cell.Cell.TheVariants as cell
use Rattle.cas_types.specs.declared.limits.TheConstants.{LEAST_RECORDED, GREATEST_TIMESTAMP, TTL_LIMIT, KEY_LIMIT}

-- a timestamp
unfoldable pub timestamp_at : Left → Read ℤ
timestamp_at left = checked (is_within LEAST_RECORDED GREATEST_TIMESTAMP) i64_at left

-- a TTL
unfoldable pub ttl_at : Left → Read ℕ
ttl_at left = checked (is_in_range 1 TTL_LIMIT) u32_at left

-- a partition key: from 1 to 65,535 bytes, with their number in two
unfoldable pub key_at : Left → Read (List ℕ)
key_at left = checked (λ b. is_in_range 1 KEY_LIMIT (length b)) bytes16_at left

-- a deletion
unfoldable pub deletion_at : Left → Read Deletion
deletion_at left = do
  at ← timestamp_at left
  second ← i64_at at.1
  Ok (record { at = at.0; second = second.0 }, second.1)

-- what follows the flag that tells whether there is a TTL, and the timestamp
abbrev pub live_rest_at : Bool → ℤ → Left → Read Liveness
live_rest_at false at left = Ok (live.Plain at, left)
live_rest_at true at left = do
  expiry ← i64_at left
  ttl ← ttl_at expiry.1
  Ok (live.Expiring at expiry.0 ttl.0, ttl.1)

-- what an INSERT leaves of the row itself
unfoldable pub live_at : Left → Read Liveness
live_at left = do
  expires ← flag_at left
  at ← timestamp_at expires.1
  live_rest_at expires.0 at.0 at.1

-- the bytes of a cell
unfoldable pub content_at : (List ℕ → Bool) → Left → Read (List ℕ)
content_at allows left = do
  bytes ← bytes32_at left
  if allows bytes.0 then Ok bytes else Err (Bad left.at)

-- what follows the cell's rank and its timestamp
abbrev pub cell_rest_at : (List ℕ → Bool) → ℕ → ℤ → Left → Read Cell
cell_rest_at allows zero at left = do
  value ← content_at allows left
  Ok (cell.Plain at value.0, value.1)
cell_rest_at allows (suc zero) at left = do
  expiry ← i64_at left
  ttl ← ttl_at expiry.1
  value ← content_at allows ttl.1
  Ok (cell.Expiring at expiry.0 ttl.0 value.0, value.1)
cell_rest_at allows (suc (suc rank)) at left = do
  second ← i64_at left
  Ok (cell.Tombstone at second.0, second.1)

-- a cell of a column of which the test says what its cells may hold
unfoldable pub cell_at : (List ℕ → Bool) → Left → Read Cell
cell_at allows left = do
  rank ← checked (is_in_range 0 2) u8_at left
  at ← timestamp_at rank.1
  cell_rest_at allows rank.0 at.0 at.1

-- what a cell of the column may hold
unfoldable pub may_hold : Column → List ℕ → Bool
may_hold column bytes = is_content column.shape column.tag column.second bytes

-- a value of the type, with its length in two bytes
unfoldable pub value_at : TypeTag → Left → Read (List ℕ)
value_at tag left = do
  bytes ← bytes16_at left
  if is_value tag bytes.0 then Ok bytes else Err (Bad left.at)

-- a value of each of the columns
unfoldable pub values_at : List Ordered → Left → Read (List (List ℕ))
values_at [] left = Ok ([], left)
values_at (o ∷ os) left = do
  value ← value_at o.tag left
  others ← values_at os value.1
  Ok (value.0 ∷ others.0, others.1)

-- the place of a row in a table of this order; there are as many values as clustering columns
unfoldable pub clustering_at : List Ordered → Left → Read Clustering
clustering_at order left = do
  count ← checked (is_in_range (length order) (length order)) u8_at left
  values ← values_at order count.1
  Ok (record { values = values.0; order = order }, values.1)

-- a cut in a table of this order; its prefix has no more values than there are clustering columns
unfoldable pub cut_at : List Ordered → Left → Read Cut
cut_at order left = do
  after ← flag_at left
  count ← checked (is_in_range 0 (length order)) u8_at after.1
  prefix ← values_at (take count.0 order) count.1
  Ok (record { prefix = prefix.0; after = after.0; order = order }, prefix.1)
