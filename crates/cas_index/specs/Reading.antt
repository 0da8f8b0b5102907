-- Reading the index of a table file and its footer. That these readings take the spellings and nothing else is a law.
-- Own. The place of a refusal is that of the refused field's first byte.
use Rattle.std.specs.Prelude.{ℕ, zero, suc, nat_lt, List, [], ◌∷◌, Option, None, Some, Ok}
use Rattle.std.specs.Int.{is_in_range}
use Rattle.cas_codec.specs.Reading.{Left, Read, ◌>>=◌, checked, u32_at, u64_at, maybe_at}
use Rattle.cas_records.specs.Reading.{key_at, deletion_at, cut_at}
use Rattle.cas_bounds.specs.declared.order.Ordered.{Ordered}
use Rattle.cas_info.specs.declared.info.TheConstants.{PARTITION_LIMIT}
use Rattle.cas_index.specs.declared.footer.TheConstants.{END_WORD}
use Rattle.cas_index.specs.declared.footer.Footer.{Footer}
use Rattle.cas_index.specs.declared.entries.BlockEntry.{BlockEntry}
use Rattle.cas_index.specs.declared.entries.PartitionEntry.{PartitionEntry}
use Rattle.cas_index.specs.Entries.{is_next_cut, is_next_key, block_place, last_place}

-- so many items, each read by the one before it
unfoldable pub following_at : {A : Type 0} → (Option A → Left → Read A) → ℕ → Option A → Left → Read (List A)
following_at reading zero last left = Ok ([], left)
following_at reading (suc n) last left = do
  first ← reading last left
  others ← following_at reading n (Some first.0) first.1
  Ok (first.0 ∷ others.0, others.1)

-- a place behind another one
unfoldable pub place_at : ℕ → Left → Read ℕ
place_at last left = checked (nat_lt last) u64_at left

-- a block of a partition at that place: a cut not below that of the block before, a place behind its place, and perhaps a deletion
unfoldable pub block_at : List Ordered → ℕ → Option BlockEntry → Left → Read BlockEntry
block_at order place last left = do
  cut ← checked (is_next_cut last) (cut_at order) left
  at ← place_at (block_place place last) cut.1
  in_force ← maybe_at deletion_at at.1
  Ok (record { cut = cut.0; place = at.0; in_force = in_force.0 }, in_force.1)

-- the blocks of a partition at that place, after their number
unfoldable pub blocks_at : List Ordered → ℕ → Left → Read (List BlockEntry)
blocks_at order place left = do
  count ← u32_at left
  following_at (block_at order place) count.0 None count.1

-- a partition: a key above that of the one before, a place behind its last place, and the blocks
unfoldable pub partition_at : List Ordered → Option PartitionEntry → Left → Read PartitionEntry
partition_at order last left = do
  key ← checked (is_next_key last) key_at left
  place ← place_at (last_place last) key.1
  blocks ← blocks_at order place.0 place.1
  Ok (record { key = key.0; place = place.0; blocks = blocks.0 }, blocks.1)

-- an index of a table that orders its rows so
unfoldable pub index_at : List Ordered → Left → Read (List PartitionEntry)
index_at order left = do
  count ← checked (is_in_range 1 PARTITION_LIMIT) u32_at left
  following_at (partition_at order) count.0 None count.1

-- a footer
unfoldable pub footer_at : Left → Read Footer
footer_at left = do
  index ← u64_at left
  filter ← u64_at index.1
  info ← u64_at filter.1
  word ← checked (is_in_range END_WORD END_WORD) u64_at info.1
  Ok (record { index = index.0; filter = filter.0; info = info.0 }, word.1)
