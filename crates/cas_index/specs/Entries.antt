-- The index of a table file, as a list.
-- Own.
use Rattle.std.specs.Prelude.{ℕ, Bool, true, not, Option, None, Some, List}
use Rattle.std.specs.List.{last_or}
use Rattle.std.specs.Ordering.{is_lt, is_gt}
use Rattle.cas_types.specs.Values.{bytes_cmp}
use Rattle.cas_bounds.specs.Cuts.{cut_cmp}
use Rattle.cas_bounds.specs.declared.order.Ordered.{Ordered}
use Rattle.cas_bounds.specs.declared.cuts.Cut.{Cut}
use Rattle.cas_index.specs.declared.entries.BlockEntry.{BlockEntry}
use Rattle.cas_index.specs.declared.entries.PartitionEntry.{PartitionEntry}

-- the partitions of a table file, and how its table orders their rows
pub record Index : Type 0 where
  pub order : List Ordered
  pub partitions : List PartitionEntry

-- the cut doesn't stand below that of the block before it, if there is one
abbrev pub is_next_cut : Option BlockEntry → Cut → Bool
is_next_cut None cut = true
is_next_cut (Some b) cut = not (is_gt (cut_cmp b.cut cut))

-- the key stands above that of the partition before it, by unsigned bytes
abbrev pub is_next_key : Option PartitionEntry → List ℕ → Bool
is_next_key None key = true
is_next_key (Some p) key = is_lt (bytes_cmp p.key key)

-- the place of a block, or of its partition where no block is before
abbrev pub block_place : ℕ → Option BlockEntry → ℕ
block_place place None = place
block_place place (Some b) = b.place

-- the last place of a partition; before all partitions it is the file's start
abbrev pub last_place : Option PartitionEntry → ℕ
last_place None = 0
last_place (Some p) = block_place p.place (last_or None p.blocks)
