-- What follows blocks and partitions that were read (own).
use Rattle.std.specs.Prelude.{ℕ, List, Option}
use Rattle.cas_bounds.specs.declared.order.Ordered.{Ordered}
use Rattle.cas_bounds.specs.declared.cuts.Cut.{Cut}
use Rattle.cas_codec.specs.Reading.{Left, Read, checked}
use Rattle.cas_records.specs.Reading.{key_at, cut_at}
use Rattle.cas_index.specs.declared.entries.BlockEntry.{BlockEntry}
use Rattle.cas_index.specs.declared.entries.PartitionEntry.{PartitionEntry}
use Rattle.cas_index.specs.Entries.{is_next_cut, is_next_key}

-- a cut not below that of the block before
unfoldable pub next_cut_at : List Ordered → Option BlockEntry → Left → Read Cut
next_cut_at order last left = checked (is_next_cut last) (cut_at order) left

-- a key above that of the partition before
unfoldable pub next_key_at : Option PartitionEntry → Left → Read (List ℕ)
next_key_at last left = checked (is_next_key last) key_at left
