-- What a search asks of the order of blocks and partitions.
use Rattle.std.specs.Prelude.{◌≡◌, List}
use Rattle.std.specs.List.{All}
use Rattle.std.specs.List.Sorted.{IsStrictlySortedBy, IsSorted}
use Rattle.cas_types.specs.Values.{bytes_cmp}
use Rattle.cas_bounds.specs.Points.{point_cmp, cut_point}
use Rattle.cas_bounds.specs.declared.order.Ordered.{Ordered}
use Rattle.cas_index.specs.declared.entries.BlockEntry.{BlockEntry}
use Rattle.cas_index.specs.declared.entries.PartitionEntry.{PartitionEntry}

-- keys ascend, by unsigned bytes
abbrev pub KeysAscend : List PartitionEntry → Type 0
KeysAscend partitions = IsStrictlySortedBy (λ p q. bytes_cmp p.key q.key) partitions

-- blocks of a table that orders its rows so, whose cuts don't descend
pub record BlocksInOrder (order : List Ordered) (blocks : List BlockEntry) : Type 0 where
  pub one : All (λ b. b.cut.order ≡ order) blocks
  pub cuts : IsSorted (λ b c. point_cmp order (cut_point b.cut) (cut_point c.cut)) blocks
