use Rattle.cas_index.proofs.SearchLaws.{keys_ascend}
use Rattle.cas_index.proofs.index.PartitionIndex.next_after.Goals as goal

pub number_after-requires : goal.number_after-requires
number_after-requires c = keys_ascend _ _ c.as_slice.ensures.entries
