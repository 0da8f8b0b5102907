use Rattle.std.proofs.Common.{List, None, subst, arith}
use Rattle.cas_index.specs.declared.entries.PartitionEntry.{PartitionEntry}
use Rattle.cas_index.specs.Searches.{HasKey}
use Rattle.cas_index.proofs.SearchLaws.{keys_ascend, key_within}
use Rattle.cas_index.proofs.index.PartitionIndex.find.Goals as goal

pub number_of-requires : goal.number_of-requires
number_of-requires c = keys_ascend _ _ c.as_slice.ensures.entries

pub overflow_cast-result : goal.overflow_cast-result
overflow_cast-result c =
    omega (arith, key_within c.as_slice.result.now c.args.key.now c.in-Some.number c.in-Some.ensures, c.as_slice.ensures.entries.few)

pub returns-in-None : goal.returns-in-None
returns-in-None c = subst (λ (ps : List PartitionEntry). HasKey ps c.args.key.now None) c.as_slice.ensures.partitions c.in-None.ensures
