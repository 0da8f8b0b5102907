use Rattle.cas_index.proofs.SearchLaws.{pushed}
use Rattle.cas_index.proofs.index.PartitionIndex.push.Goals as goal

pub invariant_of-self-2 : goal.invariant_of-self-2
invariant_of-self-2 c =
    pushed (record { order = c.self.inside.order; partitions = c.self.inside.partitions.items }) c.args.self.now c.push.new.self.items c.args.partition c.self.view_is
    c.self.invariant c.requires.room c.requires.next c.in_ok-push.ensures.items
