use Rattle.std.proofs.Common.{List, subst, sym}
use Rattle.cas_bounds.specs.declared.order.Ordered.{Ordered}
use Rattle.cas_index.specs.Allowed.{AreEntries}
use Rattle.cas_index.proofs.IndexLaws.{index_exact}
use Rattle.cas_index.proofs.reading.read_index.Goals as goal

pub of-requires : goal.of-requires
of-requires c =
    subst (λ (o : List Ordered). AreEntries o c.in_ok-partitions.partitions.items) (sym c.in_ok-clone.ensures.cases)
    ((index_exact c.args.order.now).found c.args.reader.now _ c.in_ok-partitions.partitions.items c.left-left.ensures.are_bytes c.in_ok-partitions.ensures).0.1
