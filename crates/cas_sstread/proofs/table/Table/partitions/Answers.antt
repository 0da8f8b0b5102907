use Rattle.std.proofs.Common.{subst}
use Rattle.std.specs.List.{AllByRecursion}
use Rattle.cas_index.specs.Allowed.{AreEntries}
use Rattle.cas_sstread.specs.Loading.{Held}
use Rattle.cas_sstread.specs.Inner.Within.{StandsBefore}
use Rattle.cas_sstread.proofs.Within.{all_before}
use Rattle.cas_sstread.proofs.table.Table.partitions.Goals as goal

pub returns-clause-before : goal.returns-clause-before
returns-clause-before g c =
    let parts = c.self.inside.parts in
    let entries : AreEntries parts.index.order parts.index.partitions = subst (AreEntries parts.index.order) c.as_slice.ensures.partitions c.as_slice.ensures.entries in
    subst (λ (h : Held). AllByRecursion (StandsBefore h.kept.end) h.kept.partitions) c.self.view_is
    (all_before parts.index.order parts.end parts.index.partitions entries c.self.invariant.2)
