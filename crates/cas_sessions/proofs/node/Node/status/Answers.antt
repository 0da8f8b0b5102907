use Rattle.std.proofs.lemmas.Result.{IfOk-weaker}
use Rattle.cas_render.specs.Listing.{in_shards}
use Rattle.cas_lasting.specs.Nodes.{files_in}
use Rattle.cas_lasting.specs.Status.{file_numbers}
use Rattle.cas_sessions.proofs.Statuses.{all_listed, more_listed, status_stands}
use Rattle.cas_sessions.proofs.node.Node.status.Goals as goal

pub loop-table-preserved : goal.loop-table-preserved
loop-table-preserved g c =
    let n = c.args.self.now in
    more_listed (in_shards n.limits.shards (file_numbers (files_in n.shards.items))) n.tables.items c.deref-table-items.result.now c.loop-table.table-index
    c.table-item.result c.loop-table.listed.items c.list_table.new.listed.items c.deref-table-items.ensures.value c.loop-table-test.true c.table-item.is
    c.loop-table.invariant c.in_ok-list_table.ensures

pub returns : goal.returns
returns g c =
    let n = c.args.self.now in
    IfOk-weaker c.in_order.result _ _
    (λ l is session calls clock h stands.
    status_stands _ c.loop-table.listed.items l h stands
    (all_listed (in_shards n.limits.shards (file_numbers (files_in n.shards.items))) n.tables.items c.deref-table-items.result.now c.loop-table.table-index
    c.loop-table.listed.items c.deref-table-items.ensures.value c.loop-table-test.false c.loop-table.invariant)
    is)
    c.in_order.ensures
