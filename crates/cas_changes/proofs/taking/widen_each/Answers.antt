use Rattle.std.proofs.Common.{ap, ◌∙◌}
use Rattle.std.specs.Prelude.{slice_set, slice_index_or}
use Rattle.cas_changes.specs.Saying.{with_columns}
use Rattle.cas_changes.proofs.Places.{one_more}
use Rattle.cas_changes.proofs.taking.widen_each.Goals as goal

pub loop-place-preserved : goal.loop-place-preserved
loop-place-preserved c =
    let i = c.loop-place.place in
    let widened = with_columns c.args.number c.args.columns.now in
    ap (λ t. slice_set c.loop-place.tables i t) c.in_ok-widen.ensures
    ∙ ap (λ ts. slice_set ts i (widened (slice_index_or ts i c.index-tables-place.result))) c.loop-place.invariant
    ∙ one_more widened c.args.tables.now i c.index-tables-place.result c.loop-place-test.true
