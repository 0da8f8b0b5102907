use Rattle.std.proofs.Common.{refl, ◌∙◌}
use Rattle.cas_partition.specs.Spots.{row_cmp}
use Rattle.cas_partition.proofs.Fronts.{one_row}
use Rattle.cas_partition.proofs.row_key.compare_tied.Goals as goal

pub returns-then-have_same_values : goal.returns-then-have_same_values
returns-then-have_same_values c =
    one_row c.a.inside.row c.b.inside.row _ _ c.a.invariant c.b.invariant c.if-a-b.true c.if-a-ne0.true (c.if-have_same_values.ensures refl)
    ∙ (λ i. row_cmp (c.a.view_is i) (c.b.view_is i))
