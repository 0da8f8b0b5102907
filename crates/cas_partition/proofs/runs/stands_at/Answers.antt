use Rattle.std.proofs.Common.{Some, sym, ◌∙◌}
use Rattle.std.specs.Cmp.Lexicographic.{pointwise_decides, bytes_decides}
use Rattle.cas_partition.proofs.runs.stands_at.Goals as goal

pub returns-then-eq : goal.returns-then-eq
returns-then-eq c e =
    let values = sym c.as_slice.ensures ∙ (pointwise_decides bytes_decides _ _).0 (sym c.eq.ensures ∙ c.if-eq.true) ∙ c.as_slice-in-Row.ensures in
    let order = sym c.as_slice-then-eq.ensures ∙ c.have_one_order.ensures e ∙ c.as_slice-then-eq-2.ensures in
    c.in-Some.is ∙ (λ i. Some (record { values = values i; end = c.in-Row.is i; order = order i }))
