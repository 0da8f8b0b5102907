use Rattle.std.proofs.Common.{Some, sym, subst, ◌∙◌}
use Rattle.std.specs.Cmp.Lexicographic.{pointwise_decides, bytes_decides}
use Rattle.cas_partition.specs.Inner.Fronts.{HaveSameValues}
use Rattle.cas_partition.proofs.row_key.have_same_values.Goals as goal

pub returns-in-Row-Row : goal.returns-in-Row-Row
returns-in-Row-Row c e =
    subst (λ u. HaveSameValues u c.args.b.now) (sym c.in-Some-Some.is-0)
    (subst (HaveSameValues (Some c.in-Some-Some.k)) (sym c.in-Some-Some.is-1)
    (sym c.as_slice.ensures ∙ (pointwise_decides bytes_decides _ _).0 (sym c.eq.ensures ∙ e) ∙ c.as_slice-in-Row-Row.ensures, c.in-Row-Row.is-0, c.in-Row-Row.is-1))
