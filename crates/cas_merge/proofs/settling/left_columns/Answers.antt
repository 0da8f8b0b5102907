use Rattle.std.proofs.Common.{sym, ap, ◌∙◌}
use Rattle.cas_merge.specs.Inner.Said.{all_stay}
use Rattle.cas_merge.proofs.Saying.{columns_stay}
use Rattle.cas_merge.proofs.settling.left_columns.Goals as goal

pub returns-then-all_stay : goal.returns-then-all_stay
returns-then-all_stay c at =
    c.into_vec.ensures
    ∙ columns_stay at c.args.over c.args.columns (ap (all_stay c.args.over) (sym c.as_slice.ensures) ∙ sym c.all_stay.ensures ∙ c.if-all_stay.true)
