use Rattle.std.proofs.Common.{true, false, Some, sym, ap, ◌∙◌}
use Rattle.cas_streams.specs.declared.fragment.Fragment.TheVariants as fragment
use Rattle.cas_purge.specs.Inner.There.{row_there}
use Rattle.cas_purge.proofs.Left.{row_left}
use Rattle.cas_purge.proofs.rows.left_row.Goals as goal

pub returns-then-is_said : goal.returns-then-is_said
returns-then-is_said c =
    ap (λ r. Some (fragment.Row r)) c.purge_row-left.ensures
    ∙ sym (row_left c.args.horizon.before c.args.horizon.limit c.args.r true (sym (ap row_there c.purge_row-left.ensures) ∙ sym c.is_said.ensures ∙ c.if-is_said.true))

pub returns-else-is_said : goal.returns-else-is_said
returns-else-is_said c = sym (row_left c.args.horizon.before c.args.horizon.limit c.args.r false (sym (ap row_there c.purge_row-left.ensures) ∙ sym c.is_said.ensures ∙ c.if-is_said.false))
