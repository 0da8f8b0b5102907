use Rattle.std.proofs.Common.{true, false, Some, sym, ap, ◌∙◌}
use Rattle.cas_streams.specs.declared.fragment.Fragment.TheVariants as fragment
use Rattle.cas_purge.specs.Inner.There.{is_there as there}
use Rattle.cas_purge.proofs.Left.{static_left}
use Rattle.cas_purge.proofs.rows.left_static.Goals as goal

pub returns-then-is_there : goal.returns-then-is_there
returns-then-is_there c =
    ap (λ cs. Some (fragment.Static cs)) c.purge_static-left.ensures
    ∙ sym (static_left c.args.horizon.before c.args.horizon.limit c.args.columns true (sym (ap there (c.as_slice.ensures ∙ c.purge_static-left.ensures)) ∙ sym c.is_there.ensures ∙ c.if-is_there.true))

pub returns-else-is_there : goal.returns-else-is_there
returns-else-is_there c =
    sym (static_left c.args.horizon.before c.args.horizon.limit c.args.columns false (sym (ap there (c.as_slice.ensures ∙ c.purge_static-left.ensures)) ∙ sym c.is_there.ensures ∙ c.if-is_there.false))
