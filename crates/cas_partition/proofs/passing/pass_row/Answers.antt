use Rattle.std.proofs.Common.{sym, ap, ◌∙◌}
use Rattle.cas_partition.specs.Inner.Passing.{all_hidden}
use Rattle.cas_partition.proofs.Hiding.{nothing_left_of}
use Rattle.cas_partition.proofs.passing.pass_row.Goals as goal

pub returns-then-all_hidden : goal.returns-then-all_hidden
returns-then-all_hidden c =
    sym (nothing_left_of c.args.top c.args.now c.args.row.now c.args.body.now (sym c.is_some.ensures ∙ c.if-is_some.true)
    (ap (λ over. all_hidden over c.args.body.now) (sym c.greater_deletion.ensures) ∙ sym c.all_hidden.ensures ∙ c.if-all_hidden.true))
