use Rattle.std.proofs.Common.{true, false, cond, sym, ap, ◌∙◌}
use Rattle.cas_cell.proofs.OrderLaws.{cell_laws}
use Rattle.cas_atoms.proofs.Wins.{below}
use Rattle.cas_merge.proofs.joining.greater_cell.Goals as goal

pub returns-then-wins : goal.returns-then-wins
returns-then-wins c = sym (ap (λ t. cond t c.args.b c.args.a) (below cell_laws.orders c.args.a c.args.b true (sym c.wins.ensures ∙ c.if-wins.true)))

pub returns-else-wins : goal.returns-else-wins
returns-else-wins c = sym (ap (λ t. cond t c.args.b c.args.a) (below cell_laws.orders c.args.a c.args.b false (sym c.wins.ensures ∙ c.if-wins.false)))
