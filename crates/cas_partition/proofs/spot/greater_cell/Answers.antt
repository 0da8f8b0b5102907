use Rattle.std.proofs.Common.{sym, ◌∙◌}
use Rattle.cas_cell.proofs.OrderLaws.{cell_laws}
use Rattle.cas_atoms.proofs.Wins.{second_wins, first_stays}
use Rattle.cas_partition.proofs.spot.greater_cell.Goals as goal

pub returns-then-wins : goal.returns-then-wins
returns-then-wins c = second_wins cell_laws.orders _ _ _ _ c.in-Some-Some.is-0 c.in-Some-Some.is-1 (sym c.wins.ensures ∙ c.if-wins.true)

pub returns-else-wins : goal.returns-else-wins
returns-else-wins c = first_stays cell_laws.orders _ _ _ _ c.in-Some-Some.is-0 c.in-Some-Some.is-1 (sym c.wins.ensures ∙ c.if-wins.false)
