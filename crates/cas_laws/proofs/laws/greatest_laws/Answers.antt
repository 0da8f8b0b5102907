use Rattle.cas_cell.proofs.OrderLaws.{deletion_laws, live_laws, cell_laws}
use Rattle.cas_laws.proofs.GreatestProofs.{greatest_laws}
use Rattle.cas_laws.proofs.laws.greatest_laws.Goals as goal

pub returns-clause-deletions : goal.returns-clause-deletions
returns-clause-deletions c = greatest_laws deletion_laws.orders

pub returns-clause-lives : goal.returns-clause-lives
returns-clause-lives c = greatest_laws live_laws.orders

pub returns-clause-cells : goal.returns-clause-cells
returns-clause-cells c = greatest_laws cell_laws.orders
