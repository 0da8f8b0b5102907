use Rattle.std.proofs.Common.{ap}
use Rattle.std.specs.Prelude.{option_map}
use Rattle.cas_atoms.specs.declared.row.RowColumn.{RowColumn}
use Rattle.cas_fragments.proofs.columns.last_number.Goals as goal

pub returns-in-Some : goal.returns-in-Some
returns-in-Some c = ap (option_map (λ (x : RowColumn). x.column.number)) c.in-Some.ensures.value

pub returns-in-None : goal.returns-in-None
returns-in-None c = ap (option_map (λ (x : RowColumn). x.column.number)) c.in-None.ensures.value
