use Rattle.cql_lex.proofs.Spans.{well_placed}
use Rattle.cql_lex.proofs.laws.well_placed.Goals as goal

pub returns : goal.returns
returns c = well_placed
