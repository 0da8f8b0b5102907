use Rattle.cql_lex.proofs.Spans.{one_reading}
use Rattle.cql_lex.proofs.laws.one_reading.Goals as goal

pub returns : goal.returns
returns c = one_reading
