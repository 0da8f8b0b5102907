use Rattle.cql_lex.proofs.RoundTrip.{quotes_round_trip}
use Rattle.cql_lex.proofs.laws.quotes_round_trip.Goals as goal

pub returns : goal.returns
returns c = quotes_round_trip
