use Rattle.std.proofs.Common.{◌≡◌, drop}
use Rattle.cql_tables.specs.TableNames.{are_joined}
use Rattle.cql_tables.proofs.table_words.are_joined.Given as goal

abbrev pub invariant-loop-token : goal.invariant-loop-token
invariant-loop-token l = are_joined 0 l.tokens l.length ≡ are_joined l.end (drop l.token-index l.tokens) l.length
