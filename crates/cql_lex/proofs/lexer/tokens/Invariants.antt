use Rattle.std.proofs.Common.{◌-◌, length}
use Rattle.cql_lex.proofs.Reached.{Reached}
use Rattle.cql_lex.proofs.lexer.tokens.Given as goal

abbrev pub invariant-loop-at : goal.invariant-loop-at
invariant-loop-at l = Reached l.bytes l.at l.found.items

abbrev pub decreases-loop-at : goal.decreases-loop-at
decreases-loop-at l = length l.bytes - l.at
