use Rattle.std.proofs.Common.{◌-◌}
use Rattle.cql_lex.specs.declared.names.TheConstants.{IN_PLACE}
use Rattle.cql_lex.proofs.Words.{Front}
use Rattle.cql_lex.proofs.names.short_word.Given as goal

abbrev pub invariant-loop-at : goal.invariant-loop-at
invariant-loop-at l = Front l.text l.places l.at

abbrev pub decreases-loop-at : goal.decreases-loop-at
decreases-loop-at l = IN_PLACE - l.at
