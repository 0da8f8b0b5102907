use Rattle.std.proofs.Common.{◌-◌, length}
use Rattle.cql_phrases.proofs.LineReading.{Read}
use Rattle.cql_phrases.proofs.lexemes.line_lexemes.Given as goal

abbrev pub invariant-loop-at : goal.invariant-loop-at
invariant-loop-at l = Read l.source l.at l.found.items

abbrev pub decreases-loop-at : goal.decreases-loop-at
decreases-loop-at l = length l.source - l.at
