use Rattle.std.proofs.Common.{◌≡◌, [], length, reverse}
use Rattle.cql_phrases.specs.declared.nested.Wants.TheVariants.{First}
use Rattle.cql_phrases.specs.Inner.TermReading.{walk}
use Rattle.cql_phrases.proofs.nested.walk.Given as goal

abbrev pub invariant-loop-lexeme : goal.invariant-loop-lexeme
invariant-loop-lexeme l = walk l.wants l.frame (reverse l.around.items) l.rest ≡ walk First l.fn.first [] l.fn.input

abbrev pub decreases-loop-lexeme : goal.decreases-loop-lexeme
decreases-loop-lexeme l = length l.rest
