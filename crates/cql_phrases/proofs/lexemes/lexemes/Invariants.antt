use Rattle.std.proofs.Common.{◌≡◌, length}
use Rattle.cql_phrases.specs.Lexemes.{lexemes_of}
use Rattle.cql_phrases.proofs.Meanings.{behind}
use Rattle.cql_phrases.proofs.lexemes.lexemes.Given as goal

abbrev pub invariant-loop-token : goal.invariant-loop-token
invariant-loop-token l = behind l.found.items (lexemes_of l.source l.rest) ≡ lexemes_of l.fn.source l.fn.tokens

abbrev pub decreases-loop-token : goal.decreases-loop-token
decreases-loop-token l = length l.rest
