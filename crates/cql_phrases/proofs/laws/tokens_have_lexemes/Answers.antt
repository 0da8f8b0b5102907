use Rattle.cql_phrases.proofs.LineLexemes.{tokens_have_lexemes}
use Rattle.cql_phrases.proofs.laws.tokens_have_lexemes.Goals as goal

pub returns : goal.returns
returns c = tokens_have_lexemes
