use Rattle.cas_terms.proofs.TermValues.{term_is}
use Rattle.cas_terms.proofs.laws.terms_have_their_types.Goals as goal

pub returns : goal.returns
returns c = term_is
