use Rattle.cas_facts.proofs.Joining.{facts_are_one}
use Rattle.cas_facts.proofs.laws.facts_are_one.Goals as goal

pub returns : goal.returns
returns c = facts_are_one
