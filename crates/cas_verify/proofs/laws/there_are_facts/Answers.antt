use Rattle.cas_verify.proofs.CheckLaws.{there_are_facts}
use Rattle.cas_verify.proofs.laws.there_are_facts.Goals as goal

pub returns : goal.returns
returns c = there_are_facts
