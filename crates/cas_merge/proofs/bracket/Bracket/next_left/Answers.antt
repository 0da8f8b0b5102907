use Rattle.cas_merge.specs.Inner.Brackets.{room}
use Rattle.cas_merge.proofs.bracket.Bracket.next_left.Goals as goal

pub returns-clause-ends : goal.returns-clause-ends
returns-clause-ends g c = c.settle.ensures.ends (room g.I.FragmentSource.at_most c.args.self.now) c.first-next.ensures.ends
