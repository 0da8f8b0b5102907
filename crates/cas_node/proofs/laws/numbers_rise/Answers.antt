use Rattle.cas_node.proofs.NumbersRise.{found_rise, numbers_stay, all_are_read}
use Rattle.cas_node.proofs.laws.numbers_rise.Goals as goal

pub returns-clause-begin : goal.returns-clause-begin
returns-clause-begin g c = found_rise (g.F.Folder.disk c.args.folder.now)

pub returns-clause-stay : goal.returns-clause-stay
returns-clause-stay g c clock = numbers_stay (g.C.Clock.may_give clock)

pub returns-clause-read : goal.returns-clause-read
returns-clause-read g c = all_are_read
