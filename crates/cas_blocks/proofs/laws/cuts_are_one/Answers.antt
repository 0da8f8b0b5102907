use Rattle.cas_blocks.proofs.CutLaws.{cuts_are_one}
use Rattle.cas_blocks.proofs.laws.cuts_are_one.Goals as goal

pub returns : goal.returns
returns c = cuts_are_one
