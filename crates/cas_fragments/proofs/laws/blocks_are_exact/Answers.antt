use Rattle.cas_fragments.proofs.BlockLaws.{blocks_exact}
use Rattle.cas_fragments.proofs.laws.blocks_are_exact.Goals as goal

pub returns : goal.returns
returns c = blocks_exact
