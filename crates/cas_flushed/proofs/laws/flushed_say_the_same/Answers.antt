use Rattle.cas_flushed.proofs.Standing.{flushed_say_the_same}
use Rattle.cas_flushed.proofs.laws.flushed_say_the_same.Goals as goal

pub returns : goal.returns
returns c = flushed_say_the_same
