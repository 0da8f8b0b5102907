use Rattle.cas_streams.proofs.Something.{merge_says_something}
use Rattle.cas_streams.proofs.laws.merge_says_something.Goals as goal

pub returns : goal.returns
returns c = merge_says_something
