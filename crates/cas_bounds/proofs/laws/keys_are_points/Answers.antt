use Rattle.cas_bounds.specs.Inner.KeyLaws.{keys_are_points}
use Rattle.cas_bounds.proofs.laws.keys_are_points.Goals as goal

pub returns : goal.returns
returns c = keys_are_points
