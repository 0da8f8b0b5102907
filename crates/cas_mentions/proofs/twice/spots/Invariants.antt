use Rattle.std.proofs.Common.{◌≡◌, map, take}
use Rattle.cas_mentions.specs.Inner.Spots.{in_spot}
use Rattle.cas_mentions.proofs.twice.spots.Given as goal

abbrev pub invariant-loop-item : goal.invariant-loop-item
invariant-loop-item g l = map in_spot l.spots.items ≡ map (g.T.Changes.changed l.columns) (take l.item-index l.items)
