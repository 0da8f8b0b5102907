-- That blocks and partitions have room in their fields is a fact.
use Rattle.std.specs.List.{AllByRecursion-prop}
use Rattle.std.proofs.Props.{props}

pub ruleset room_props = (props, AllByRecursion-prop)
