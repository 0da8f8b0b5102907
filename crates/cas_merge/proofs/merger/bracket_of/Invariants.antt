use Rattle.std.proofs.Common.{◌≡◌, ◌+◌, List, Some}
use Rattle.std.specs.Vec.Iter.{into_iter_items, into_iter_len}
use Rattle.cas_streams.specs.Joined.{Stream}
use Rattle.cas_merge.specs.Told.{streams_told}
use Rattle.cas_merge.specs.Inner.Brackets.{room, IsFresh}
use Rattle.cas_merge.specs.Inner.Mergers.{rooms, Halfway}
use Rattle.cas_merge.proofs.merger.bracket_of.Given as goal

abbrev pub invariant-loop-source : goal.invariant-loop-source
invariant-loop-source g l =
    IsFresh l.bracket
    × (room g.I.FragmentSource.at_most l.bracket + rooms g.I.FragmentSource.at_most (into_iter_items l.rest) ≡ rooms g.I.FragmentSource.at_most l.fn.sources.items)
    × ((ss : List Stream) → streams_told g.I.FragmentSource.to_come g.I.FragmentSource.over_all l.fn.sources.items ≡ Some ss
    → Halfway g.I.FragmentSource.to_come g.I.FragmentSource.over_all l.bracket (into_iter_items l.rest) ss)

abbrev pub decreases-loop-source : goal.decreases-loop-source
decreases-loop-source g l = into_iter_len l.rest
