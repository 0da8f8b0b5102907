use Rattle.std.proofs.Common.{◌≡◌, ◌≤◌, List, Some}
use Rattle.cas_streams.specs.declared.fragment.Fragment.{Fragment}
use Rattle.cas_merge.specs.Inner.Brackets.{coming, room, left_to_come}
use Rattle.cas_merge.proofs.bracket.Bracket.search_left.Given as goal

abbrev pub invariant-loop-f : goal.invariant-loop-f
invariant-loop-f g l =
    ((fs : List Fragment) → left_to_come l.top l.initial.now (coming g.I.FragmentSource.to_come l.initial.self) ≡ Some fs → left_to_come l.top l.now (coming g.I.FragmentSource.to_come l.self) ≡ Some fs)
    × (room g.I.FragmentSource.at_most l.self ≤ room g.I.FragmentSource.at_most l.initial.self)

abbrev pub decreases-loop-f : goal.decreases-loop-f
decreases-loop-f g l = room g.I.FragmentSource.at_most l.self
