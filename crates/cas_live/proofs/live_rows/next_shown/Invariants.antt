use Rattle.std.proofs.Common.{◌≡◌, ◌≤◌, List, Some}
use Rattle.cas_streams.specs.declared.fragment.Fragment.{Fragment}
use Rattle.cas_live.proofs.Passing.{Passed}
use Rattle.cas_live.proofs.live_rows.next_shown.Given as goal

abbrev pub invariant-loop-fragment : goal.invariant-loop-fragment
invariant-loop-fragment g l =
    (l.viewer.query ≡ l.fn.viewer.query)
    × (l.viewer.moment ≡ l.fn.viewer.moment)
    × (g.I.FragmentSource.over_all l.source ≡ g.I.FragmentSource.over_all l.fn.source)
    × (g.I.FragmentSource.at_most l.source ≤ g.I.FragmentSource.at_most l.fn.source)
    × ((fs : List Fragment) → g.I.FragmentSource.to_come l.fn.source ≡ Some fs → Passed l.fn.viewer fs l.viewer (g.I.FragmentSource.to_come l.source))

abbrev pub decreases-loop-fragment : goal.decreases-loop-fragment
decreases-loop-fragment g l = g.I.FragmentSource.at_most l.source
