use Rattle.std.proofs.Common.{◌≡◌, ◌≤◌, ◌+◌, List, Some, IfSome, length}
use Rattle.cas_streams.specs.declared.fragment.Fragment.{Fragment}
use Rattle.cas_live.proofs.Keeping.{Gathered}
use Rattle.cas_live.proofs.live_rows.last_shown.Given as goal

abbrev pub invariant-loop-kept : goal.invariant-loop-kept
invariant-loop-kept g l =
    (l.viewer.query ≡ l.fn.viewer.query)
    × (l.viewer.moment ≡ l.fn.viewer.moment)
    × (g.I.FragmentSource.over_all l.source ≡ g.I.FragmentSource.over_all l.fn.source)
    × (length l.kept.items + g.I.FragmentSource.at_most l.source ≤ g.I.FragmentSource.at_most l.fn.source)
    × IfSome l.wanted (λ n. length l.kept.items ≤ n)
    × ((fs : List Fragment) → g.I.FragmentSource.to_come l.fn.source ≡ Some fs
    → Gathered l.wanted l.fn.viewer fs l.viewer (g.I.FragmentSource.to_come l.source) l.kept.items)

abbrev pub decreases-loop-kept : goal.decreases-loop-kept
decreases-loop-kept g l = g.I.FragmentSource.at_most l.source
