use Rattle.std.proofs.Common.{◌≡◌, ◌≤◌, List, Some}
use Rattle.cas_streams.specs.declared.fragment.Fragment.{Fragment}
use Rattle.cas_purge.specs.Inner.Coming.{purged_to_come}
use Rattle.cas_purge.proofs.purger.next_left.Given as goal

-- what is to come of the purge is what it was, and nothing else changed
abbrev pub invariant-loop-f : goal.invariant-loop-f
invariant-loop-f g l =
    let source = g.I.FragmentSource in
    record {
      first : (fs : List Fragment) → purged_to_come l.horizon.before l.horizon.limit l.initial.in_force (source.to_come l.initial.source) ≡ Some fs → purged_to_come l.horizon.before l.horizon.limit l.in_force (source.to_come l.source) ≡ Some fs;
      ends : source.at_most l.source ≤ source.at_most l.initial.source;
      top : source.over_all l.source ≡ source.over_all l.initial.source;
      faults : source.broken_by l.source ≡ source.broken_by l.initial.source;
    }

abbrev pub decreases-loop-f : goal.decreases-loop-f
decreases-loop-f g l = g.I.FragmentSource.at_most l.source
