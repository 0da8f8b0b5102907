use Rattle.std.proofs.Common.{◌≡◌, ◌++◌, None, Some, List}
use Rattle.cas_atoms.specs.declared.query.LiveRow.{LiveRow}
use Rattle.cas_live.specs.Inner.Coming.{rows_to_come, rows_left}
use Rattle.cas_live.proofs.all.all_rows.Given as goal

abbrev pub invariant-loop-shown : goal.invariant-loop-shown
invariant-loop-shown g l =
    ((rs : List LiveRow)
    → rows_to_come (g.I.FragmentSource.over_all l.initial.rows.source) l.initial.rows.wanted l.initial.rows.stage l.initial.rows.viewer (g.I.FragmentSource.to_come l.initial.rows.source) ≡ Some rs
    → (left : List LiveRow)
    × (rows_to_come (g.I.FragmentSource.over_all l.rows.source) l.rows.wanted l.rows.stage l.rows.viewer (g.I.FragmentSource.to_come l.rows.source) ≡ Some left)
    × (l.shown.items ++ left ≡ rs))
    × (l.initial.rows.broken ≡ None → l.rows.broken ≡ None)

abbrev pub decreases-loop-shown : goal.decreases-loop-shown
decreases-loop-shown g l = rows_left l.rows.stage (g.I.FragmentSource.at_most l.rows.source)
