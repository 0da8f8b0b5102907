use Rattle.std.proofs.Common.{◌≡◌, ◌∷◌, ◌++◌, [], List, Some, sym, ap, ◌∙◌, append_assoc}
use Rattle.cas_atoms.specs.declared.query.LiveRow.{LiveRow}
use Rattle.cas_live.specs.Inner.Coming.{rows_to_come}
use Rattle.cas_live.proofs.all.all_rows.Goals as goal

pub loop-shown-preserved : goal.loop-shown-preserved
loop-shown-preserved g c = (
  λ rs e.
      let so_far = c.loop-shown.invariant.0 rs e in
      let next = c.next.new.self in
      let gives : (left : List LiveRow) × (so_far.0 ≡ c.in-Some.row ∷ left)
      × (rows_to_come (g.I.FragmentSource.over_all next.source) next.wanted next.stage next.viewer (g.I.FragmentSource.to_come next.source) ≡ Some left)
      = rw c.in-Some.is at (c.in_ok-row.ensures.first so_far.0 so_far.1) in (
        gives.0,
        gives.2,
        ap (λ l. l ++ gives.0) c.in_ok-add.ensures ∙ append_assoc c.loop-shown.shown.items (c.in-Some.row ∷ []) gives.0 ∙ ap (λ l. c.loop-shown.shown.items ++ l) (sym gives.1) ∙ so_far.2,
      ),
  λ e. c.in_ok-row.ensures.faults.1,
)
