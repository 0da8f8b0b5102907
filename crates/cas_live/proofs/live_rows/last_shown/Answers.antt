use Rattle.std.proofs.Common.{◌≡◌, ◌<◌, ◌≤◌, [], Some, length, arith, ◌∙◌}
use Rattle.cas_live.specs.Inner.Coming.{rows_ahead, shared_at_end, ShowsRow}
use Rattle.cas_live.proofs.Keeping.{Gathered, one_gathered, rows_came, none_came, empty_items, some_items, if_some_then}
use Rattle.cas_live.proofs.live_rows.last_shown.Goals as goal
use Rattle.cas_live.proofs.live_rows.last_shown.Goals.{then-is_empty+in_ok-kept, else-is_empty}

pub loop-kept-preserved : goal.loop-kept-preserved
loop-kept-preserved g c =
    let tells = g.I.FragmentSource.to_come in
    let fewer : g.I.FragmentSource.at_most c.next_shown.new.source < g.I.FragmentSource.at_most c.loop-kept.source = rw c.in-Some.is at c.in_ok-row.ensures.ends in (
      c.next_shown.ensures.query ∙ c.loop-kept.invariant.0,
      c.next_shown.ensures.moment ∙ c.loop-kept.invariant.1,
      c.next_shown.ensures.top ∙ c.loop-kept.invariant.2,
      omega (arith, fewer, c.in_ok-keep.ensures.length, c.loop-kept.invariant.3),
      if_some_then c.args.wanted (λ n. length c.loop-kept.kept.items ≤ n) (λ n. length c.keep.new.kept.items ≤ n) c.in_ok-keep.ensures.wanted c.loop-kept.invariant.4,
      λ fs e.
          let s : Gathered c.args.wanted c.args.viewer.now fs c.loop-kept.viewer (tells c.loop-kept.source) c.loop-kept.kept.items = c.loop-kept.invariant.5 fs e in
          let shows : ShowsRow c.loop-kept.viewer s.rest c.next_shown.new.viewer (tells c.next_shown.new.source) c.in-Some.row = rw c.in-Some.is at (c.in_ok-row.ensures.first s.rest s.left) in
          one_gathered c.args.wanted c.args.viewer.now fs c.loop-kept.viewer (tells c.loop-kept.source) c.loop-kept.kept.items s c.next_shown.new.viewer (tells c.next_shown.new.source)
          c.in-Some.row shows c.keep.new.kept.items c.in_ok-keep.ensures.last c.in_ok-keep.ensures.some,
    )

pub returns-clause-rows : goal.returns-clause-rows
returns-clause-rows g c fs e =
    let tells = g.I.FragmentSource.to_come in
    let s : Gathered c.args.wanted c.args.viewer.now fs c.loop-kept.viewer (tells c.loop-kept.source) c.loop-kept.kept.items = c.loop-kept.invariant.5 fs e in
    let none : (rows_ahead c.loop-kept.viewer s.rest ≡ []) × (tells c.next_shown.new.source ≡ Some []) × (shared_at_end c.loop-kept.viewer s.rest ≡ c.next_shown.new.viewer.shared.items)
    = rw c.in_default.is at (c.in_ok-row.ensures.first s.rest s.left) in
    elim c.if-is_empty.branch [
      | then-is_empty+in_ok-kept w ↦
          rw w.kept-is
          (none_came c.args.wanted c.args.viewer.now fs c.loop-kept.viewer (tells c.loop-kept.source) c.loop-kept.kept.items s c.next_shown.new.viewer
          (c.next_shown.ensures.query ∙ c.loop-kept.invariant.0) (c.next_shown.ensures.moment ∙ c.loop-kept.invariant.1) none.0 none.2
          (empty_items c.is_empty.result c.loop-kept.kept.len c.loop-kept.kept.items c.is_empty.ensures c.loop-kept.kept.ok.0 w.if-is_empty.true)
          _ w.in_ok-kept.ensures.rows)
      | else-is_empty w ↦
          rw w.kept-is
          (rows_came c.args.wanted c.args.viewer.now fs c.loop-kept.viewer (tells c.loop-kept.source) c.loop-kept.kept.items s c.next_shown.new.viewer
          (c.next_shown.ensures.query ∙ c.loop-kept.invariant.0) (c.next_shown.ensures.moment ∙ c.loop-kept.invariant.1) none.0 none.2
          (some_items c.is_empty.result c.loop-kept.kept.len c.loop-kept.kept.items c.is_empty.ensures c.loop-kept.kept.ok.0 w.if-is_empty.false))
    ]
