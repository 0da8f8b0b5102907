use Rattle.std.proofs.Common.{◌≡◌, ◌+◌, ◌-◌, ℕ, List, Option, Some, sym, ap, subst, ◌∙◌}
use Rattle.std.specs.Borrow.{Bor}
use Rattle.std.specs.Ordering.{is_lt}
use Rattle.cas_cell.specs.declared.deletion.Deletion.{Deletion}
use Rattle.cas_bounds.specs.Points.{cut_point}
use Rattle.cas_codec.specs.Reading.{Left}
use Rattle.cas_streams.specs.Places.{place_cmp}
use Rattle.cas_streams.specs.declared.fragment.Fragment.{Fragment}
use Rattle.cas_fragments.specs.Reading.{fragment_at}
use Rattle.cas_skips.specs.Blocks.{spelled, skipped}
use Rattle.cas_skips.specs.Marks.{mark_of}
use Rattle.cas_skips.specs.Inner.Passing.{seen, place_at, mark_at}
use Rattle.cas_skips.specs.Inner.Stops.{IsFurther}
use Rattle.cas_skips.proofs.Passing.{told_ok}
use Rattle.cas_skips.proofs.Spelling.{loop_on, loop_found, loop_bad, loop_through, further}
use Rattle.cas_skips.proofs.spelled.pass.Goals as goal

pub returns-then-is_beyond-clause-passed : goal.returns-then-is_beyond-clause-passed
returns-then-is_beyond-clause-passed c =
    let order = c.args.order.now in
    let e = rw c.in-Ok-Some.field-0-is at c.in-Ok-Some.ensures in
    let m = mark_at c.in-Ok-Some.passed.end c.in-Ok-Some.passed.opens (seen c.pass_one.new.values.items) in
    let there : (let l : Left = record { bytes = c.left-rest.result.now; at = c.at-at.result } in l) ≡ c.loop-done.reader =
    λ i. record { bytes = c.left-rest.ensures.left i; at = c.at-at.ensures i } in
    loop_found order c.args.columns.now c.args.by.now c.args.cut.now c.args.count c.loop-done.done c.loop-done.now m c.loop-done.reader c.pass_one.new.reader _
    c.loop-done-test.true e
    (ap (λ (ws : List (Bor (List ℕ))). is_lt (place_cmp c.args.by.now (Some (cut_point c.args.cut.now)) (place_at (Some c.in-Ok-Some.passed.end) (seen ws)))) (sym c.deref-in-Ok-Some.ensures.value)
    ∙ sym c.is_beyond.ensures ∙ c.if-is_beyond.true) c.loop-done.invariant.same
    ∙ ap (λ (l : Left). let p : Option Deletion × List Fragment = (c.loop-done.now, spelled order c.args.columns.now (c.args.count - c.loop-done.done) l) in p) (sym there)

pub loop-done-preserved : goal.loop-done-preserved
loop-done-preserved c =
    let order = c.args.order.now in
    let e = rw c.in-Ok-Some.field-0-is at c.in-Ok-Some.ensures in
    let m = mark_at c.in-Ok-Some.passed.end c.in-Ok-Some.passed.opens (seen c.pass_one.new.values.items) in
    let f = told_ok mark_of (fragment_at order c.args.columns.now c.loop-done.reader) m c.pass_one.new.reader e in record {
      same =
          loop_on order c.args.columns.now c.args.by.now c.args.cut.now c.args.count c.loop-done.done c.loop-done.now m c.loop-done.reader c.pass_one.new.reader _
          c.loop-done-test.true e
          (ap (λ (ws : List (Bor (List ℕ))). is_lt (place_cmp c.args.by.now (Some (cut_point c.args.cut.now)) (place_at (Some c.in-Ok-Some.passed.end) (seen ws)))) (sym c.deref-in-Ok-Some.ensures.value)
          ∙ sym c.is_beyond.ensures ∙ c.if-is_beyond.false) c.loop-done.invariant.same
          ∙ ap (λ (d : Option Deletion). skipped c.args.by.now c.args.cut.now d (spelled order c.args.columns.now (c.args.count - (c.loop-done.done + 1)) c.pass_one.new.reader))
          (sym c.force_behind-now.ensures);
      further =
          further c.args.columns.now c.requires.narrow order c.requires.ordered c.args.reader.now c.loop-done.reader c.pass_one.new.reader f.0
          c.left-rest.ensures.are_bytes f.1 c.loop-done.invariant.further;
    }

pub returns-clause-passed : goal.returns-clause-passed
returns-clause-passed c =
    loop_through c.args.order.now c.args.columns.now c.args.by.now c.args.cut.now c.args.count c.loop-done.done c.loop-done.now c.loop-done.reader _ _
    c.loop-done-test.false c.loop-done.invariant.same

pub returns-in-Ok-None : goal.returns-in-Ok-None
returns-in-Ok-None c =
    let bad = rw c.in-Ok-None.field-0-is at c.in-Ok-None.ensures in
    let there : c.loop-done.reader ≡ (let l : Left = record { bytes = c.left-rest.result.now; at = c.at-at.result } in l) =
    λ i. record { bytes = sym c.left-rest.ensures.left i; at = sym c.at-at.ensures i } in record {
      passed =
          loop_bad c.args.order.now c.args.columns.now c.args.by.now c.args.cut.now c.args.count c.loop-done.done c.loop-done.now bad.0 c.loop-done.reader _ _
          c.loop-done-test.true bad.1 c.loop-done.invariant.same;
      further = subst (λ (l : Left). IsFurther c.args.reader.now l) there c.loop-done.invariant.further;
    }
