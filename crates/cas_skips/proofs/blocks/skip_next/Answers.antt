use Rattle.std.proofs.Common.{ℕ, List, Err, ap, ◌∙◌, sym}
use Rattle.std.specs.Borrow.{Bor}
use Rattle.cas_codec.specs.declared.fault.ReadFault.TheVariants.{Bad}
use Rattle.cas_codec.specs.Reading.{Read}
use Rattle.cas_skips.specs.Marks.{Mark, may_stand}
use Rattle.cas_codec.proofs.Times.{gives_fault}
use Rattle.cas_skips.specs.Inner.Passing.{seen, mark_at, place_at}
use Rattle.cas_skips.specs.declared.fragments.Passed.{Passed}
use Rattle.cas_skips.proofs.BlockLoop.{next_ok, next_refused, next_bad}
use Rattle.cas_skips.proofs.blocks.skip_next.Goals as goal

pub returns-in-Err : goal.returns-in-Err
returns-in-Err c =
    gives_fault (λ (p : Passed). mark_at p.end p.opens (seen c.skip_fragment.new.values.items)) (λ (p : Passed). mark_at p.end p.opens (seen c.skip_fragment.new.values.items))
    c.in-Err.fault _ _ _ c.in-Err.ensures
    (λ g e. next_bad c.args.order.now c.args.columns.now (record { last = place_at c.args.last (seen c.args.before.now); force = c.args.force }) c.args.reader.now g e)

pub returns-then-may_stand : goal.returns-then-may_stand
returns-then-may_stand c =
    next_ok c.args.order.now c.args.columns.now (record { last = place_at c.args.last (seen c.args.before.now); force = c.args.force }) c.args.reader.now
    (mark_at c.in-Ok.passed.end c.in-Ok.passed.opens (seen c.skip_fragment.new.values.items)) c.skip_fragment.new.reader c.in-Ok.ensures
    (ap (λ (ws : List (Bor (List ℕ))). may_stand c.args.order.now (record { last = place_at c.args.last (seen c.args.before.now); force = c.args.force })
    (mark_at c.in-Ok.passed.end c.in-Ok.passed.opens (seen ws))) (sym c.deref.ensures.value) ∙ sym c.may_stand.ensures ∙ c.if-may_stand.true)

pub returns-else-may_stand : goal.returns-else-may_stand
returns-else-may_stand c =
    next_refused c.args.order.now c.args.columns.now (record { last = place_at c.args.last (seen c.args.before.now); force = c.args.force }) c.args.reader.now
    (mark_at c.in-Ok.passed.end c.in-Ok.passed.opens (seen c.skip_fragment.new.values.items)) c.skip_fragment.new.reader c.in-Ok.ensures
    (ap (λ (ws : List (Bor (List ℕ))). may_stand c.args.order.now (record { last = place_at c.args.last (seen c.args.before.now); force = c.args.force })
    (mark_at c.in-Ok.passed.end c.in-Ok.passed.opens (seen ws))) (sym c.deref.ensures.value) ∙ sym c.may_stand.ensures ∙ c.if-may_stand.false)
    ∙ ap (λ (at : ℕ). let fault : Read Mark = Err (Bad at) in fault) (sym c.at-at.ensures)
