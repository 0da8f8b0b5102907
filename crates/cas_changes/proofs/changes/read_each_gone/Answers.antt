use Rattle.std.proofs.Common.{◌+◌, ◌-◌, sym, ap, ◌∙◌, Vec, Global}
use Rattle.cas_codec.proofs.Times.{gives_fault}
use Rattle.cas_schemas.specs.Each.{each_at}
use Rattle.cas_schemas.specs.Inner.Behind.{behind}
use Rattle.cas_changes.specs.Reading.{gone_at}
use Rattle.cas_schemas.proofs.EachLaws.{each_on, each_ends, each_done}
use Rattle.cas_changes.proofs.changes.read_each_gone.Goals as goal

pub returns-in-Err : goal.returns-in-Err
returns-in-Err c =
    gives_fault (λ (v : Vec _ Global). v.items) (λ a. a) c.in-Err.fault _ _ _ c.in-Err.ensures
    (λ g e. each_ends (gone_at c.args.listed.now) _ _ _ _ g _ c.loop-done-test.true
    (ap (λ before. gone_at c.args.listed.now before c.loop-done.reader) (sym c.deref.ensures.value) ∙ e) c.loop-done.invariant)

pub loop-done-preserved : goal.loop-done-preserved
loop-done-preserved c =
    ap (λ before. behind before (each_at (gone_at c.args.listed.now) (c.args.count - (c.loop-done._done + 1)) before c.read_gone.new.reader))
    c.in_ok-push-in-Ok.ensures.items
    ∙ each_on (gone_at c.args.listed.now) _ _ _ c.in-Ok.number _ c.read_gone.new.reader _ c.loop-done-test.true
    (ap (λ before. gone_at c.args.listed.now before c.loop-done.reader) (sym c.deref.ensures.value) ∙ c.in-Ok.ensures) c.loop-done.invariant

pub returns : goal.returns
returns c = each_done (gone_at c.args.listed.now) _ _ _ _ _ c.loop-done-test.false c.loop-done.invariant
