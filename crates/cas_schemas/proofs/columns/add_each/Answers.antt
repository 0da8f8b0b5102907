use Rattle.std.proofs.Common.{◌+◌, ◌-◌, sym, ap, ◌∙◌, arith}
use Rattle.cas_codec.proofs.Times.{gives_fault}
use Rattle.cas_schemas.specs.Each.{each_at}
use Rattle.cas_schemas.specs.Inner.Behind.{behind}
use Rattle.cas_schemas.specs.Reading.{column_at}
use Rattle.cas_schemas.proofs.EachLaws.{each_on, each_ends, each_done}
use Rattle.cas_schemas.proofs.columns.add_each.Goals as goal

pub returns-in-Err-clause-read : goal.returns-in-Err-clause-read
returns-in-Err-clause-read c =
    gives_fault {X = Unit {0}} (λ _. c.loop-done.columns.items) (λ a. a) c.in-Err.fault _ _ _ c.in-Err.ensures
    (λ g e. each_ends (column_at c.args.new) _ _ _ _ g _ c.loop-done-test.true
    (ap (λ cs. column_at c.args.new cs c.loop-done.reader) (sym c.deref.ensures.value) ∙ e) c.loop-done.invariant.0)

pub loop-done-preserved : goal.loop-done-preserved
loop-done-preserved c = (
  ap (λ columns. behind columns (each_at (column_at c.args.new) (c.args.count - (c.loop-done._done + 1)) columns c.read_column.new.reader))
      c.in_ok-push-in-Ok.ensures.items
      ∙ each_on (column_at c.args.new) _ _ _ c.in-Ok.column _ c.read_column.new.reader _ c.loop-done-test.true
      (ap (λ cs. column_at c.args.new cs c.loop-done.reader) (sym c.deref.ensures.value) ∙ c.in-Ok.ensures) c.loop-done.invariant.0,
  omega (arith, c.in_ok-push-in-Ok.ensures.len, c.loop-done.invariant.1),
)

pub returns-clause-read : goal.returns-clause-read
returns-clause-read c = each_done (column_at c.args.new) _ _ _ _ _ c.loop-done-test.false c.loop-done.invariant.0
