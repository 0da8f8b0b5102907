use Rattle.std.proofs.Common.{◌+◌, ◌-◌, ap, ◌∙◌, Vec, Global, List}
use Rattle.cas_atoms.specs.declared.row.RowColumn.{RowColumn}
use Rattle.cas_codec.proofs.Times.{with_front, gives_fault}
use Rattle.cas_fragments.specs.Reading.{chain_at, row_column_at}
use Rattle.cas_fragments.specs.Inner.Lasts.{last_key}
use Rattle.cas_fragments.proofs.ChainLaws.{loop_more, loop_fault, loop_all}
use Rattle.cas_fragments.proofs.columns.read_each_column.Goals as goal

pub returns-in-Err : goal.returns-in-Err
returns-in-Err c =
    gives_fault (λ (v : Vec RowColumn Global). v.items) (λ a. a) c.in-Err.fault _ _ _ c.in-Err.ensures
    (λ g e. loop_fault (λ p. p.column.number) (row_column_at c.args.wanted c.args.columns.now) _ _ c.loop-done.found.items _ c.loop-done.reader g _ c.loop-done-test.true c.deref.ensures.value e c.loop-done.invariant)

pub loop-done-preserved : goal.loop-done-preserved
loop-done-preserved c =
    ap (λ (cells : List RowColumn). with_front cells (chain_at (λ p. p.column.number) (row_column_at c.args.wanted c.args.columns.now) (c.args.count - (c.loop-done._done + 1))
    (last_key (λ p. p.column.number) cells) c.read_row_column.new.reader)) c.in_ok-push-in-Ok.ensures.items
    ∙ loop_more (λ p. p.column.number) (row_column_at c.args.wanted c.args.columns.now) _ _ c.loop-done.found.items _ c.in-Ok.column c.loop-done.reader _ _ c.loop-done-test.true c.deref.ensures.value c.in-Ok.ensures c.loop-done.invariant

pub returns : goal.returns
returns c = loop_all (λ p. p.column.number) (row_column_at c.args.wanted c.args.columns.now) _ _ _ _ _ c.loop-done-test.false c.loop-done.invariant
