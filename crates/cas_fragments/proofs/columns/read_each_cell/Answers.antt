use Rattle.std.proofs.Common.{◌+◌, ◌-◌, ap, ◌∙◌, Vec, Global, List}
use Rattle.cas_atoms.specs.declared.row.PathCell.{PathCell}
use Rattle.cas_codec.proofs.Times.{with_front, gives_fault}
use Rattle.cas_fragments.specs.Reading.{chain_at, path_cell_at}
use Rattle.cas_fragments.specs.Inner.Lasts.{last_key}
use Rattle.cas_fragments.proofs.ChainLaws.{loop_more, loop_fault, loop_all}
use Rattle.cas_fragments.proofs.columns.read_each_cell.Goals as goal

pub returns-in-Err : goal.returns-in-Err
returns-in-Err c =
    gives_fault (λ (v : Vec PathCell Global). v.items) (λ a. a) c.in-Err.fault _ _ _ c.in-Err.ensures
    (λ g e. loop_fault (λ p. p.path) (path_cell_at c.args.column.now) _ _ c.loop-done.cells.items _ c.loop-done.reader g _ c.loop-done-test.true c.deref.ensures.value e c.loop-done.invariant)

pub loop-done-preserved : goal.loop-done-preserved
loop-done-preserved c =
    ap (λ (cells : List PathCell). with_front cells (chain_at (λ p. p.path) (path_cell_at c.args.column.now) (c.args.count - (c.loop-done._done + 1))
    (last_key (λ p. p.path) cells) c.read_path_cell.new.reader)) c.in_ok-push-in-Ok.ensures.items
    ∙ loop_more (λ p. p.path) (path_cell_at c.args.column.now) _ _ c.loop-done.cells.items _ c.in-Ok.cell c.loop-done.reader _ _ c.loop-done-test.true c.deref.ensures.value c.in-Ok.ensures c.loop-done.invariant

pub returns : goal.returns
returns c = loop_all (λ p. p.path) (path_cell_at c.args.column.now) _ _ _ _ _ c.loop-done-test.false c.loop-done.invariant
