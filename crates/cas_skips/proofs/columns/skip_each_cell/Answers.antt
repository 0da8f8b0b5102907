use Rattle.std.proofs.Common.{ℕ, List}
use Rattle.std.specs.Borrow.{Bor}
use Rattle.std.specs.Option.{option_map}
use Rattle.cas_codec.proofs.Times.{gives_fault}
use Rattle.cas_fragments.specs.Reading.{path_cell_at}
use Rattle.cas_skips.proofs.Passing.{loop_more, loop_fault, loop_all}
use Rattle.cas_skips.proofs.columns.skip_each_cell.Goals as goal

pub returns-in-Err : goal.returns-in-Err
returns-in-Err c =
    gives_fault (λ (u : Unit {0}). tt {0}) (λ (p : Bor (List ℕ)). p.now) c.in-Err.fault _ _ _ c.in-Err.ensures
    (λ g e. loop_fault (λ p. p.path) (path_cell_at c.args.column.now) c.args.count c.loop-done._done (option_map (λ p. p.now) c.loop-done.before) c.loop-done.reader g _
    c.loop-done-test.true e c.loop-done.invariant)

pub loop-done-preserved : goal.loop-done-preserved
loop-done-preserved c =
    loop_more (λ p. p.path) (path_cell_at c.args.column.now) c.args.count c.loop-done._done (option_map (λ p. p.now) c.loop-done.before) c.in-Ok.path.now
    c.loop-done.reader _ _ c.loop-done-test.true c.in-Ok.ensures c.loop-done.invariant

pub returns : goal.returns
returns c = loop_all (λ p. p.path) (path_cell_at c.args.column.now) c.args.count c.loop-done._done _ _ _ c.loop-done-test.false c.loop-done.invariant
