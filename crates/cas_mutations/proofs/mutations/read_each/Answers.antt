use Rattle.std.proofs.Common.{◌+◌, ◌-◌, ap, ◌∙◌, Vec, Global}
use Rattle.cas_atoms.specs.declared.atom.Atom.{Atom}
use Rattle.cas_codec.specs.Reading.{times_at}
use Rattle.cas_codec.proofs.Times.{with_front, loop_more, loop_fault, loop_all, gives_fault}
use Rattle.cas_mutations.specs.Reading.{atom_at}
use Rattle.cas_mutations.proofs.mutations.read_each.Goals as goal

pub returns-in-Err : goal.returns-in-Err
returns-in-Err c =
    gives_fault (λ (v : Vec Atom Global). v.items) (λ a. a) c.in-Err.fault _ _ _ c.in-Err.ensures (λ g e. loop_fault _ _ _ _ _ g _ c.loop-done-test.true e c.loop-done.invariant)

pub loop-done-preserved : goal.loop-done-preserved
loop-done-preserved c =
    ap (λ atoms. with_front atoms (times_at (c.args.count - (c.loop-done._done + 1)) (atom_at c.args.order.now c.args.columns.now) c.read_atom.new.reader))
    c.in_ok-push-in-Ok.ensures.items
    ∙ loop_more _ _ _ _ c.in-Ok.atom _ _ _ c.loop-done-test.true c.in-Ok.ensures c.loop-done.invariant

pub returns : goal.returns
returns c = loop_all _ _ _ _ _ _ c.loop-done-test.false c.loop-done.invariant
