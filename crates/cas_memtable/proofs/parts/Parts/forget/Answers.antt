use Rattle.std.specs.Arc.{arc_value}
use Rattle.cas_memtable.specs.Memtables.{IsOfColumns}
use Rattle.cas_memtable.proofs.Keeping.{all_gone, all_gone_of}
use Rattle.cas_memtable.proofs.parts.Parts.forget.Goals as goal

pub returns-clause-keeps : goal.returns-clause-keeps
returns-clause-keeps c order wss keeps =
    let so_far = c.loop-gone.invariant in
    all_gone order arc_value c.loop-gone.gone c.args.count c.loop-gone.self.frozen.items c.args.self.now.frozen.items c.args.self.now.active c.loop-gone.self.active wss
    c.loop-gone-test.false so_far.0 so_far.1 so_far.2 so_far.3 keeps

pub returns-clause-columns : goal.returns-clause-columns
returns-clause-columns c columns of =
    let so_far = c.loop-gone.invariant in
    all_gone_of (IsOfColumns columns) arc_value c.loop-gone.gone c.args.count c.loop-gone.self.frozen.items c.args.self.now.frozen.items c.args.self.now.active c.loop-gone.self.active
    c.loop-gone-test.false so_far.0 so_far.1 so_far.2 so_far.3 of
