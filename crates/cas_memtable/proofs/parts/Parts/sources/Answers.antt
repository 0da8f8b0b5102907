use Rattle.std.specs.Arc.{arc_value}
use Rattle.cas_memtable.proofs.Showing.{frozen_show, if_ok_too}
use Rattle.cas_memtable.proofs.parts.Parts.sources.Goals as goal

pub returns : goal.returns
returns c =
    if_ok_too c.gathered.result _ _
    (λ v gathers order wss keeps low high.
    frozen_show _ _ order c.args.slice.now c.args.key.now arc_value c.deref.result.now c.args.self.now.frozen.items c.args.self.now.active wss v.items low high
    c.deref.ensures.value keeps gathers) c.gathered.ensures
