use Rattle.std.proofs.Common.{◌∙◌, map, ap}
use Rattle.std.specs.Arc.{arc_value}
use Rattle.cas_memtable.specs.Inner.Least.{earlier_of, least_in}
use Rattle.cas_memtable.specs.Memtables.{least_of}
use Rattle.cas_memtable.specs.Kept.{memtables_of}
use Rattle.cas_memtable.proofs.Showing.{least_more, least_stands}
use Rattle.cas_memtable.proofs.parts.Parts.least.Goals as goal

pub returns : goal.returns
returns c order wss keeps =
    c.earlier.ensures ∙ (λ i. earlier_of (c.least_frozen.ensures i) (c.least.ensures i)) ∙ ap (λ fs. earlier_of (least_in c.args.key.now (map arc_value fs)) (least_of c.args.self.now.active c.args.key.now)) c.deref.ensures.value
    ∙ least_more c.args.key.now (map arc_value c.args.self.now.frozen.items) c.args.self.now.active ∙ least_stands order c.args.key.now (memtables_of c.args.self.now) wss keeps
