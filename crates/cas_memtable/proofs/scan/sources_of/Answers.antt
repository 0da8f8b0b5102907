use Rattle.std.proofs.Common.{map}
use Rattle.std.specs.Arc.{arc_value}
use Rattle.cas_memtable.proofs.Showing.{gathered_show, if_ok_too}
use Rattle.cas_memtable.proofs.scan.sources_of.Goals as goal

pub returns : goal.returns
returns c =
    if_ok_too c.gathered_of.result _ _
    (λ v gathers order wss each low high. gathered_show _ _ order c.args.slice.now c.args.key.now low high (map arc_value c.args.memtables.now) wss v.items each gathers)
    c.gathered_of.ensures
