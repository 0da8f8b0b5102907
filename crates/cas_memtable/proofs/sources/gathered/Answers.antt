use Rattle.std.proofs.Common.{map}
use Rattle.std.specs.Arc.{arc_value}
use Rattle.cas_memtable.proofs.Showing.{gathered_more}
use Rattle.cas_memtable.proofs.sources.gathered.Goals as goal

pub returns : goal.returns
returns c =
    gathered_more _ _ c.args.slice.now c.args.key.now (map arc_value c.args.frozen.now) c.args.active.now c.in_ok-sources.sources.items c.put.new.sources.items c.in_ok-part.field-0
    c.in_ok-sources.ensures c.in_ok-part.ensures c.in_ok-put.ensures
