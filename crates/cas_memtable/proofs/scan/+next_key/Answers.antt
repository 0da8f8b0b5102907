use Rattle.std.specs.Option.{option_copied}
use Rattle.std.specs.Arc.{arc_value}
use Rattle.cas_memtable.proofs.Scanning.{next_found}
use Rattle.cas_memtable.proofs.scan.+next_key.Goals as goal

pub returns-in-len1-up : goal.returns-in-len1-up
returns-in-len1-up t c =
    next_found arc_value c.args.memtables.now c.memtable-item.result c.deref.result.now (option_copied c.args.after) (option_copied c.next_key.result) (option_copied c.next_key-in-len1-up.result)
    (option_copied c.first_of.result) c.in-len1-up.len_at_least c.memtable-item.is c.deref.ensures c.next_key.ensures c.next_key-in-len1-up.ensures c.first_of.ensures
