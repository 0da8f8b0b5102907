use Rattle.cas_memtable.specs.declared.memtable.MemPart.{MemPart}
use Rattle.cas_memtable.proofs.Keys.{joins_all}
use Rattle.cas_memtable.proofs.memtable.MemPart.apply.Goals as goal

pub returns : goal.returns
returns c =
    let n : MemPart = record { partitions = c.apply_atoms.new.partitions; bytes = c.bytes_with-self.result; alloc = c.args.self.now.alloc } in
    joins_all c.args.mutation c.args.self.now n c.requires c.apply_atoms.ensures c.bytes_with-self.ensures
