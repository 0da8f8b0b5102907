use Rattle.std.proofs.Common.{refl}
use Rattle.cas_memtable.specs.declared.memtable.MemPart.{MemPart}
use Rattle.cas_memtable.proofs.Keys.{joins_from, makes_in, on_err}
use Rattle.cas_memtable.proofs.memtable.MemPart.insert.Goals as goal

pub returns-clause-joins : goal.returns-clause-joins
returns-clause-joins c =
    let n : MemPart = record { partitions = c.insert_atoms.new.partitions; bytes = c.bytes_with-bytes.result; alloc = c.args.self.now.alloc } in
    let (h, kept, applied) = c.in_ok-insert_atoms.ensures in
    joins_from c.args.mutation c.args.self.now n h kept applied c.bytes_with-bytes.ensures

pub returns-in_err-insert_atoms-clause-makes : goal.returns-in_err-insert_atoms-clause-makes
returns-in_err-insert_atoms-clause-makes c =
    let n : MemPart = record { partitions = c.insert_atoms.new.partitions; bytes = c.args.self.now.bytes; alloc = c.args.self.now.alloc } in
    on_err c.from_residual.result _ (makes_in c.args.mutation c.args.self.now n _ c.in_err-insert_atoms.ensures refl)
