use Rattle.std.proofs.Common.{refl, subst}
use Rattle.std.specs.BTreeMap.{get}
use Rattle.cas_types.specs.Values.{bytes_cmp}
use Rattle.cas_memtable.specs.Inner.Steps.{ReservesIn}
use Rattle.cas_memtable.specs.declared.memtable.MemPart.{MemPart}
use Rattle.cas_memtable.proofs.Keys.{places_in, makes_in}
use Rattle.cas_memtable.proofs.memtable.MemPart.reserve.Goals as goal

pub returns-clause-places : goal.returns-clause-places
returns-clause-places c =
    let n : MemPart = record { partitions = c.reserve_atoms.new.partitions; bytes = c.args.self.now.bytes; alloc = c.args.self.now.alloc } in
    places_in c.args.mutation.now c.args.self.now n c.reserve_atoms.result
    (subst (λ l. ReservesIn c.args.mutation.now.key l (get bytes_cmp c.args.self.now.partitions) (get bytes_cmp c.reserve_atoms.new.partitions) c.reserve_atoms.result) c.as_slice.ensures
    c.reserve_atoms.ensures) refl

pub returns-clause-makes : goal.returns-clause-makes
returns-clause-makes c =
    let n : MemPart = record { partitions = c.reserve_atoms.new.partitions; bytes = c.args.self.now.bytes; alloc = c.args.self.now.alloc } in
    makes_in c.args.mutation.now c.args.self.now n c.reserve_atoms.result
    (subst (λ l. ReservesIn c.args.mutation.now.key l (get bytes_cmp c.args.self.now.partitions) (get bytes_cmp c.reserve_atoms.new.partitions) c.reserve_atoms.result) c.as_slice.ensures
    c.reserve_atoms.ensures) refl
