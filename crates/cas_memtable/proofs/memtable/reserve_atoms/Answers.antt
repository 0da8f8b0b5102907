use Rattle.std.proofs.Common.{is_some, sym, ap}
use Rattle.std.specs.BTreeMap.{get}
use Rattle.cas_types.specs.Values.{bytes_cmp}
use Rattle.cas_memtable.specs.declared.memtable.Held.{Held}
use Rattle.cas_memtable.proofs.Keys.{reserves}
use Rattle.cas_memtable.proofs.memtable.reserve_atoms.Goals as goal

pub returns-in-Some : goal.returns-in-Some
returns-in-Some c =
    let w : Held = record { partition = c.reserve_all.new.self; least = c.in-Some.held.now.least } in
    reserves c.args.key.now c.args.atoms.now c.in-Some.held.now c.reserve_all.new.self (get bytes_cmp c.args.partitions.now) (get bytes_cmp (c.get_mut.follows.lender w)) c.reserve_all.result c.in-Some.ensures.value
    ((c.get_mut.follows.holds w).3 (sym (ap is_some c.in-Some.ensures.value))).0 c.reserve_all.ensures.makes c.reserve_all.ensures.places
