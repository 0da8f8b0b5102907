use Rattle.std.proofs.Common.{is_some, sym, ap, ◌∙◌}
use Rattle.std.specs.BTreeMap.{get}
use Rattle.cas_types.specs.Values.{bytes_cmp}
use Rattle.cas_memtable.specs.Memtables.{least_with}
use Rattle.cas_memtable.specs.declared.memtable.Held.{Held}
use Rattle.cas_memtable.proofs.Keys.{applies}
use Rattle.cas_memtable.proofs.memtable.apply_atoms.Goals as goal

pub returns-in-Some : goal.returns-in-Some
returns-in-Some c h is =
    let w : Held = record { partition = c.apply_all.new.self; least = c.least_with-held.result } in
    applies c.args.key.now c.args.atoms h c.in-Some.held.now c.apply_all.new.self c.least_with-held.result (get bytes_cmp c.args.partitions.now) (get bytes_cmp (c.get_mut.follows.lender w)) is c.in-Some.ensures.value
    ((c.get_mut.follows.holds w).3 (sym (ap is_some c.in-Some.ensures.value))).0 (c.least_with-held.ensures ∙ ap (least_with c.in-Some.held.now.least) c.as_slice.ensures) c.apply_all.ensures
