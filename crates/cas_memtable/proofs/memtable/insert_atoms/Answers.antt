use Rattle.std.proofs.Common.{ap, is_some, sym, ◌∙◌}
use Rattle.std.specs.BTreeMap.{get}
use Rattle.cas_types.specs.Values.{bytes_cmp}
use Rattle.cas_memtable.specs.Memtables.{least_with}
use Rattle.cas_memtable.specs.declared.memtable.Held.{Held}
use Rattle.cas_memtable.proofs.Keys.{inserts_held, not_inserted, not_placed, reserves}
use Rattle.cas_memtable.proofs.memtable.insert_atoms.Goals as goal

pub returns-in_ok-insert_all-in-Some : goal.returns-in_ok-insert_all-in-Some
returns-in_ok-insert_all-in-Some c =
    let w : Held = record { partition = c.insert_all.new.self; least = c.least_with-least.result } in
    inserts_held c.args.key c.args.atoms c.in-Some.held.now c.insert_all.new.self c.least_with-least.result (get bytes_cmp c.args.partitions.now) (get bytes_cmp (c.get_mut.follows.lender w))
    c.in-Some.ensures.value ((c.get_mut.follows.holds w).3 (sym (ap is_some c.in-Some.ensures.value))).0
    (c.least_with-least.ensures ∙ ap (least_with c.in-Some.held.now.least) c.as_slice.ensures) c.in_ok-insert_all-in-Some.ensures.joins

pub returns-in_err-insert_all-in-Some : goal.returns-in_err-insert_all-in-Some
returns-in_err-insert_all-in-Some c =
    let w : Held = record { partition = c.insert_all.new.self; least = c.in-Some.held.now.least } in
    not_inserted c.args.key c.args.atoms (get bytes_cmp c.args.partitions.now) (get bytes_cmp (c.get_mut.follows.lender w)) c.from_residual.result c.from_residual.ensures.0
    (reserves c.args.key c.args.atoms c.in-Some.held.now c.insert_all.new.self (get bytes_cmp c.args.partitions.now) (get bytes_cmp (c.get_mut.follows.lender w)) c.from_residual.result
    c.in-Some.ensures.value ((c.get_mut.follows.holds w).3 (sym (ap is_some c.in-Some.ensures.value))).0 c.in_err-insert_all-in-Some.ensures.makes (not_placed c.from_residual.result _ c.from_residual.ensures.0))
