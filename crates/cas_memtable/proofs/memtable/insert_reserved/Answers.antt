use Rattle.std.proofs.Common.{refl, ap}
use Rattle.std.specs.Map.{lookup}
use Rattle.std.specs.BTreeMap.{get, is_at}
use Rattle.cas_types.specs.Values.{bytes_cmp}
use Rattle.cas_memtable.proofs.Keys.{untouched, reserves_new}
use Rattle.cas_memtable.proofs.memtable.insert_reserved.Goals as goal

pub returns-in_err-copy : goal.returns-in_err-copy
returns-in_err-copy c = untouched c.args.key.now c.args.atoms.now _ _ c.from_residual.result c.from_residual.ensures.0 (λ q. refl)

pub returns-in_err-reserve_all : goal.returns-in_err-reserve_all
returns-in_err-reserve_all c =
    untouched c.args.key.now c.args.atoms.now _ _ c.from_residual-in_err-reserve_all.result c.from_residual-in_err-reserve_all.ensures.0 (λ q. refl)

pub returns-in_err-insert : goal.returns-in_err-insert
returns-in_err-insert c =
    untouched c.args.key.now c.args.atoms.now _ _ c.from_residual-in_err-insert.result c.from_residual-in_err-insert.ensures.0 (λ q. ap (lookup (is_at (bytes_cmp q))) c.in_err-insert.ensures.err)

pub returns : goal.returns
returns c =
    reserves_new c.args.key.now c.in_ok-copy.copy c.args.atoms.now c.new-partition.result c.reserve_all.new.self (get bytes_cmp c.args.partitions.now)
    (get bytes_cmp c.insert.new.self) _ c.in_ok-copy.ensures.cases c.requires
    (record { empty = c.new-partition.ensures.empty; least = refl; of = c.new-partition.ensures.of; table = c.new-partition.ensures.table; ends = c.new-partition.ensures.ends })
    c.reserve_all.ensures.makes c.in_ok-reserve_all.ensures.places c.in_ok-insert.ensures.updates.0
