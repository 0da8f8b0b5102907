use Rattle.std.proofs.Common.{refl, ap, ◌∙◌}
use Rattle.std.specs.Prelude.{None}
use Rattle.std.specs.Map.{lookup}
use Rattle.std.specs.BTreeMap.{get, is_at}
use Rattle.cas_types.specs.Values.{bytes_cmp}
use Rattle.cas_memtable.specs.Memtables.{least_with}
use Rattle.cas_memtable.proofs.Keys.{inserts_new, not_inserted, untouched}
use Rattle.cas_memtable.proofs.memtable.insert_new.Goals as goal

pub returns-in_err-insert_all : goal.returns-in_err-insert_all
returns-in_err-insert_all c =
    not_inserted c.args.key c.args.atoms (get bytes_cmp c.args.partitions.now) (get bytes_cmp c.args.partitions.now) c.from_residual.result c.from_residual.ensures.0
    (untouched c.args.key c.args.atoms _ _ c.from_residual.result c.from_residual.ensures.0 (λ q. refl))

pub returns-in_err-insert : goal.returns-in_err-insert
returns-in_err-insert c =
    not_inserted c.args.key c.args.atoms (get bytes_cmp c.args.partitions.now) (get bytes_cmp c.insert.new.self) c.from_residual-in_err-insert.result c.from_residual-in_err-insert.ensures.0
    (untouched c.args.key c.args.atoms _ _ c.from_residual-in_err-insert.result c.from_residual-in_err-insert.ensures.0 (λ q. ap (lookup (is_at (bytes_cmp q))) c.in_err-insert.ensures.err))

pub returns : goal.returns
returns c =
    inserts_new c.args.key c.args.atoms c.new-partition.result c.insert_all.new.self c.least_with-least.result (get bytes_cmp c.args.partitions.now) (get bytes_cmp c.insert.new.self) c.requires
    (record { empty = c.new-partition.ensures.empty; least = refl; of = c.new-partition.ensures.of; table = c.new-partition.ensures.table; ends = c.new-partition.ensures.ends })
    c.in_ok-insert.ensures.updates.0 (c.least_with-least.ensures ∙ ap (least_with None) c.as_slice.ensures) c.in_ok-insert_all.ensures.joins
