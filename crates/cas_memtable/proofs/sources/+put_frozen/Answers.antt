use Rattle.std.proofs.Common.{◌∷◌, map, take, drop, length, ◌-◌, sym, ap, ◌∙◌}
use Rattle.std.specs.Arc.{arc_value}
use Rattle.cas_partition.proofs.RunLists.{rest_is}
use Rattle.cas_partition.proofs.Taking.{on_ok_too}
use Rattle.cas_memtable.proofs.Gathering.{gathers_first}
use Rattle.cas_memtable.proofs.sources.+put_frozen.Goals as goal

pub returns-in_ok-put-in-len1-up : goal.returns-in_ok-put-in-len1-up
returns-in_ok-put-in-len1-up t c =
    let frozen = c.args.frozen.now in
    let item = c.memtable-item.result in
    on_ok_too c.put_frozen.result _ _
    (gathers_first _ _ c.args.slice.now c.args.key.now c.deref.result.now (map arc_value (take (length frozen - 1) (drop 1 frozen))) (map arc_value frozen) c.args.sources.now.items
    c.put.new.sources.items c.put_frozen.new.sources.items c.in_ok-part-in-len1-up.field-0
    (ap (map arc_value) (rest_is frozen item c.in-len1-up.len_at_least) ∙ ap (λ x. arc_value x ∷ map arc_value (take (length frozen - 1) (drop 1 frozen))) (sym c.memtable-item.is)
    ∙ ap (λ m. m ∷ map arc_value (take (length frozen - 1) (drop 1 frozen))) (sym c.deref.ensures))
    c.in_ok-part-in-len1-up.ensures c.in_ok-put-in-len1-up.ensures)
    c.put_frozen.ensures
