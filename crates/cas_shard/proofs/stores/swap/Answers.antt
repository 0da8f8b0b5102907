use Rattle.std.proofs.Common.{refl}
use Rattle.std.specs.Arc.{arc_value}
use Rattle.std.proofs.lemmas.Option.{slice_get_read}
use Rattle.cas_shard.proofs.Swapping.{frozen_in, some_frozen, swapped}
use Rattle.cas_shard.proofs.stores.swap.Goals as goal

pub returns : goal.returns
returns g c =
    let there = some_frozen c.args.stores.now.items c.args.table c.args.count c.requires.some c.requires.there in
    let is = slice_get_read c.args.stores.now.items _ c.args.table c.index_mut-store.result.now refl there c.index_mut-store.ensures.value in
    swapped c.args.stores.now.items _ c.args.table c.args.count c.index_mut-store.result.now c.swap.new.self (arc_value c.args.view) there is refl
    (frozen_in c.args.stores.now.items c.args.table c.args.count c.index_mut-store.result.now is c.requires.there) c.swap.ensures.holds c.swap.ensures.memory c.swap.ensures.files c.swap.ensures.bytes
