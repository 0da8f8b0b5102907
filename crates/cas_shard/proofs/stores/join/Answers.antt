use Rattle.std.proofs.Common.{refl}
use Rattle.std.proofs.lemmas.Option.{slice_get_read}
use Rattle.cas_shard.proofs.InMemory.{bytes_grown, joined_memory}
use Rattle.cas_shard.proofs.Memory.{joined}
use Rattle.cas_shard.proofs.stores.join.Goals as goal

pub returns : goal.returns
returns g c =
    joined c.args.mutation c.args.stores.now.items _ c.index_mut-store.result.now c.apply.new.self c.requires.0
    (slice_get_read c.args.stores.now.items _ c.args.mutation.table c.index_mut-store.result.now refl c.requires.0 c.index_mut-store.ensures.value) refl c.apply.ensures.holds c.apply.ensures.files
    (joined_memory c.args.mutation c.args.stores.now.items _ c.index_mut-store.result.now c.apply.new.self c.requires.0
    (slice_get_read c.args.stores.now.items _ c.args.mutation.table c.index_mut-store.result.now refl c.requires.0 c.index_mut-store.ensures.value) refl c.apply.ensures.memory)
    (bytes_grown c.args.stores.now.items _ c.args.mutation.table c.index_mut-store.result.now c.apply.new.self c.requires.0
    (slice_get_read c.args.stores.now.items _ c.args.mutation.table c.index_mut-store.result.now refl c.requires.0 c.index_mut-store.ensures.value) refl c.args.mutation c.apply.ensures.bytes)
