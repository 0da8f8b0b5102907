use Rattle.std.proofs.Common.{refl}
use Rattle.std.proofs.lemmas.Option.{slice_get_read}
use Rattle.cas_memtable.specs.Kept.{MayHold}
use Rattle.cas_shard.proofs.InMemory.{bytes_kept, bytes_then, stays_if}
use Rattle.cas_shard.proofs.Memory.{reached, made, has_room}
use Rattle.cas_shard.proofs.stores.reserve.Goals as goal

pub returns-in_err-reach-clause-makes : goal.returns-in_err-reach-clause-makes
returns-in_err-reach-clause-makes g c = reached c.args.mutation.now c.args.stores.now.items c.reach.new.stores.items c.reach.ensures.kept c.reach.ensures.few c.reach.ensures.files c.reach.ensures.memory c.reach.ensures.bytes

pub returns-clause-room : goal.returns-clause-room
returns-clause-room g c =
    has_room c.args.mutation.now c.reach.new.stores.items _ c.reserve.new.self c.in_ok-reach.ensures.there refl c.in_ok-reserve.ensures.places

pub returns-clause-makes : goal.returns-clause-makes
returns-clause-makes g c =
    made c.args.mutation.now c.args.stores.now.items c.reach.new.stores.items _ c.index_mut-store.result.now c.reserve.new.self c.reach.ensures.kept c.reach.ensures.few c.reach.ensures.files c.in_ok-reach.ensures.there
    (slice_get_read c.reach.new.stores.items _ c.args.mutation.now.table c.index_mut-store.result.now refl c.in_ok-reach.ensures.there c.index_mut-store.ensures.value) refl c.reserve.ensures.holds c.reserve.ensures.files
    (stays_if c.args.stores.now.items c.reach.new.stores.items _ c.args.mutation.now.table c.index_mut-store.result.now c.reserve.new.self c.reach.ensures.memory c.in_ok-reach.ensures.there
    (slice_get_read c.reach.new.stores.items _ c.args.mutation.now.table c.index_mut-store.result.now refl c.in_ok-reach.ensures.there c.index_mut-store.ensures.value) refl
    (λ columns. MayHold columns c.args.mutation.now) c.reserve.ensures.memory)
    (bytes_then c.args.stores.now.items c.reach.new.stores.items _ c.reach.ensures.bytes
    (bytes_kept c.reach.new.stores.items _ c.args.mutation.now.table c.index_mut-store.result.now c.reserve.new.self c.in_ok-reach.ensures.there
    (slice_get_read c.reach.new.stores.items _ c.args.mutation.now.table c.index_mut-store.result.now refl c.in_ok-reach.ensures.there c.index_mut-store.ensures.value) refl c.reserve.ensures.bytes))

pub returns-in_err-reserve-clause-makes : goal.returns-in_err-reserve-clause-makes
returns-in_err-reserve-clause-makes g c =
    made c.args.mutation.now c.args.stores.now.items c.reach.new.stores.items _ c.index_mut-store.result.now c.reserve.new.self c.reach.ensures.kept c.reach.ensures.few c.reach.ensures.files c.in_ok-reach.ensures.there
    (slice_get_read c.reach.new.stores.items _ c.args.mutation.now.table c.index_mut-store.result.now refl c.in_ok-reach.ensures.there c.index_mut-store.ensures.value) refl c.reserve.ensures.holds c.reserve.ensures.files
    (stays_if c.args.stores.now.items c.reach.new.stores.items _ c.args.mutation.now.table c.index_mut-store.result.now c.reserve.new.self c.reach.ensures.memory c.in_ok-reach.ensures.there
    (slice_get_read c.reach.new.stores.items _ c.args.mutation.now.table c.index_mut-store.result.now refl c.in_ok-reach.ensures.there c.index_mut-store.ensures.value) refl
    (λ columns. MayHold columns c.args.mutation.now) c.reserve.ensures.memory)
    (bytes_then c.args.stores.now.items c.reach.new.stores.items _ c.reach.ensures.bytes
    (bytes_kept c.reach.new.stores.items _ c.args.mutation.now.table c.index_mut-store.result.now c.reserve.new.self c.in_ok-reach.ensures.there
    (slice_get_read c.reach.new.stores.items _ c.args.mutation.now.table c.index_mut-store.result.now refl c.in_ok-reach.ensures.there c.index_mut-store.ensures.value) refl c.reserve.ensures.bytes))
