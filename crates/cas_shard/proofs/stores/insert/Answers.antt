use Rattle.std.proofs.Common.{refl}
use Rattle.std.proofs.lemmas.Option.{slice_get_read}
use Rattle.std.proofs.lemmas.Result.{err_from_is_err_and}
use Rattle.cas_memtable.specs.Kept.{MayHold}
use Rattle.cas_shard.proofs.InMemory.{bytes_grown, bytes_kept, bytes_then, joined_memory, stays_if}
use Rattle.cas_shard.proofs.Memory.{joined, made, reached}
use Rattle.cas_shard.proofs.stores.insert.Goals as goal

pub returns-in_err-reach : goal.returns-in_err-reach
returns-in_err-reach g c =
    let p = err_from_is_err_and c.from_residual.result c.from_residual.ensures.1 in
    rw (p.1) (reached c.args.mutation c.args.stores.now.items c.reach.new.stores.items c.reach.ensures.kept c.reach.ensures.few c.reach.ensures.files
    c.reach.ensures.memory c.reach.ensures.bytes)

pub returns : goal.returns
returns g c =
    let is =
    slice_get_read c.reach.new.stores.items _ c.args.mutation.table c.index_mut-store.result.now refl c.in_ok-reach.ensures.there
    c.index_mut-store.ensures.value in (
      c.reach.new.stores.items,
      reached c.args.mutation c.args.stores.now.items c.reach.new.stores.items c.reach.ensures.kept c.reach.ensures.few c.reach.ensures.files
          c.reach.ensures.memory c.reach.ensures.bytes,
      joined c.args.mutation c.reach.new.stores.items _ c.index_mut-store.result.now c.insert.new.self c.in_ok-reach.ensures.there is refl
          c.in_ok-insert.ensures.holds c.insert.ensures.files
          (joined_memory c.args.mutation c.reach.new.stores.items _ c.index_mut-store.result.now c.insert.new.self c.in_ok-reach.ensures.there is refl
          c.in_ok-insert.ensures.memory)
          (bytes_grown c.reach.new.stores.items _ c.args.mutation.table c.index_mut-store.result.now c.insert.new.self c.in_ok-reach.ensures.there is refl
          c.args.mutation c.in_ok-insert.ensures.bytes),
    )

pub returns-in_err-insert : goal.returns-in_err-insert
returns-in_err-insert g c =
    let p = err_from_is_err_and c.from_residual-in_err-insert.result c.from_residual-in_err-insert.ensures.1 in
    let is =
    slice_get_read c.reach.new.stores.items _ c.args.mutation.table c.index_mut-store.result.now refl c.in_ok-reach.ensures.there
    c.index_mut-store.ensures.value in
    rw (p.1) (made c.args.mutation c.args.stores.now.items c.reach.new.stores.items _ c.index_mut-store.result.now c.insert.new.self c.reach.ensures.kept
    c.reach.ensures.few c.reach.ensures.files c.in_ok-reach.ensures.there is refl (λ order wss h are. (c.in_err-insert.ensures.holds order wss h are).0)
    c.insert.ensures.files
    (stays_if c.args.stores.now.items c.reach.new.stores.items _ c.args.mutation.table c.index_mut-store.result.now c.insert.new.self c.reach.ensures.memory
    c.in_ok-reach.ensures.there is refl (λ columns. MayHold columns c.args.mutation) c.in_err-insert.ensures.memory)
    (bytes_then c.args.stores.now.items c.reach.new.stores.items _ c.reach.ensures.bytes
    (bytes_kept c.reach.new.stores.items _ c.args.mutation.table c.index_mut-store.result.now c.insert.new.self c.in_ok-reach.ensures.there is refl
    c.in_err-insert.ensures.bytes)))
