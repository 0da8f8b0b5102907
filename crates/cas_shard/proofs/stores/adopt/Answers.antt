use Rattle.std.proofs.Common.{ap, refl, subst}
use Rattle.std.proofs.lemmas.Option.{slice_get_read}
use Rattle.std.specs.Prelude.{slice_set}
use Rattle.cas_memtable.specs.declared.parts.Parts.{Parts}
use Rattle.cas_shard.specs.Stands.{TakesFiles}
use Rattle.cas_shard.proofs.InMemory.{bytes_kept, bytes_then, same_parts}
use Rattle.cas_shard.proofs.Memory.{adopted}
use Rattle.cas_shard.proofs.stores.adopt.Goals as goal

pub returns-clause-taken : goal.returns-clause-taken
returns-clause-taken g c =
    subst (λ fs. TakesFiles c.args.table fs c.args.stores.now.items (slice_set c.reach.new.stores.items c.args.table c.adopt.new.self)) c.in_ok-view.ensures.ok
    (adopted c.args.stores.now.items c.reach.new.stores.items _ c.args.table c.index_mut-store.result.now c.adopt.new.self _ c.reach.ensures.kept c.reach.ensures.few c.reach.ensures.files c.in_ok-reach.ensures.there
    (slice_get_read c.reach.new.stores.items _ c.args.table c.index_mut-store.result.now refl c.in_ok-reach.ensures.there c.index_mut-store.ensures.value) refl c.adopt.ensures.holds c.adopt.ensures.files)

pub returns-clause-memory : goal.returns-clause-memory
returns-clause-memory g c =
    same_parts c.args.stores.now.items c.reach.new.stores.items _ c.args.table c.index_mut-store.result.now c.adopt.new.self c.reach.ensures.memory c.in_ok-reach.ensures.there
    (slice_get_read c.reach.new.stores.items _ c.args.table c.index_mut-store.result.now refl c.in_ok-reach.ensures.there c.index_mut-store.ensures.value) refl c.adopt.ensures.parts

pub returns-clause-bytes : goal.returns-clause-bytes
returns-clause-bytes g c =
    bytes_then c.args.stores.now.items c.reach.new.stores.items _ c.reach.ensures.bytes
    (bytes_kept c.reach.new.stores.items _ c.args.table c.index_mut-store.result.now c.adopt.new.self c.in_ok-reach.ensures.there
    (slice_get_read c.reach.new.stores.items _ c.args.table c.index_mut-store.result.now refl c.in_ok-reach.ensures.there c.index_mut-store.ensures.value) refl
    (ap (λ (p : Parts). p.active.bytes) c.adopt.ensures.parts))
