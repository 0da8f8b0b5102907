use Rattle.std.proofs.Common.{refl, rules, is_ok, not, ◌&&◌, ◌==◌}
use Rattle.std.proofs.lemmas.Option.{slice_get_read}
use Rattle.cas_shard.proofs.InMemory.{bytes_kept, bytes_of_it, stays_too}
use Rattle.cas_shard.proofs.Memory.{at_apart, frozen_files, frozen_unless, on_err_too, on_ok_too}
use Rattle.cas_shard.proofs.stores.freeze.Goals as goal

pub returns-clause-kept : goal.returns-clause-kept
returns-clause-kept g c =
    frozen_unless c.args.stores.now.items _ c.args.table c.index_mut-store.result.now c.freeze.new.self (is_ok c.freeze.result && not (c.index_mut-store.result.now.parts.active.bytes == 0)) (search rules)
    (slice_get_read c.args.stores.now.items _ c.args.table c.index_mut-store.result.now refl (search rules) c.index_mut-store.ensures.value) refl c.freeze.ensures.holds

pub returns-clause-files : goal.returns-clause-files
returns-clause-files g c =
    frozen_files c.args.stores.now.items _ c.args.table c.index_mut-store.result.now c.freeze.new.self (search rules)
    (slice_get_read c.args.stores.now.items _ c.args.table c.index_mut-store.result.now refl (search rules) c.index_mut-store.ensures.value) refl c.freeze.ensures.files

pub returns-clause-memory : goal.returns-clause-memory
returns-clause-memory g c =
    stays_too c.args.stores.now.items c.args.stores.now.items _ c.args.table c.index_mut-store.result.now c.freeze.new.self (λ t columns ws just. just) (search rules)
    (slice_get_read c.args.stores.now.items _ c.args.table c.index_mut-store.result.now refl (search rules) c.index_mut-store.ensures.value) refl c.freeze.ensures.memory

pub returns-clause-begun : goal.returns-clause-begun
returns-clause-begun g c =
    on_ok_too c.freeze.result _ _
    (bytes_of_it c.args.stores.now.items c.args.stores.now.items _ c.args.table c.index_mut-store.result.now c.freeze.new.self (λ t columns ws just. just) (search rules)
    (slice_get_read c.args.stores.now.items _ c.args.table c.index_mut-store.result.now refl (search rules) c.index_mut-store.ensures.value) refl) c.freeze.ensures.begun

pub returns-clause-others : goal.returns-clause-others
returns-clause-others g c = λ t apart. at_apart c.args.stores.now.items c.args.table c.freeze.new.self t apart

pub returns-clause-stays : goal.returns-clause-stays
returns-clause-stays g c =
    on_err_too c.freeze.result _ _
    (bytes_kept c.args.stores.now.items _ c.args.table c.index_mut-store.result.now c.freeze.new.self (search rules)
    (slice_get_read c.args.stores.now.items _ c.args.table c.index_mut-store.result.now refl (search rules) c.index_mut-store.ensures.value) refl) c.freeze.ensures.stays
