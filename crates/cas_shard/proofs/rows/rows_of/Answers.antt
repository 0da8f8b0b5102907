use Rattle.std.proofs.Common.{◌≡◌, arith, of_z, to_z, w64, refl, rules, subst}
use Rattle.std.proofs.lemmas.Int.{ints}
use Rattle.cas_memtable.specs.Kept.{memtables_of}
use Rattle.cas_stored.specs.Rows.{AreRowsOf}
use Rattle.std.proofs.lemmas.Option.{slice_get_read, slice_get_past}
use Rattle.cas_shard.proofs.Looking.{if_ok_too, none_shown, store_shown}
use Rattle.cas_shard.proofs.rows.rows_of.Goals as goal

pub returns-in-None-clause-rows : goal.returns-in-None-clause-rows
returns-in-None-clause-rows g c =
    none_shown c.args.query c.args.now _ c.new.result.items (slice_get_past c.args.stores.now c.args.query.table (search rules)) c.new.ensures.items

pub returns-in-Some-clause-rows : goal.returns-in-Some-clause-rows
returns-in-Some-clause-rows g c =
    let same : to_z w64 (of_z w64 c.args.now) ≡ c.args.now = omega (arith, ints) in
    if_ok_too c.rows_of.result _ _
    (λ v are. store_shown c.args.query c.args.now _ c.in-Some.store.now v.items
    (slice_get_read c.args.stores.now _ c.args.query.table c.in-Some.store.now refl c.in-Some.ensures.lookup.3.0 c.in-Some.ensures.lookup.1)
    (subst (λ n. AreRowsOf c.in-Some.store.now.files (memtables_of c.in-Some.store.now.parts) c.args.query n v.items) same are)) c.rows_of.ensures.rows
