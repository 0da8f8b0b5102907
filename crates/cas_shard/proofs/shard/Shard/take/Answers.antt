use Rattle.std.proofs.Common.{◌≡◌, ◌++◌, Ok, Err, of_z, to_z, w64, ap, ◌∙◌, subst, arith}
use Rattle.std.specs.Prelude.{slice_get}
use Rattle.std.proofs.lemmas.Int.{ints}
use Rattle.std.proofs.lemmas.Result.{err_from_is_err_and}
use Rattle.cas_shard.specs.Shards.{Prepares, raised}
use Rattle.cas_shard.specs.Flushing.{HasInMemory, bytes_at, one_of}
use Rattle.cas_memtable.specs.Kept.{bytes_of}
use Rattle.cas_shard.specs.Stands.{Stands}
use Rattle.cas_shard.proofs.Preparing.{ready_belongs}
use Rattle.cas_shard.proofs.Standing.{prepared_is, took, took_nothing}
use Rattle.cas_shard.proofs.shard.Shard.take.Goals as goal

pub returns-clause-took : goal.returns-clause-took
returns-clause-took g c tables shards s session call h suits =
    let reading : to_z w64 (of_z w64 c.args.reading) ≡ c.args.reading = omega (arith, ints) in
    let mutation = c.in_ok-mutation.mutation in
    took tables shards c.args.segment s c.args.reading session call c.args.write mutation c.enter.new.self
    (subst (λ k. Prepares c.args.segment s k c.args.write (Ok mutation)) reading (c.in_ok-mutation.ensures.answered tables s h))
    (c.enter.ensures.stands tables shards (raised c.args.reading s) session call
    (subst (λ k. Stands tables (raised k s) c.prepare.new.self) reading (c.prepare.ensures.stands tables shards s h suits))
    (ready_belongs tables shards c.args.segment c.args.write mutation suits c.in_ok-mutation.ensures.ready))

pub returns-in_err-mutation-clause-took : goal.returns-in_err-mutation-clause-took
returns-in_err-mutation-clause-took g c tables shards s session call h suits =
    let reading : to_z w64 (of_z w64 c.args.reading) ≡ c.args.reading = omega (arith, ints) in
    let fault = c.in_err-mutation.field-0.0 in
    let p = err_from_is_err_and c.from_residual.result c.from_residual.ensures.1 in
    rw (p.1, p.2)
    (took_nothing tables c.args.segment s c.args.reading session call c.args.write fault c.prepare.new.self
    (subst (λ k. Prepares c.args.segment s k c.args.write (Err fault)) reading (c.in_err-mutation.ensures.answered tables s h))
    (subst (λ k. Stands tables (raised k s) c.prepare.new.self) reading (c.prepare.ensures.stands tables shards s h suits)))

pub returns-clause-memory : goal.returns-clause-memory
returns-clause-memory g c tables shards n s ws h suits just =
    let reading : to_z w64 (of_z w64 c.args.reading) ≡ c.args.reading = omega (arith, ints) in
    let mutation = c.in_ok-mutation.mutation in
    subst (λ m. HasInMemory tables n (ws ++ one_of n m) c.enter.new.self)
    (prepared_is c.args.segment s c.args.reading c.args.write mutation
    (subst (λ k. Prepares c.args.segment s k c.args.write (Ok mutation)) reading (c.in_ok-mutation.ensures.answered tables s h)))
    (c.enter.ensures.memory tables shards n ws (ready_belongs tables shards c.args.segment c.args.write mutation suits c.in_ok-mutation.ensures.ready)
    (c.prepare.ensures.memory tables shards n ws suits just))

pub returns-in_err-mutation-clause-memory : goal.returns-in_err-mutation-clause-memory
returns-in_err-mutation-clause-memory g c tables shards n s ws h suits just =
    let p = err_from_is_err_and c.from_residual.result c.from_residual.ensures.1 in
    rw (p.1) (c.prepare.ensures.memory tables shards n ws suits just)

pub returns-clause-bytes : goal.returns-clause-bytes
returns-clause-bytes g c tables n s h =
    let reading : to_z w64 (of_z w64 c.args.reading) ≡ c.args.reading = omega (arith, ints) in
    let mutation = c.in_ok-mutation.mutation in
    subst (λ m. bytes_at (slice_get c.enter.new.self.stores n) ≡ bytes_of (bytes_at (slice_get c.args.self.now.stores n)) (one_of n m))
    (prepared_is c.args.segment s c.args.reading c.args.write mutation
    (subst (λ k. Prepares c.args.segment s k c.args.write (Ok mutation)) reading (c.in_ok-mutation.ensures.answered tables s h)))
    (c.enter.ensures.bytes n ∙ ap (λ b. bytes_of b (one_of n mutation)) (c.prepare.ensures.bytes n))

pub returns-in_err-mutation-clause-bytes : goal.returns-in_err-mutation-clause-bytes
returns-in_err-mutation-clause-bytes g c tables n s h =
    let p = err_from_is_err_and c.from_residual.result c.from_residual.ensures.1 in
    rw (p.1) (c.prepare.ensures.bytes n)
