use Rattle.std.proofs.Common.{◌≡◌, ◌+◌, ◌∙◌, ℤ, arith, of_z, to_z, w64, sym, ap, subst}
use Rattle.std.proofs.lemmas.Int.{ints}
use Rattle.cas_types.specs.Limits.{IsMoment}
use Rattle.cas_effects.specs.AtomsOf.{mutation_of}
use Rattle.cas_shard.specs.Shards.{later_drawn, later_moment, raised}
use Rattle.cas_shard.specs.Stands.{Stands}
use Rattle.cas_shard.proofs.InMemory.{room_memory_unless, same_stores}
use Rattle.cas_shard.proofs.Preparing.{is_prepared, is_ready, unrefused_belongs}
use Rattle.cas_shard.proofs.Standing.{prepares, stays}
use Rattle.cas_shard.proofs.shard.Shard.prepare.Goals as goal

pub returns-in-Ok-clause-answered : goal.returns-in-Ok-clause-answered
returns-in-Ok-clause-answered g c tables s h =
    let reading : to_z w64 (of_z w64 c.args.reading) ≡ c.args.reading = omega (arith, ints) in
    prepares tables c.args.segment s c.args.self.now c.args.reading c.args.write c.in-Ok.mutation c.place.result h
    (c.in-Ok.ensures
    ∙ (λ i. mutation_of c.args.write (later_drawn (reading i) c.args.self.now.drawn) (later_moment (reading i) c.args.self.now.moment) (c.args.self.now.number + 1)))
    c.place.ensures.answered

pub returns-in-Ok-clause-stands : goal.returns-in-Ok-clause-stands
returns-in-Ok-clause-stands g c tables shards s h suits =
    let x = c.args.self.now in
    let reading : to_z w64 (of_z w64 c.args.reading) ≡ c.args.reading = omega (arith, ints) in
    let moment : c.raise.new.self.moment ≡ later_moment c.args.reading x.moment = c.raise.ensures.moment ∙ ap (λ r. later_moment r x.moment) reading in
    stays tables shards c.args.segment (raised c.args.reading s) c.in-Ok.mutation c.raise.new.self c.place.new.self
    (subst (λ k. Stands tables (raised k s) c.raise.new.self) reading (c.raise.ensures.stands tables s h))
    (unrefused_belongs tables shards c.args.segment c.args.write c.args.reading x.drawn (later_moment c.args.reading x.moment) x.number c.in-Ok.mutation suits c.requires.time
    (subst IsMoment moment c.raise.ensures.begun)
    (c.in-Ok.ensures ∙ (λ i. mutation_of c.args.write (later_drawn (reading i) x.drawn) (later_moment (reading i) x.moment) (x.number + 1)))) c.place.ensures.number c.place.ensures.drawn c.place.ensures.moment
    c.place.ensures.makes c.place.ensures.refused

pub returns-in-Ok-clause-prepared : goal.returns-in-Ok-clause-prepared
returns-in-Ok-clause-prepared g c =
    let x = c.args.self.now in
    let reading : to_z w64 (of_z w64 c.args.reading) ≡ c.args.reading = omega (arith, ints) in
    let drawn : ℤ = later_drawn c.args.reading x.drawn in
    let moment : ℤ = later_moment c.args.reading x.moment in
    is_prepared c.args.segment c.args.write drawn moment c.in-Ok.mutation c.place.result c.place.new.self
    (c.in-Ok.ensures ∙ (λ i. mutation_of c.args.write (later_drawn (reading i) x.drawn) (later_moment (reading i) x.moment) (x.number + 1))
    ∙ ap (λ n. mutation_of c.args.write drawn moment (n + 1)) (sym (c.place.ensures.number ∙ c.raise.ensures.number))) c.place.ensures.answered c.place.ensures.room

pub returns-in-Ok-clause-ready : goal.returns-in-Ok-clause-ready
returns-in-Ok-clause-ready g c =
    let x = c.args.self.now in
    let reading : to_z w64 (of_z w64 c.args.reading) ≡ c.args.reading = omega (arith, ints) in
    let moment : c.raise.new.self.moment ≡ later_moment c.args.reading x.moment = c.raise.ensures.moment ∙ ap (λ r. later_moment r x.moment) reading in
    is_ready c.args.segment c.args.write c.args.reading x.drawn (later_moment c.args.reading x.moment) x.number c.in-Ok.mutation c.place.result c.requires.time
    (subst IsMoment moment c.raise.ensures.begun)
    (c.in-Ok.ensures ∙ (λ i. mutation_of c.args.write (later_drawn (reading i) x.drawn) (later_moment (reading i) x.moment) (x.number + 1))) c.place.ensures.answered

pub returns-in-Ok-clause-memory : goal.returns-in-Ok-clause-memory
returns-in-Ok-clause-memory g c tables shards n ws suits h =
    let x = c.args.self.now in
    let reading : to_z w64 (of_z w64 c.args.reading) ≡ c.args.reading = omega (arith, ints) in
    let moment : c.raise.new.self.moment ≡ later_moment c.args.reading x.moment = c.raise.ensures.moment ∙ ap (λ r. later_moment r x.moment) reading in
    room_memory_unless tables shards n ws c.in-Ok.mutation c.args.segment c.raise.new.self.stores c.place.new.self.stores
    (unrefused_belongs tables shards c.args.segment c.args.write c.args.reading x.drawn (later_moment c.args.reading x.moment) x.number c.in-Ok.mutation suits c.requires.time
    (subst IsMoment moment c.raise.ensures.begun)
    (c.in-Ok.ensures ∙ (λ i. mutation_of c.args.write (later_drawn (reading i) x.drawn) (later_moment (reading i) x.moment) (x.number + 1)))) c.place.ensures.makes c.place.ensures.refused
    (same_stores tables n ws x.stores c.raise.new.self.stores c.raise.ensures.stores h)
