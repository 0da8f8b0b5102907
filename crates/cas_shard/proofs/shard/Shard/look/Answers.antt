use Rattle.std.proofs.Common.{◌≡◌, arith, of_z, to_z, w64, refl, sym, subst}
use Rattle.std.proofs.lemmas.Int.{ints}
use Rattle.cas_shard.specs.Shards.{raised}
use Rattle.cas_shard.specs.Stands.{Stands}
use Rattle.cas_shard.proofs.Looking.{shows}
use Rattle.cas_shard.proofs.shard.Shard.look.Goals as goal

pub returns-clause-shows : goal.returns-clause-shows
returns-clause-shows g c tables s h asks =
    let reading : to_z w64 (of_z w64 c.args.reading) ≡ c.args.reading = omega (arith, ints) in
    let moment : to_z w64 (of_z w64 c.self.inside.moment) ≡ c.self.inside.moment = omega (arith, ints, c.self.invariant.2.0, c.self.invariant.2.1) in
    let after : Stands tables (raised c.args.reading s) c.raise.new.self
    = subst (λ k. Stands tables (raised k s) c.raise.new.self) reading (c.raise.ensures.stands tables s h) in
    shows tables s _ c.args.reading c.args.query _ c.deref.result.now _ (subst (λ x. Stands tables (raised c.args.reading s) x) (sym c.self.view_is) after) asks c.in_ok-rows.ensures.rows c.deref.ensures.value c.from_vec.ensures refl moment
