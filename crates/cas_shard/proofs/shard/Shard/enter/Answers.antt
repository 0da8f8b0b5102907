use Rattle.std.proofs.Common.{◌≡◌, ◌+◌, if◌then◌else◌, of_z, to_z, w64, refl, rules, sym, ap, ◌∙◌, subst}
use Rattle.std.specs.Prelude.{slice_get}
use Rattle.cas_memtable.specs.Kept.{bytes_of}
use Rattle.cas_shard.specs.Stands.{ShardState, Stands}
use Rattle.cas_shard.specs.Flushing.{HasInMemory, bytes_at, one_of}
use Rattle.cas_shard.proofs.InMemory.{bytes_joined, join_memory}
use Rattle.cas_shard.proofs.Standing.{one_enters}
use Rattle.cas_shard.proofs.shard.Shard.enter.Goals as goal

pub returns-clause-stands : goal.returns-clause-stands
returns-clause-stands g c tables shards s session call h is =
    let next = subst (λ (x : ShardState). c.args.mutation.number ≡ x.number + 1) (sym c.self.view_is) c.requires.next in
    let drawn : to_z w64 (of_z w64 c.drawn_after-self-inside.result) ≡ (if c.args.mutation.drawn then c.args.mutation.at else c.self.inside.drawn) = search rules in
    one_enters tables shards s session call c.args.mutation _ _ (subst (λ x. Stands tables s x) (sym c.self.view_is) h) is next c.join.ensures refl drawn refl

pub returns-clause-memory : goal.returns-clause-memory
returns-clause-memory g c tables shards n ws is h =
    join_memory tables shards n ws c.args.mutation _ _ is c.join.ensures (subst (λ x. HasInMemory tables n ws x) (sym c.self.view_is) h)

pub returns-clause-bytes : goal.returns-clause-bytes
returns-clause-bytes g c n =
    bytes_joined c.args.mutation _ _ c.join.ensures n ∙ ap (λ (x : ShardState). bytes_of (bytes_at (slice_get x.stores n)) (one_of n c.args.mutation)) c.self.view_is
