use Rattle.std.proofs.Common.{◌≡◌, ◌≤ℤ◌, of_z, to_z, w64, refl, sym, ap, ◌∙◌, subst, rules, arith}
use Rattle.std.specs.Int.{int_max}
use Rattle.std.proofs.lemmas.Result.{err_from_is_err_and}
use Rattle.std.specs.Prelude.{slice_get}
use Rattle.cas_types.specs.Limits.{IsMoment}
use Rattle.cas_types.specs.declared.limits.TheConstants.{LAST_DRAWN}
use Rattle.cas_memtable.specs.Kept.{bytes_of}
use Rattle.cas_shard.specs.Shards.{drawn_with, found_shard}
use Rattle.cas_shard.specs.Stands.{ShardState, Stands}
use Rattle.cas_shard.specs.Flushing.{HasInMemory, bytes_at, one_of}
use Rattle.cas_shard.proofs.InMemory.{bytes_joined, join_memory, room_memory}
use Rattle.cas_shard.proofs.Preparing.{later_begun, with_low}
use Rattle.cas_shard.proofs.Standing.{one_is_restored, room_made}
use Rattle.cas_shard.proofs.shard.Shard.restore.Goals as goal

pub returns-in_err-insert-clause-stands : goal.returns-in_err-insert-clause-stands
returns-in_err-insert-clause-stands g c tables shards found h is above =
    let p = err_from_is_err_and c.from_residual.result c.from_residual.ensures.1 in
    rw (p.1) (room_made tables shards (found_shard found) c.args.mutation _ _ (subst (λ x. Stands tables (found_shard found) x) (sym c.self.view_is) h) is refl refl refl c.in_err-insert.ensures)

pub invariant_of-self-2 : goal.invariant_of-self-2
invariant_of-self-2 g c =
    let drawn : to_z w64 (of_z w64 c.drawn_with-drawn.result) ≡ drawn_with c.self.inside.drawn c.args.mutation = search rules in
    let moment : to_z w64 (of_z w64 c.max-moment.result) ≡ int_max c.self.inside.moment c.args.mutation.moment = search rules in (
      omega (arith, c.max-number.ensures, c.self.invariant.0, c.requires.few),
      subst (λ z. z ≤ℤ LAST_DRAWN) (sym drawn) (with_low c.args.mutation c.self.inside.drawn c.self.invariant.1 c.requires.low),
      subst IsMoment (sym moment) (later_begun c.self.inside.moment c.args.mutation.moment c.self.invariant.2 c.requires.begun),
    )

pub returns-clause-stands : goal.returns-clause-stands
returns-clause-stands g c tables shards found h is above =
    let drawn : to_z w64 (of_z w64 c.drawn_with-drawn.result) ≡ drawn_with c.self.inside.drawn c.args.mutation = search rules in
    let moment : to_z w64 (of_z w64 c.max-moment.result) ≡ int_max c.self.inside.moment c.args.mutation.moment = search rules in
    let made = c.in_ok-insert.ensures in
    one_is_restored tables shards found c.args.mutation made.0 _ _ (subst (λ x. Stands tables (found_shard found) x) (sym c.self.view_is) h) is above made.1 made.2
    c.max-number.ensures drawn moment

pub returns-in_err-insert-clause-memory : goal.returns-in_err-insert-clause-memory
returns-in_err-insert-clause-memory g c tables shards n ws is h =
    let p = err_from_is_err_and c.from_residual.result c.from_residual.ensures.1 in
    rw (p.1) (room_memory tables shards n ws c.args.mutation _ _ is c.in_err-insert.ensures (subst (λ x. HasInMemory tables n ws x) (sym c.self.view_is) h))

pub returns-clause-memory : goal.returns-clause-memory
returns-clause-memory g c tables shards n ws is h =
    let made = c.in_ok-insert.ensures in
    join_memory tables shards n ws c.args.mutation made.0 _ is made.2
    (room_memory tables shards n ws c.args.mutation _ _ is made.1 (subst (λ x. HasInMemory tables n ws x) (sym c.self.view_is) h))

pub returns-in_err-insert-clause-bytes : goal.returns-in_err-insert-clause-bytes
returns-in_err-insert-clause-bytes g c n =
    let p = err_from_is_err_and c.from_residual.result c.from_residual.ensures.1 in
    rw (p.1) (c.in_err-insert.ensures.bytes n ∙ ap (λ (x : ShardState). bytes_at (slice_get x.stores n)) c.self.view_is)

pub returns-clause-bytes : goal.returns-clause-bytes
returns-clause-bytes g c n =
    let made = c.in_ok-insert.ensures in
    bytes_joined c.args.mutation made.0 _ made.2 n
    ∙ ap (λ b. bytes_of b (one_of n c.args.mutation)) (made.1.bytes n ∙ ap (λ (x : ShardState). bytes_at (slice_get x.stores n)) c.self.view_is)
