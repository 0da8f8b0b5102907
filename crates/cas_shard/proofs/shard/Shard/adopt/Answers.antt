use Rattle.std.proofs.Common.{sym, ap, ◌∙◌, subst}
use Rattle.std.specs.Prelude.{slice_get}
use Rattle.cas_shard.specs.Flushing.{HasInMemory, bytes_at}
use Rattle.cas_shard.specs.Stands.{ShardState}
use Rattle.cas_shard.proofs.shard.Shard.adopt.Goals as goal

pub returns-clause-memory : goal.returns-clause-memory
returns-clause-memory g c tables n ws h t at = c.adopt.ensures.memory n t.columns ws (subst (λ x. HasInMemory tables n ws x) (sym c.self.view_is) h t at)

pub returns-clause-bytes : goal.returns-clause-bytes
returns-clause-bytes g c n = c.adopt.ensures.bytes n ∙ ap (λ (x : ShardState). bytes_at (slice_get x.stores n)) c.self.view_is
