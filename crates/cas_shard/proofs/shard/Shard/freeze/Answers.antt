use Rattle.std.proofs.Common.{sym, ap, ◌∙◌, subst}
use Rattle.std.specs.Prelude.{slice_get}
use Rattle.cas_shard.specs.Flushing.{HasInMemory, bytes_at}
use Rattle.cas_shard.specs.Stands.{ShardState}
use Rattle.cas_shard.proofs.Memory.{on_err_too}
use Rattle.cas_shard.proofs.shard.Shard.freeze.Goals as goal

pub returns-clause-memory : goal.returns-clause-memory
returns-clause-memory g c tables n ws h t at = c.freeze.ensures.memory n t.columns ws (subst (λ x. HasInMemory tables n ws x) (sym c.self.view_is) h t at)

pub returns-clause-stays : goal.returns-clause-stays
returns-clause-stays g c = on_err_too c.freeze.result _ _ (λ keep n. keep n ∙ ap (λ (x : ShardState). bytes_at (slice_get x.stores n)) c.self.view_is) c.freeze.ensures.stays
