use Rattle.std.proofs.Common.{[], refl, ◌∙◌}
use Rattle.cas_view.specs.Views.{files_of}
use Rattle.cas_stored.specs.declared.source.StoredSource.TheVariants.{Memory}
use Rattle.cas_stored.proofs.Inside.{shows}
use Rattle.cas_stored.proofs.table.TableStore.sources.Goals as goal

pub returns-clause-shows : goal.returns-clause-shows
returns-clause-shows g c order wss holds low high =
    shows _ _ c.self.view_is Memory _ _ order c.args.slice.now c.args.key.now c.as_slice.result.now (files_of c.files.result.now) wss c.in_ok-memory.memory.items []
    c.in_ok-files.files.items c.in_ok-with_memory.field-0.items c.as_slice.ensures (c.files.ensures ∙ c.deref.ensures) refl c.in_ok-with_memory.ensures
    (λ vss each. c.in_ok-memory.ensures order vss each low high) holds c.requires.reads c.in_ok-files.ensures.gives
