use Rattle.std.proofs.Common.{ap, ◌∙◌, sym, subst}
use Rattle.std.specs.Arc.{arc_value}
use Rattle.cas_memtable.specs.Kept.{HoldJust, memtables_of}
use Rattle.cas_stored.specs.Stored.{HoldsEach, IsStoredOf}
use Rattle.cas_stored.proofs.Storing.{memory_kept}
use Rattle.cas_stored.proofs.Remembering.{just_reserved}
use Rattle.cas_stored.proofs.table.TableStore.reserve.Goals as goal

pub returns-clause-holds : goal.returns-clause-holds
returns-clause-holds g c order wss holds are =
    memory_kept order (memtables_of c.self.inside.parts) (memtables_of c.reserve.new.self) (λ vss stand. c.reserve.ensures.keeps order vss stand are) (arc_value c.self.inside.view) wss
    (subst (λ t. HoldsEach order t wss) (sym c.self.view_is) holds)

pub returns-clause-columns : goal.returns-clause-columns
returns-clause-columns g c columns of fit =
    let was = subst (λ t. IsStoredOf columns t) (sym c.self.view_is) of in
    record { files = was.files; memtables = c.reserve.ensures.columns columns was.memtables fit }

pub returns-clause-memory : goal.returns-clause-memory
returns-clause-memory g c columns ws just may =
    just_reserved columns (memtables_of c.self.inside.parts) (memtables_of c.reserve.new.self) (λ of. c.reserve.ensures.columns columns of may.1) ws
    (subst (λ t. HoldJust columns (memtables_of t.parts) ws) (sym c.self.view_is) just) c.args.mutation.now may c.reserve.ensures.keeps

pub returns-clause-bytes : goal.returns-clause-bytes
returns-clause-bytes g c = c.reserve.ensures.bytes ∙ ap (λ t. t.parts.active.bytes) c.self.view_is
