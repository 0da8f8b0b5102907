use Rattle.std.proofs.Common.{ap, ◌∙◌, map, refl, sym, subst}
use Rattle.std.specs.Arc.{arc_value}
use Rattle.cas_memtable.specs.Memtables.{bytes_with}
use Rattle.cas_memtable.specs.Kept.{HoldJust, memtables_of}
use Rattle.cas_stored.specs.Stored.{HoldsEach, IsStoredOf}
use Rattle.cas_stored.proofs.Storing.{memory_joined}
use Rattle.cas_stored.proofs.Remembering.{just_joined}
use Rattle.cas_stored.proofs.table.TableStore.apply.Goals as goal

pub returns-clause-holds : goal.returns-clause-holds
returns-clause-holds g c order wss holds are =
    memory_joined order c.args.mutation (map arc_value c.self.inside.parts.frozen.items) c.self.inside.parts.active (memtables_of c.apply.new.self)
    (λ vss stand. c.apply.ensures.keeps order vss stand are) (arc_value c.self.inside.view) wss (subst (λ t. HoldsEach order t wss) (sym c.self.view_is) holds)

pub returns-clause-columns : goal.returns-clause-columns
returns-clause-columns g c columns of fit =
    let was = subst (λ t. IsStoredOf columns t) (sym c.self.view_is) of in
    record { files = was.files; memtables = c.apply.ensures.columns columns was.memtables fit }

pub returns-clause-memory : goal.returns-clause-memory
returns-clause-memory g c columns ws just may =
    just_joined columns (memtables_of c.self.inside.parts) (memtables_of c.apply.new.self) (λ of. c.apply.ensures.columns columns of may.1) ws
    (subst (λ t. HoldJust columns (memtables_of t.parts) ws) (sym c.self.view_is) just) (map arc_value c.self.inside.parts.frozen.items) c.self.inside.parts.active c.args.mutation refl may
    c.apply.ensures.keeps

pub returns-clause-bytes : goal.returns-clause-bytes
returns-clause-bytes g c = c.apply.ensures.bytes ∙ ap (λ t. bytes_with t.parts.active.bytes c.args.mutation) c.self.view_is
