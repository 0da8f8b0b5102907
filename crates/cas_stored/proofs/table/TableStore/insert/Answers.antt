use Rattle.std.proofs.Common.{ap, ◌∙◌, is_ok, map, refl, sym, subst}
use Rattle.std.specs.Prelude.{if◌then◌else◌}
use Rattle.std.specs.Arc.{arc_value}
use Rattle.cas_memtable.specs.Memtables.{bytes_with}
use Rattle.cas_memtable.specs.Kept.{HoldJust, memtables_of}
use Rattle.cas_stored.specs.Stored.{HoldsEach, IsStoredOf, StoredTable}
use Rattle.cas_stored.proofs.Storing.{memory_joined_if}
use Rattle.cas_stored.proofs.Remembering.{just_joined_if}
use Rattle.cas_stored.proofs.table.TableStore.insert.Goals as goal

pub returns-clause-holds : goal.returns-clause-holds
returns-clause-holds g c order wss holds are =
    memory_joined_if order c.args.mutation (map arc_value c.self.inside.parts.frozen.items) c.self.inside.parts.active (memtables_of c.insert.new.self)
    (is_ok c.insert.result) (λ vss stand. c.insert.ensures.keeps order vss stand are) (arc_value c.self.inside.view) wss
    (subst (λ t. HoldsEach order t wss) (sym c.self.view_is) holds)

pub returns-clause-columns : goal.returns-clause-columns
returns-clause-columns g c columns of fit =
    let was = subst (λ t. IsStoredOf columns t) (sym c.self.view_is) of in
    record { files = was.files; memtables = c.insert.ensures.columns columns was.memtables fit }

pub returns-clause-memory : goal.returns-clause-memory
returns-clause-memory g c columns ws just may =
    just_joined_if columns (memtables_of c.self.inside.parts) (memtables_of c.insert.new.self) (λ of. c.insert.ensures.columns columns of may.1) ws
    (subst (λ t. HoldJust columns (memtables_of t.parts) ws) (sym c.self.view_is) just) (is_ok c.insert.result)
    (map arc_value c.self.inside.parts.frozen.items) c.self.inside.parts.active c.args.mutation refl may c.insert.ensures.keeps

pub returns-clause-bytes : goal.returns-clause-bytes
returns-clause-bytes g c =
    c.insert.ensures.bytes
    ∙ ap (λ (t : StoredTable). if is_ok c.insert.result then bytes_with t.parts.active.bytes c.args.mutation else t.parts.active.bytes) c.self.view_is
