use Rattle.std.proofs.Common.{is_ok, not, ◌&&◌, ◌==◌, sym, subst}
use Rattle.cas_memtable.specs.Kept.{HoldJust, memtables_of}
use Rattle.cas_stored.specs.Stored.{IsStoredOf}
use Rattle.cas_stored.proofs.Inside.{freezes}
use Rattle.cas_stored.proofs.Remembering.{just_begun}
use Rattle.cas_stored.proofs.table.TableStore.freeze.Goals as goal

pub returns-clause-holds : goal.returns-clause-holds
returns-clause-holds g c order wss holds =
    freezes _ _ c.self.view_is order (memtables_of c.freeze.new.self) (is_ok c.freeze.result) wss (λ vss stand. c.freeze.ensures.keeps order vss stand) holds

pub returns-clause-columns : goal.returns-clause-columns
returns-clause-columns g c columns of =
    let was = subst (λ t. IsStoredOf columns t) (sym c.self.view_is) of in
    record { files = was.files; memtables = c.freeze.ensures.columns columns was.memtables }

pub returns-clause-memory : goal.returns-clause-memory
returns-clause-memory g c columns ws just =
    just_begun columns (memtables_of c.self.inside.parts) (memtables_of c.freeze.new.self) (c.freeze.ensures.columns columns) ws
    (subst (λ t. HoldJust columns (memtables_of t.parts) ws) (sym c.self.view_is) just) (is_ok c.freeze.result && not (c.self.inside.parts.active.bytes == 0)) c.freeze.ensures.keeps
