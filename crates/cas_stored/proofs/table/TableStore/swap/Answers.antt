use Rattle.std.proofs.Common.{◌≤◌, length, drop, sym, ap, ◌∙◌, subst}
use Rattle.std.specs.Arc.{arc_value}
use Rattle.cas_memtable.specs.Kept.{memtables_of}
use Rattle.cas_stored.proofs.Inside.{swaps, swaps_of}
use Rattle.cas_stored.proofs.Remembering.{memory_left}
use Rattle.cas_stored.proofs.table.TableStore.swap.Goals as goal

pub returns-clause-holds : goal.returns-clause-holds
returns-clause-holds g c order wss ws f is holds stands =
    swaps _ _ c.self.view_is order (memtables_of c.forget.new.self) (arc_value c.args.view) f c.args.count ws wss (c.forget.ensures.keeps order) is holds stands

pub returns-clause-columns : goal.returns-clause-columns
returns-clause-columns g c columns f is of own =
    swaps_of _ _ c.self.view_is columns (memtables_of c.forget.new.self) (arc_value c.args.view) f (c.forget.ensures.columns columns) is of own

pub returns-clause-memory : goal.returns-clause-memory
returns-clause-memory g c =
    memory_left arc_value c.args.count c.self.inside.parts.frozen.items c.forget.new.self.frozen.items c.self.inside.parts.active c.forget.new.self.active
    (subst (λ t. c.args.count ≤ length t.parts.frozen.items) (sym c.self.view_is) c.requires) c.forget.ensures.frozen c.forget.ensures.active
    ∙ ap (λ t. drop c.args.count (memtables_of t.parts)) c.self.view_is

pub returns-clause-bytes : goal.returns-clause-bytes
returns-clause-bytes g c = ap (λ m. m.bytes) c.forget.ensures.active ∙ ap (λ t. t.parts.active.bytes) c.self.view_is
