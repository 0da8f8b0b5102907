use Rattle.std.proofs.Common.{◌≡◌, ◌++◌, ◌∷◌, [], ◌==◌, Bool, false, List, map, not, sym, ap, ◌∙◌, subst}
use Rattle.std.specs.Prelude.{if◌then◌else◌}
use Rattle.std.specs.Arc.{arc_value}
use Rattle.cas_memtable.specs.Memtables.{IsOfColumns}
use Rattle.cas_memtable.specs.declared.memtable.MemPart.{MemPart}
use Rattle.cas_memtable.specs.Kept.{StandInEach, begun}
use Rattle.cas_memtable.proofs.Keeping.{freeze_keeps, freeze_of, mapped_more, none_of_columns, not_zero}
use Rattle.cas_memtable.proofs.parts.Parts.freeze.Goals as goal

pub returns-in-Ok-clause-keeps : goal.returns-in-Ok-clause-keeps
returns-in-Ok-clause-keeps c order wss keeps =
    let some : (c.args.self.now.active.bytes == 0) ≡ false = ap (λ k. k == 0) (sym c.bytes.ensures) ∙ not_zero c.bytes.result c.if-bytes-eq0.false in
    let now : List MemPart = map arc_value c.push_reserved.new.self.items in
    let items : now ≡ map arc_value c.args.self.now.frozen.items ++ arc_value c.in-Ok.memtable ∷ [] =
    ap (map arc_value) (c.push_reserved.ensures.items ∙ ap (λ l. l ++ c.in-Ok.memtable ∷ []) c.in_ok-reserve.ensures.items) ∙ mapped_more arc_value c.args.self.now.frozen.items c.in-Ok.memtable in
    subst (λ (b : Bool). StandInEach order (now ++ c.replace-active.new.dest ∷ []) (if not b then begun wss else wss)) (sym some)
    (subst (λ n. StandInEach order (now ++ n ∷ []) (begun wss)) (sym c.replace-active.ensures.after)
    (freeze_keeps order now (map arc_value c.args.self.now.frozen.items) (arc_value c.in-Ok.memtable) c.args.self.now.active c.new.result wss items
    (c.in-Ok.ensures.ok ∙ c.replace-active.ensures.value) c.new.ensures.empty c.new.ensures.bytes keeps))

pub returns-in-Ok-clause-columns : goal.returns-in-Ok-clause-columns
returns-in-Ok-clause-columns c columns of =
    let now : List MemPart = map arc_value c.push_reserved.new.self.items in
    let items : now ≡ map arc_value c.args.self.now.frozen.items ++ arc_value c.in-Ok.memtable ∷ [] =
    ap (map arc_value) (c.push_reserved.ensures.items ∙ ap (λ l. l ++ c.in-Ok.memtable ∷ []) c.in_ok-reserve.ensures.items) ∙ mapped_more arc_value c.args.self.now.frozen.items c.in-Ok.memtable in
    freeze_of (IsOfColumns columns) now (map arc_value c.args.self.now.frozen.items) (arc_value c.in-Ok.memtable) c.args.self.now.active c.replace-active.new.dest items
    (c.in-Ok.ensures.ok ∙ c.replace-active.ensures.value)
    (subst (IsOfColumns columns) (sym c.replace-active.ensures.after) (none_of_columns columns c.new.result c.new.ensures.empty)) of
