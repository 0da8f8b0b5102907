use Rattle.std.proofs.Common.{◌≡◌, ◌∙◌, pos, Some, refl, sym, ap}
use Rattle.std.specs.Prelude.{slice_get}
use Rattle.std.proofs.lemmas.Option.{slice_get_within}
use Rattle.cas_terms.specs.Columns.{table_named}
use Rattle.cas_sessions.proofs.FlushAll.{flushes_all, flushes_some, keeps_all, named_there, true_of_flush}
use Rattle.cas_lasting.proofs.Going.{numbers_kept, numbers_none}
use Rattle.cas_sessions.proofs.node.Node.flush.Goals as goal

pub flush_table-requires-clause-within : goal.flush_table-requires-clause-within
flush_table-requires-clause-within g c =
    let n = c.args.self.now in
    let t = c.in-Some.table.now in
    let is : table_named n.tables.items c.args.name.now ≡ Some t = ap (λ ts. table_named ts c.args.name.now) (sym c.deref.ensures.value) ∙ sym c.in-Some.ensures in
    let at_t : slice_get n.tables.items t.number ≡ Some t = named_there n.tables.items c.args.name.now t n.sound.tables.numbered is in
    slice_get_within n.tables.items t.number t at_t

pub returns-in-Ok-clause-flushes : goal.returns-in-Ok-clause-flushes
returns-in-Ok-clause-flushes g c = λ clock image reads.
    let n = c.args.self.now in
    let t = c.in-Some.table.now in
    let is : table_named n.tables.items c.args.name.now ≡ Some t = ap (λ ts. table_named ts c.args.name.now) (sym c.deref.ensures.value) ∙ sym c.in-Some.ensures in
    let at_t : slice_get n.tables.items t.number ≡ Some t = named_there n.tables.items c.args.name.now t n.sound.tables.numbered is in
    flushes_all c.args.name.now t _ _ _ _ _ is (sym c.in_default.ensures) c.in-Ok.ensures.going (c.in-Ok.ensures.flushed clock t at_t) image reads

pub returns-in-Err-clause-faults : goal.returns-in-Err-clause-faults
returns-in-Err-clause-faults g c = λ clock image reads one.
    let n = c.args.self.now in
    let t = c.in-Some.table.now in
    let is : table_named n.tables.items c.args.name.now ≡ Some t = ap (λ ts. table_named ts c.args.name.now) (sym c.deref.ensures.value) ∙ sym c.in-Some.ensures in
    let at_t : slice_get n.tables.items t.number ≡ Some t = named_there n.tables.items c.args.name.now t n.sound.tables.numbered is in
    flushes_some c.args.name.now t c.in-Err.fault _ _ _ _ is (sym c.in_default.ensures) (c.in-Err.ensures.failed clock t at_t) image reads one

pub returns-in-Ok-clause-crash : goal.returns-in-Ok-clause-crash
returns-in-Ok-clause-crash g c = λ clock.
    let n = c.args.self.now in
    let t = c.in-Some.table.now in
    let is : table_named n.tables.items c.args.name.now ≡ Some t = ap (λ ts. table_named ts c.args.name.now) (sym c.deref.ensures.value) ∙ sym c.in-Some.ensures in
    let at_t : slice_get n.tables.items t.number ≡ Some t = named_there n.tables.items c.args.name.now t n.sound.tables.numbered is in
    let first = c.in-Ok.ensures.flushed clock t at_t in
    keeps_all _ _ _ _ first.changes first.beside.list first.lasts

pub returns-in-Err-clause-crash : goal.returns-in-Err-clause-crash
returns-in-Err-clause-crash g c = λ clock.
    let n = c.args.self.now in
    let t = c.in-Some.table.now in
    let is : table_named n.tables.items c.args.name.now ≡ Some t = ap (λ ts. table_named ts c.args.name.now) (sym c.deref.ensures.value) ∙ sym c.in-Some.ensures in
    let at_t : slice_get n.tables.items t.number ≡ Some t = named_there n.tables.items c.args.name.now t n.sound.tables.numbered is in
    let none = c.in-Err.ensures.failed clock t at_t in
    keeps_all _ _ _ _ none.changes none.beside.list none.lasts

pub returns-in-Err-clause-told : goal.returns-in-Err-clause-told
returns-in-Err-clause-told g c =
    let n = c.args.self.now in
    let t = c.in-Some.table.now in
    let is : table_named n.tables.items c.args.name.now ≡ Some t = ap (λ ts. table_named ts c.args.name.now) (sym c.deref.ensures.value) ∙ sym c.in-Some.ensures in
    let at_t : slice_get n.tables.items t.number ≡ Some t = named_there n.tables.items c.args.name.now t n.sound.tables.numbered is in
    let none = c.in-Err.ensures.failed (pos 0) t at_t in
    true_of_flush c.in-Err.fault _ _ none.own none.beside.list

pub returns-in-Ok-clause-counts : goal.returns-in-Ok-clause-counts
returns-in-Ok-clause-counts g c =
    let n = c.args.self.now in
    let t = c.in-Some.table.now in
    let is : table_named n.tables.items c.args.name.now ≡ Some t = ap (λ ts. table_named ts c.args.name.now) (sym c.deref.ensures.value) ∙ sym c.in-Some.ensures in
    let at_t : slice_get n.tables.items t.number ≡ Some t = named_there n.tables.items c.args.name.now t n.sound.tables.numbered is in
    let first = c.in-Ok.ensures.flushed (pos 0) t at_t in
    (first.beside.calls, first.beside.accepted)

pub returns-in-Err-clause-counts : goal.returns-in-Err-clause-counts
returns-in-Err-clause-counts g c =
    let n = c.args.self.now in
    let t = c.in-Some.table.now in
    let is : table_named n.tables.items c.args.name.now ≡ Some t = ap (λ ts. table_named ts c.args.name.now) (sym c.deref.ensures.value) ∙ sym c.in-Some.ensures in
    let at_t : slice_get n.tables.items t.number ≡ Some t = named_there n.tables.items c.args.name.now t n.sound.tables.numbered is in
    let none = c.in-Err.ensures.failed (pos 0) t at_t in
    (none.beside.calls, none.beside.accepted)

pub returns-in-Ok-clause-tables : goal.returns-in-Ok-clause-tables
returns-in-Ok-clause-tables g c =
    let n = c.args.self.now in
    let t = c.in-Some.table.now in
    let is : table_named n.tables.items c.args.name.now ≡ Some t = ap (λ ts. table_named ts c.args.name.now) (sym c.deref.ensures.value) ∙ sym c.in-Some.ensures in
    let at_t : slice_get n.tables.items t.number ≡ Some t = named_there n.tables.items c.args.name.now t n.sound.tables.numbered is in
    let first = c.in-Ok.ensures.flushed (pos 0) t at_t in
    first.beside.during

pub returns-in-Ok-clause-last : goal.returns-in-Ok-clause-last
returns-in-Ok-clause-last g c =
    let n = c.args.self.now in
    let t = c.in-Some.table.now in
    let is : table_named n.tables.items c.args.name.now ≡ Some t = ap (λ ts. table_named ts c.args.name.now) (sym c.deref.ensures.value) ∙ sym c.in-Some.ensures in
    let at_t : slice_get n.tables.items t.number ≡ Some t = named_there n.tables.items c.args.name.now t n.sound.tables.numbered is in
    let first = c.in-Ok.ensures.flushed (pos 0) t at_t in
    first.beside.last

pub returns-in-Ok-clause-numbers : goal.returns-in-Ok-clause-numbers
returns-in-Ok-clause-numbers g c = λ clock.
    let n = c.args.self.now in
    let t = c.in-Some.table.now in
    let is : table_named n.tables.items c.args.name.now ≡ Some t = ap (λ ts. table_named ts c.args.name.now) (sym c.deref.ensures.value) ∙ sym c.in-Some.ensures in
    let at_t : slice_get n.tables.items t.number ≡ Some t = named_there n.tables.items c.args.name.now t n.sound.tables.numbered is in
    let first = c.in-Ok.ensures.flushed clock t at_t in
    numbers_kept _ _ first.beside.list first.beside.count first.beside.numbers

pub returns-in-Err-clause-tables : goal.returns-in-Err-clause-tables
returns-in-Err-clause-tables g c =
    let n = c.args.self.now in
    let t = c.in-Some.table.now in
    let is : table_named n.tables.items c.args.name.now ≡ Some t = ap (λ ts. table_named ts c.args.name.now) (sym c.deref.ensures.value) ∙ sym c.in-Some.ensures in
    let at_t : slice_get n.tables.items t.number ≡ Some t = named_there n.tables.items c.args.name.now t n.sound.tables.numbered is in
    let none = c.in-Err.ensures.failed (pos 0) t at_t in
    none.beside.during

pub returns-in-Err-clause-last : goal.returns-in-Err-clause-last
returns-in-Err-clause-last g c =
    let n = c.args.self.now in
    let t = c.in-Some.table.now in
    let is : table_named n.tables.items c.args.name.now ≡ Some t = ap (λ ts. table_named ts c.args.name.now) (sym c.deref.ensures.value) ∙ sym c.in-Some.ensures in
    let at_t : slice_get n.tables.items t.number ≡ Some t = named_there n.tables.items c.args.name.now t n.sound.tables.numbered is in
    let none = c.in-Err.ensures.failed (pos 0) t at_t in
    none.beside.last

pub returns-in-Err-clause-numbers : goal.returns-in-Err-clause-numbers
returns-in-Err-clause-numbers g c = λ clock.
    let n = c.args.self.now in
    let t = c.in-Some.table.now in
    let is : table_named n.tables.items c.args.name.now ≡ Some t = ap (λ ts. table_named ts c.args.name.now) (sym c.deref.ensures.value) ∙ sym c.in-Some.ensures in
    let at_t : slice_get n.tables.items t.number ≡ Some t = named_there n.tables.items c.args.name.now t n.sound.tables.numbered is in
    let none = c.in-Err.ensures.failed clock t at_t in
    numbers_kept _ _ none.beside.list none.beside.count none.beside.numbers

pub returns-in-None-clause-numbers : goal.returns-in-None-clause-numbers
returns-in-None-clause-numbers g c = λ clock. numbers_none _ _ refl refl

pub returns-in-Some-stopped-clause-numbers : goal.returns-in-Some-stopped-clause-numbers
returns-in-Some-stopped-clause-numbers g c = λ clock. numbers_none _ _ refl refl
