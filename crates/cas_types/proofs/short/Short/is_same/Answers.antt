use Rattle.std.proofs.Common.{◌∙◌, ◌&&◌, nat_eq, sym, ap}
use Rattle.cas_types.proofs.Padded.{shorts_same}
use Rattle.cas_types.proofs.short.Short.is_same.Goals as goal

pub returns-then-are_same_places : goal.returns-then-are_same_places
returns-then-are_same_places c =
    let x = c.self in
    let y = c.other in
    ap (λ b. b && nat_eq x.inside.len y.inside.len) (sym c.if-are_same_places.true ∙ c.are_same_places.ensures)
    ∙ shorts_same x.inside.bytes y.inside.bytes x.told y.told c.args.self.now c.args.other.now x.inside.len y.inside.len x.invariant.1 y.invariant.1 x.view_is y.view_is x.invariant.0 y.invariant.0

pub returns-else-are_same_places : goal.returns-else-are_same_places
returns-else-are_same_places c =
    let x = c.self in
    let y = c.other in
    c.if-are_same_places.false ∙ ap (λ b. b && nat_eq x.inside.len y.inside.len) (sym c.if-are_same_places.false ∙ c.are_same_places.ensures)
    ∙ shorts_same x.inside.bytes y.inside.bytes x.told y.told c.args.self.now c.args.other.now x.inside.len y.inside.len x.invariant.1 y.invariant.1 x.view_is y.view_is x.invariant.0 y.invariant.0
