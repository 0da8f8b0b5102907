use Rattle.std.proofs.Common.{◌∙◌, ap₂}
use Rattle.std.specs.Ordering.{ordering_then}
use Rattle.cas_types.proofs.Padded.{shorts_order}
use Rattle.cas_types.proofs.short.Short.compare.Goals as goal

pub returns : goal.returns
returns c =
    let x = c.self in
    let y = c.other in
    c.then.ensures ∙ ap₂ ordering_then c.compare_places.ensures c.cmp.ensures
    ∙ shorts_order x.inside.bytes y.inside.bytes x.told y.told c.args.self.now c.args.other.now x.inside.len y.inside.len x.invariant.1 y.invariant.1 x.view_is y.view_is x.invariant.0 y.invariant.0
