use Rattle.std.proofs.Common.{◌≡◌, ap, sym, ◌∙◌, arith}
use Rattle.cas_history.proofs.Moves.{parts}
use Rattle.cas_history.proofs.pass.Pass.take_first.Goals as goal

pub split_seat-others-requires : goal.split_seat-others-requires
split_seat-others-requires g c =
    let i = c.self.invariant in
    let table = ap (λ t. t.shared.table_id) c.deref.ensures ∙ i.0 in
    let words = ap (λ t. t.words) table ∙ i.3 in (
      c.group.invariant.0 ∙ sym table,
      (let w : _ ≡ 34 = words in omega arith),
      parts g.E.Entries.rules _ c.group.inside.seat.me.0,
    )
