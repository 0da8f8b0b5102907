use Rattle.std.proofs.Common.{◌≡◌, ap, sym, ◌∙◌, arith}
use Rattle.cas_history.proofs.Moves.{deals}
use Rattle.cas_history.proofs.pass.Pass.deal_picked.Goals as goal

pub split_seat-requires : goal.split_seat-requires
split_seat-requires g c =
    let i = c.self.invariant in
    let table = ap (λ t. t.shared.table_id) c.deref.ensures ∙ i.0 in
    let words = ap (λ t. t.words) table ∙ i.3 in (
      i.1 ∙ sym table,
      (let w : _ ≡ 34 = words in omega arith),
      deals g.E.Entries.rules _ g.M.Many.many c.self.inside.seat.me.0,
    )
