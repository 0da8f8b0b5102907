use Rattle.std.proofs.Common.{◌≡◌, ap, sym, ◌∙◌, arith}
use Rattle.cas_history.proofs.Moves.{lends}
use Rattle.cas_history.proofs.pass.Pass.lend.Goals as goal

pub split_seat-requires : goal.split_seat-requires
split_seat-requires g c =
    let i = c.self.invariant in
    let table = ap (λ t. t.shared.table_id) c.deref.ensures ∙ i.0 in
    let words = ap (λ t. t.words) table ∙ i.3 in (
      i.1 ∙ sym table,
      (let w : _ ≡ 34 = words in omega arith),
      lends g.E.Entries.rules _ c.self.inside.seat.me.0,
    )
