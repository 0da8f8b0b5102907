use Rattle.std.proofs.Common.{◌≡◌, ap, sym, ◌∙◌, arith}
use Rattle.cas_history.proofs.Moves.{meets}
use Rattle.cas_history.proofs.pass.Pass.lend_to.Goals as goal

pub join_seat-requires : goal.join_seat-requires
join_seat-requires g c =
    let i = c.self.invariant in
    let table = ap (λ t. t.shared.table_id) c.deref.ensures ∙ i.0 in
    let words = ap (λ t. t.words) table ∙ i.3 in (
      c.group.invariant.0 ∙ sym table,
      c.seat.invariant.0 ∙ sym table,
      c.seat.invariant.1,
      (let w : _ ≡ 34 = words in omega arith),
      meets g.E.Entries.rules _ _ c.group.inside.seat.me.0 c.seat.inside.seat.me.0,
    )
