use Rattle.std.proofs.Common.{◌≡◌, ap, sym, ◌∙◌, arith}
use Rattle.cas_history.proofs.Moves.{looks, merges_known, merges_less}
use Rattle.cas_history.specs.Inner.Table.{merged}
use Rattle.cas_history.proofs.pass.Pass.merge.Goals as goal

pub load-requires : goal.load-requires
load-requires g c =
    let i = c.self.invariant in
    let table = ap (λ t. t.shared.table_id) c.deref.ensures ∙ i.0 in
    let words = ap (λ t. t.words) table ∙ i.3 in (
      c.group.invariant.0 ∙ sym table,
      (let w : _ ≡ 34 = words in omega arith),
      rw c.group.invariant.1 (looks g.E.Entries.rules merged (merges_known g.E.Entries.rules) merges_less _ _ c.group.inside.seat.me.0 0 (omega arith)),
    )
