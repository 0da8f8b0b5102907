use Rattle.std.proofs.Common.{ℕ, ◌<◌, ap, sym, ◌∙◌, subst}
use Rattle.cas_history.proofs.Moves.{looks, sees_more, sees_less}
use Rattle.cas_history.specs.Hands.{sees}
use Rattle.std.specs.Prelude.{map}
use Rattle.cas_history.proofs.pass.Pass.show.Goals as goal

pub load-requires : goal.load-requires
load-requires g c =
    let i = c.self.invariant in
    let table = ap (λ t. t.shared.table_id) c.deref.ensures ∙ i.0 in
    let words = ap (λ t. t.words) table ∙ i.3 in (
      c.group.invariant.0 ∙ sym table,
      subst (λ (n : ℕ). c.args.word < n) (sym words) c.requires,
      rw c.group.invariant.1 (looks g.E.Entries.rules (λ log hands. map (sees log) hands) (sees_more g.E.Entries.rules) sees_less _ _ c.group.inside.seat.me.0 c.args.word c.requires),
    )
