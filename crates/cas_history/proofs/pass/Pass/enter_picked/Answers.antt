use Rattle.std.proofs.Common.{ℕ, ◌<◌, ap, sym, ◌∙◌, subst}
use Rattle.cas_history.proofs.Moves.{enters}
use Rattle.cas_history.proofs.pass.Pass.enter_picked.Goals as goal

pub fetch_add-requires : goal.fetch_add-requires
fetch_add-requires g c =
    let word = c.requires.word.0 in
    let i = c.self.invariant in
    let table = ap (λ t. t.shared.table_id) c.deref.ensures ∙ i.0 in
    let words = ap (λ t. t.words) table ∙ i.3 in (
      c.group.invariant.0 ∙ sym table,
      subst (λ (n : ℕ). c.args.word < n) (sym words) c.requires.word.1,
      rw (c.group.invariant.1, c.requires.picked, sym word) (enters g.E.Entries.rules _ _ c.group.inside.seat.me.0 (g.T.Tells.entry c.args.entry.now) (subst (λ (n : ℕ). n < 34) (sym word) c.requires.word.1) (rw c.group.view_is c.requires.ready)),
    )
