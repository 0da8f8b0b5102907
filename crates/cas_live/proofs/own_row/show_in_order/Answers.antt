use Rattle.std.proofs.Common.{◌≡◌, IfOk, subst}
use Rattle.cas_live.specs.Inner.OwnRow.{own_answer}
use Rattle.cas_live.proofs.OwnRows.{own_answers}
use Rattle.cas_live.proofs.own_row.show_in_order.Goals as goal

pub returns : goal.returns
returns c =
    subst (λ shown. IfOk c.own_answer.result (λ r. r ≡ shown))
    (own_answers c.args.query.now c.args.all.now c.args.all.atoms.now c.args.force c.args.row.now c.requires.shared c.requires.order)
    (subst (λ over. IfOk c.own_answer.result (λ r. r ≡ own_answer c.args.query.now c.args.all.atoms.now c.args.all.now over c.args.row.now)) c.row_cover.ensures c.own_answer.ensures)
