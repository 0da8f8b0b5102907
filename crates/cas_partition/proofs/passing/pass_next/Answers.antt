use Rattle.std.proofs.Common.{◌≡◌, sym, ap, ◌∙◌, subst}
use Rattle.cas_partition.specs.Inner.Firsts.{with_first}
use Rattle.cas_partition.specs.Inner.Steps.{marks_in}
use Rattle.cas_partition.specs.Inner.Lent.{rows_in, GivesRow}
use Rattle.cas_partition.specs.Inner.Passing.{left_in}
use Rattle.cas_partition.specs.Inner.Pieces.{fragment_of}
use Rattle.cas_partition.proofs.RowsPassed.{mark_steps, row_steps}
use Rattle.cas_partition.proofs.passing.pass_next.Goals as goal

pub returns-in-Some : goal.returns-in-Some
returns-in-Some c =
    mark_steps c.args.top c.args.now.now c.pass_mark.new.now (rows_in c.args.rows.now) c.in-Some.mark (marks_in c.args.marks.now) (marks_in c.next.new.self) c.pass_mark.result
    (sym c.is_mark_next.ensures ∙ c.if-is_mark_next.true) (sym (subst (λ r. with_first r (marks_in c.next.new.self) ≡ marks_in c.args.marks.now) c.in-Some.is c.next.ensures))
    (c.pass_mark.ensures.left c.args.top) c.pass_mark.ensures.force

pub returns-in_ok-left-in-Some-next : goal.returns-in_ok-left-in-Some-next
returns-in_ok-left-in-Some-next c =
    row_steps c.args.top c.args.now.now (rows_in c.args.rows.now) (rows_in c.next-2.new.self) c.in-Some-next.key.now c.in-Some-next.body.now (marks_in c.args.marks.now) c.in_ok-left-in-Some-next.left
    (sym c.is_mark_next.ensures ∙ c.if-is_mark_next.false) (subst (λ r. GivesRow (rows_in c.args.rows.now) r (rows_in c.next-2.new.self)) c.in-Some-next.is c.next-2.ensures)
    (c.in_ok-left-in-Some-next.ensures ∙ ap (λ k. left_in c.args.top c.args.now.now (fragment_of k c.in-Some-next.body.now)) c.row.ensures)
