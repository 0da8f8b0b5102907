use Rattle.std.proofs.Common.{◌≡◌, is_some, Ok, sym, ap, ◌∙◌, subst}
use Rattle.std.specs.Option.{option_map}
use Rattle.cas_atoms.specs.Answers.{limited}
use Rattle.cas_live.specs.Rows.{GivesFirst, left_wanted}
use Rattle.cas_live.specs.Inner.Coming.{told_so_far, rows_of_stage}
use Rattle.cas_live.proofs.Keeping.{nothing_read, read_on, limits, not_full}
use Rattle.cas_live.proofs.live_rows.LiveRows.advance.Goals as goal

pub returns-then-is_full-clause-reads : goal.returns-then-is_full-clause-reads
returns-then-is_full-clause-reads g c fs e forward = nothing_read _ _ fs _ e

pub returns-clause-first : goal.returns-clause-first
returns-clause-first g c rs e =
    let I = g.I.FragmentSource in
    let mid = c.begin.new.self in
    let end = c.next_begun.new.self in
    let wanted : c.left_wanted-self.result ≡ left_wanted mid.wanted (is_some c.in_ok-row.row) = c.left_wanted-self.ensures ∙ (λ i. left_wanted (c.next_begun.ensures.wanted i) (c.is_some.ensures i)) in
    subst (λ w. GivesFirst {E = g.row.I-Fault.Denot} rs (option_map (limited w) (rows_of_stage (I.over_all end.source) end.stage end.viewer (I.to_come end.source))) (Ok c.in_ok-row.row)) (sym wanted)
    (limits g.row.I-Fault.Denot mid.wanted (λ z. not_full c.args.self.now.wanted (sym c.is_full.ensures ∙ c.if-is_full.false) (sym c.begin.ensures.wanted ∙ z))
    (rows_of_stage (I.over_all mid.source) mid.stage mid.viewer (I.to_come mid.source)) (rows_of_stage (I.over_all end.source) end.stage end.viewer (I.to_come end.source)) c.in_ok-row.row rs
    (c.in_ok-begin.ensures.same rs e) c.in_ok-row.ensures.first)

pub returns-clause-reads : goal.returns-clause-reads
returns-clause-reads g c fs e forward =
    let I = g.I.FragmentSource in
    let (source, force, shared) = c.in_ok-begin.ensures.unread forward in
    read_on c.args.self.now.viewer c.begin.new.self.viewer (told_so_far (I.over_all c.args.self.now.source) c.args.self.now.stage c.args.self.now.viewer) fs (I.to_come c.next_begun.new.self.source)
    c.begin.ensures.same_query.0 c.begin.ensures.same_query.1 force shared (c.in_ok-row.ensures.reads fs (ap I.to_come source ∙ e))
