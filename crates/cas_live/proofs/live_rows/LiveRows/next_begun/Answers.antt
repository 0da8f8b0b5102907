use Rattle.std.proofs.Common.{rules, ◌≡◌, sym, ap}
use Rattle.cas_live.specs.Inner.Coming.{rows_of_stage, rows_left}
use Rattle.cas_live.specs.declared.live_rows.Stage.TheVariants as stages
use Rattle.cas_live.proofs.Keeping.{last_given, last_ends, nothing_read}
use Rattle.cas_live.proofs.live_rows.LiveRows.next_begun.Goals as goal

pub returns-in-Kept : goal.returns-in-Kept
returns-in-Kept g c =
    let I = g.I.FragmentSource in
    let self = c.args.self.now in
    let kept : self.stage ≡ stages.Kept c.in-Kept.kept = sym c.in-Kept.ensures.value in
    record {
      first = last_given g.row.I-Fault.Denot self.stage c.in-Kept.kept.items c.take_last-row.new.rows.items c.take_last-row.result (I.over_all self.source) self.viewer (I.to_come self.source)
          (ap (λ s. rows_of_stage (I.over_all self.source) s self.viewer (I.to_come self.source)) kept) c.take_last-row.ensures.row;
      ends = last_ends g.row.I-Fault.Denot self.stage c.in-Kept.kept.items c.take_last-row.new.rows.items c.take_last-row.result (I.at_most self.source)
          (ap (λ s. rows_left s (I.at_most self.source)) kept) c.take_last-row.ensures.length;
      broken = search rules;
      wanted = search rules;
      causes = search rules;
      reads = λ fs e. nothing_read _ _ fs _ e;
      same_query = search rules;
      same_top = search rules;
    }
