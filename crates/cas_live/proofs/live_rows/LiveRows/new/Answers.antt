use Rattle.std.proofs.Common.{rules}
use Rattle.cas_live.proofs.Passing.{from_the_beginning}
use Rattle.cas_live.proofs.live_rows.LiveRows.new.Goals as goal

pub returns-clause-rows : goal.returns-clause-rows
returns-clause-rows g c fs told ordered =
    from_the_beginning c.args.query c.args.moment (g.I.FragmentSource.over_all c.args.source) fs c.blank.result (g.I.FragmentSource.to_come c.args.source)
    c.blank.ensures.query (search rules) c.blank.ensures.shared c.blank.ensures.in_force told ordered
