use Rattle.std.proofs.Common.{sym, ◌∙◌}
use Rattle.cas_merge.specs.Inner.Brackets.{coming}
use Rattle.cas_merge.proofs.Leaving.{whole_first}
use Rattle.cas_merge.proofs.bracket.Bracket.settle.Goals as goal

pub returns-then-goes_whole-clause-first : goal.returns-then-goes_whole-clause-first
returns-then-goes_whole-clause-first g c told =
    whole_first g.row.I-Fault.Denot c.args.top c.args.before c.args.now.now told (coming g.I.FragmentSource.to_come c.args.self.now) c.args.next.now
    (sym c.goes_whole.ensures ∙ c.if-goes_whole.true) c.requires
