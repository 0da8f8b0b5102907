use Rattle.std.proofs.Common.{sym, ◌∙◌}
use Rattle.cas_merge.specs.Inner.Brackets.{coming}
use Rattle.cas_merge.proofs.Leaving.{left_first}
use Rattle.cas_merge.proofs.bracket.Bracket.left_from.Goals as goal

pub returns-in-Some-clause-first : goal.returns-in-Some-clause-first
returns-in-Some-clause-first g c =
    left_first c.args.top c.args.before c.args.now.now c.args.f c.in-Some.g (coming g.I.FragmentSource.to_come c.args.self.now)
    (sym c.in_ok-g.ensures ∙ c.in-Some.is) c.requires
