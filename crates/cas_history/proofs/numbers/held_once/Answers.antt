use Rattle.std.proofs.Common.{◌≡◌, ℕ, ◌+◌, ◌≤◌, ◌∙◌, ap, sym, subst, arith}
use Rattle.cas_history.specs.Hands.{Owns, shares}
use Rattle.cas_history.proofs.Parts.{owned}
use Rattle.cas_history.specs.Items.{items}
use Rattle.cas_history.specs.Last.{holds}
use Rattle.cas_history.proofs.Once.{holds_once}
use Rattle.cas_history.proofs.numbers.held_once.Goals as goal

pub returns-clause-law : goal.returns-clause-law
returns-clause-law g c first second =
    let one = c.args.one.now in
    let two = c.args.two.now in
    let shown = c.look.ensures in
    let log = c.look.new.one.saw in
    let mine = owned items one.pass one.list one.owns.1 in
    let same : one.list ≡ two.list =
    holds_once c.args.file one.list two.list log shown.legal one.owns.0 two.owns.0
    (ap (holds c.args.file) (sym (shown.known.0.1 one.list mine)) ∙ first)
    (ap (holds c.args.file) (sym (shown.known.1.0.1 two.list (owned items two.pass two.list two.owns.1))) ∙ second) in
    let other = owned items two.pass one.list (subst (λ (k : ℕ). Owns two.pass k) (sym same) two.owns.1) in
    let apart : shares one.list one.pass + (shares one.list two.pass + 0) ≤ 1 = shown.apart one.list in
    omega arith
