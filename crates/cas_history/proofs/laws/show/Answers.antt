use Rattle.std.proofs.Common.{◌≤◌, ◌∙◌, ap, refl, sym, subst}
use Rattle.cas_history.proofs.Parts.{owned}
use Rattle.cas_history.specs.Items.{items, listed, front_list}
use Rattle.cas_history.specs.Last.{last_number}
use mathlib.Core.List.{IsPrefix}
use Rattle.cas_history.proofs.Rising.{numbers_rise}
use Rattle.cas_history.proofs.Shares.{list_begins}
use Rattle.cas_history.proofs.laws.show.Goals as goal

pub returns-clause-number : goal.returns-clause-number
returns-clause-number g c =
    let front = c.args.front.now in
    let r = front_list front.shard in
    let shown = c.look.ensures in
    let list = shown.known.0.1 r (owned items front.pass r front.owns.1) in
    (refl, subst (λ n. last_number (listed r c.args.session.now.pass.saw) ≤ n) (sym (front.last ∙ ap last_number list)) (numbers_rise front.shard front.owns.0 _ _ shown.known.1.0.0 shown.legal))

pub returns-clause-holds : goal.returns-clause-holds
returns-clause-holds g c r =
    let shown = c.look.ensures in
    subst (λ h. IsPrefix (listed r c.args.session.now.pass.saw) (listed r h.saw)) (sym shown.two) (list_begins r _ _ shown.known.1.0.0)
