use Rattle.std.proofs.Common.{◌∙◌, ap, sym, subst}
use Rattle.cas_history.proofs.Parts.{owned}
use Rattle.cas_history.specs.Items.{items, listed, log_list, front_list}
use Rattle.cas_history.specs.Last.{turn}
use Rattle.cas_history.specs.Laws.{Stands}
use Rattle.cas_lifecycle.proofs.Homes.{all_home}
use mathlib.Core.List.{IsPrefix}
use Rattle.cas_history.proofs.Orders.{stands}
use Rattle.cas_history.proofs.Shares.{list_begins}
use Rattle.cas_lifecycle.proofs.laws.conclude.Goals as goal

pub returns-clause-room : goal.returns-clause-room
returns-clause-room g c =
    let log = c.args.log in
    ap (λ h. listed log_list h.saw) c.kept.ensures ∙ sym (c.join.ensures.known.1.0.1 log_list (owned items log.pass log_list log.owns))

pub returns-clause-diaries : goal.returns-clause-diaries
returns-clause-diaries g c p own =
    let maker = c.args.maker in
    ap (λ h. listed p h.saw) c.kept.ensures ∙ sym (c.join.ensures.known.0.1 p (owned items maker.pass p own))

pub returns-clause-law : goal.returns-clause-law
returns-clause-law g c = subst (λ h. Stands (listed log_list h.saw) (λ shard. listed (front_list shard) h.saw) (λ session. listed session h.saw)) (sym c.kept.ensures) (stands _ c.join.ensures.legal)

pub returns-clause-all : goal.returns-clause-all
returns-clause-all g c none p low even works =
    let maker = c.args.maker in
    let mine = all_home maker.next maker.out maker.pass maker.home none p low even in
    ap (λ h. turn works (listed p h.saw)) c.kept.ensures ∙ (ap (turn works) (sym (c.join.ensures.known.0.1 p mine)) ∙ maker.home.quiet p low even mine works)

pub returns-clause-holds : goal.returns-clause-holds
returns-clause-holds g c r =
    subst (λ h. IsPrefix (listed r c.args.maker.pass.saw) (listed r h.saw)) (sym c.kept.ensures) (list_begins r _ _ c.join.ensures.known.0.0)
