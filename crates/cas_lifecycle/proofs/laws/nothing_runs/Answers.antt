use Rattle.std.proofs.Common.{◌≡◌, ℕ, ◌<◌, ◌∙◌, arith, ap, sym, subst, ⊎_elim, true≢false}
use Rattle.cas_history.specs.Hands.{shares}
use Rattle.cas_history.proofs.Parts.{owned}
use Rattle.cas_history.specs.Items.{items, listed}
use Rattle.cas_history.specs.Last.{runs, turn}
use Rattle.cas_lifecycle.specs.Inner.Homes.{Homely}
use Rattle.cas_lifecycle.proofs.Homes.{homely_sees, others_home}
use Rattle.cas_lifecycle.proofs.Turns.{running}
use Rattle.cas_history.proofs.Lists.{none_if}
use Rattle.cas_lifecycle.proofs.laws.nothing_runs.Goals as goal

pub invariant_of-maker : goal.invariant_of-maker
invariant_of-maker g c =
    let maker = c.args.maker.now in
    let shown = c.look_three.ensures in
    record { home = subst (Homely maker.next maker.out) (sym shown.two) (homely_sees maker.next maker.out _ maker.pass maker.home shown.known.1.0) }

pub returns-clause-none : goal.returns-clause-none
returns-clause-none g c =
    let works = c.args.works.now in
    let maker = c.args.maker.now in
    let session = c.args.session.now in
    let shown = c.look_three.ensures in
    let log = c.look_three.new.one.saw in
    let list = shown.known.0.1 works.list (owned items works.pass works.list works.owns.1) in
    let diary = shown.known.1.1.0.1 session.list (owned items session.pass session.list session.owns.1) in
    works.is_last
    ∙ (ap (runs works.list) list
    ∙ none_if (runs works.list (listed works.list log)) (λ p is.
    let who = running works.list p log shown.legal is in
    ⊎_elim
    (λ (mine : 0 < shares p maker.pass). true≢false (sym who.2 ∙ (sym (ap (turn works.list) (shown.known.1.0.1 p mine)) ∙ maker.home.quiet p who.0 who.1 mine works.list)))
    (λ (same : p ≡ session.list). true≢false (sym who.2 ∙ (ap (λ (k : ℕ). turn works.list (listed k log)) same ∙ (sym (ap (turn works.list) diary) ∙ c.requires.idle works.list))))
    (others_home maker.next maker.out session.list maker.pass session.pass maker.home c.requires.lone (λ r. let a = shown.apart r in omega arith) session.owns.0 session.even session.owns.1 p who.0 who.1)))
