use Rattle.std.proofs.Common.{◌≤◌, ◌∙◌, ap, sym, subst}
use Rattle.cas_history.proofs.Parts.{owned}
use Rattle.cas_history.specs.Items.{items, listed, faults_list}
use Rattle.cas_history.specs.Last.{last_fault, last_committed, last_first}
use Rattle.cas_history.proofs.Rising.{faults_rise, committed_rises, first_stays}
use Rattle.cas_history.proofs.faults.Faults.tell.Goals as goal

pub returns-clause-known : goal.returns-clause-known
returns-clause-known g c =
    let self = c.args.self.now in
    let shown = c.look.ensures in
    let list = shown.known.0.1 faults_list (owned items self.pass faults_list self.owns) in
    subst (λ n. last_fault (listed faults_list c.args.session.now.pass.saw) ≤ n) (sym (self.last.0 ∙ ap last_fault list)) (faults_rise faults_list _ _ shown.known.1.0.0 shown.legal)

pub returns-clause-committed : goal.returns-clause-committed
returns-clause-committed g c =
    let self = c.args.self.now in
    let shown = c.look.ensures in
    let list = shown.known.0.1 faults_list (owned items self.pass faults_list self.owns) in
    subst (λ n. last_committed (listed faults_list c.args.session.now.pass.saw) ≤ n) (sym (self.last.1 ∙ ap last_committed list)) (committed_rises faults_list _ _ shown.known.1.0.0 shown.legal)

pub returns-clause-first : goal.returns-clause-first
returns-clause-first g c stopped =
    let self = c.args.self.now in
    let shown = c.look.ensures in
    let list = shown.known.0.1 faults_list (owned items self.pass faults_list self.owns) in
    first_stays faults_list _ _ shown.known.1.0.0 shown.legal stopped ∙ sym (self.last.2 ∙ ap last_first list)
