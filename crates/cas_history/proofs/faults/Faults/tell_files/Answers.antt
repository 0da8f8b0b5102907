use Rattle.std.proofs.Common.{◌≤◌, ◌∙◌, ap, refl, sym, subst}
use Rattle.cas_history.proofs.Parts.{owned}
use Rattle.cas_history.specs.Items.{items, listed, faults_list}
use Rattle.cas_history.specs.Last.{last_fault}
use Rattle.cas_history.proofs.Rising.{faults_rise}
use Rattle.cas_history.proofs.faults.Faults.tell_files.Goals as goal

pub returns-clause-known : goal.returns-clause-known
returns-clause-known g c =
    let self = c.args.self.now in
    let shown = c.look.ensures in
    let list = shown.known.0.1 faults_list (owned items self.pass faults_list self.owns) in
    subst (λ n. last_fault (listed faults_list c.args.files.now.pass.saw) ≤ n) (sym (self.last.0 ∙ ap last_fault list)) (faults_rise faults_list _ _ shown.known.1.0.0 shown.legal)

pub returns-clause-number : goal.returns-clause-number
returns-clause-number g c =
    let self = c.args.self.now in
    let shown = c.look.ensures in
    let list = shown.known.0.1 faults_list (owned items self.pass faults_list self.owns) in
    (refl, self.last.0 ∙ (ap last_fault list ∙ ap (λ h. last_fault (listed faults_list h.saw)) (sym shown.two)))
