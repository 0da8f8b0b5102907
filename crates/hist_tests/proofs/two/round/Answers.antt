use Rattle.std.proofs.Common.{◌∙◌, ap, refl}
use Rattle.cas_history.specs.Items.{listed}
use Rattle.cas_history.specs.Last.{turn}
use Rattle.cas_lifecycle.proofs.Turns.{stays_idle}
use Rattle.hist_tests.proofs.two.round.Goals as goal

pub invariant_of-client : goal.invariant_of-client
invariant_of-client g c =
    let session = c.args.client.now.session in
    let wrote = c.write-number.ensures in
    let shown = c.show-shown.ensures in
    let after = c.write-number.new.session in
    record {
      idle = λ works.
          ap (λ l. turn works (listed l c.show-shown.new.session.pass.saw)) shown.session.0
          ∙ (ap (turn works) shown.session.2
          ∙ (ap (λ l. turn works (listed l after.pass.saw)) wrote.call.1
          ∙ (ap (turn works) wrote.session ∙ stays_idle (listed session.list session.pass.saw) _ (λ w. refl) c.args.client.now.idle works)));
    }
