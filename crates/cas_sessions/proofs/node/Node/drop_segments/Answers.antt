-- Segments that are dropped, by what the room says of them.
use Rattle.std.proofs.Common.{Err, ap, refl, ◌∙◌}
use Rattle.cas_history.specs.Items.{listed, log_list}
use Rattle.cas_lasting.proofs.Crashing.{amid_dropped}
use Rattle.cas_lasting.proofs.Going.{numbers_none}
use Rattle.cas_sessions.proofs.Shrinking.{moves_dropped, moves_dropped_less}
use Rattle.cas_sessions.proofs.node.Node.drop_segments.Goals as goal

pub returns-in-Ok-clause-drops : goal.returns-in-Ok-clause-drops
returns-in-Ok-clause-drops g c = λ clock h stands.
    moves_dropped _ _ _ _ c.in-Ok.count
    (record {
      limits = refl;
      tables = refl;
      shards = refl;
      clock = refl;
      list = ap (λ log. listed log_list log.pass.saw) c.drop_covered.ensures.log;
      session = c.drop_covered.ensures.session.0;
      calls = c.drop_covered.ensures.session.1;
      accepted = c.drop_covered.ensures.accepted;
      committed = c.drop_covered.ensures.committed;
      reads = refl;
      last_file = ap (λ q. q.last) c.drop_covered.ensures.numbers;
      live = refl;
      frontiers = refl;
      faults = c.drop_covered.ensures.count;
    })
    c.in-Ok.ensures.outcome c.drop_covered.ensures.tables
    (λ found told keeps are. c.drop_covered.ensures.kept found told keeps (c.deref.ensures.value ∙ are))
    (λ found told keeps are. c.in-Ok.ensures.trimmed found told keeps (c.deref.ensures.value ∙ are)) c.in-Ok.ensures.reach h stands

pub returns-in-Err-clause-drops : goal.returns-in-Err-clause-drops
returns-in-Err-clause-drops g c = λ clock h stands.
    moves_dropped_less _ _ _ _ c.in-Err.fault c.fault_for.result c.fault_for.ensures
    (record {
      limits = refl;
      tables = refl;
      shards = refl;
      clock = refl;
      list = ap (λ log. listed log_list log.pass.saw) c.drop_covered.ensures.log;
      session = c.drop_covered.ensures.session.0;
      calls = c.drop_covered.ensures.session.1;
      accepted = c.drop_covered.ensures.accepted;
      committed = c.drop_covered.ensures.committed;
      reads = refl;
      last_file = ap (λ q. q.last) c.drop_covered.ensures.numbers;
      live = refl;
      frontiers = refl;
      faults = c.drop_covered.ensures.count;
    })
    c.in-Err.ensures.outcome c.drop_covered.ensures.tables
    (λ found told keeps are. c.drop_covered.ensures.kept found told keeps (c.deref.ensures.value ∙ are)) c.in-Err.ensures.reach (λ what most is. c.in-Err.ensures.full what most (ap Err is)) h stands

pub returns-in-Ok-clause-crash : goal.returns-in-Ok-clause-crash
returns-in-Ok-clause-crash g c = λ clock h found told stands lasts.
    amid_dropped h found _ _ told stands lasts _ _ (ap (λ log. listed log_list log.pass.saw) c.drop_covered.ensures.log)
    (c.drop_covered.ensures.crash found told lasts.keeps (c.deref.ensures.value ∙ lasts.frontiers))

pub returns-in-Err-clause-crash : goal.returns-in-Err-clause-crash
returns-in-Err-clause-crash g c = λ clock h found told stands lasts.
    amid_dropped h found _ _ told stands lasts _ _ (ap (λ log. listed log_list log.pass.saw) c.drop_covered.ensures.log)
    (c.drop_covered.ensures.crash found told lasts.keeps (c.deref.ensures.value ∙ lasts.frontiers))

pub returns-in-Ok-clause-numbers : goal.returns-in-Ok-clause-numbers
returns-in-Ok-clause-numbers g c = λ clock. numbers_none _ _ (ap (λ log. listed log_list log.pass.saw) c.drop_covered.ensures.log) refl

pub returns-in-Err-clause-numbers : goal.returns-in-Err-clause-numbers
returns-in-Err-clause-numbers g c = λ clock. numbers_none _ _ (ap (λ log. listed log_list log.pass.saw) c.drop_covered.ensures.log) refl
