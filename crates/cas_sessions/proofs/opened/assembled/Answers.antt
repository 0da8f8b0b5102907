use Rattle.std.proofs.Common.{◌∙◌, ℕ, refl, sym, ap, subst}
use Rattle.cas_history.specs.Items.{listed, log_list}
use Rattle.cas_lasting.specs.Starts.{IsInMemory}
use Rattle.cas_lasting.proofs.Serving.{begins}
use Rattle.cas_sessions.proofs.opened.assembled.Goals as goal

pub returns-clause-begins : goal.returns-clause-begins
returns-clause-begins g c = λ given entries mutations openings memory session.
    begins given entries mutations openings _ _
    (subst (λ (k : ℕ). IsInMemory given entries mutations openings c.args.started.limits c.args.started.tables.items c.args.started.shards.items c.args.started.frontiers.items k c.args.started.live)
    (sym (ap (λ n. n.last) c.new.ensures.numbers ∙ c.requires.last)) memory)
    refl (ap (λ l. listed log_list l.pass.saw) c.new.ensures.log ∙ c.requires.log) refl
    (ap (λ f. f.committed) c.new.ensures.faults ∙ c.requires.new.1)
