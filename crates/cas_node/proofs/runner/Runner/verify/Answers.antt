use Rattle.std.proofs.Common.{ap, sym, ◌∙◌}
use Rattle.cas_sessions.specs.Verifying.{Verifies}
use Rattle.cas_sessions.proofs.Answering.{moves_as}
use Rattle.cas_node.specs.Lines.{reply_of_verify}
use Rattle.cas_node.proofs.Answered.{Verified}
use Rattle.cas_node.proofs.runner.Runner.verify.Goals as goal

pub returns-in-Ok-clause-verifies : goal.returns-in-Ok-clause-verifies
returns-in-Ok-clause-verifies g c =
    moves_as _ _ _ _ (λ h after. Verifies h c.args.name.now c.verify.result after) (Verified c.args.name.now _)
    (c.verify.ensures.verifies c.args.self.now.session.seat.list c.args.self.now.session.seat.calls c.args.self.now.seconds)
    (λ h after stands so. (c.verify.result, ap reply_of_verify (sym c.in-Ok.is), so))

pub returns-in-Err-clause-verifies : goal.returns-in-Err-clause-verifies
returns-in-Err-clause-verifies g c =
    moves_as _ _ _ _ (λ h after. Verifies h c.args.name.now c.verify.result after) (Verified c.args.name.now _)
    (c.verify.ensures.verifies c.args.self.now.session.seat.list c.args.self.now.session.seat.calls c.args.self.now.seconds)
    (λ h after stands so. (c.verify.result, c.reply_of.ensures ∙ ap reply_of_verify (sym c.in-Err.is), so))
