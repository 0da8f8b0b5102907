use Rattle.cas_node.proofs.SessionLemmas.{turned}
use Rattle.cas_node.proofs.script.take_turn.Goals as goal

pub returns-clause-turned : goal.returns-clause-turned
returns-clause-turned g c =
    turned _ _ _ _ _ _ _ _ _ _ _ _ _ c.answer_line-upshot.ensures.answers c.upshot_cause.ensures.cause c.print-fault.ensures.printed
