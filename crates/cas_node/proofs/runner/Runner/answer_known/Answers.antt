use Rattle.std.proofs.Common.{arith}
use Rattle.std.proofs.lemmas.Int.{ints}
use Rattle.cas_node.proofs.Answered.{answers_flush, answers_performed, lists_performed, says_flush, says_moment}
use Rattle.cas_sessions.proofs.Answering.{says_spelled}
use Rattle.cas_node.proofs.runner.Runner.answer_known.Goals as goal

pub set_clock-requires : goal.set_clock-requires
set_clock-requires g c = record {
  moment = says_moment c.args.text.now c.args.line c.in-Clock.seconds _ (omega (arith, ints)) c.requires.says c.in-Clock.is;
}

pub perform-requires-clause-spelled : goal.perform-requires-clause-spelled
perform-requires-clause-spelled g c = says_spelled c.args.text.now c.args.line c.in-Statement.statement c.requires.says c.in-Statement.is

pub returns-in-Flush-clause-answers : goal.returns-in-Flush-clause-answers
returns-in-Flush-clause-answers g c =
    let kind = c.args.ask.now.kind in
    let Gives = g.C.Clock.may_give c.args.ask.now.clock.now in
    answers_flush kind Gives _ _ _ _ c.args.text.now c.args.line c.in-Flush.name _ c.flush.ensures.flushes c.requires.says c.in-Flush.is

pub returns-in-Flush-clause-lists : goal.returns-in-Flush-clause-lists
returns-in-Flush-clause-lists g c = λ h found told stands lasts none.
    absurd (says_flush c.args.ask.now.kind (g.C.Clock.may_give c.args.ask.now.clock.now) h c.args.text.now c.args.line c.in-Flush.name c.requires.says c.in-Flush.is none)

pub returns-in-Statement-clause-answers : goal.returns-in-Statement-clause-answers
returns-in-Statement-clause-answers g c =
    answers_performed c.args.ask.now.kind (g.C.Clock.may_give c.args.ask.now.clock.now) _ _ _ c.args.text.now c.args.line c.in-Statement.statement c.requires.says c.in-Statement.is
    _ _ c.perform.ensures.performs

pub returns-in-Statement-clause-lists : goal.returns-in-Statement-clause-lists
returns-in-Statement-clause-lists g c =
    lists_performed c.args.ask.now.kind (g.C.Clock.may_give c.args.ask.now.clock.now) _ _ _ c.args.text.now c.args.line c.in-Statement.statement c.requires.says c.in-Statement.is
    c.perform.ensures.lists

pub returns-in-Clock-clause-lists : goal.returns-in-Clock-clause-lists
returns-in-Clock-clause-lists g c = λ h found told stands lasts none. c.set_clock.ensures.lists h found told stands lasts

pub returns-in-Verify-clause-lists : goal.returns-in-Verify-clause-lists
returns-in-Verify-clause-lists g c = λ h found told stands lasts none. c.verify.ensures.lists h found told stands lasts
