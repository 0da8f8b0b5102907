use Rattle.std.proofs.Common.{arith}
use Rattle.std.proofs.lemmas.Int.{ints}
use Rattle.cas_reference.specs.Held.{held}
use Rattle.cas_reference.proofs.Doing.{answers_flush, answers_statement, answers_verify, says_moment}
use Rattle.cas_reference.proofs.reference.Reference.answer_known.Goals as goal

pub set_clock-requires : goal.set_clock-requires
set_clock-requires g c = record {
  moment = says_moment c.args.text.now c.args.line c.in-Clock.seconds _ (omega (arith, ints)) c.requires.says c.in-Clock.is;
}

pub returns-in_ok-answer_statement-in-Statement : goal.returns-in_ok-answer_statement-in-Statement
returns-in_ok-answer_statement-in-Statement g c =
    answers_statement (g.C.Clock.may_give c.args.clock.now) (held c.args.self.now) (held c.answer_statement.new.self) c.args.text.now c.args.line
    c.in-Statement.statement c.in_ok-answer_statement-in-Statement.field-0 c.in_ok-answer_statement-in-Statement.ensures c.requires.says c.in-Statement.is

pub returns-in-Flush : goal.returns-in-Flush
returns-in-Flush g c =
    answers_flush (g.C.Clock.may_give c.args.clock.now) (held c.args.self.now) c.args.text.now c.args.line c.in-Flush.name c.flush.result c.flush.ensures
    c.requires.says c.in-Flush.is

pub returns-in-Verify : goal.returns-in-Verify
returns-in-Verify g c =
    answers_verify (g.C.Clock.may_give c.args.clock.now) (held c.args.self.now) c.args.text.now c.args.line c.in-Verify.name c.verify.result c.verify.ensures
    c.requires.says c.in-Verify.is
