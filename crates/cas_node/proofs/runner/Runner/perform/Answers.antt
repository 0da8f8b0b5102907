use Rattle.std.proofs.Common.{arith}
use Rattle.std.proofs.lemmas.Int.{ints}
use Rattle.cas_sessions.proofs.Answering.{stands_at}
use Rattle.cas_lasting.proofs.Listing.{up_to_same, up_to_twice}
use Rattle.cas_node.proofs.Carrying.{carried_listing, carried_out}
use Rattle.cas_node.proofs.SessionLemmas.{tells_on}
use Rattle.cas_node.proofs.runner.Runner.perform.Goals as goal

pub returns-clause-performs : goal.returns-clause-performs
returns-clause-performs g c =
    carried_out c.args.ask.now.kind (g.C.Clock.may_give c.args.ask.now.clock.now) c.args.statement.now _ _ _ _ c.answer-answer.result c.settle-want.result
    (c.answer-answer.ensures.does c.args.self.now.seconds (stands_at c.args.ask.now.kind _ c.args.self.now.seconds (omega (arith, ints)))) c.answer-answer.ensures.place
    _ _ c.reply_of.result c.place_of.result c.reply_of.ensures c.place_of.ensures (tells_on _ _ _ c.answer-answer.ensures.tables) c.settle-want.ensures.settles

pub returns-clause-tables : goal.returns-clause-tables
returns-clause-tables g c =
    up_to_twice _ _ _ _ _ c.answer-answer.ensures.counts.2 (up_to_same _ _ _ c.answer-answer.ensures.tables) c.settle-want.ensures.tables

pub returns-clause-lists : goal.returns-clause-lists
returns-clause-lists g c =
    carried_listing c.args.ask.now.kind (g.C.Clock.may_give c.args.ask.now.clock.now) c.args.statement.now _ _ _ _ c.answer-answer.result c.settle-want.result
    (c.answer-answer.ensures.does c.args.self.now.seconds (stands_at c.args.ask.now.kind _ c.args.self.now.seconds (omega (arith, ints)))) c.answer-answer.ensures.place
    _ c.place_of.result c.place_of.ensures (c.answer-answer.ensures.lists c.args.self.now.seconds) c.settle-want.ensures.lists
