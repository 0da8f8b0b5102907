use Rattle.std.proofs.Common.{Ok, ap, arith}
use Rattle.std.proofs.lemmas.Int.{ints}
use Rattle.cas_sessions.proofs.Answering.{does_alter, does_create, does_read, does_write}
use Rattle.cas_lasting.proofs.Crashing.{amid_still}
use Rattle.cas_sessions.proofs.Telling.{other_place}
use Rattle.cas_sessions.proofs.node.Node.perform.Goals as goal

pub returns-in-Create-clause-does : goal.returns-in-Create-clause-does
returns-in-Create-clause-does g c = λ at stands.
    does_create c.args.ask.now.kind (g.C.Clock.may_give c.args.ask.now.clock.now) _ _ _ _ c.args.bound c.in-Create.table _ c.in-Create.is (c.create.ensures.changes at)

pub returns-in-Alter-clause-does : goal.returns-in-Alter-clause-does
returns-in-Alter-clause-does g c = λ at stands.
    does_alter c.args.ask.now.kind (g.C.Clock.may_give c.args.ask.now.clock.now) _ _ _ _ c.args.bound c.in-Alter.addition _ c.in-Alter.is (c.alter.ensures.changes at)

pub returns-in-Write-clause-does : goal.returns-in-Write-clause-does
returns-in-Write-clause-does g c = λ at stands.
    does_write c.args.ask.now.kind (g.C.Clock.may_give c.args.ask.now.clock.now) _ _ _ _ c.args.seconds _ c.reading-reading.result _ c.args.bound c.in-Write.write _
    (c.write.ensures.writes at) c.in-Write.is stands (omega (arith, ints)) c.reading-reading.ensures.given (omega (arith, ints))

pub returns-in-Read-clause-does : goal.returns-in-Read-clause-does
returns-in-Read-clause-does g c = λ at stands.
    does_read c.args.ask.now.kind (g.C.Clock.may_give c.args.ask.now.clock.now) _ _ _ _ c.args.seconds _ c.reading-reading-in-Read.result _ c.args.bound c.in-Read.read _
    (c.read.ensures.shows c.args.session.now.seat.list c.args.session.now.seat.calls at) c.in-Read.is stands (omega (arith, ints)) c.reading-reading-in-Read.ensures.given (omega (arith, ints))

pub returns-in-Read-clause-crash : goal.returns-in-Read-clause-crash
returns-in-Read-clause-crash g c = λ at h found told stands lasts.
    amid_still h found _ c.args.self.now.room.folder c.read.new.self.room.folder told (λ x. g.F.Folder.disk x) stands lasts _ (ap (λ r. r.folder) c.read.ensures.room)

pub returns-in-Read-clause-lists : goal.returns-in-Read-clause-lists
returns-in-Read-clause-lists g c = λ at. c.read.ensures.lists c.args.session.now.seat.list c.args.session.now.seat.calls at

pub returns-in-Read-clause-numbers : goal.returns-in-Read-clause-numbers
returns-in-Read-clause-numbers g c = λ at. c.read.ensures.numbers c.args.session.now.seat.list c.args.session.now.seat.calls at

pub returns-in-Create-clause-place : goal.returns-in-Create-clause-place
returns-in-Create-clause-place g c = other_place c.create.result (Ok c.args.bound) c.create.ensures.other

pub returns-in-Alter-clause-place : goal.returns-in-Alter-clause-place
returns-in-Alter-clause-place g c = other_place c.alter.result (Ok c.args.bound) c.alter.ensures.other

pub returns-in-Read-clause-place : goal.returns-in-Read-clause-place
returns-in-Read-clause-place g c = other_place c.read.result (Ok c.args.bound) c.read.ensures.other
