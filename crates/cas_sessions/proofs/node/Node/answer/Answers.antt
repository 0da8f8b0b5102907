use Rattle.std.proofs.Common.{refl, ap, sym, ◌∙◌, arith}
use Rattle.std.proofs.lemmas.Int.{ints}
use Rattle.cas_bind.specs.Meaning.{meaning}
use Rattle.cas_sessions.proofs.Answering.{bound_told, does_bound, stands_as}
use Rattle.cas_lasting.proofs.Going.{numbers_none}
use Rattle.cas_sessions.proofs.node.Node.answer.Goals as goal

pub perform-requires-clause-told : goal.perform-requires-clause-told
perform-requires-clause-told g c =
    bound_told _ c.args.self.now.tables.items c.deref.result.now c.args.statement.now c.in-Ok.bound c.deref.ensures.value c.requires.spelled c.args.self.now.sound.tables
    c.in-Ok.ensures.means c.in-Ok.ensures.kept

pub returns-in-Ok-clause-does : goal.returns-in-Ok-clause-does
returns-in-Ok-clause-does g c = λ at stands.
    does_bound c.args.ask.now.kind (g.C.Clock.may_give c.args.ask.now.clock.now) _ _ _ _ _ c.in-Ok.bound _ (c.perform.ensures.does at (stands_as c.args.ask.now.kind _ _ at (omega (arith, ints)) stands))
    (ap (λ ts. meaning c.args.self.now.limits.shards ts c.args.statement.now) (sym c.deref.ensures.value) ∙ c.in-Ok.ensures.means)

pub returns-in-Err-Refused-clause-numbers : goal.returns-in-Err-Refused-clause-numbers
returns-in-Err-Refused-clause-numbers g c = λ at. numbers_none _ _ refl refl

pub returns-in-Err-Mem-clause-numbers : goal.returns-in-Err-Mem-clause-numbers
returns-in-Err-Mem-clause-numbers g c = λ at. numbers_none _ _ refl refl
