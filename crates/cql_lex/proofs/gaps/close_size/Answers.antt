use Rattle.std.proofs.Common.{ap, sym, ◌∙◌}
use Rattle.cql_lex.specs.Characters.{begins_pair}
use Rattle.cql_lex.proofs.Rests.{rest_is}
use Rattle.cql_lex.proofs.Turns.{close_turn}
use Rattle.cql_lex.proofs.gaps.close_size.Goals as goal

pub loop-at-preserved : goal.loop-at-preserved
loop-at-preserved c =
    let here = ap (begins_pair 42 47) (sym (rest_is c.args.text.now c.loop-at.at)) ∙ sym c.begins_pair.ensures.pair ∙ c.if-begins_pair.false in
    close_turn c.args.text.now c.loop-at.at _ c.loop-at-test.true here c.loop-at.invariant
