use Rattle.std.proofs.Common.{◌+◌, refl, arith, ◌∙◌, set}
use Rattle.std.proofs.lemmas.List.{length-set}
use Rattle.cql_lex.proofs.Spelled.{one_lowered}
use Rattle.cql_lex.proofs.names.few_lowered.Goals as goal

pub loop-at-preserved : goal.loop-at-preserved
loop-at-preserved c =
    let before = c.loop-at.invariant in record {
      long = length-set c.loop-at.places c.loop-at.at c.to_ascii_lowercase.result ∙ before.long;
      front = one_lowered c.args.text.now c.loop-at.places c.loop-at.at (c.loop-at.at + 1) c.to_ascii_lowercase.result refl (omega (arith, before.long, c.requires)) c.loop-at-test.true c.to_ascii_lowercase.ensures.value before.front;
    }
