use Rattle.std.proofs.Common.{sym, ◌∙◌}
use Rattle.cas_effects.proofs.LargeValues.{passes_effect, stops_at_effect}
use Rattle.cas_effects.proofs.too_large.effects_too_large.Goals as goal

pub returns-in-Some : goal.returns-in-Some
returns-in-Some c =
    stops_at_effect c.args.effects.now c.loop-effect.effect-index c.effect-item.result _ _ c.loop-effect-test.true c.effect-item.is (sym c.in-Some.ensures) c.loop-effect.invariant

pub loop-effect-preserved : goal.loop-effect-preserved
loop-effect-preserved c =
    passes_effect c.args.effects.now c.loop-effect.effect-index c.effect-item.result _ c.loop-effect-test.true c.effect-item.is (sym c.effect_too_large.ensures ∙ c.in_default.is) c.loop-effect.invariant
