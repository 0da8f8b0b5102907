use Rattle.std.proofs.Common.{ap, ◌∙◌, to_z, of_z, w64}
use Rattle.std.proofs.lemmas.Int.{to_z-of_z}
use Rattle.cas_atoms.specs.Answers.{answer}
use Rattle.cas_atoms.proofs.ListSteps.{answer_of_steps}
use Rattle.cas_atoms.proofs.answers.answer.Goals as goal

pub returns : goal.returns
returns c =
    answer_of_steps c.args.query.now c.args.atoms.now (to_z w64 (of_z w64 c.args.now)) c.in_ok-answered.field-0.items c.turned-rows.result.items c.deref.result.now c.in_ok-with_static.field-0.items c.limited-keys.result.items c.deref-key-items.result.now c.loop-key.shown.items c.loop-key.key-index
    c.in_ok-answered.ensures c.turned-rows.ensures c.deref.ensures.value c.in_ok-with_static.ensures c.limited-keys.ensures c.deref-key-items.ensures.value c.loop-key.invariant c.loop-key-test.false
    ∙ ap (answer c.args.query.now c.args.atoms.now) (to_z-of_z w64 c.args.now c.ranges.now)
