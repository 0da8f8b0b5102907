use Rattle.cas_chance.specs.Lines.{AreLines}
use Rattle.cas_chance.proofs.scripts.generated.Given as goal

abbrev pub invariant-loop-number : goal.invariant-loop-number
invariant-loop-number l = AreLines l.script.items
