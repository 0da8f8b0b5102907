use Rattle.cas_chance.specs.Lines.{EndsLine}
use Rattle.cas_chance.proofs.scripts.Maker.begin.Given as goal

abbrev pub invariant-loop-text : goal.invariant-loop-text
invariant-loop-text l = EndsLine l.script.items
