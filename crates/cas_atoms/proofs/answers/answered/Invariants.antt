use Rattle.std.proofs.Common.{◌≡◌, filter, take}
use Rattle.cas_atoms.specs.Answers.{is_answered}
use Rattle.cas_atoms.proofs.answers.answered.Given as goal

abbrev pub invariant-loop-values : goal.invariant-loop-values
invariant-loop-values l = l.kept.items ≡ filter (is_answered l.query l.partition.atoms.now l.partition.now) (take l.values-index l.values-items)
