use Rattle.std.proofs.Common.{◌≡◌, map, take}
use Rattle.cas_atoms.specs.Coordinates.{row_key}
use Rattle.cas_atoms.specs.Answers.{row_shown}
use Rattle.cas_atoms.proofs.answers.answer.Given as goal

abbrev pub invariant-loop-key : goal.invariant-loop-key
invariant-loop-key l = l.shown.items ≡ map (λ k. row_shown l.query l.atoms l.now (row_key k)) (take l.key-index l.key-items)
