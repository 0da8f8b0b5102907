use Rattle.std.proofs.Common.{◌≡◌, take, map}
use Rattle.cas_changes.proofs.said.Said.frontiers.Given as goal

abbrev pub invariant-loop-part : goal.invariant-loop-part
invariant-loop-part l = l.frontiers.items ≡ map (λ p. p.frontier) (take l.part-index l.part-items)
