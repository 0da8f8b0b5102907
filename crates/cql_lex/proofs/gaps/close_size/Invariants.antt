use Rattle.std.proofs.Common.{◌≡◌, ◌+◌, ◌-◌, length, drop}
use Rattle.std.specs.Option.{option_map}
use Rattle.cql_lex.specs.Gaps.{close_size}
use Rattle.cql_lex.proofs.gaps.close_size.Given as goal

abbrev pub invariant-loop-at : goal.invariant-loop-at
invariant-loop-at l = option_map (λ n. l.at + n) (close_size (drop l.at l.text)) ≡ close_size l.text

abbrev pub decreases-loop-at : goal.decreases-loop-at
decreases-loop-at l = length l.text - l.at
