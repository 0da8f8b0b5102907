use Rattle.std.proofs.Common.{◌≡◌, ◌+◌, ◌≤◌, length}
use Rattle.std.specs.Str.{bytes_eq}
use Rattle.std.specs.List.{enumerate_from, find}
use Rattle.cas_terms.proofs.columns.located_from.Given as goal

abbrev pub invariant-loop-rest : goal.invariant-loop-rest
invariant-loop-rest l =
    (find (λ p. bytes_eq p.1.name l.name) (enumerate_from l.number l.rest) ≡ find (λ p. bytes_eq p.1.name l.name) (enumerate_from l.first l.columns))
    × (l.number + length l.rest ≤ 65535)

abbrev pub decreases-loop-rest : goal.decreases-loop-rest
decreases-loop-rest l = length l.rest
