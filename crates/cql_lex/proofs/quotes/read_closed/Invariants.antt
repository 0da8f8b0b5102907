use Rattle.std.proofs.Common.{◌≡◌, ◌-◌, ◌++◌, length, drop}
use Rattle.std.specs.Option.{option_map}
use Rattle.cql_lex.specs.Quotes.{closed}
use Rattle.cql_lex.proofs.quotes.read_closed.Given as goal

abbrev pub invariant-loop-at : goal.invariant-loop-at
invariant-loop-at l = option_map (λ rest. l.inner.items ++ rest) (closed l.quote (drop l.at l.text)) ≡ closed l.quote l.text

abbrev pub decreases-loop-at : goal.decreases-loop-at
decreases-loop-at l = length l.text - l.at
