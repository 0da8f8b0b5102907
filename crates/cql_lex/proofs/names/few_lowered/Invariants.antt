use Rattle.std.proofs.Common.{◌≡◌, ℕ, List, map, take, length}
use Rattle.std.specs.Char.{to_ascii_lowercase}
use Rattle.cql_lex.specs.declared.names.TheConstants.{IN_PLACE}
use Rattle.cql_lex.proofs.names.few_lowered.Given as goal

pub record Lowered (places : List ℕ) (at : ℕ) (text : List ℕ) : Type 0 where
  pub long : length places ≡ IN_PLACE
  pub front : take at places ≡ map to_ascii_lowercase (take at text)

abbrev pub invariant-loop-at : goal.invariant-loop-at
invariant-loop-at l = Lowered l.places l.at l.text
