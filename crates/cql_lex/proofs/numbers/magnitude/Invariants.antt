use Rattle.std.proofs.Common.{◌≡◌, take}
use Rattle.cql_lex.specs.Numbers.{decimal_value}
use Rattle.cql_lex.proofs.numbers.magnitude.Given as goal

abbrev pub invariant-loop-byte : goal.invariant-loop-byte
invariant-loop-byte l = l.total ≡ decimal_value (take l.byte-index l.digits)
