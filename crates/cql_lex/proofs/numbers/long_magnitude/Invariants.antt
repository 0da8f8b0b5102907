use Rattle.std.proofs.Common.{◌≡◌, ◌-◌, ◌^◌, take, min}
use Rattle.cql_lex.specs.Numbers.{decimal_value}
use Rattle.cql_lex.proofs.numbers.long_magnitude.Given as goal

abbrev pub invariant-loop-byte : goal.invariant-loop-byte
invariant-loop-byte l = l.total ≡ min (decimal_value (take l.byte-index l.digits)) (2 ^ 128 - 1)
