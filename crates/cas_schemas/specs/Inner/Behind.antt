-- Items that are read behind those that are there. Own.
use Rattle.std.specs.Prelude.{List, ◌++◌, Ok}
use Rattle.cas_codec.specs.Reading.{Read, ◌>>=◌}

-- the items that are there, and behind them those that are read
abbrev pub behind : {A : Type 0} → List A → Read (List A) → Read (List A)
behind before read = read >>= λ others. Ok (before ++ others.0, others.1)
