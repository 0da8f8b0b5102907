-- Values of columns, read one after another.
use Rattle.std.specs.Prelude.{ℕ, List, ◌++◌, Ok}
use Rattle.cas_codec.specs.Reading.{Read, ◌>>=◌}

-- the values that were read already stand before those that are read
unfoldable pub after_values : List (List ℕ) → Read (List (List ℕ)) → Read (List (List ℕ))
after_values front read = do
  others ← read
  Ok (front ++ others.0, others.1)
