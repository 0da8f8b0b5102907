-- The lesser of two keys (own).
use Rattle.std.specs.Prelude.{ℕ, Option, None, Some, List, if◌then◌else◌}
use Rattle.std.specs.Ordering.{is_lt}
use Rattle.cas_types.specs.Values.{bytes_cmp}

-- of two keys, of which there may be none
abbrev pub first_of : Option (List ℕ) → Option (List ℕ) → Option (List ℕ)
first_of None b = b
first_of (Some k) None = Some k
first_of (Some k) (Some q) = if is_lt (bytes_cmp q k) then Some q else Some k
