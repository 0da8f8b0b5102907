-- How the filter of a table file is spelled as bytes.
-- Own format.
use Rattle.std.specs.Prelude.{ℕ, List, length, ◌*◌, ◌++◌}
use Rattle.cas_codec.specs.Fields.{u32}

-- the number of its bits in four bytes, and its bytes
abbrev pub filter_bytes : List ℕ → List ℕ
filter_bytes filter = u32 (8 * length filter) ++ filter
