-- How many cells and columns are told (own).
use Rattle.std.specs.Prelude.{ℕ, nat_le, Option}
use Rattle.cas_types.specs.declared.schema.Column.{Column}
use Rattle.cas_cell.specs.declared.deletion.Deletion.{Deletion}
use Rattle.cas_codec.specs.Reading.{Left, Read, checked, u16_at, u32_at}
use Rattle.cas_fragments.specs.Reading.{is_count}

-- how many cells a column has
unfoldable pub cell_count_at : Column → Option Deletion → Left → Read ℕ
cell_count_at column d left = checked (is_count column d) u32_at left

-- how many columns there are, at least so many
unfoldable pub column_count_at : ℕ → Left → Read ℕ
column_count_at least left = checked (nat_le least) u16_at left
