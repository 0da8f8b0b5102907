-- Columns that were read behind others, without those.
use Rattle.std.proofs.Common.{◌≡◌, ℕ, Bool, List, length, drop, Ok}
use Rattle.std.specs.Int.{is_in_range}
use Rattle.cas_types.specs.declared.schema.Column.{Column}
use Rattle.cas_codec.specs.Reading.{Left, checked, u16_at}
use Rattle.cas_schemas.specs.Each.{each_at}
use Rattle.cas_schemas.specs.Inner.Behind.{behind}
use Rattle.cas_schemas.specs.Reading.{column_at, columns_at}
use Rattle.cas_schemas.proofs.EachLaws.{added_of}

pub columns_read : (limit : ℕ) (new : Bool) (before all : List Column) (left mid after : Left) (count : ℕ) → checked (is_in_range 1 limit) u16_at left ≡ Ok (count, mid)
    → behind before (each_at (column_at new) count before mid) ≡ Ok (all, after) → columns_at limit new before left ≡ Ok (drop (length before) all, after)
unfolding columns_at
columns_read limit new before all left mid after count counted read =
    rw counted (added_of before all after (each_at (column_at new) count before mid) read)
