-- Reading the filter of a table file. That this reading takes the spellings and nothing else is a law.
-- Own. The place of a refusal is that of the refused field's first byte.
use Rattle.std.specs.Prelude.{ℕ, Bool, List, nat_le, ◌&&◌, ◌==◌, ◌/◌, ◌%◌}
use Rattle.cas_codec.specs.Reading.{Left, Read, ◌>>=◌, checked, u32_at, bytes_at}
use Rattle.cas_filter.specs.declared.filter.TheConstants.{LEAST_BITS}

-- a number of bits that a filter has: whole bytes, and at least 64
unfoldable pub is_bit_count : ℕ → Bool
is_bit_count bits = nat_le LEAST_BITS bits && (bits % 8 == 0)

-- the number of bits, and the bytes that hold so many
unfoldable pub filter_at : Left → Read (List ℕ)
filter_at left = do
  bits ← checked is_bit_count u32_at left
  bytes_at bits.1.at (bits.0 / 8) bits.1
