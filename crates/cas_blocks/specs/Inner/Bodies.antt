-- What a read of a block's bytes tells (own).
use Rattle.std.specs.Prelude.{◌≡◌, ℕ, ◌+◌, ◌<◌, List, length, drop, Option, None, Some, Ok, Err}
use Rattle.cas_codec.specs.Reading.{Left, u32_at, bytes32_at}
use Rattle.cas_codec.specs.declared.fault.ReadFault.{ReadFault}

-- the length in four bytes; where fewer are left, none
abbrev pub TellsLength : Option ℕ → Left → Type 0
TellsLength None left = length left.bytes < 4
TellsLength (Some n) left = u32_at left ≡ Ok (n, record { bytes = drop 4 left.bytes; at = left.at + 4 })

-- the bytes behind their number, or why they aren't there
abbrev pub NoBody : Left → Type 0
NoBody left = (f : ReadFault) × (bytes32_at left ≡ Err f)

abbrev pub IsBody : List ℕ → Left → Type 0
IsBody body left = bytes32_at left ≡ Ok (body, record { bytes = drop (length body) (drop 4 left.bytes); at = left.at + 4 + length body })
